use Rattle.std.proofs.Common.{◌≡◌, List, [], refl, sym, ap, subst, subst₂, ◌∙◌}
use Rattle.std.specs.Cmp.Lexicographic.{bytes_decides}
use Rattle.std.proofs.lemmas.Bool.{not-false}
use Rattle.git_objects.specs.Paths.{Bytes}
use Rattle.git_objects.specs.Views.{entry_value}
use Rattle.git_objects.specs.declared.entry.Entry.{Entry}
use Rattle.git_objects.specs.declared.name.Name.{Name}
use Rattle.git_objects.proofs.TreeReading.{entry-shorter}
use Rattle.object_store.specs.Judgements.{IsTreeOf}
use Rattle.object_store.specs.Objects.{has_child}
use Rattle.object_store.specs.declared.store.TreeStats.{TreeStats}
use Rattle.object_store.proofs.Swaps.{IsBeside, begun, left-next, none-left, nothing-left, passed, swapped, told, whole}
use Rattle.object_store.proofs.shelf.Shelf.swapped_stats.Goals as goal

pub entries-init : goal.entries-init
entries-init c = begun c.args.self.now c.args.entries c.args.total c.args.body.now c.requires.held c.requires.total

pub held_entry_stats-went-requires : goal.held_entry_stats-went-requires
held_entry_stats-went-requires c =
    let S = c.args.self.now in
    let e = entry_value c.in-Some.entry in
    let w = subst (λ (es : List Entry). IsBeside S c.args.entries es c.args.total c.entries.less c.entries.more c.args.body.now c.entries.rest.now) c.in-Some.ensures.entry c.entries.invariant in
    (left-next S e c.next_beside.new.self w.left).0

pub entries-smaller-in_ok-came : goal.entries-smaller-in_ok-came
entries-smaller-in_ok-came c = entry-shorter c.entries.rest.now (record (entry_value c.in-Some.entry) { name = c.in-Some.name }, c.in-Some.behind.now) c.in-Some.ensures.other

pub entries-smaller : goal.entries-smaller
entries-smaller c = entry-shorter c.entries.rest.now (record (entry_value c.in-Some.entry) { name = c.in-Some.name }, c.in-Some.behind.now) c.in-Some.ensures.other

pub entries-preserved-in_ok-came : goal.entries-preserved-in_ok-came
entries-preserved-in_ok-came c =
    let S = c.args.self.now in
    let e = entry_value c.in-Some.entry in
    let d : Entry = record e { name = c.in-Some.name } in
    let new = c.next_beside.new.self in
    let w = subst (λ (es : List Entry). IsBeside S c.args.entries es c.args.total c.entries.less c.entries.more c.args.body.now c.entries.rest.now) c.in-Some.ensures.entry c.entries.invariant in
    subst₂ (λ (less more : TreeStats). IsBeside S c.args.entries new c.args.total less more c.args.body.now c.in-Some.behind.now) (sym c.stats_joined-less.ensures) (sym c.stats_joined-more.ensures)
    (swapped S c.args.entries new e d c.args.total c.entries.less c.entries.more c.args.body.now c.entries.rest.now c.in-Some.behind.now w refl c.in-Some.ensures.other (sym c.in_ok-came.ensures.held)
    c.held_entry_stats-went.result c.in_ok-came.came c.held_entry_stats-went.ensures c.in_ok-came.ensures.sizes)

pub entries-preserved : goal.entries-preserved
entries-preserved c =
    let S = c.args.self.now in
    let e = entry_value c.in-Some.entry in
    let d : Entry = record e { name = c.in-Some.name } in
    let new = c.next_beside.new.self in
    let w = subst (λ (es : List Entry). IsBeside S c.args.entries es c.args.total c.entries.less c.entries.more c.args.body.now c.entries.rest.now) c.in-Some.ensures.entry c.entries.invariant in
    let same = (bytes_decides c.in-Some.name.0 c.in-Some.entry.name.0).0 (not-false _ (sym c.ne.ensures ∙ c.if-ne.false)) in
    let names : c.in-Some.name ≡ c.in-Some.entry.name = ap (λ (b : Bytes). record { 0 = b }) same in
    let one : d ≡ e = ap (λ (n : Name). record e { name = n }) names in
    passed S c.args.entries new e d c.args.total c.entries.less c.entries.more c.args.body.now c.entries.rest.now c.in-Some.behind.now w refl c.in-Some.ensures.other
    (ap (λ (x : Entry). has_child S x.mode x.name.0) one ∙ (left-next S e new w.left).0) one

pub returns : goal.returns
returns c =
    let S = c.args.self.now in
    let left : List Entry = c.next_beside.new.self in
    let none : left ≡ [] = none-left left c.bytes.result.now c.bytes.ensures (sym c.if-not-is_empty.ensures) in
    let over : c.entries.rest.now ≡ [] = nothing-left c.entries.rest.now (sym c.if-not-is_empty-2.ensures) in
    let kept : left ≡ c.entries.entries = c.in_default.ensures.kept refl in
    let w = subst₂ (λ (es : List Entry) (r : Bytes). IsBeside S c.args.entries es c.args.total c.entries.less c.entries.more c.args.body.now r) (sym kept ∙ none) over c.entries.invariant in
    told c.stats_swapped.result (IsTreeOf S c.args.body.now) c.args.total c.entries.less c.entries.more c.stats_swapped.ensures
    (λ s says. whole S c.args.entries c.args.total c.entries.less c.entries.more c.args.body.now w c.requires.listing s says)
