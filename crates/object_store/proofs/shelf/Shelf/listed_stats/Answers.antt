use Rattle.std.proofs.Common.{◌≡◌, ℕ, zero, suc, ◌+◌, ◌<◌, ◌≤◌, List, [], ◌∷◌, map, drop, length, slice_get, slice_index_or, refl, sym, ap, subst, ◌∙◌, arith, add-one}
use Rattle.std.specs.Option.{is_none}
use Rattle.git_objects.specs.Views.{entry_value}
use Rattle.git_objects.specs.declared.entry.Entry.{Entry}
use Rattle.git_objects.specs.declared.kind.Kind.TheVariants.{Blob}
use Rattle.git_objects.specs.declared.tree_view.EntryView.{EntryView}
use Rattle.object_store.specs.declared.store.TreeStats.{TreeStats}
use Rattle.object_store.specs.Objects.{missing_entry, body_of}
use Rattle.object_store.specs.Sizes.{sizes, sizes_joined}
use Rattle.object_store.specs.Unfolding.{joined, flat}
use Rattle.object_store.proofs.Children.{children-held, first-child}
use Rattle.object_store.proofs.Sizes.{entry_step}
use Rattle.object_store.proofs.shelf.Shelf.listed_stats.Goals as goal

-- the entries from a place on
abbrev left : List EntryView → ℕ → List Entry
left es i = map entry_value (drop i es)

next : (es : List EntryView) (i : ℕ) (d : EntryView) → i < length es → left es i ≡ entry_value (slice_index_or es i d) ∷ left es (i + 1)
next es i d l = rw add-one (by es i l)
  where
    by : (es : List EntryView) (i : ℕ) → i < length es → left es i ≡ entry_value (slice_index_or es i d) ∷ left es (suc i)
    by [] i l = absurd (omega arith)
    by (e ∷ es) zero l = refl
    by (e ∷ es) (suc i) l = by es i (omega arith)

pub held_entry_stats-part-requires : goal.held_entry_stats-part-requires
held_entry_stats-part-requires c =
    let S = c.args.self.now in let es = c.args.entries.now in let i = c.loop-entry.entry-index in
    let n = next es i _ c.loop-entry-test.true in
    (first-child S (left es i) _ (ap (λ xs. slice_get xs 0) (sym n)) (children-held S (left es i) (ap is_none c.loop-entry.invariant.held))).0

pub loop-entry-preserved : goal.loop-entry-preserved
loop-entry-preserved c =
    let S = c.args.self.now in let es = c.args.entries.now in let i = c.loop-entry.entry-index in
    let n = next es i _ c.loop-entry-test.true in
    let rest : drop 1 (left es i) ≡ left es (i + 1) = ap (drop 1) n in
    let first : _ ≡ slice_get (left es i) 0 = ap (λ xs. slice_get xs 0) (sym n) in
    let child = (first-child S (left es i) _ first (children-held S (left es i) (ap is_none c.loop-entry.invariant.held))).0 in
    let step = entry_step S (left es i) _ c.loop-entry.total _ first child c.held_entry_stats-part.ensures in
    let sum = c.stats_joined-total.ensures in
    record {
      held = sym (ap (missing_entry S) rest) ∙ step.held ∙ c.loop-entry.invariant.held;
      whole = (λ j. sizes_joined (sum j) (sizes (joined (body_of Blob S) (flat S) (sym rest j)))) ∙ step.whole ∙ c.loop-entry.invariant.whole;
      files = subst (λ (s : TreeStats). s.files ≤ 4294967295) (sym sum) step.files;
    }
