use Rattle.std.proofs.Common.{◌≡◌, ◌∙◌, ◌++◌, ◌-◌, ◌<◌, ◌≤◌, [], length, map, reverse, ap, sym, append-nil, arith}
use Rattle.std.proofs.lemmas.List.{length-map}
use Rattle.git_objects.specs.Parts.{name_bytes}
use Rattle.git_objects.specs.declared.name.Name.{Name}
use Rattle.fast_export.specs.ExportTexts.{is_among}
use Rattle.incremental_export.proofs.StoredUnreached.{map-reverse}
use Rattle.incremental_export.proofs.WantedNames.{all_added, all_passed, among_names, commit_there, more_added, name_added, next_name, none_passed, one_left, one_wanted}
use Rattle.incremental_export.proofs.parting.unreached.Goals as goal

abbrev unread : Name
unread = record { 0 = [] }

pub loop-have-init : goal.loop-have-init
loop-have-init c n =
    ap (λ ks. is_among n (map name_bytes c.args.haves.now ++ map name_bytes ks)) c.new-wanted.ensures.empty
    ∙ ap (is_among n) (append-nil (map name_bytes c.args.haves.now))

pub loop-have-preserved : goal.loop-have-preserved
loop-have-preserved c =
    let within : c.loop-have.have-index < length c.args.haves.now = omega arith in
    more_added (map name_bytes c.args.haves.now) c.loop-have.have-index _ (map name_bytes c.loop-have.wanted.keys) (map name_bytes c.insert.new.self.keys) _
    (next_name c.args.haves.now c.loop-have.have-index unread within) c.loop-have.invariant
    (λ m. ap (λ ks. is_among m (map name_bytes ks)) c.in_ok-insert.ensures.keys ∙ name_added c.loop-have.wanted.keys _ m)

pub loop-i-init : goal.loop-i-init
loop-i-init c =
    let same : length (map name_bytes c.args.haves.now) ≡ length c.args.haves.now = length-map c.args.haves.now name_bytes in
    let all : length (map name_bytes c.args.haves.now) ≤ c.loop-have.have-index = omega arith in
    none_passed c.args.store.now (map name_bytes c.args.haves.now) c.args.commits.now (map name_bytes c.loop-have.wanted.keys)
    (all_added (map name_bytes c.args.haves.now) c.loop-have.have-index _ _ all c.loop-have.invariant) c.new-left.result.items c.new-left.ensures.items

pub add_parents-requires : goal.add_parents-requires
add_parents-requires c = commit_there c.args.store.now c.args.commits.now (c.loop-i.i - 1) unread c.requires (omega arith)

pub loop-i-preserved-in-Continue-branch-2 : goal.loop-i-preserved-in-Continue-branch-2
loop-i-preserved-in-Continue-branch-2 c =
    one_wanted c.args.store.now (map name_bytes c.args.haves.now) c.args.commits.now (map name_bytes c.loop-i.wanted.keys) c.loop-i.left.items c.loop-i.i unread c.loop-i-test.true
    (map name_bytes c.add_parents.new.wanted.keys) c.loop-i.invariant (sym (among_names _ c.loop-i.wanted.keys) ∙ sym c.contains.ensures ∙ c.if-contains.true) c.in_ok-add_parents.ensures

pub loop-i-preserved : goal.loop-i-preserved
loop-i-preserved c =
    one_left c.args.store.now (map name_bytes c.args.haves.now) c.args.commits.now (map name_bytes c.loop-i.wanted.keys) c.loop-i.left.items c.loop-i.i unread c.loop-i-test.true
    c.push.new.self.items c.loop-i.invariant (sym (among_names _ c.loop-i.wanted.keys) ∙ sym c.contains.ensures ∙ c.if-contains.false) c.in_ok-push.ensures.items

pub returns : goal.returns
returns c =
    ap (map name_bytes) c.reverse.ensures.items
    ∙ map-reverse name_bytes c.loop-i.left.items
    ∙ ap reverse (all_passed c.args.store.now (map name_bytes c.args.haves.now) c.args.commits.now (map name_bytes c.loop-i.wanted.keys) c.loop-i.left.items c.loop-i.i (omega arith) c.loop-i.invariant)
