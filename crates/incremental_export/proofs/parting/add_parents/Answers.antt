use Rattle.std.proofs.Common.{◌∙◌, ◌++◌, ℕ, ◌≤◌, List, length, map, ap, sym, subst, refl}
use Rattle.git_objects.specs.Paths.{Bytes}
use Rattle.git_objects.specs.Parts.{name_bytes}
use Rattle.object_store.proofs.StoredCommits.{commit-read}
use Rattle.fast_export.specs.ExportTexts.{is_among}
use Rattle.incremental_export.proofs.ParentRefs.{next_some}
use Rattle.incremental_export.proofs.WantedNames.{all_added, more_added, name_added, never_gone, told_parents}
use Rattle.incremental_export.proofs.parting.add_parents.Goals as goal

pub unreachable-requires : goal.unreachable-requires
unreachable-requires c = never_gone c.args.store.now c.args.commit.now.0 c.in_default.ensures.store c.requires c.in_default.ensures.object

pub unreachable-requires-in_default-of : goal.unreachable-requires-in_default-of
unreachable-requires-in_default-of c =
    commit-read c.args.store.now c.args.commit.now.0 _ c.in-Some.ensures.store c.requires c.in-Some.ensures.object (sym c.in_default-of.ensures.commit)

pub loop-i-init : goal.loop-i-init
loop-i-init c = λ n. refl

pub loop-i-preserved : goal.loop-i-preserved
loop-i-preserved c =
    let next = next_some c.in-Some-of.commit.parents c.loop-i.i c.in-Some-parent.parent.0 c.in-Some-parent.ensures in
    more_added c.in-Some-of.commit.parents c.loop-i.i c.in-Some-parent.parent.0 (map name_bytes c.loop-i.wanted.keys) (map name_bytes c.insert.new.self.keys) _ next c.loop-i.invariant
    (λ m. ap (λ ks. is_among m (map name_bytes ks)) c.in_ok-insert.ensures.keys ∙ name_added c.loop-i.wanted.keys c.in-Some-parent.parent m)

pub returns : goal.returns
returns c n =
    let all : length c.in-Some-of.commit.parents ≤ c.loop-i.i = subst (λ (k : ℕ). k ≤ c.loop-i.i) c.parent_count-i-end.ensures.count c.loop-i-test.false in
    all_added c.in-Some-of.commit.parents c.loop-i.i _ _ all c.loop-i.invariant n
    ∙ ap (λ (ps : List Bytes). is_among n (ps ++ map name_bytes c.args.wanted.now.keys))
    (told_parents c.args.store.now c.args.commit.now.0 _ c.in-Some-of.commit c.in-Some.ensures.store c.requires c.in-Some.ensures.object c.in-Some-of.ensures.commit)
