use Rattle.std.proofs.Common.{[], sym, ap, ◌∙◌}
use Rattle.git_objects.specs.Paths.{is_nil}
use Rattle.git_objects.specs.Trees.{Flat}
use Rattle.object_store.specs.Unfolding.{flat}
use Rattle.object_store.proofs.Unfolding.{flat_good}
use Rattle.path_trees.specs.Clashes.{clash, together}
use Rattle.path_trees.proofs.Lookups.{under_nil}
use Rattle.path_trees.proofs.Together.{together_nothing, nothing_together, no_path}
use Rattle.path_trees.proofs.join.join_apart.Goals as goal

pub returns-then-is_empty-clause-ok : goal.returns-then-is_empty-clause-ok
returns-then-is_empty-clause-ok c =
    let S = c.args.store.now in
    let B = flat S c.args.b.0 in
    record { held = c.requires.second; map = sym (ap (λ (t : Flat). together t B) (no_path (flat S c.args.a.0) c.if-is_empty.ensures.empty) ∙ nothing_together B) }

pub returns-then-is_empty-2-clause-ok : goal.returns-then-is_empty-2-clause-ok
returns-then-is_empty-2-clause-ok c =
    let S = c.args.store.now in
    let A = flat S c.args.a.0 in
    record { held = c.requires.first; map = sym (ap (together A) (no_path (flat S c.args.b.0) c.if-is_empty-2.ensures.empty) ∙ together_nothing A (flat_good S c.store_law.ensures.store c.args.a.0 c.requires.first).tree) }

pub joined-requires-clause-roots : goal.joined-requires-clause-roots
joined-requires-clause-roots c =
    let S = c.args.store.now in
    let a = under_nil (flat S c.args.a.0) (flat_good S c.store_law.ensures.store c.args.a.0 c.requires.first).tree in
    let b = under_nil (flat S c.args.b.0) (flat_good S c.store_law.ensures.store c.args.b.0 c.requires.second).tree in
    record {
      path = [];
      left = record { held = c.requires.first; map = sym a };
      right = record { held = c.requires.second; map = sym b };
      left_full = ap is_nil a ∙ sym c.if-is_empty.ensures.empty;
      right_full = ap is_nil b ∙ sym c.if-is_empty-2.ensures.empty;
      clear = (λ i. clash (a i) (b i)) ∙ c.requires.apart;
    }
