use Rattle.std.proofs.Common.{◌≡◌, Some, true, cond, ℕ, sym, ap, ◌∙◌, drop, add-one}
use Rattle.git_objects.specs.Parts.{name_bytes}
use Rattle.git_objects.specs.declared.kind.Kind.TheVariants.{Tree}
use Rattle.object_store.specs.Objects.{has, missing_parent}
use Rattle.object_store.proofs.Parents.{missing-next, missing-here}
use Rattle.object_store.proofs.shelf.Shelf.missing_of_commit.Goals as goal

pub returns-then-not-has-2 : goal.returns-then-not-has-2
returns-then-not-has-2 c =
    let S = c.args.self.now in
    let tree : has Tree S c.args.commit.now.tree ≡ true = ap (has Tree S) (sym c.tree-tree.ensures) ∙ sym c.if-not-has.ensures in
    sym (ap (λ b. cond b (missing_parent S c.args.commit.now.parents) (Some c.args.commit.now.tree)) tree
    ∙ sym c.parents.invariant
    ∙ missing-here S c.args.commit.now.parents c.parents.i (name_bytes c.in-Some.parent) c.in-Some.ensures (sym c.if-not-has-2.ensures))

pub parents-preserved : goal.parents-preserved
parents-preserved c =
    let S = c.args.self.now in
    ap (λ (n : ℕ). missing_parent S (drop n c.args.commit.now.parents)) (add-one c.parents.i)
    ∙ missing-next S c.args.commit.now.parents c.parents.i (Some (name_bytes c.in-Some.parent)) c.in-Some.ensures (sym c.if-not-has-2.ensures)
    ∙ c.parents.invariant
