use Rattle.std.proofs.Common.{◌≡◌, ◌∙◌, sym, ap}
use Rattle.std.specs.Cmp.Lexicographic.{bytes_decides, same_text}
use denote.Enum.Bare.{same_true}
use Rattle.git_objects.specs.contracts.mode.Mode.{the_type}
use Rattle.path_trees.specs.declared.found.Leaf.{Leaf}
use Rattle.projection_ground.proofs.Leaves.{one-leaf}
use Rattle.projection_ground.proofs.seeing.are_one.Goals as goal

pub returns-then-eq : goal.returns-then-eq
returns-then-eq c =
    let a = c.args.last.now in
    let b = c.args.leaf.now in (
      λ t. one-leaf a b (same_true the_type tt a.mode b.mode (sym c.if-eq.ensures)) (let n : a.name.0 ≡ b.name.0 = same_text a.name.0 b.name.0 (sym t ∙ c.eq-then-eq.ensures) in λ i. record { 0 = n i }),
      λ e. c.eq-then-eq.ensures ∙ (bytes_decides a.name.0 b.name.0).1 (ap (λ (x : Leaf). x.name.0) e),
    )
