use Rattle.std.proofs.Common.{◌≡◌, ℕ, ◌+◌, ◌-◌, ◌*◌, take, drop, sym, ap, ◌∙◌, arith}
use Rattle.std.specs.Prelude.{slice_get}
use Rattle.git_objects.specs.Commits.{Commit}
use Rattle.git_objects.specs.CommitBodies.{digits_name}
use Rattle.git_objects.proofs.CommitViews.{parent_digits, parents_past}
use Rattle.git_objects.proofs.commit_view.CommitView.parent.Goals as goal

pub returns-then-i-self : goal.returns-then-i-self
returns-then-i-self c =
    sym (parents_past c.self.inside.count c.args.i c.self.inside.parents.now c.if-i-self.true) ∙ ap (λ (v : Commit). slice_get v.parents c.args.i) c.self.view_is

pub slice_bounds-from_hex-end : goal.slice_bounds-from_hex-end
slice_bounds-from_hex-end c =
    let long = (parent_digits c.self.inside.count c.args.i c.self.inside.parents.now c.if-i-self.false c.self.invariant.1).0 in
    omega (arith, long)

pub returns : goal.returns
returns c =
    let size : 48 * c.args.i + 47 - (48 * c.args.i + 7) ≡ 40 = omega arith in
    c.from_hex.ensures.value
    ∙ ap (λ (n : ℕ). digits_name (take n (drop (48 * c.args.i + 7) c.self.inside.parents.now))) size
    ∙ (parent_digits c.self.inside.count c.args.i c.self.inside.parents.now c.if-i-self.false c.self.invariant.1).1
    ∙ ap (λ (v : Commit). slice_get v.parents c.args.i) c.self.view_is
