use Rattle.std.proofs.Common.{◌≡◌, ◌-◌, ◌≤◌, ℕ, List, length, take, sym, ap, subst, ◌∙◌, arith, length-take}
use Rattle.std.proofs.lemmas.List.{take-take}
use Rattle.git_objects.specs.Paths.{Path}
use Rattle.stage_tree.specs.Sets.{IsChildOf}
use Rattle.stage_tree.proofs.Starts.{child_cut, cut_long}
use Rattle.stage_tree.proofs.last.cut.Goals as goal

pub returns-clause-node : goal.returns-clause-node
returns-clause-node c = λ s h.
    let p = c.args.components.now in
    let q = c.args.last.now.directory.items in
    let ns = c.args.last.now.numbers.items in
    let ms = c.truncate.new.self.items in
    let level = c.common-level.result in
    let k = c.at_level-number.result in
    let within : level ≤ length q = subst (λ (x : Path). level ≤ length x) c.deref.ensures.value c.common-level.ensures.within in
    let inside = c.common-level.ensures.inside in
    let same : take level q ≡ take level p =
    ap (take level) (sym c.deref.ensures.value) ∙ c.common-level.ensures.same ∙ take-take level (length p - 1) p (omega (arith, inside, length-take (length p - 1) p)) in
    let there : IsChildOf s (take level q) (take level ns) k =
    subst (λ (x : List ℕ). IsChildOf s (take level q) (take level x) k) c.deref-2.ensures.value
    (c.at_level-number.ensures s q within (subst (λ (x : List ℕ). IsChildOf s q x c.args.child) (sym c.deref-2.ensures.value) h)) in
    child_cut s q p ns ms level c.truncate.ensures.items (cut_long s q p ns ms level c.truncate.ensures.items c.args.child h within) same k there

pub returns-clause-level : goal.returns-clause-level
returns-clause-level c =
    let p = c.args.components.now in
    let ns = c.args.last.now.numbers.items in
    let inside = c.common-level.ensures.inside in
    let cut = ap length c.truncate.ensures.items in
    let z = c.requires in
    omega (arith, inside, cut, z, length-take (length p - 1) p, length-take c.common-level.result ns)
