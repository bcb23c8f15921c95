use Rattle.std.proofs.Common.{List, ◌++◌, ◌∷◌, [], ap, subst, ◌∙◌, arith}
use Rattle.std.specs.Vec.{vec_len}
use Rattle.stage_tree.specs.declared.copies.Work.{Work}
use Rattle.stage_tree.specs.Copies.{IsDropping}
use Rattle.stage_tree.proofs.CopyDrops.{children_can_free, drop_children, drop_other, none_waits, works_popped}
use Rattle.stage_tree.proofs.copies.drop_waiting.Goals as goal

pub free_all-requires : goal.free_all-requires
free_all-requires c =
    let s0 = c.requires.0 in let source = c.requires.1 in let h = c.works.invariant s0 source c.requires.2 in
    let items = c.in-Some.ensures.items ∙ ap (λ (w : Work). c.pop.new.self.items ++ w ∷ []) c.in-Children.is in
    children_can_free s0 c.works.nodes source c.pop.new.self.items c.in-Children.field-0 c.in-Children.copies (subst (λ (v : List Work). IsDropping s0 c.works.nodes source v) items h)

pub works-preserved-in-Children : goal.works-preserved-in-Children
works-preserved-in-Children c = λ s0 source k.
    let h = c.works.invariant s0 source k in
    let items = c.in-Some.ensures.items ∙ ap (λ (w : Work). c.pop.new.self.items ++ w ∷ []) c.in-Children.is in
    drop_children s0 c.works.nodes source c.pop.new.self.items c.in-Children.field-0 c.in-Children.copies (subst (λ (v : List Work). IsDropping s0 c.works.nodes source v) items h) c.free_all.new.self c.free_all.ensures

pub works-preserved : goal.works-preserved
works-preserved c = λ s0 source k.
    let h = c.works.invariant s0 source k in
    drop_other s0 c.works.nodes source c.pop.new.self.items c.in-Some.work (λ x y e. c.in_default-work.not-Children x y e) (subst (λ (v : List Work). IsDropping s0 c.works.nodes source v) c.in-Some.ensures.items h)

pub returns : goal.returns
returns c = λ s0 source k.
    let none = works_popped c.works.works.items (vec_len c.works.works) (omega arith) c.in_default.ensures.variant.1 in
    none_waits s0 c.works.nodes source (subst (λ (v : List Work). IsDropping s0 c.works.nodes source v) none (c.works.invariant s0 source k))
