use Rattle.std.proofs.Common.{◌≡◌, ◌-◌, ℕ, true, List, [], ◌∷◌, length, take, get_or, refl, sym, ap, subst, arith, ◌∙◌}
use Rattle.std.specs.Ordering.{is_lt}
use Rattle.std.proofs.lemmas.Bool.{eqb-true}
use Rattle.std.proofs.lemmas.List.{get_or_default}
use Rattle.std.proofs.lemmas.Option.{slice_get_within}
use Rattle.git_objects.specs.Paths.{Bytes}
use Rattle.path_trees.proofs.Gathering.{is_less}
use Rattle.stage_nodes.specs.declared.nodes.Node.{Node}
use Rattle.stage_nodes.specs.declared.nodes.Link.TheVariants.{First}
use Rattle.stage_nodes.specs.Forests.{bytes_cmp, node_component}
use Rattle.stage_nodes.specs.Ways.{IsStart}
use Rattle.stage_nodes.proofs.Opening.{read_node}
use Rattle.stage_tree.proofs.FromLast.{child_node, child_there, child_within, child_component}
use Rattle.stage_tree.proofs.Starts.{start_behind, start_front}
use Rattle.stage_tree.proofs.last.link_beside.Goals as goal

pub index-requires : goal.index-requires
index-requires c = omega (arith, slice_get_within c.args.nodes.now.cells.items c.args.number (child_node c.requires.opened.0 c.args.nodes.now c.requires.opened.1 c.requires.child.0 c.args.numbers.now c.args.number c.requires.child.1) (child_there c.requires.opened.0 c.args.nodes.now c.requires.opened.1 c.requires.child.0 c.args.numbers.now c.args.number c.requires.child.1))

pub is_before-requires : goal.is_before-requires
is_before-requires c =
    let r = read_node c.args.nodes.now.cells.items c.args.number c.index.result.now (child_node c.requires.opened.0 c.args.nodes.now c.requires.opened.1 c.requires.child.0 c.args.numbers.now c.args.number c.requires.child.1) c.index.ensures (child_there c.requires.opened.0 c.args.nodes.now c.requires.opened.1 c.requires.child.0 c.args.numbers.now c.args.number c.requires.child.1) in
    omega (arith, child_within c.requires.opened.0 c.args.nodes.now c.requires.opened.1 c.requires.child.0 c.args.numbers.now c.args.number c.requires.child.1, ap (λ (n : Node). n.at) r, ap (λ (n : Node). n.len) r)

pub returns-then-is_before : goal.returns-then-is_before
returns-then-is_before c = λ S p o within own h.
    let s = c.args.nodes.now in
    let ns = c.args.numbers.now in
    let x = c.args.component.now in
    let q = take (length ns) p in
    let r = read_node s.cells.items c.args.number c.index.result.now (child_node S s o q ns c.args.number h) c.index.ensures (child_there S s o q ns c.args.number h) in
    let named : node_component s.names.items c.index.result.now ≡ h.component = ap (node_component s.names.items) r ∙ child_component S s o q ns c.args.number h in
    let less : is_lt (bytes_cmp h.component x) ≡ true = ap (λ (b : Bytes). is_lt (bytes_cmp b x)) (sym named) ∙ sym c.if-is_before.ensures in
    start_behind S s o p ns within c.args.number h
    (λ b e. is_less (bytes_cmp h.component b) (subst (λ (y : Bytes). is_lt (bytes_cmp h.component y) ≡ true) (own ∙ get_or_default p (length ns) x b within ∙ sym e) less))

pub returns-then-is_empty : goal.returns-then-is_empty
returns-then-is_empty c = λ S p o within own h.
    let ns = c.args.numbers.now in
    subst (λ k. IsStart S c.args.nodes.now p ns (First k)) (first ns (eqb-true (length ns) 0 (sym c.is_empty.ensures ∙ c.if-is_empty.true))) (start_front S c.args.nodes.now o p ns within c.args.number h)
  where
    first : (ns : List ℕ) → length ns ≡ 0 → get_or ns (length ns - 1) 0 ≡ 0
    first [] e = refl
    first (k ∷ ns) e = absurd (omega (arith, e))

pub returns : goal.returns
returns c = λ S p o within own h. start_front S c.args.nodes.now o p c.args.numbers.now within c.args.number h
