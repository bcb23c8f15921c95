use Rattle.std.proofs.Common.{◌≡◌, ◌<◌, ℕ, List, length, take, get_or, refl, sym, subst, arith}
use Rattle.path_trees.proofs.Lookups.{read_at}
use Rattle.stage_nodes.specs.declared.nodes.Link.TheVariants.{First}
use Rattle.stage_nodes.specs.Ways.{IsStart}
use Rattle.stage_tree.specs.Sets.{IsChildOf}
use Rattle.stage_tree.proofs.Starts.{own_at, start_inside}
use Rattle.stage_tree.proofs.last.start_beside.Goals as goal

pub is_directory_of-requires-clause-child : goal.is_directory_of-requires-clause-child
is_directory_of-requires-clause-child c =
    let ms = c.cut-number.new.last.numbers.items in
    (take (length ms) c.args.components.now, ms, c.cut-number.ensures.node c.args.nodes.now c.requires.child)

pub returns-then-is_directory_of-clause-start : goal.returns-then-is_directory_of-clause-start
returns-then-is_directory_of-clause-start c = λ S o.
    let p = c.args.components.now in
    let ms = c.cut-number.new.last.numbers.items in
    let k = c.cut-number.result in
    let h = c.cut-number.ensures.node c.args.nodes.now c.requires.child in
    let d = c.is_directory_of.ensures c.if-is_directory_of.true S (take (length ms) p) ms o h in
    let own = read_at p p c.len-level.result c.index-components-level.result c.bytes-component.result.now refl c.bytes-component.ensures.bytes c.index-components-level.is in
    subst (λ (xs : List ℕ). IsStart S c.args.nodes.now p xs (First k)) (sym c.in_ok-push.ensures.items)
    (start_inside S c.args.nodes.now o p ms k h (omega arith) (own_at p c.len-level.result (length ms) h.component c.bytes-component.result.now c.cut-number.ensures.level (let n = c.len-level.ensures in let k = c.cut-number.new.last.numbers.ok in omega (arith, n, k)) d.0 own) d.1)

pub link_beside-requires-clause-child : goal.link_beside-requires-clause-child
link_beside-requires-clause-child c =
    let ms = c.cut-number.new.last.numbers.items in (
      take (length ms) c.args.components.now,
      subst (λ (xs : List ℕ). IsChildOf c.args.nodes.now (take (length ms) c.args.components.now) xs c.cut-number.result) (sym c.deref.ensures.value) (c.cut-number.ensures.node c.args.nodes.now c.requires.child),
    )

pub returns-clause-start : goal.returns-clause-start
returns-clause-start c = λ S o.
    let p = c.args.components.now in
    let ms = c.cut-number.new.last.numbers.items in
    let x = c.bytes-component.result.now in
    let own = read_at p p c.len-level.result c.index-components-level.result x refl c.bytes-component.ensures.bytes c.index-components-level.is in
    subst (λ (xs : List ℕ). length xs < length p → x ≡ get_or p (length xs) x → IsChildOf c.args.nodes.now (take (length xs) p) xs c.cut-number.result → IsStart S c.args.nodes.now p xs c.link_beside.result)
    c.deref.ensures.value (c.link_beside.ensures S p o)
    c.cut-number.ensures.level (own_at p c.len-level.result (length ms) x x c.cut-number.ensures.level (let n = c.len-level.ensures in let k = c.cut-number.new.last.numbers.ok in omega (arith, n, k)) refl own) (c.cut-number.ensures.node c.args.nodes.now c.requires.child)
