use Rattle.std.proofs.Common.{◌≡◌, None, [], sym, ap, ◌∙◌, subst}
use Rattle.git_objects.specs.declared.kind.Kind.TheVariants.{Tree}
use Rattle.object_store.specs.Unfolding.{flat}
use Rattle.object_store.proofs.Growth.{grown_as, grown_then, has-grown}
use Rattle.decision_lists.specs.Cells.{cells}
use Rattle.filter_text.specs.Shapes.{shape}
use Rattle.filter_routes.specs.Origins.{lens_of}
use Rattle.filter_unapply.specs.Hands.{IsIn, IsMadeOf}
use Rattle.filter_unapply.specs.Laying.{laid_through, pre}
use Rattle.filter_unapply.specs.Parts.{IsAmong, with_parts}
use Rattle.filter_unapply.specs.Routed.{IsOfBoth, unplaced}
use Rattle.filter_unapply.specs.Stored.{first_of, IsLaidBody, IsLaidTree, IsLayFault}
use Rattle.filter_unapply.proofs.Layings.{Laid, among-made, begun, both-grown, both-made, kept-apart, kept-is, kept-leaves, parts-are, rest-grown, rest-made}
use Rattle.filter_unapply.proofs.Lays.{blocked-is, laid-tree-is, not-held}
use Rattle.filter_unapply.proofs.MadeTrees.{err-told}
use Rattle.filter_unapply.proofs.Nears.{block-path, nothing-some, parts-path, put-told, tree-told}
use Rattle.std.specs.Prelude.{IfErr, IfOk}
use Rattle.path_trees.specs.Made.{IsGrown}
use Rattle.filter_text.specs.Filters.{sub}
use Rattle.filter_routes.specs.Lenses.{Lens}
use Rattle.filter_unapply.proofs.BelowFilters.{below-err, below-grown, below-is}
use Rattle.filter_unapply.proofs.Told.{is_tree}
use Rattle.filter_unapply.proofs.laying.laid.Goals as goal

pub returns-in_err-rest-clause-err : goal.returns-in_err-rest-clause-err
returns-in_err-rest-clause-err c =
    let f = shape c.args.table.now.filter in let S = c.args.store.now in let b = c.args.base.0 in let n = c.args.pushed.0 in let R = c.unplaced.new.store in
    err-told (laid_through (lens_of f) (flat S b) (flat S n)) (IsMadeOf (IsIn (flat S n))) (Laid f S b n) (rest-made f S b n) R c.from_residual.result c.in_err-rest.field-0.0 c.from_residual.ensures.1 c.in_err-rest.ensures.err

pub returns-in_err-rest-clause-store : goal.returns-in_err-rest-clause-store
returns-in_err-rest-clause-store c =
    rest-grown (shape c.args.table.now.filter) c.args.store.now c.args.base.0 c.args.pushed.0 c.unplaced.new.store c.unplaced.ensures.store

pub returns-in_err-path-clause-store : goal.returns-in_err-path-clause-store
returns-in_err-path-clause-store c =
    rest-grown (shape c.args.table.now.filter) c.args.store.now c.args.base.0 c.args.pushed.0 c.unplaced.new.store c.unplaced.ensures.store

pub returns-in-Some-clause-err : goal.returns-in-Some-clause-err
returns-in-Some-clause-err c =
    let f = shape c.args.table.now.filter in let S = c.args.store.now in let b = c.args.base.0 in let n = c.args.pushed.0 in let R = c.unplaced.new.store in
    let es = c.entries-entries.result.now in
    let h = begun f es S b n R c.table_law.ensures.paths c.table_law.ensures.sound c.entries-entries.ensures.entries c.entries-entries.ensures.list c.store_law.ensures.store c.requires.base c.requires.pushed c.unplaced.ensures.store in
    not-held f h.paths h.sound es h.list (flat S b) (flat S n) h.base_tree h.pushed_tree (flat R c.in_ok-rest.rest.0) c.in-Some.path c.in_ok-rest.ensures.ok.map (sym c.in-Some.is ∙ c.in_ok-path.ensures)

pub returns-in-Some-clause-store : goal.returns-in-Some-clause-store
returns-in-Some-clause-store c =
    rest-grown (shape c.args.table.now.filter) c.args.store.now c.args.base.0 c.args.pushed.0 c.unplaced.new.store c.unplaced.ensures.store

pub taken_apart-requires-clause-base : goal.taken_apart-requires-clause-base
taken_apart-requires-clause-base c =
    has-grown c.args.store.now c.unplaced.new.store Tree c.args.base.0 c.unplaced.ensures.store c.requires.base

pub taken_apart-requires-clause-pushed : goal.taken_apart-requires-clause-pushed
taken_apart-requires-clause-pushed c =
    has-grown c.args.store.now c.unplaced.new.store Tree c.args.pushed.0 c.unplaced.ensures.store c.requires.pushed

pub returns-in_err-kept-clause-err : goal.returns-in_err-kept-clause-err
returns-in_err-kept-clause-err c =
    let f = shape c.args.table.now.filter in let S = c.args.store.now in let b = c.args.base.0 in let n = c.args.pushed.0 in let R = c.unplaced.new.store in
    let es = c.entries-entries.result.now in
    let h = begun f es S b n R c.table_law.ensures.paths c.table_law.ensures.sound c.entries-entries.ensures.entries c.entries-entries.ensures.list c.store_law.ensures.store c.requires.base c.requires.pushed c.unplaced.ensures.store in
    err-told (laid_through (lens_of f) (flat S b) (flat S n)) (IsMadeOf (IsOfBoth es (flat R b) (flat R n))) (Laid f S b n) (both-made f es S b n R h) c.taken_apart.new.store c.from_residual-in_err-kept.result c.in_err-kept.field-0.0 c.from_residual-in_err-kept.ensures.1 c.in_err-kept.ensures.err

pub returns-in_err-kept-clause-store : goal.returns-in_err-kept-clause-store
returns-in_err-kept-clause-store c =
    let f = shape c.args.table.now.filter in let S = c.args.store.now in let b = c.args.base.0 in let n = c.args.pushed.0 in let R = c.unplaced.new.store in
    let es = c.entries-entries.result.now in
    let h = begun f es S b n R c.table_law.ensures.paths c.table_law.ensures.sound c.entries-entries.ensures.entries c.entries-entries.ensures.list c.store_law.ensures.store c.requires.base c.requires.pushed c.unplaced.ensures.store in
    both-grown f es S b n R h c.taken_apart.new.store c.taken_apart.ensures.store

pub put_together-requires-clause-other : goal.put_together-requires-clause-other
put_together-requires-clause-other c =
    let f = shape c.args.table.now.filter in let S = c.args.store.now in let b = c.args.base.0 in let n = c.args.pushed.0 in let R = c.unplaced.new.store in
    let es = c.entries-entries.result.now in
    let h = begun f es S b n R c.table_law.ensures.paths c.table_law.ensures.sound c.entries-entries.ensures.entries c.entries-entries.ensures.list c.store_law.ensures.store c.requires.base c.requires.pushed c.unplaced.ensures.store in
    let P = c.taken_apart.new.store in let k = c.in_ok-kept.kept in let ns = c.as_slice.result.now in
    let kept = kept-is f es S b n R h P k.0 c.in_ok-kept.ensures.ok.0 in
    let parts = parts-are f es S b n R h P c.in_ok-kept.parts.items ns c.as_slice.ensures.value c.in_ok-kept.ensures.ok.1 in
    kept-apart f es S b n R h P k ns kept parts

pub returns-clause-ok : goal.returns-clause-ok
returns-clause-ok c =
    let f = shape c.args.table.now.filter in let S = c.args.store.now in let b = c.args.base.0 in let n = c.args.pushed.0 in let R = c.unplaced.new.store in
    let es = c.entries-entries.result.now in
    let h = begun f es S b n R c.table_law.ensures.paths c.table_law.ensures.sound c.entries-entries.ensures.entries c.entries-entries.ensures.list c.store_law.ensures.store c.requires.base c.requires.pushed c.unplaced.ensures.store in
    let P = c.taken_apart.new.store in let k = c.in_ok-kept.kept in let ns = c.as_slice.result.now in
    let kept = kept-is f es S b n R h P k.0 c.in_ok-kept.ensures.ok.0 in
    let parts = parts-are f es S b n R h P c.in_ok-kept.parts.items ns c.as_slice.ensures.value c.in_ok-kept.ensures.ok.1 in
    let none : None ≡ first_of (unplaced (cells [] es) (flat S n)) = nothing-some c.in_ok-path.field-0 c.in_default-2.not-Some ∙ c.in_ok-path.ensures ∙ ap first_of c.in_ok-rest.ensures.ok.map in
    tree-told (laid_through (lens_of f) (flat S b) (flat S n)) (pre (lens_of f) (flat S b) (flat S n)) c.put_together.new.store c.put_together.result (with_parts P k ns)
    (λ m l. laid-tree-is f h.paths h.sound es h.list (flat S b) (flat S n) h.base_tree h.pushed_tree P k ns (kept-leaves f es S b n R h P k ns kept parts) parts.leaves c.put_together.new.store c.put_together.ensures.store.store m.0 l none) c.put_together.ensures.ok

pub returns-clause-err : goal.returns-clause-err
returns-clause-err c =
    let f = shape c.args.table.now.filter in let S = c.args.store.now in let b = c.args.base.0 in let n = c.args.pushed.0 in let R = c.unplaced.new.store in
    let es = c.entries-entries.result.now in
    let h = begun f es S b n R c.table_law.ensures.paths c.table_law.ensures.sound c.entries-entries.ensures.entries c.entries-entries.ensures.list c.store_law.ensures.store c.requires.base c.requires.pushed c.unplaced.ensures.store in
    let P = c.taken_apart.new.store in let k = c.in_ok-kept.kept in let ns = c.as_slice.result.now in
    let kept = kept-is f es S b n R h P k.0 c.in_ok-kept.ensures.ok.0 in
    let parts = parts-are f es S b n R h P c.in_ok-kept.parts.items ns c.as_slice.ensures.value c.in_ok-kept.ensures.ok.1 in
    let none : None ≡ first_of (unplaced (cells [] es) (flat S n)) = nothing-some c.in_ok-path.field-0 c.in_default-2.not-Some ∙ c.in_ok-path.ensures ∙ ap first_of c.in_ok-rest.ensures.ok.map in
    put-told (laid_through (lens_of f) (flat S b) (flat S n)) P k ns (Laid f S b n) (among-made f es S b n R h P k ns kept parts)
    (λ p q least. blocked-is f h.paths h.sound es h.list (flat S b) (flat S n) h.base_tree h.pushed_tree P k ns (kept-leaves f es S b n R h P k ns kept parts) parts.leaves p q
    (block-path P c.taken_apart.ensures.store.store ns parts.trees p least.0.path) (parts-path P c.taken_apart.ensures.store.store k ns kept.held parts.trees q least.0.by) none least)
    c.put_together.new.store c.put_together.result c.put_together.ensures.err

pub returns-clause-store : goal.returns-clause-store
returns-clause-store c =
    let f = shape c.args.table.now.filter in let S = c.args.store.now in let b = c.args.base.0 in let n = c.args.pushed.0 in let R = c.unplaced.new.store in
    let es = c.entries-entries.result.now in
    let h = begun f es S b n R c.table_law.ensures.paths c.table_law.ensures.sound c.entries-entries.ensures.entries c.entries-entries.ensures.list c.store_law.ensures.store c.requires.base c.requires.pushed c.unplaced.ensures.store in
    let P = c.taken_apart.new.store in let k = c.in_ok-kept.kept in let ns = c.as_slice.result.now in
    let kept = kept-is f es S b n R h P k.0 c.in_ok-kept.ensures.ok.0 in
    let parts = parts-are f es S b n R h P c.in_ok-kept.parts.items ns c.as_slice.ensures.value c.in_ok-kept.ensures.ok.1 in
    grown_then (Laid f S b n) S P c.put_together.new.store (both-grown f es S b n R h P c.taken_apart.ensures.store)
    (grown_as (IsMadeOf (IsAmong P k ns)) (Laid f S b n) P c.put_together.new.store (among-made f es S b n R h P k ns kept parts) c.put_together.ensures.store)

pub returns-in-Sub-clause-ok : goal.returns-in-Sub-clause-ok
returns-in-Sub-clause-ok c =
    let S = c.args.store.now in
    let a = c.in-Sub.place in
    let is : shape c.args.table.now.filter ≡ sub a = ap shape (sym c.filter.ensures.filter ∙ c.in-Sub.is) in
    subst (λ (x : Lens). IfOk c.laid_below.result (IsLaidTree c.laid_below.new.store (laid_through x (flat S c.args.base.0) (flat S c.args.pushed.0)))) (below-is a ∙ ap lens_of (sym is)) c.laid_below.ensures.ok

pub returns-in-Sub-clause-err : goal.returns-in-Sub-clause-err
returns-in-Sub-clause-err c =
    let S = c.args.store.now in
    let R = c.laid_below.new.store in
    let t = flat S c.args.base.0 in
    let n = flat S c.args.pushed.0 in
    let a = c.in-Sub.place in
    let is : shape c.args.table.now.filter ≡ sub a = ap shape (sym c.filter.ensures.filter ∙ c.in-Sub.is) in
    below-err (shape c.args.table.now.filter) c.filter.ensures.paths c.filter.ensures.sound t n (is_tree S c.store_law.ensures.store c.args.base.0 c.requires.base) (is_tree S c.store_law.ensures.store c.args.pushed.0 c.requires.pushed) a R c.laid_below.result
    (subst (λ (x : Lens). IfErr c.laid_below.result (IsLayFault (laid_through x t n) a R)) (below-is a ∙ ap lens_of (sym is)) c.laid_below.ensures.err)

pub returns-in-Sub-clause-store : goal.returns-in-Sub-clause-store
returns-in-Sub-clause-store c =
    let S = c.args.store.now in
    let R = c.laid_below.new.store in
    let t = flat S c.args.base.0 in
    let n = flat S c.args.pushed.0 in
    let a = c.in-Sub.place in
    let is : shape c.args.table.now.filter ≡ sub a = ap shape (sym c.filter.ensures.filter ∙ c.in-Sub.is) in
    below-grown (shape c.args.table.now.filter) c.filter.ensures.paths c.filter.ensures.sound t n (is_tree S c.store_law.ensures.store c.args.base.0 c.requires.base) (is_tree S c.store_law.ensures.store c.args.pushed.0 c.requires.pushed) a S R
    (subst (λ (x : Lens). IsGrown (IsLaidBody (laid_through x t n) a) S R) (below-is a ∙ ap lens_of (sym is)) c.laid_below.ensures.store)
