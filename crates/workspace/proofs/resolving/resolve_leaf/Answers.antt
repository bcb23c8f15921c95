use Rattle.std.proofs.Common.{◌≡◌, ◌∙◌, ap, sym, subst, Some, None, true, [], IfSome, IfNone}
use Rattle.std.specs.Option.{option_map, is_none}
use Rattle.filter_text.specs.Shapes.{shape}
use Rattle.filter_routes.specs.Interned.{Interns}
use Rattle.workspace.specs.Views.{found_value, leaf_value, parts_value}
use Rattle.workspace.specs.Workspaces.{leaf_items, listed, put_in, readable_items, with_leaf}
use Rattle.workspace.proofs.Readable.{with-none, with-split, with-unread}
use Rattle.workspace.proofs.resolving.resolve_leaf.Goals as goal

pub returns-in_default-clause-table : goal.returns-in_default-clause-table
returns-in_default-clause-table c =
    let f = shape c.args.filter.now in
    subst (λ g. Interns c.args.tables.now c.interned.new.tables g c.in_ok-interned.field-0)
    (sym (with-none f (found_value c.args.store.now c.args.leaf) (sym c.parts_of.ensures ∙ ap (option_map parts_value) c.in_default.is)))
    c.in_ok-interned.ensures.number

pub returns-in_default-leaf-clause-table : goal.returns-in_default-leaf-clause-table
returns-in_default-leaf-clause-table c =
    let f = shape c.args.filter.now in
    let s = parts_value c.in-Some.parts in
    subst (λ g. Interns c.args.tables.now c.without_items.new.tables g c.in_ok-without_items.field-0)
    (sym (ap (λ x. with_leaf f (found_value c.args.store.now x)) c.in_default-leaf.is
    ∙ with-split f s None (sym c.parts_of.ensures ∙ ap (option_map parts_value) c.in-Some.is)))
    c.in_ok-without_items.ensures.number

pub returns-in-Some-2-clause-table : goal.returns-in-Some-2-clause-table
returns-in-Some-2-clause-table c =
    let f = shape c.args.filter.now in
    let s = parts_value c.in-Some.parts in
    let x = leaf_value c.args.store.now c.in-Some-leaf.leaf in
    subst (λ g. Interns c.args.tables.now c.with_items.new.tables g c.in-Some-2.table)
    (sym (ap (λ y. with_leaf f (found_value c.args.store.now y)) c.in-Some-leaf.is
    ∙ with-split f s (Some x) (sym c.parts_of.ensures ∙ ap (option_map parts_value) c.in-Some.is)))
    (subst (λ o. IfSome o (Interns c.args.tables.now c.with_items.new.tables (put_in s (listed s.directory (leaf_items s.directory (Some x)))))) c.in-Some-2.is c.in_ok-table.ensures.some)

pub returns-in_ok-without_items-in-None-clause-table : goal.returns-in_ok-without_items-in-None-clause-table
returns-in_ok-without_items-in-None-clause-table c =
    let f = shape c.args.filter.now in
    let s = parts_value c.in-Some.parts in
    let x = leaf_value c.args.store.now c.in-Some-leaf.leaf in
    let same : c.with_items.new.tables ≡ c.args.tables.now = subst (λ o. IfNone o (c.with_items.new.tables ≡ c.args.tables.now)) c.in-None.is c.in_ok-table.ensures.none in
    let unread : is_none (readable_items s.directory x) ≡ true = sym (sym (ap is_none c.in-None.is) ∙ c.in_ok-table.ensures.readable) in
    subst (λ g. Interns c.args.tables.now c.without_items-in-None.new.tables g c.in_ok-without_items-in-None.field-0)
    (sym (ap (λ y. with_leaf f (found_value c.args.store.now y)) c.in-Some-leaf.is
    ∙ with-unread f s x (sym c.parts_of.ensures ∙ ap (option_map parts_value) c.in-Some.is) unread))
    (subst (λ old. Interns old c.without_items-in-None.new.tables (put_in s (listed s.directory [])) c.in_ok-without_items-in-None.field-0) same c.in_ok-without_items-in-None.ensures.number)
