use Rattle.std.proofs.Common.{◌≡◌, ◌∙◌, ap, sym, subst, Some, IfSome}
use Rattle.std.specs.Option.{option_and_then}
use Rattle.git_objects.specs.Lists.{Each}
use Rattle.filter_text.specs.Items.{IsMadeOfPaths, items}
use Rattle.filter_text.specs.Shapes.{shape}
use Rattle.filter_text.specs.Views.{item_values, items_read}
use Rattle.workspace.specs.Views.{leaf_value, parts_value}
use Rattle.workspace.specs.Workspaces.{listed, put_in, text_of}
use Rattle.workspace.proofs.Readable.{number-told, readable-told}
use Rattle.workspace.proofs.resolving.with_items.Goals as goal

pub returns-in_ok-whole-in-Some-clause-some : goal.returns-in_ok-whole-in-Some-clause-some
returns-in_ok-whole-in-Some-clause-some c =
    let s = parts_value c.args.parts.now in
    let x = leaf_value c.args.store.now c.args.leaf in
    let v = c.in-Some.items in
    let is = item_values v.items in
    let e : option_and_then items (text_of x) ≡ Some is = sym (sym (ap items_read c.in-Some.is) ∙ c.in_ok-items_of.ensures.items) in
    let p : Each IsMadeOfPaths is = subst (λ o. IfSome o (λ w. Each IsMadeOfPaths (item_values w.items))) c.in-Some.is c.in_ok-items_of.ensures.paths in
    let whole : shape c.in_ok-whole-in-Some.whole ≡ put_in s (listed s.directory is) =
    c.in_ok-whole-in-Some.ensures ∙ ap (put_in s) (c.in_ok-list-in-Some.ensures ∙ ap (λ xs. listed s.directory (item_values xs)) c.deref.ensures.value) in
    number-told s x is c.requires.parts e p c.args.tables.now c.intern_if_sound.new.self (shape c.in_ok-whole-in-Some.whole) whole c.intern_if_sound.result c.intern_if_sound.ensures.number c.intern_if_sound.ensures.sound

pub returns-in_ok-whole-in-Some-clause-readable : goal.returns-in_ok-whole-in-Some-clause-readable
returns-in_ok-whole-in-Some-clause-readable c =
    let s = parts_value c.args.parts.now in
    let x = leaf_value c.args.store.now c.args.leaf in
    let v = c.in-Some.items in
    let is = item_values v.items in
    let e : option_and_then items (text_of x) ≡ Some is = sym (sym (ap items_read c.in-Some.is) ∙ c.in_ok-items_of.ensures.items) in
    let p : Each IsMadeOfPaths is = subst (λ o. IfSome o (λ w. Each IsMadeOfPaths (item_values w.items))) c.in-Some.is c.in_ok-items_of.ensures.paths in
    let whole : shape c.in_ok-whole-in-Some.whole ≡ put_in s (listed s.directory is) =
    c.in_ok-whole-in-Some.ensures ∙ ap (put_in s) (c.in_ok-list-in-Some.ensures ∙ ap (λ xs. listed s.directory (item_values xs)) c.deref.ensures.value) in
    readable-told s x is c.requires.parts e p c.args.tables.now c.intern_if_sound.new.self (shape c.in_ok-whole-in-Some.whole) whole c.intern_if_sound.result c.intern_if_sound.ensures.sound c.intern_if_sound.ensures.unsound
