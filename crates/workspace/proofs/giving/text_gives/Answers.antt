use Rattle.std.proofs.Common.{◌≡◌, ◌∙◌, ap, sym, subst, true, IfSome, ◌<◌, ◌^◌}
use Rattle.git_objects.specs.Lists.{Each}
use Rattle.filter_text.specs.Items.{IsMadeOfPaths, items}
use Rattle.filter_text.specs.Views.{item_values, items_read}
use Rattle.filter_text.specs.Filters.{has_paths, pieces}
use Rattle.workspace.specs.Workspaces.{listed}
use Rattle.workspace.proofs.ListRooms.{text-few}
use Rattle.workspace.proofs.Usable.{listed-paths}
use Rattle.workspace.proofs.giving.text_gives.Goals as goal

pub list_gives-requires-clause-few : goal.list_gives-requires-clause-few
list_gives-requires-clause-few c =
    let is = item_values c.in-Some.items.items in
    subst (λ xs. pieces (listed c.args.directory.now (item_values xs)) < 2 ^ 31) (sym c.deref.ensures.value)
    (text-few c.args.directory.now c.args.text.now is (sym (sym (ap items_read c.in-Some.is) ∙ c.in_ok-items_in.ensures.items)))

pub list_gives-requires-clause-paths : goal.list_gives-requires-clause-paths
list_gives-requires-clause-paths c =
    let is = item_values c.in-Some.items.items in
    subst (λ xs. has_paths (listed c.args.directory.now (item_values xs)) ≡ true) (sym c.deref.ensures.value)
    (listed-paths c.args.directory.now is c.requires.path
    (subst (λ o. IfSome o (λ v. Each IsMadeOfPaths (item_values v.items))) c.in-Some.is c.in_ok-items_in.ensures.paths))
