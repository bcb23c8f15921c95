use Rattle.std.proofs.Common.{◌≡◌, ◌⊎◌, true, Some, None}
use Rattle.std.specs.Prelude.{Result, Ok, Err, IfOk, MatchResult}
use Rattle.std.specs.Global.{Vec}
use Rattle.std.specs.List.{list_all}
use Rattle.git_objects.specs.Lists.{Each}
use Rattle.git_objects.specs.Paths.{Bytes}
use Rattle.filter_text.specs.Items.{IsMadeOfPaths, items, is_item_filter}
use Rattle.filter_text.specs.Views.{item_values}
use Rattle.filter_text.specs.declared.filter.Item.{Item}
use Rattle.filter_text.specs.declared.filter.ItemsFault.{ItemsFault}
use Rattle.filter_text.specs.declared.filter.ItemsFault.TheVariants as faults
use Rattle.filter_text.proofs.ItemFilters.{items-valid}
use Rattle.filter_text.proofs.ItemPaths.{items-are}
use Rattle.filter_text.proofs.items.parse_items.Goals as goal

valid : (t : Bytes) (r : Result (Vec Item) ItemsFault) →
    MatchResult r (λ v. items t ≡ Some (item_values v.items)) (λ fault. (fault ≡ faults.OutOfMemory) ⊎ ((fault ≡ faults.Unreadable) × (items t ≡ None))) →
    IfOk r (λ v. list_all (λ i. is_item_filter i.1) (item_values v.items) ≡ true)
valid t (Ok v) h = items-valid t (item_values v.items) h
valid t (Err e) h = tt

paths : (t : Bytes) (r : Result (Vec Item) ItemsFault) →
    MatchResult r (λ v. items t ≡ Some (item_values v.items)) (λ fault. (fault ≡ faults.OutOfMemory) ⊎ ((fault ≡ faults.Unreadable) × (items t ≡ None))) →
    IfOk r (λ v. Each IsMadeOfPaths (item_values v.items))
paths t (Ok v) h = items-are t (item_values v.items) h
paths t (Err e) h = tt

pub returns-clause-paths : goal.returns-clause-paths
returns-clause-paths c = paths c.args.text.now c.items_in.result c.items_in.ensures

pub returns-clause-valid : goal.returns-clause-valid
returns-clause-valid c = valid c.args.text.now c.items_in.result c.items_in.ensures
