-- What contracts see of a table.
use Rattle.std.specs.Prelude.{◌≡◌, List, true}
use Rattle.filter_text.specs.Shapes.{shape}
use Rattle.filter_text.specs.declared.filter.Filter.{Filter}
use Rattle.decision_lists.specs.Entries.{Entry}
use Rattle.filter_routes.specs.Soundness.{IsSound}
use Rattle.filter_text.specs.Filters.{has_paths}
use Rattle.filter_routes.specs.Lists.{IsListOf}

-- a filter, and the decision list whose entries with a target are its routes
pub record Table : Type 0 where
  pub filter : Filter
  pub routes : List Entry

-- what every table keeps to
pub record IsTable (t : Table) : Type 0 where
  pub list : IsListOf (shape t.filter) t.routes
  pub sound : IsSound (shape t.filter)
  pub paths : has_paths (shape t.filter) ≡ true
