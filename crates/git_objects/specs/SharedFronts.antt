-- Two bodies of trees that list the same entries first.
use Rattle.std.specs.Prelude.{◌≡◌, true, List, [], ◌++◌, unwrap_or}
use Rattle.std.specs.Option.{is_some}
use Rattle.git_objects.specs.Paths.{Bytes}
use Rattle.git_objects.specs.Bodies.{tree_entries}
use Rattle.git_objects.specs.declared.entry.Entry.{Entry}

-- Bodies a and b list the same entries in front of what bodies r and s list.
pub record SharesFront (a b r s : Bytes) : Type 0 where
  pub entries : List Entry
  pub first : unwrap_or (tree_entries a) [] ≡ entries ++ unwrap_or (tree_entries r) []
  pub second : unwrap_or (tree_entries b) [] ≡ entries ++ unwrap_or (tree_entries s) []
  pub first_left : is_some (tree_entries r) ≡ true
  pub second_left : is_some (tree_entries s) ≡ true
