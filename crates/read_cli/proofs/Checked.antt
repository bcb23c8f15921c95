-- What is checked of a ref's commit, upon a state.
use Rattle.std.proofs.Common.{◌≡◌, List, ap}
use Rattle.git_objects.specs.Paths.{Bytes}
use Rattle.git_objects.specs.Snapshots.{Graph, tree_at}
use Rattle.filter_text.specs.Filters.{Filter}
use Rattle.projection_ground.specs.Grounds.{commits_of}
use Rattle.state_items.specs.Items.{Held}
use Rattle.repo_ground.specs.Contents.{Contents}
use Rattle.proj_commands.specs.Makes.{IsStateOf}
use Rattle.proj_commands.proofs.StatesShown.{commits-are}
use Rattle.read_cli.specs.Outputs.{check_output, check_text}

pub checked-held : (items : List Bytes) (h : Held) (s : Contents) (f : Filter) (n : Bytes) → IsStateOf items h s → check_text f (tree_at (commits_of s.basis) n) ≡ check_output h f n
checked-held items h s f n w = ap (λ (g : Graph). check_text f (tree_at g n)) (commits-are items h s f n w)
