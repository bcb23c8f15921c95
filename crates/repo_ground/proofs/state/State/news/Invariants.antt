use Rattle.std.proofs.Common.{◌≡◌, ◌++◌, drop}
use Rattle.std.specs.List.{filter_map}
use Rattle.commit_map.specs.Shown.{entry_values}
use Rattle.repo_ground.specs.contracts.state.State.{the_view}
use Rattle.repo_ground.specs.Keeping.{new_entries, new_entry}
use Rattle.repo_ground.proofs.state.State.news.Given as goal

abbrev pub invariant-loop-place : goal.invariant-loop-place
invariant-loop-place l =
    let s = the_view l.self-inside in
    entry_values l.news.items ++ filter_map (new_entry s) (drop l.place s.basis.graph) ≡ new_entries s
