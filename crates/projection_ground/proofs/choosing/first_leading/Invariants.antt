use Rattle.std.proofs.Common.{◌≡◌, ◌&&◌, ℕ, map, drop}
use Rattle.std.specs.List.{find}
use Rattle.git_objects.specs.Paths.{same_bytes}
use Rattle.commit_map.specs.Shown.{Entries, shown_value}
use Rattle.projection_ground.specs.Choosing.{Agree, IsBehind, commits_before, leads_upon}
use Rattle.projection_ground.proofs.choosing.first_leading.Given as goal

-- none of the projections so far has the tree and leads
abbrev pub invariant-loop-m : goal.invariant-loop-m
invariant-loop-m l = (place : ℕ) → IsBehind l.ground l.parents place → (ks : Entries) → Agree l.ground.map ks (commits_before l.ground place)
    → find (λ m. same_bytes m.tree l.tree.0 && leads_upon l.ground place l.parents ks m) (map shown_value l.projected) ≡ find (λ m. same_bytes m.tree l.tree.0 && leads_upon l.ground place l.parents ks m) (map shown_value (drop l.m-index l.projected))
