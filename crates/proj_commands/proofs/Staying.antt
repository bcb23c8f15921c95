-- A commit's projection stays when commits are added.
use Rattle.std.proofs.Common.{◌≡◌, ℕ, Bool, true, ◌||◌, List, [], ◌∷◌, Result, Ok, Err, if◌then◌else◌, refl, sym, ap, ap₂, ◌∙◌}
use Rattle.git_objects.specs.Paths.{Bytes}
use Rattle.git_objects.specs.Snapshots.{Snapshot, snapshot_name, add, add_all, has}
use Rattle.git_objects.proofs.Basics.{same_bytes-back}
use Rattle.filter_text.specs.Filters.{Filter}
use Rattle.workspace.specs.Workspaces.{shown}
use Rattle.projection_laws.proofs.ProjectionLemmas.{projection-added}
use Rattle.state_items.specs.Imported.{is_among, with_commits}
use Rattle.state_items.specs.KeptLaws.{StayLaw}
use Rattle.proj_words.specs.declared.outcome.Outcome.{Outcome}
use Rattle.proj_commands.specs.Filters.{project_by, project_of, rule_by, sound}

-- ---- two ways to add commits

pub among-has : (g : List Snapshot) (n : Bytes) → is_among g n ≡ has g n
among-has [] n = refl
among-has (c ∷ g) n = ap₂ (λ x y. x || y) (same_bytes-back (snapshot_name c) n) (among-has g n)

pub with-added : (cs known : List Snapshot) → with_commits known cs ≡ add_all known cs
with-added [] known = refl
with-added (c ∷ cs) known =
    ap (λ (b : Bool). with_commits (if b then known else c ∷ known) cs) (among-has known (snapshot_name c)) ∙ with-added cs (add known c)

-- ---- projections

project-added : (r : Result Filter Outcome) (k : ℕ) (known cs : List Snapshot) (n : Bytes) → has known n ≡ true
    → project_of r k (add_all known cs) n ≡ project_of r k known n
project-added (Ok f) k known cs n h = projection-added (rule_by k) (shown f) cs known n h
project-added (Err e) k known cs n h = refl

pub stay : StayLaw project_by
stay text k known cs n closed whole h =
    ap (λ (g : List Snapshot). project_by k text g n) (with-added cs known)
    ∙ project-added (sound text) k known cs n (sym (among-has known n) ∙ h)
