-- A history behind more tables.
use Rattle.std.proofs.Common.{◌≡◌, inl, inr, ℕ, Contains, subst}
use Rattle.git_objects.specs.Paths.{Bytes}
use Rattle.git_objects.specs.Snapshots.{Graph}
use Rattle.object_store.specs.Objects.{Object}
use Rattle.filter_text.specs.Filters.{Filter}
use Rattle.filter_apply.specs.Faults.{IsApplyFault}
use Rattle.filter_apply.specs.declared.fault.ApplyError.{ApplyError}
use Rattle.workspace.specs.Workspaces.{shown}
use Rattle.projection_laws.specs.Projections.{history_graph}
use Rattle.projection_laws.specs.StoredGraphs.{name_at}
use Rattle.projection_ground.specs.Grounds.{IsGround, Extends, IsShownOf, commits_of}
use Rattle.projection_ground.specs.Asked.{IsNone}
use Rattle.history_ground.specs.Histories.{IsOfHistory}
use Rattle.projection_ground.specs.declared.ground.Ground.{Ground}
use Rattle.projection_ground.proofs.Asking.{extends-none}
use Rattle.projection_ground.proofs.Growing.{commits-same, extends-as, extends-then}
use Rattle.history_ground.proofs.TakenTurns.{fault-as}

module _ (f : Filter) (head : Bytes) (g h k : Ground) (place : ℕ) (w : IsGround g) (a : Extends IsNone g h) (n : name_at h.graph place ≡ head) where
  commits : commits_of h ≡ commits_of g
  commits = commits-same IsNone g h w a

  pub history-same : history_graph h.rule (shown f) (commits_of h) (name_at h.graph place) ≡ history_graph g.rule (shown f) (commits_of g) head
  history-same = λ i. history_graph (a.rule i) (shown f) (commits i) (n i)

  object-of : (o : Object) → IsOfHistory f h (name_at h.graph place) o → IsOfHistory f g head o
  object-of o (inl x) = inl (subst (λ (y : Graph). IsShownOf f y o) commits x)
  object-of o (inr x) = inr (x.0, subst (λ (y : Graph). Contains y x.0) history-same x.1, x.2)

  pub history-grown : Extends (IsOfHistory f h (name_at h.graph place)) h k → Extends (IsOfHistory f g head) g k
  history-grown b = extends-then (IsOfHistory f g head) g h k (extends-none (IsOfHistory f g head) g h a) (extends-as (IsOfHistory f h (name_at h.graph place)) (IsOfHistory f g head) h k object-of b)

  pub history-fault : (e : ApplyError) → IsApplyFault (IsOfHistory f h (name_at h.graph place)) k.store e → IsApplyFault (IsOfHistory f g head) k.store e
  history-fault e x = fault-as (IsOfHistory f h (name_at h.graph place)) (IsOfHistory f g head) k.store object-of e x
