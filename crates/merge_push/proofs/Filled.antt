-- Projections of all commits of a graph, kept one after another.
use Rattle.std.proofs.Common.{◌≡◌, ◌<◌, ◌≤◌, ◌+◌, ℕ, Bool, true, false, List, [], ◌∷◌, ◌++◌, length, Option, Some, None, IsSome, refl, sym, ap, subst, ◌∙◌, arith, append-nil, append_assoc, nat_lt, true≢false}
use Rattle.std.specs.Option.{is_some}
use Rattle.std.proofs.lemmas.Bool.{ltb-false, ltb-true}
use Rattle.git_objects.specs.Paths.{Bytes}
use Rattle.git_objects.specs.Snapshots.{Graph, ancestors, has}
use Rattle.object_store.specs.Objects.{Object}
use Rattle.commit_map.specs.Shown.{Entries, Shown, kept_at}
use Rattle.commit_map.specs.declared.rule.Rule.{Rule}
use Rattle.filter_apply.specs.Faults.{IsApplyFault}
use Rattle.filter_apply.specs.declared.fault.ApplyError.{ApplyError}
use Rattle.filter_text.specs.Filters.{Filter}
use Rattle.workspace.specs.Workspaces.{shown}
use Rattle.projection_laws.specs.Filled.{IsFilled}
use Rattle.projection_laws.specs.ProjectionLaws.{AreOf, AreTrue, ProjectionLaw}
use Rattle.projection_laws.specs.Projections.{known_at}
use Rattle.projection_laws.specs.StoredGraphs.{name_at}
use Rattle.projection_laws.proofs.HistoryLemmas.{reached-in}
use Rattle.projection_laws.proofs.Reached.{has-each}
use Rattle.projection_laws.proofs.StoredGraphs.{whole-graph}
use Rattle.projection_ground.specs.Choosing.{KeepsAll}
use Rattle.projection_ground.specs.Grounds.{Extends, IsGround, IsShownOf, commits_of}
use Rattle.projection_ground.specs.declared.ground.Ground.{Ground}
use Rattle.projection_ground.proofs.Filling.{filled-value, kept-append, kept-each, kept-front}
use Rattle.projection_ground.proofs.Growing.{commits-same, extends-self, extends-then}
use Rattle.merge_push.specs.Progressing.{HasTrueMap, IsFilledUp}

-- of the commits before a place something is kept
pub record AreFilledTo (f : Filter) (g h : Ground) (i : ℕ) : Type 0 where
  pub filled : IsFilledUp f g h
  pub kept : (p : ℕ) → p < i → IsSome (kept_at (name_at g.graph p) h.map)

pub filled-start : (f : Filter) (g : Ground) → IsGround g → HasTrueMap f g → AreFilledTo f g g 0
filled-start f g w t = record {
  filled = record { same = extends-self (IsShownOf f (commits_of g)) g w; entries = ([], append-nil g.map); true_map = t };
  kept = λ p l. absurd (omega (arith, l));
}

kept-longer : (n : Bytes) (xs ys : Entries) → IsSome (kept_at n xs) → IsSome (kept_at n (xs ++ ys))
kept-longer n xs ys h = by (kept_at n xs) refl
  where
    by : (o : Option (Option Shown)) → kept_at n xs ≡ o → IsSome (kept_at n (xs ++ ys))
    by None e = absurd (true≢false (sym h ∙ ap is_some e))
    by (Some v) e = ap is_some (kept-front n xs ys v e)

module _ (f : Filter) (g h k : Ground) (i : ℕ) (a : AreFilledTo f g h i) (w : IsGround g) where
  same-commits : commits_of h ≡ commits_of g
  same-commits = commits-same (IsShownOf f (commits_of g)) g h w a.filled.same

  module _ (name : Bytes) (x : IsFilled h.rule (shown f) (commits_of h) name h.map k.map) (e : Extends (IsShownOf f (commits_of h)) h k) where
    whole : Extends (IsShownOf f (commits_of g)) g k
    whole = extends-then (IsShownOf f (commits_of g)) g h k a.filled.same (subst (λ (y : Graph). Extends (IsShownOf f y) h k) same-commits e)

    more-commits : commits_of k ≡ commits_of h
    more-commits = commits-same (IsShownOf f (commits_of h)) h k a.filled.same.ground e

    of-h : AreOf (commits_of h) k.map
    of-h n p q = by (kept_at n h.map) refl
      where
        at : kept_at n (h.map ++ x.added) ≡ Some p
        at = ap (kept_at n) x.behind ∙ q

        by : (o : Option (Option Shown)) → kept_at n h.map ≡ o → has (commits_of h) n ≡ true
        by None z = has-each (commits_of h) (ancestors (commits_of h) name) n (reached-in (commits_of h) (name ∷ [])) (kept-each (λ m v. has (ancestors (commits_of h) name) m ≡ true) n x.added p x.among (sym (kept-append n h.map x.added z) ∙ at))
        by (Some v) z = a.filled.true_map.of n v z

    module _ (law : ProjectionLaw) where
      values-h : AreTrue h.rule (shown f) (commits_of h) k.map
      values-h n p q there =
          filled-value h.rule (shown f) h.map (commits_of h) name k.map x n p there q
          ∙ ap (λ es. known_at es n) (law.kept h.rule (shown f) (commits_of h) h.map (whole-graph h.store h.graph a.filled.same.ground.graph) a.filled.true_map.values)

      pub filled-more : IsFilledUp f g k
      filled-more = record {
        same = whole;
        entries = (a.filled.entries.0 ++ x.added, sym (append_assoc g.map a.filled.entries.0 x.added) ∙ ap (λ (es : Entries). es ++ x.added) a.filled.entries.1 ∙ x.behind);
        true_map = record {
          of = subst (λ (y : Graph). AreOf y k.map) (sym more-commits) of-h;
          values = subst (λ (y : Graph). AreTrue k.rule (shown f) y k.map) (sym more-commits) (subst (λ (r : Rule). AreTrue r (shown f) (commits_of h) k.map) (sym e.rule) values-h);
        };
      }

      pub filled-next : name ≡ name_at g.graph i → IsSome (kept_at name k.map) → AreFilledTo f g k (i + 1)
      filled-next q there = record { filled = filled-more; kept = λ p l. by p l (nat_lt p i) refl }
        where
          by : (p : ℕ) → p < i + 1 → (b : Bool) → nat_lt p i ≡ b → IsSome (kept_at (name_at g.graph p) k.map)
          by p l true z =
              subst (λ (es : Entries). IsSome (kept_at (name_at g.graph p) es)) x.behind (kept-longer (name_at g.graph p) h.map x.added (a.kept p (ltb-true p i z)))
          by p l false z =
              let above : i ≤ p = ltb-false p i z in
              let same : i ≡ p = omega (arith, above, l) in
              subst (λ (n : Bytes). IsSome (kept_at n k.map)) (q ∙ ap (name_at g.graph) same) there

    pub filled-fault : (S : List Object) (y : ApplyError) → IsApplyFault (IsShownOf f (commits_of h)) S y → IsApplyFault (IsShownOf f (commits_of g)) S y
    filled-fault S y z = subst (λ (c : Graph). IsApplyFault (IsShownOf f c) S y) same-commits z

pub filled-end : (f : Filter) (g h : Ground) (i : ℕ) → AreFilledTo f g h i → length g.graph ≤ i → KeepsAll h
filled-end f g h i a l p q =
    let same = a.filled.same.graph in
    let r : p < length g.graph = subst (λ rows. p < length rows) same q in
    subst (λ rows. IsSome (kept_at (name_at rows p) h.map)) (sym same) (a.kept p (omega (arith, r, l)))
