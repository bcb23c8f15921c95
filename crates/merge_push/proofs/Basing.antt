-- What a push with merges stands upon, as it is made over a ground.
use Rattle.std.proofs.Common.{◌≡◌, ◌⊎◌, inl, inr, true, List, [], ◌∷◌, ◌++◌, map, Contains, Option, Some, None, IfSome, IsSome, Result, Ok, Err, IfOk, refl, sym, ap, subst, ◌∙◌}
use Rattle.std.specs.Option.{option_map, option_or}
use Rattle.git_objects.specs.Lists.{Each}
use Rattle.git_objects.specs.Parts.{name_bytes}
use Rattle.git_objects.specs.Paths.{Bytes}
use Rattle.git_objects.specs.Snapshots.{Snapshot, Graph, snapshot_name, tree_at}
use Rattle.git_objects.specs.Trees.{Flat}
use Rattle.git_objects.specs.declared.kind.Kind.TheVariants.{Tree}
use Rattle.git_objects.specs.declared.name.Name.{Name}
use Rattle.object_store.specs.Objects.{Object, has}
use Rattle.object_store.specs.StoredSnapshots.{IsTreeOf, snapshot_object}
use Rattle.object_store.specs.Unfolding.{flat}
use Rattle.object_store.proofs.Growth.{has-grown, stands-grown}
use Rattle.commit_map.specs.declared.rule.Rule.{Rule}
use Rattle.filter_text.specs.Filters.{Filter}
use Rattle.filter_apply.specs.Faults.{IsApplyFault}
use Rattle.filter_apply.specs.declared.fault.ApplyError.{ApplyError}
use Rattle.workspace.specs.Workspaces.{shown}
use Rattle.projection_laws.specs.Projections.{own_commits, projections}
use Rattle.projection_laws.proofs.HistoryLemmas.{each-append, each-map, map-append}
use Rattle.projection_ground.specs.Grounds.{Extends, IsGround, IsShownOf, commits_of}
use Rattle.projection_ground.specs.declared.ground.Ground.{Ground}
use Rattle.projection_ground.proofs.Growing.{commits-same, extends-as, extends-then, tree-of-grown}
use Rattle.history_ground.specs.Heads.{IsSeen, IsSeenObject}
use Rattle.history_ground.specs.Origins.{AreFirsts, Firsts, IsProjectionObject, first_place}
use Rattle.history_ground.specs.declared.heads.Seen.{Seen}
use Rattle.history_ground.proofs.TakenTurns.{fault-as}
use Rattle.fast_import.specs.Bases.{base_in}
use Rattle.fast_import.specs.Replays.{value_at}
use Rattle.fast_import.proofs.Resolving.{value-append}
use Rattle.push_back.specs.Grounds.{blobs_of, refs_of}
use Rattle.push_back.specs.Grounds as pushes
use Rattle.merge_push.specs.Bringing.{IsBaseObject, IsMergeBaseOf, IsPushBaseOf}
use Rattle.merge_push.specs.Grounds as merges

-- ---- a push's base with projections

flats : (S : List Object) (os : Firsts) → map {B = Bytes × Flat} (λ e. (e.0, flat S e.1)) (map {B = Bytes × Bytes} (λ e. (e.0, e.1.tree)) os) ≡ map (λ e. (e.0, flat S e.1.tree)) os
flats S [] = refl
flats S (e ∷ os) = ap (λ (xs : List (Bytes × Flat)). (e.0, flat S e.1.tree) ∷ xs) (flats S os)

trees-of : (S : List Object) (os : Firsts) → Each (λ e. IsTreeOf S e.0 e.1.tree) os → Each (λ (e : Bytes × Bytes). IsTreeOf S e.0 e.1) (map (λ e. (e.0, e.1.tree)) os)
trees-of S [] h = tt
trees-of S (e ∷ os) h = (h.0, trees-of S os h.1)

some-or : (x y : Option Bytes) → IsSome x → IsSome (option_or x y)
some-or None y h = absurd cc
some-or (Some t) y h = refl

module _ (S : List Object) (p : pushes.Ground) (os : Firsts) (w : pushes.IsGroundIn S p) (t : Each (λ e. IsTreeOf S e.0 e.1.tree) os) where
  abbrev more : List (Bytes × Bytes)
  more = map (λ e. (e.0, e.1.tree)) os

  abbrev base : merges.Ground
  base = record { push = p; origins = os }

  pub ground-of : merges.IsGroundIn S base
  ground-of = record {
    tree = w.tree;
    same =
        (λ i. record { commits = map-append (λ (e : Bytes × Bytes). (e.0, flat S e.1)) (pushes.commits_of p) more i; refs = refs_of p; blobs = (base_in S (pushes.commits_of p) (refs_of p) (blobs_of p)).blobs })
        ∙ (λ i. record { commits = (w.same i).commits ++ flats S os i; refs = (w.same i).refs; blobs = (w.same i).blobs });
    there = record {
      trees = each-append (λ (e : Bytes × Bytes). IsTreeOf S e.0 e.1) (pushes.commits_of p) more w.there.trees (trees-of S os t);
      heads = each-map (λ e. IsSome (value_at e.1 (pushes.commits_of p))) (λ e. IsSome (value_at e.1 (pushes.commits_of p ++ more)))
          (λ e h. subst (λ (x : Option Bytes). IsSome x) (sym (value-append e.1 (pushes.commits_of p) more)) (some-or (value_at e.1 (pushes.commits_of p)) (value_at e.1 more) h)) (refs_of p) w.there.heads;
      contents = w.there.contents;
    };
  }

-- what the call below gives
pub push-base-of : {E : Type 0} (q refname : Bytes) (y : Seen) (S : List Object) (r : Result pushes.Ground E) → IfOk r (λ b. b.refname ≡ q) → IfOk r (λ b. b.from ≡ y.from) → IfOk r (λ b. b.shown ≡ y.tree) → IfOk r (pushes.IsGroundIn S) → q ≡ refname
    → IfOk r (IsPushBaseOf refname y S)
push-base-of q refname y S (Err e) a b c d k = tt
push-base-of q refname y S (Ok p) a b c d k = record { refname_is = a ∙ k; from_is = b; shown_is = c; there = d }

-- ---- over a ground

module _ (f : Filter) (n : Bytes) (g h : Ground) (w : IsGround g) (a : Extends (IsSeenObject f g n) g h) where
  same-commits : commits_of h ≡ commits_of g
  same-commits = commits-same (IsSeenObject f g n) g h w a

  seen-object : (o : Object) → IsSeenObject f g n o → IsBaseObject f g n o
  seen-object o x = inl x

  abbrev IsProjected : Object → Rule × Graph → Type 0
  IsProjected o x = IsShownOf f x.1 o ⊎ ((c : Snapshot) × Contains (own_commits x.0 (shown f) x.1 (map snapshot_name x.1)) c × (snapshot_object c ≡ o))

  projection-object : (o : Object) → IsProjectionObject f h o → IsBaseObject f g n o
  projection-object o x = inr (subst (IsProjected o) (λ i. (a.rule i, same-commits i)) x)

  -- the head is seen, and no more
  pub seen-same : Extends (IsBaseObject f g n) g h
  seen-same = extends-as (IsSeenObject f g n) (IsBaseObject f g n) g h seen-object a

  pub seen-fault : (S : List Object) (e : ApplyError) → IsApplyFault (IsSeenObject f g n) S e → IsApplyFault (IsBaseObject f g n) S e
  seen-fault S e x = fault-as (IsSeenObject f g n) (IsBaseObject f g n) S seen-object e x

  module _ (k : Ground) (b : Extends (IsProjectionObject f h) h k) where
    pub base-same : Extends (IsBaseObject f g n) g k
    base-same = extends-then (IsBaseObject f g n) g h k seen-same (extends-as (IsProjectionObject f h) (IsBaseObject f g n) h k projection-object b)

    pub base-fault : (S : List Object) (e : ApplyError) → IsApplyFault (IsProjectionObject f h) S e → IsApplyFault (IsBaseObject f g n) S e
    base-fault S e x = fault-as (IsProjectionObject f h) (IsBaseObject f g n) S projection-object e x

    module _ (y : Seen) (s : IsSeen f g n h.store y) where
      pub tree-there : has Tree k.store y.tree.0 ≡ true
      tree-there = has-grown h.store k.store Tree y.tree.0 b.store s.stands.held

      pub from-there : IfSome y.from (λ m. IsTreeOf k.store m.0 y.tree.0)
      from-there = by y.from s.there
        where
          by : (o : Option Name) → IfSome o (λ m. IsTreeOf h.store m.0 y.tree.0) → IfSome o (λ m. IsTreeOf k.store m.0 y.tree.0)
          by None x = tt
          by (Some m) x = tree-of-grown h.store k.store m.0 y.tree.0 b.store x

      pub merge-base-of : (refname : Bytes) (os : Firsts) → AreFirsts f h k.store os → (p : pushes.Ground) → IsPushBaseOf refname y k.store p → IsMergeBaseOf f refname n g k.store (record { push = p; origins = os })
      merge-base-of refname os first p q = record {
        refname_is = q.refname_is;
        from_is = ap (option_map name_bytes) q.from_is ∙ s.projected;
        seen_is = ap (λ (m : Name). flat k.store m.0) q.shown_is ∙ (stands-grown h.store k.store y.tree.0 (shown f (tree_at (commits_of g) n)) b.store s.stands).map;
        origins = record {
          first = λ m. first.first m ∙ (λ i. first_place (projections (a.rule i) (shown f) [] (same-commits i)) m);
          there = first.there;
        };
        there = ground-of k.store p os q.there first.there;
      }
