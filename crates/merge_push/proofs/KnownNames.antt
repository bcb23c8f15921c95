-- The projections that the code has are those of the graph's commits, whatever trees stand beside them.
use Rattle.std.specs.Prelude.{◌≡◌, refl, ◌+◌, Bool, true, false, cond, is_some, ◌||◌, List, [], ◌∷◌, map, reverse, Option, Some, None}
use Rattle.std.specs.Option.{option_map}
use Rattle.std.specs.List.{cons_option, list_any}
use Rattle.std.proofs.Common.{ap, ◌∙◌, sym}
use Rattle.git_objects.specs.Paths.{Bytes, same_bytes}
use Rattle.git_objects.specs.Snapshots.{Snapshot, Graph, snapshot_name}
use Rattle.git_objects.specs.Trees.{Flat}
use Rattle.git_objects.proofs.Basics.{same_bytes-back}
use Rattle.object_store.specs.Objects.{Object}
use Rattle.object_store.specs.Unfolding.{flat}
use Rattle.commit_map.specs.Shown.{Shown}
use Rattle.commit_map.specs.declared.rule.Rule.{Rule}
use Rattle.filter_text.specs.Filters.{Filter}
use Rattle.workspace.specs.Workspaces.{shown}
use Rattle.projection_laws.proofs.HistoryLemmas.{any-reverse}
use Rattle.projection_laws.specs.Projections.{choice_of, projected, projections}
use Rattle.projection_ground.specs.Grounds.{commits_of}
use Rattle.projection_ground.specs.declared.ground.Ground.{Ground}
use Rattle.history_ground.specs.Origins.{AreFirsts, Firsts, first_at, first_of, is_shown_by}
use Rattle.fast_import.specs.Replays.{Replay, value_at}
use Rattle.stream_reader.specs.declared.command.Placed.{Placed}
use Rattle.push_back.specs.Waited.{waited_by}
use Rattle.merge_laws.specs.Merges.{shown_trees}
use Rattle.merge_laws.proofs.Bases.{command-same}
use Rattle.merge_push.specs.Waited.{merge_waited}

some-map : {A B : Type 0} (f : A → B) (o : Option A) → is_some (option_map f o) ≡ is_some o
some-map f None = refl
some-map f (Some x) = refl

first-any : {A : Type 0} (p : A → Bool) (xs : List A) → is_some (first_at p xs) ≡ list_any p xs
first-any p [] = refl
first-any p (x ∷ xs) = by (p x) (some-map (λ n. n + 1) (first_at p xs) ∙ first-any p xs)
  where
    by : (b : Bool) → is_some (option_map (λ n. n + 1) (first_at p xs)) ≡ list_any p xs → is_some (cond b (Some 0) (option_map (λ n. n + 1) (first_at p xs))) ≡ (b || list_any p xs)
    by true h = refl
    by false h = h

-- of the code's projections
code-names : (S : List Object) (os : Firsts) (n : Bytes) → is_some (value_at n (map {B = Bytes × Flat} (λ e. (e.0, flat S e.1.tree)) os)) ≡ is_some (first_of n os)
code-names S [] n = refl
code-names S (e ∷ os) n =
    ap (λ b. is_some (cond b (Some (flat S e.1.tree)) (value_at n (map {B = Bytes × Flat} (λ e. (e.0, flat S e.1.tree)) os)))) (same_bytes-back e.0 n)
    ∙ by (same_bytes n e.0) (code-names S os n)
  where
    by : (b : Bool) → is_some (value_at n (map {B = Bytes × Flat} (λ e. (e.0, flat S e.1.tree)) os)) ≡ is_some (first_of n os)
        → is_some (cond b (Some (flat S e.1.tree)) (value_at n (map {B = Bytes × Flat} (λ e. (e.0, flat S e.1.tree)) os))) ≡ is_some (cond b (Some e.1) (first_of n os))
    by true h = refl
    by false h = h

-- of the definition's
module _ (k : Rule) (f : Filter) (n : Bytes) where
  abbrev tree-at : (Snapshot × (Bytes × Option Shown)) → Option (Bytes × Flat)
  tree-at x = option_map (λ s. (s.commit, shown f x.0.tree)) x.1.1

  shown-one : (c : Snapshot) (o : Option Shown) (rest : List (Bytes × Flat)) (b : Bool) → is_some (value_at n rest) ≡ b
      → is_some (value_at n (cons_option (tree-at (c, (snapshot_name c, o))) rest)) ≡ (is_shown_by n (snapshot_name c, o) || b)
  shown-one c None rest b h = h
  shown-one c (Some s) rest b h = ap (λ x. is_some (cond x (Some (shown f c.tree)) (value_at n rest))) (same_bytes-back s.commit n) ∙ by (same_bytes n s.commit)
    where
      by : (x : Bool) → is_some (cond x (Some (shown f c.tree)) (value_at n rest)) ≡ (x || b)
      by true = refl
      by false = h

  shown-names : (g : Graph) → is_some (value_at n (shown_trees f g (projections k (shown f) [] g))) ≡ list_any (is_shown_by n) (projections k (shown f) [] g)
  shown-names [] = refl
  shown-names (c ∷ older) =
      shown-one c (projected (choice_of k (shown f) older (projections k (shown f) [] older) c)) (shown_trees f older (projections k (shown f) [] older)) (list_any (is_shown_by n) (projections k (shown f) [] older)) (shown-names older)

module _ (f : Filter) (g : Ground) (S : List Object) (os : Firsts) (w : AreFirsts f g S os) where
  abbrev pub theirs : List (Bytes × Flat)
  theirs = shown_trees f (commits_of g) (projections g.rule (shown f) [] (commits_of g))

  abbrev pub ours : List (Bytes × Flat)
  ours = map (λ e. (e.0, flat S e.1.tree)) os

  pub same-names : (n : Bytes) → is_some (value_at n ours) ≡ is_some (value_at n theirs)
  same-names n =
      code-names S os n
      ∙ sym (some-map (λ x. x.place) (first_of n os))
      ∙ ap is_some (w.first n)
      ∙ first-any (is_shown_by n) (reverse (projections g.rule (shown f) [] (commits_of g)))
      ∙ any-reverse (is_shown_by n) (projections g.rule (shown f) [] (commits_of g))
      ∙ sym (shown-names g.rule f n (commits_of g))

  -- so as much is read
  pub waited-same : (refname : Bytes) (from : Option Bytes) (seen : Flat) → merge_waited refname from seen ours ≡ merge_waited refname from seen theirs
  waited-same refname from seen =
      ap (λ (one : Replay → Placed → _). waited_by one) (λ i r p. command-same refname from seen ours theirs same-names r p.at p.command i)
