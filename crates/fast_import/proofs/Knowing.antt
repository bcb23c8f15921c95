-- The commits that a stream's lines name are there.
use Rattle.std.proofs.Common.{◌≡◌, ◌≤◌, Bool, true, false, cond, List, [], ◌∷◌, ◌++◌, map, length, Option, Some, None, Result, Ok, Err, IfSome, refl, sym, ap, subst, ◌∙◌, arith, length-append}
use Rattle.std.specs.Prelude.{nat_lt}
use Rattle.std.specs.Option.{is_some, option_map, option_or, option_to_list}
use Rattle.std.proofs.lemmas.Bool.Decides.{nat_tests}
use Rattle.git_objects.specs.Lists.{Each}
use Rattle.git_objects.specs.Parts.{name_bytes}
use Rattle.git_objects.specs.declared.name.Name.{Name}
use Rattle.git_objects.specs.Paths.{Bytes, same_bytes}
use Rattle.git_objects.specs.Refs.{Refs}
use Rattle.git_objects.specs.Results.{◌>>=◌, must, or_refuse}
use Rattle.git_objects.specs.Snapshots.{Snapshot}
use Rattle.git_objects.specs.Trees.{Flat}
use Rattle.git_objects.specs.declared.kind.Kind.TheVariants.{Commit as CommitKind}
use Rattle.git_objects.specs.declared.limits.TheConstants.{PARENTS}
use Rattle.git_objects.specs.declared.quantity.Quantity.TheVariants.{Parents}
use Rattle.object_store.specs.Objects.{Object, has}
use Rattle.object_store.specs.StoredSnapshots.{IsTreeOf, snapshot_object}
use Rattle.object_store.specs.Unfolding.{flat}
use Rattle.object_store.proofs.Parts.{found-has}
use Rattle.std.specs.Cmp.Lexicographic.{bytes_decides}
use Rattle.fast_import.specs.Bases.{IsBaseIn, base_in}
use Rattle.fast_import.specs.Replays.{Base, Replay, branch, first_parent, known, named_tree, one_more, said, target_name, tree_of, value_at, with_merges}
use Rattle.fast_import.specs.Replaying.{Replaying}
use Rattle.fast_import.specs.Standing.{AreCommitsIn, IsReplayOf}
use Rattle.stream_reader.specs.declared.command.CommitHead.{CommitHead}
use Rattle.stream_reader.specs.declared.commit_ref.CommitRef.{CommitRef}
use Rattle.stream_reader.specs.declared.fault.StreamFault.{StreamFault}
use Rattle.stream_reader.specs.declared.fault.StreamFault.TheVariants.{Limit, Unresolved}
use Rattle.fast_import.specs.declared.replayed.Made.{Made}
use Rattle.fast_import.proofs.Growing.{commit-has}
use Rattle.fast_import.proofs.Resolving.{branch-is, value-append}

module _ (S : List Object) where
  abbrev IsThere : Bytes → Type 0
  IsThere n = has CommitKind S n ≡ true

  pub name-there : (o : Option Name) → IfSome (option_map name_bytes o) (λ n. has CommitKind S n ≡ true) → IfSome o (λ n. has CommitKind S n.0 ≡ true)
  name-there None h = tt
  name-there (Some n) h = h

  -- a commit whose tree is found is in the store
  made-there : (n : Bytes) (ms : List Made) (cs : List Snapshot) → AreCommitsIn S ms cs → is_some (value_at n (map named_tree cs)) ≡ true → IsThere n
  made-there n [] [] h e = absurd cc
  made-there n [] (c ∷ cs) h e = absurd h
  made-there n (m ∷ ms) [] h e = absurd h
  made-there n (m ∷ ms) (c ∷ cs) h e =
      elim (same_bytes (named_tree c).0 n) as (λ b. same_bytes (named_tree c).0 n ≡ b → is_some (cond b (Some c.tree) (value_at n (map named_tree cs))) ≡ true → has CommitKind S n ≡ true) [
        | true ↦ λ q g. subst (λ (x : Bytes). has CommitKind S x ≡ true) (sym h.0.named ∙ (bytes_decides (named_tree c).0 n).0 q) (found-has S CommitKind m.name.0 (snapshot_object c) h.0.held refl).0
        | false ↦ λ q g. made-there n ms cs h.1 g
      ] refl e

  base-there : (n : Bytes) (cs : List (Bytes × Bytes)) → Each (λ e. IsTreeOf S e.0 e.1) cs → is_some (value_at n (map (λ e. (e.0, flat S e.1)) cs)) ≡ true → IsThere n
  base-there n [] h e = absurd cc
  base-there n (c ∷ cs) h e =
      elim (same_bytes c.0 n) as (λ b. same_bytes c.0 n ≡ b → is_some (cond b (Some (flat S c.1)) (value_at n (map (λ e. (e.0, flat S e.1)) cs))) ≡ true → has CommitKind S n ≡ true) [
        | true ↦ λ q g. subst (λ (x : Bytes). has CommitKind S x ≡ true) ((bytes_decides c.0 n).0 q) (commit-has S c.0 h.0.commit h.0.named)
        | false ↦ λ q g. base-there n cs h.1 g
      ] refl e

module _ (S : List Object) (v : Replaying) (r : Replay) (h : IsReplayOf S v r) (commits : List (Bytes × Bytes)) (refs : Refs) (blobs : List Bytes) (b : IsBaseIn S commits refs blobs) where
  abbrev base : Base
  base = base_in S commits refs blobs

  there : (n : Bytes) → is_some (tree_of base r n) ≡ true → has CommitKind S n ≡ true
  there n e =
      by (value_at n (map named_tree r.commits)) refl (sym (ap is_some (value-append n (map named_tree r.commits) base.commits)) ∙ e)
    where
      by : (o : Option Flat) → value_at n (map named_tree r.commits) ≡ o → is_some (option_or (value_at n (map named_tree r.commits)) (value_at n base.commits)) ≡ true → has CommitKind S n ≡ true
      by (Some t) q g = made-there S n v.commits r.commits h.commits (ap is_some q)
      by None q g = base-there S n commits b.trees (sym (ap (λ (x : Option Flat). is_some (option_or x (value_at n base.commits))) q) ∙ g)

  -- a line's commit
  pub known-there : (c : CommitRef) (n : Bytes) → known base r c ≡ Ok n → has CommitKind S n ≡ true
  known-there c n e = by (target_name base r c.target) e
    where
      must_hold : (m : Bytes) (t : Bool) → is_some (tree_of base r m) ≡ t → (must (Unresolved c.at) t >>= λ _. Ok m) ≡ Ok n → has CommitKind S n ≡ true
      must_hold m true q g = let same : m ≡ n = cc in subst (λ (x : Bytes). has CommitKind S x ≡ true) same (there m q)
      must_hold m false q g = absurd cc

      by : (o : Option Bytes) → (or_refuse (Unresolved c.at) o >>= λ m. must (Unresolved c.at) (is_some (tree_of base r m)) >>= λ _. Ok m) ≡ Ok n → has CommitKind S n ≡ true
      by None g = absurd cc
      by (Some m) g = must_hold m (is_some (tree_of base r m)) refl g

  pub said-there : (from : Option CommitRef) (o : Option Bytes) → said base r from ≡ Ok o → IfSome o (λ n. has CommitKind S n ≡ true)
  said-there None o e = let q : None ≡ o = cc in subst (λ (x : Option Bytes). IfSome x (λ n. has CommitKind S n ≡ true)) q tt
  said-there (Some c) o e = by (known base r c) refl e
    where
      by : (x : Result Bytes StreamFault) → known base r c ≡ x → (x >>= λ n. Ok (Some n)) ≡ Ok o → IfSome o (λ n. has CommitKind S n ≡ true)
      by (Err f) q g = absurd cc
      by (Ok n) q g = let same : Some n ≡ o = cc in subst (λ (y : Option Bytes). IfSome y (λ m. has CommitKind S m ≡ true)) same (known-there c n q)

  each-found : (n : Bytes) (hs : Refs) → Each (λ e. has CommitKind S e.1 ≡ true) hs → IfSome (Rattle.std.specs.FinMap.find Rattle.git_objects.specs.Refs.bytes_cmp n hs) (λ c. has CommitKind S c ≡ true)
  each-found n [] g = tt
  each-found n (e ∷ hs) g = elim (Rattle.std.specs.Ordering.eq_by_cmp Rattle.git_objects.specs.Refs.bytes_cmp n e.0) as (λ t. IfSome (cond t (Some e.1) (Rattle.std.specs.FinMap.find Rattle.git_objects.specs.Refs.bytes_cmp n hs)) (λ c. has CommitKind S c ≡ true)) [ true ↦ g.0 | false ↦ each-found n hs g.1 ]

  branch-there : (n : Bytes) → IfSome (branch r n) (λ c. has CommitKind S c ≡ true)
  branch-there n = subst (λ (o : Option Bytes). IfSome o (λ c. has CommitKind S c ≡ true)) (branch-is S v r h n) (each-found n v.branches h.held)

  pub first-there : (head : CommitHead) (o : Option Bytes) → first_parent base r head ≡ Ok o → IfSome o (λ n. has CommitKind S n ≡ true)
  first-there head o e = by (said base r head.from) refl e
    where
      or_there : (x y : Option Bytes) → IfSome x (λ n. has CommitKind S n ≡ true) → IfSome y (λ n. has CommitKind S n ≡ true) → IfSome (option_or x y) (λ n. has CommitKind S n ≡ true)
      or_there None y p q = q
      or_there (Some x) y p q = p

      by : (x : Result (Option Bytes) StreamFault) → said base r head.from ≡ x → (x >>= λ n. Ok (option_or n (branch r head.refname))) ≡ Ok o → IfSome o (λ n. has CommitKind S n ≡ true)
      by (Err f) q g = absurd cc
      by (Ok n) q g =
          let same : option_or n (branch r head.refname) ≡ o = cc in
          subst (λ (y : Option Bytes). IfSome y (λ m. has CommitKind S m ≡ true)) same (or_there n (branch r head.refname) (said-there head.from n q) (branch-there head.refname))

  -- parents
  pub record AreParents (ps : List Bytes) : Type 0 where
    pub held : Each (λ n. has CommitKind S n ≡ true) ps
    pub few : length ps ≤ PARENTS

  each-push : (ps : List Bytes) (n : Bytes) → Each (λ m. has CommitKind S m ≡ true) ps → has CommitKind S n ≡ true → Each (λ m. has CommitKind S m ≡ true) (ps ++ n ∷ [])
  each-push [] n g k = (k, tt)
  each-push (p ∷ ps) n g k = (g.0, each-push ps n g.1 k)

  pub merges-there : (ms : List CommitRef) (ps qs : List Bytes) → AreParents ps → with_merges base r ps ms ≡ Ok qs → AreParents qs
  merges-there [] ps qs p e = let same : ps ≡ qs = cc in subst AreParents same p
  merges-there (m ∷ ms) ps qs p e = by (known base r m) refl (λ more. merges-there ms more qs) e
    where
      room : (n : Bytes) (t : Bool) → nat_lt (length ps) PARENTS ≡ t → has CommitKind S n ≡ true → ((more : List Bytes) → AreParents more → with_merges base r more ms ≡ Ok qs → AreParents qs)
          → ((cond t (Ok (ps ++ n ∷ [])) (Err (Limit m.at Parents))) >>= λ more. with_merges base r more ms) ≡ Ok qs → AreParents qs
      room n false q k next g = absurd cc
      room n true q k next g = next (ps ++ n ∷ []) (record { held = each-push ps n p.held k; few = grind (arith, nat_tests, length-append ps (n ∷ [])) }) g

      by : (x : Result Bytes StreamFault) → known base r m ≡ x → ((more : List Bytes) → AreParents more → with_merges base r more ms ≡ Ok qs → AreParents qs)
          → (x >>= λ n. one_more m.at ps n >>= λ more. with_merges base r more ms) ≡ Ok qs → AreParents qs
      by (Err f) q next g = absurd cc
      by (Ok n) q next g = room n (nat_lt (length ps) PARENTS) refl (known-there m n q) next g

  pub first-parents : (o : Option Bytes) → IfSome o (λ n. has CommitKind S n ≡ true) → AreParents (option_to_list o)
  first-parents None g = record { held = tt; few = omega arith }
  first-parents (Some n) g = record { held = (g, tt); few = omega arith }
