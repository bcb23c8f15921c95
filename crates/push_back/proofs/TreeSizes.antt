-- The first limit that a stored tree passes, by its sizes.
use Rattle.std.proofs.Common.{◌≡◌, ℕ, ◌<◌, true, cond, List, length, Some, None, sym, ap, ◌∙◌, arith, lit<}
use Rattle.std.specs.Prelude.{nat_lt}
use Rattle.std.specs.List.{list_any}
use Rattle.std.proofs.lemmas.Bool.Decides.{nat_tests}
use Rattle.std.proofs.lemmas.Option.{none-some, same_Some}
use Rattle.git_objects.specs.Paths.{Bytes, text}
use Rattle.git_objects.specs.Trees.{Flat}
use Rattle.git_objects.specs.Names.{depth}
use Rattle.git_objects.specs.declared.kind.Kind.TheVariants.{Tree}
use Rattle.git_objects.specs.declared.limits.TheConstants.{TREE_DEPTH, TREE_FILES, TREE_PATH_BYTES}
use Rattle.git_objects.specs.declared.quantity.Quantity.TheVariants.{Files, PathDepth, PathBytes}
use Rattle.object_store.specs.Objects.{Object, has}
use Rattle.object_store.specs.Sizes.{held_number, longest, sizes, stats_of}
use Rattle.object_store.specs.Unfolding.{flat}
use Rattle.object_store.specs.declared.store.TreeStats.{TreeStats}
use Rattle.push_laws.specs.PushVerdicts.{passed}
use Rattle.push_back.specs.Refusals.{passed_by}
use Rattle.push_laws.proofs.Depths.{deeper, longer}

held-lt : (n m : ℕ) → m < 4294967295 → nat_lt m (held_number n) ≡ nat_lt m n
held-lt n m h = grind (arith, nat_tests)

passed-sizes : (t : Flat) → passed_by (sizes t) ≡ passed t
passed-sizes t =
    let files : nat_lt TREE_FILES (held_number (length t)) ≡ nat_lt TREE_FILES (length t) = held-lt (length t) TREE_FILES (lit< tt) in
    let deep : nat_lt TREE_DEPTH (held_number (depth t)) ≡ list_any (λ e. nat_lt TREE_DEPTH (length e.0)) t = held-lt (depth t) TREE_DEPTH (lit< tt) ∙ sym (deeper TREE_DEPTH t) in
    let long : nat_lt TREE_PATH_BYTES (held_number (longest t)) ≡ list_any (λ e. nat_lt TREE_PATH_BYTES (length (text e.0))) t = held-lt (longest t) TREE_PATH_BYTES (lit< tt) ∙ sym (longer TREE_PATH_BYTES t) in
    λ i. cond (files i) (Some Files) (cond (deep i) (Some PathDepth) (cond (long i) (Some PathBytes) None))

module _ (S : List Object) (n : Bytes) (h : has Tree S n ≡ true) where
  there : stats_of S n ≡ Some (sizes (flat S n))
  there = ap (λ b. cond b (Some (sizes (flat S n))) None) h

  pub some-stats : None ≡ stats_of S n → ⊥
  some-stats e = none-some (sizes (flat S n)) (e ∙ there)

  pub passed-stats : (s : TreeStats) → Some s ≡ stats_of S n → passed_by s ≡ passed (flat S n)
  passed-stats s e = ap passed_by (same_Some s (sizes (flat S n)) (e ∙ there)) ∙ passed-sizes (flat S n)
