-- How much of a limit the paths of a stored tree take.
use Rattle.std.proofs.Common.{◌≡◌, ℕ, ◌+◌, ◌≤◌, true, false, cond, ◌&&◌, T, List, [], ◌∷◌, length, max, Some, None, refl, sym, ap, subst, ◌∙◌, arith, length-append}
use Rattle.std.specs.Prelude.{nat_le, nat_lt}
use Rattle.std.specs.List.{list_all}
use Rattle.std.specs.Cmp.{first_so}
use Rattle.std.proofs.lemmas.Bool.Decides.{nat_tests}
use Rattle.git_objects.specs.Paths.{Bytes, Path, is_path, text}
use Rattle.git_objects.specs.Trees.{Flat, rests}
use Rattle.git_objects.specs.Names.{depth}
use Rattle.git_objects.specs.Bodies.{is_name}
use Rattle.git_objects.specs.Entries.{is_dir}
use Rattle.git_objects.specs.declared.kind.Kind.TheVariants.{Tree}
use Rattle.git_objects.proofs.Basics.{first, second}
use Rattle.object_store.specs.Objects.{Object, IsStore, has, has_child}
use Rattle.object_store.specs.Sizes.{held_number, longest, sizes, stats_of}
use Rattle.object_store.specs.Unfolding.{flat}
use Rattle.object_store.specs.declared.store.TreeStats.{TreeStats}
use Rattle.object_store.proofs.Unfolding.{IsFull, flat_good}
use Rattle.path_trees.specs.Standing.{node}
use Rattle.path_trees.specs.declared.found.Found.{Found}
use Rattle.path_trees.proofs.Apart.{rests_full}
use Rattle.stage_nodes.specs.declared.nodes.Content.TheVariants.{Held}
use Rattle.stage_tree.specs.declared.limits.Measure.{Measure}
use Rattle.stage_tree.specs.declared.limits.Measure.TheVariants.{Components, Bytes as ByBytes}
use Rattle.stage_nodes.specs.Leaves.{is_held}
use Rattle.stage_tree.specs.Limits.{cost}
use Rattle.stage_nodes.proofs.OnWay.{dir_mode}
use Rattle.stage_tree.proofs.Fits.{le_true}

pub cost_length : (p : Path) → cost Components p ≡ length p
cost_length [] = refl
cost_length (c ∷ p) = omega (arith, cost_length p)

pub cost_text : (c : Bytes) (p : Path) → cost ByBytes (c ∷ p) ≡ length (text (c ∷ p)) + 1
cost_text c [] = omega arith
cost_text c (d ∷ p) = omega (arith, cost_text d p, length-append c (47 ∷ text (d ∷ p)))

le_max : (a b r : ℕ) → nat_le a r && nat_le b r ≡ nat_le (max a b) r
le_max a b r = grind (arith, nat_tests)

lt_max : (a b r : ℕ) → nat_lt a r && nat_lt b r ≡ nat_lt (max a b) r
lt_max a b r = grind (arith, nat_tests)

le_lt : (a r : ℕ) → nat_le (a + 1) r ≡ nat_lt a r
le_lt a r = grind (arith, nat_tests)

depth_all : (t : Flat) (r : ℕ) → list_all (λ e. nat_le (cost Components e.0) r) t ≡ nat_le (depth t) r
depth_all [] r = sym (le_true 0 r (omega arith))
depth_all (e ∷ t) r = (λ i. nat_le (cost_length e.0 i) r && depth_all t r i) ∙ le_max (length e.0) (depth t) r

last_max : (a r : ℕ) → nat_lt a r && true ≡ nat_lt (max a 0) r
last_max a r = grind (arith, nat_tests)

cost_byte : (p : Path) (r : ℕ) → T (is_path p) → nat_le (cost ByBytes p) r ≡ nat_lt (length (text p)) r
cost_byte [] r h = absurd h
cost_byte (c ∷ p) r h = ap (λ n. nat_le n r) (cost_text c p) ∙ le_lt (length (text (c ∷ p))) r

longest_all : (t : Flat) (r : ℕ) → IsFull t → T (list_all (λ e. is_path e.0) t) → list_all (λ e. nat_le (cost ByBytes e.0) r) t ≡ nat_lt (longest t) r
longest_all [] r f h = absurd f
longest_all (e ∷ []) r f h = ap (λ b. b && true) (cost_byte e.0 r (first (is_path e.0) _ h)) ∙ last_max (length (text e.0)) r
longest_all (e ∷ d ∷ t) r f h = (λ i. cost_byte e.0 r (first (is_path e.0) _ h) i && longest_all (d ∷ t) r tt (second (is_path e.0) _ h) i) ∙ lt_max (length (text e.0)) (longest (d ∷ t)) r

held_le : (n r : ℕ) → r ≤ 4097 → nat_le (held_number n) r ≡ nat_le n r
held_le n r h = grind (arith, nat_tests)

held_lt : (n r : ℕ) → r ≤ 4097 → nat_lt (held_number n) r ≡ nat_lt n r
held_lt n r h = grind (arith, nat_tests)

stats_are : (S : List Object) (n : Bytes) (s : TreeStats) → Some s ≡ stats_of S n → s ≡ sizes (flat S n)
stats_are S n s = elim (has Tree S n) as (λ b. Some s ≡ cond b (Some (sizes (flat S n))) None → s ≡ sizes (flat S n)) [ true ↦ λ h. cc | false ↦ λ h. absurd cc ]

module _ (S : List Object) (store : IsStore S) (f : Found) (d : is_dir f.mode ≡ true) (held : is_held S (Held f) ≡ true) (s : TreeStats) (are : Some s ≡ stats_of S f.name.0) (r : ℕ) (low : r ≤ 4097) where
  rests_are : rests (node S f) ≡ flat S f.name.0
  rests_are = ap (λ (g : Found). rests (node S g)) (dir_mode f d)

  child : has_child S f.mode f.name.0 ≡ true
  child = first_so (has_child S f.mode f.name.0) (is_name f.name.0) held

  tree : has Tree S f.name.0 ≡ true
  tree = first_so (has Tree S f.name.0) _ (ap (λ (g : Found). has_child S g.mode g.name.0) (sym (dir_mode f d)) ∙ child)

  pub depth_fits : (m : Measure) → m ≡ Components → nat_le s.depth r ≡ list_all (λ e. nat_le (cost m e.0) r) (rests (node S f))
  depth_fits m e =
      ap (λ (v : TreeStats). nat_le v.depth r) (stats_are S f.name.0 s are)
      ∙ held_le (depth (flat S f.name.0)) r low
      ∙ sym (depth_all (flat S f.name.0) r)
      ∙ (λ i. list_all (λ v. nat_le (cost (sym e i) v.0) r) (sym rests_are i))

  pub longest_fits : (m : Measure) → m ≡ ByBytes → nat_lt s.longest r ≡ list_all (λ e. nat_le (cost m e.0) r) (rests (node S f))
  longest_fits m e =
      ap (λ (v : TreeStats). nat_lt v.longest r) (stats_are S f.name.0 s are)
      ∙ held_lt (longest (flat S f.name.0)) r low
      ∙ sym (longest_all (flat S f.name.0) r (subst IsFull rests_are (rests_full S store f.mode f.name.0 child)) (flat_good S store f.name.0 tree).tree.paths)
      ∙ (λ i. list_all (λ v. nat_le (cost (sym e i) v.0) r) (sym rests_are i))
