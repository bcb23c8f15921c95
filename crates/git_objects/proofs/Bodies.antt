-- A tree's body, entry by entry in path order.
use Rattle.std.proofs.Common.{◌≡◌, ℕ, zero, suc, ◌≤◌, ◌<◌, true, false, cond, not, ◌&&◌, T, [], ◌∷◌, ◌++◌, map, take, drop, length, refl, sym, ap, subst, ◌∙◌, Some, None, arith, append-nil}
use Rattle.std.specs.Prelude.{max}
use Rattle.std.specs.List.{list_all, cons_option, flat_map}
use Rattle.std.proofs.lemmas.List.{take-append-drop}
use Rattle.git_objects.specs.Paths.{Bytes, Path, same_bytes, same_path, is_path, comparable}
use Rattle.git_objects.specs.Trees.{Leaf, Flat, at, IsTree, rest_below, moved, under}
use Rattle.git_objects.specs.Names.{tops, name, line, line_of, leaf_mode, leaf_name, body_within, depth, body}
use Rattle.git_objects.specs.declared.kind.Kind.TheVariants.{Tree}
use Rattle.git_objects.specs.declared.mode.Mode.TheVariants.{Dir}
use Rattle.git_objects.proofs.Basics.{both, first, second, same_bytes-self}
use Rattle.git_objects.proofs.Levels.{AllBegin, NoneBegins, run, head_run, run_rest, run_none, all_run, alone, same_later, list_all-drop, begins, entry_at, body_run, at_none, at_front, under_none}
use Rattle.git_objects.proofs.Under.{under-append, under-tree}

-- ---- the fuel

max-le : (a b n : ℕ) → a ≤ n → b ≤ n → max a b ≤ n
max-le a b n h g = omega arith

left-le : (a b n : ℕ) → max a b ≤ n → a ≤ n
left-le a b n h = omega arith

right-le : (a b n : ℕ) → max a b ≤ n → b ≤ n
right-le a b n h = omega arith

pred-le : (a n : ℕ) → suc a ≤ suc n → a ≤ n
pred-le a n h = omega arith

pub depth-under : (n : ℕ) (t : Flat) (c : Bytes) → depth t ≤ suc n → depth (under t (c ∷ [])) ≤ n
depth-under n [] c h = omega arith
depth-under n (([], x) ∷ t) c h = depth-under n t c (right-le 0 (depth t) (suc n) h)
depth-under n ((d ∷ [], x) ∷ t) c h =
    let rest = depth-under n t c (right-le 1 (depth t) (suc n) h) in
    elim (same_bytes c d) as (λ b. depth (cons_option (moved (cond b None None) x) (under t (c ∷ []))) ≤ n) [ true ↦ rest | false ↦ rest ]
depth-under n ((d ∷ f ∷ q, x) ∷ t) c h =
    let rest = depth-under n t c (right-le (suc (suc (length q))) (depth t) (suc n) h) in
    elim (same_bytes c d) as (λ b. depth (cons_option (moved (cond b (Some (f ∷ q)) None) x) (under t (c ∷ []))) ≤ n) [
      | true ↦ max-le (suc (length q)) (depth (under t (c ∷ []))) n (pred-le _ n (left-le (suc (suc (length q))) (depth t) (suc n) h)) rest
      | false ↦ rest
    ]

no_tops : (t : Flat) → depth t ≤ 0 → tops t ≡ []
no_tops [] h = refl
no_tops (([], x) ∷ t) h = no_tops t (right-le 0 (depth t) 0 h)
no_tops ((c ∷ q, x) ∷ t) h = absurd (none (left-le (suc (length q)) (depth t) 0 h))
  where
    none : suc (length q) ≤ 0 → ⊥
    none h = omega arith

-- more fuel than the depth changes nothing
pub enough : (n m : ℕ) (t : Flat) → depth t ≤ n → depth t ≤ m → body_within n t ≡ body_within m t
enough zero zero t h g = refl
enough zero (suc m) t h g = sym (ap (flat_map (entry_at m t)) (no_tops t h))
enough (suc n) zero t h g = ap (flat_map (entry_at n t)) (no_tops t g)
enough (suc n) (suc m) t h g =
    λ i. flat_map (λ c. line_of c (at t (c ∷ [])) (name Tree (enough n m (under t (c ∷ [])) (depth-under n t c h) (depth-under m t c g) i))) (tops t)

pub body-within : (n : ℕ) (t : Flat) → depth t ≤ n → body_within n t ≡ body t
unfolding body
body-within n t h = enough n (depth t) t h (omega arith)

pub depth-drop : (k : ℕ) (t : Flat) → depth (drop k t) ≤ depth t
depth-drop zero t = omega arith
depth-drop (suc k) [] = omega arith
depth-drop (suc k) (e ∷ t) = le_right (length e.0) (depth t) (depth (drop k t)) (depth-drop k t)
  where
    le_right : (a b c : ℕ) → c ≤ b → c ≤ max a b
    le_right a b c h = omega arith

-- ---- trees within a tree

pub tail-tree : (e : Path × Leaf) (t : Flat) → IsTree (e ∷ t) → IsTree t
tail-tree e t h = record { sorted = second _ _ h.sorted; paths = second _ _ h.paths; leaves = second _ _ h.leaves; apart = second _ _ h.apart }

pub drop-tree : (k : ℕ) (t : Flat) → IsTree t → IsTree (drop k t)
drop-tree zero t h = h
drop-tree (suc k) [] h = h
drop-tree (suc k) (e ∷ t) h = drop-tree k t (tail-tree e t h)

-- the entries without the first component
abbrev pub tails : Flat → Flat
tails t = map (λ e. (drop 1 e.0, e.1)) t

under_tails : (c : Bytes) (g : Flat) → AllBegin c g → at g (c ∷ []) ≡ None → under g (c ∷ []) ≡ tails g
under_tails c [] h e = refl
under_tails c (([], x) ∷ g) h e = absurd h
under_tails c ((d ∷ q, x) ∷ g) h e =
    elim (same_bytes c d) as (λ b. T (b && list_all (λ e. begins c e.0) g) → cond (b && same_path [] q) (Some x) (at g (c ∷ [])) ≡ None → cons_option (moved (cond b (rest_below [] q) None) x) (under g (c ∷ [])) ≡ (q, x) ∷ tails g) [
      | true ↦ λ k i. by q (λ j. under_tails c g k j) i
      | false ↦ λ k i. absurd k
    ] h e
  where
    by : (q : Path) → (at g (c ∷ []) ≡ None → under g (c ∷ []) ≡ tails g) → cond (same_path [] q) (Some x) (at g (c ∷ [])) ≡ None → cons_option (moved (rest_below [] q) x) (under g (c ∷ [])) ≡ (q, x) ∷ tails g
    by [] k i = cc
    by (f ∷ q) k i = ap (λ (l : Flat). (f ∷ q, x) ∷ l) (k i)

no_file : (c f : Bytes) (q : Path) (t : Flat) → T (list_all (λ e. not (comparable (c ∷ f ∷ q) e.0)) t) → at t (c ∷ []) ≡ None
no_file c f q [] h = refl
no_file c f q (([], x) ∷ t) h = no_file c f q t (second (not (comparable (c ∷ f ∷ q) [])) _ h)
no_file c f q ((d ∷ [], x) ∷ t) h =
    let rest = no_file c f q t (second (not (comparable (c ∷ f ∷ q) (d ∷ []))) _ h) in
    elim (same_bytes c d) as (λ b. same_bytes c d ≡ b → cond (b && true) (Some x) (at t (c ∷ [])) ≡ None) [
      | true ↦ λ k. absurd (same_later c d (f ∷ q) k (first (not (comparable (c ∷ f ∷ q) (d ∷ []))) _ h))
      | false ↦ λ k. rest
    ] refl
no_file c f q ((d ∷ v ∷ r, x) ∷ t) h =
    let rest = no_file c f q t (second (not (comparable (c ∷ f ∷ q) (d ∷ v ∷ r))) _ h) in
    elim (same_bytes c d) as (λ b. cond (b && false) (Some x) (at t (c ∷ [])) ≡ None) [ true ↦ rest | false ↦ rest ]

-- ---- the first entry of a body

-- a file in front
pub file_level : (c : Bytes) (x : Leaf) (t : Flat) → IsTree ((c ∷ [], x) ∷ t) → body ((c ∷ [], x) ∷ t) ≡ line (leaf_mode x) c (leaf_name x) ++ body t
file_level c x t h =
    let n = depth ((c ∷ [], x) ∷ t) in
    let fits : depth ((c ∷ [], x) ∷ t) ≤ suc n = omega arith in
    sym (body-within (suc n) ((c ∷ [], x) ∷ t) fits)
    ∙ body_run n c (c ∷ [], x) [] t (both (same_bytes c c) _ (subst T (sym (same_bytes-self c)) tt) tt) (alone c t (first _ _ h.apart)) (second (is_path (c ∷ [])) _ h.paths)
    ∙ (λ i. line_of c (ap (λ b. cond (b && true) (Some x) (at t (c ∷ []))) (same_bytes-self c) i) (name Tree (body_within n (under ((c ∷ [], x) ∷ t) (c ∷ [])))) ++ body-within (suc n) t (rest_fits (depth t)) i)
  where
    rest_fits : (d : ℕ) → d ≤ suc (max 1 d)
    rest_fits d = omega arith

-- the run of a file is the file alone
pub file_run : (c : Bytes) (x : Leaf) (t : Flat) → IsTree ((c ∷ [], x) ∷ t) → drop (run c ((c ∷ [], x) ∷ t)) ((c ∷ [], x) ∷ t) ≡ t
file_run c x t h = ap (λ k. drop k ((c ∷ [], x) ∷ t)) (head_run c [] x t ∙ ap suc (run_none c t (alone c t (first _ _ h.apart))))

-- a directory in front: the paths that begin with its component stand together
module _ (c f : Bytes) (q : Path) (x : Leaf) (t : Flat) (h : IsTree ((c ∷ f ∷ q, x) ∷ t)) where
  abbrev all : Flat
  all = (c ∷ f ∷ q, x) ∷ t

  abbrev inside : Flat
  inside = take (run c all) all

  abbrev outside : Flat
  outside = drop (run c all) all

  is_run : NoneBegins c outside
  is_run = run_rest c (f ∷ q) x t h

  no_leaf : at all (c ∷ []) ≡ None
  no_leaf = elim (same_bytes c c) as (λ b. cond (b && false) (Some x) (at t (c ∷ [])) ≡ None) [ true ↦ rest | false ↦ rest ]
    where
      rest : at t (c ∷ []) ≡ None
      rest = no_file c f q t (first _ _ h.apart)

  no_leaf_inside : at inside (c ∷ []) ≡ None
  no_leaf_inside =
      sym (at_front (c ∷ []) inside outside (at_none c [] outside is_run))
      ∙ ap (λ (a : Flat). at a (c ∷ [])) (take-append-drop (run c all) all)
      ∙ no_leaf

  pub below_run : under all (c ∷ []) ≡ tails inside
  below_run =
      ap (λ (a : Flat). under a (c ∷ [])) (sym (take-append-drop (run c all) all))
      ∙ under-append inside outside (c ∷ [])
      ∙ ap (λ (a : Flat). under inside (c ∷ []) ++ a) (under_none c outside is_run)
      ∙ append-nil (under inside (c ∷ []))
      ∙ under_tails c inside (all_run (λ e. begins c e.0) all) no_leaf_inside

  pub dir_tree : IsTree (tails inside)
  dir_tree = subst IsTree below_run (under-tree all (c ∷ []) h)

  pub dir_depth : depth (tails inside) < depth all
  dir_depth = less (depth all) (depth (tails inside)) some (λ n g. subst (λ (a : Flat). depth a ≤ n) below_run (depth-under n all c g))
    where
      some : 0 < depth all
      some = omega arith

      less : (a b : ℕ) → 0 < a → ((n : ℕ) → a ≤ suc n → b ≤ n) → b < a
      less zero b h g = absurd (omega arith)
      less (suc n) b h g = let k : b ≤ n = g n (omega arith) in omega arith

  outside_is : drop (run c t) t ≡ outside
  outside_is = ap (λ k. drop k all) (sym (head_run c (f ∷ q) x t))

  run_within : (n : ℕ) → body_within (suc n) all ≡ entry_at n all c ++ body_within (suc n) outside
  run_within n =
      subst (λ (a : Flat). body_within (suc n) a ≡ entry_at n a c ++ body_within (suc n) outside) (ap (λ (a : Flat). (c ∷ f ∷ q, x) ∷ a) (take-append-drop (run c t) t))
      (subst (λ (s : Flat). body_within (suc n) (((c ∷ f ∷ q, x) ∷ take (run c t) t) ++ drop (run c t) t) ≡ entry_at n (((c ∷ f ∷ q, x) ∷ take (run c t) t) ++ drop (run c t) t) c ++ body_within (suc n) s) outside_is
      (body_run n c (c ∷ f ∷ q, x) (take (run c t) t) (drop (run c t) t)
      (both (same_bytes c c) _ (subst T (sym (same_bytes-self c)) tt) (all_run (λ e. begins c e.0) t))
      (subst (NoneBegins c) (sym outside_is) is_run)
      (list_all-drop (λ e. is_path e.0) (run c t) t (second (is_path (c ∷ f ∷ q)) _ h.paths))))

  pub dir_level : body all ≡ line Dir c (name Tree (body (tails inside))) ++ body outside
  dir_level =
      let n = depth all in
      sym (body-within (suc n) all (omega arith))
      ∙ run_within n
      ∙ (λ i. line_of c (no_leaf i) (name Tree (body_within n (below_run i))) ++ body_within (suc n) outside)
      ∙ (λ i. line Dir c (name Tree (body-within n (tails inside) (weaker _ _ dir_depth) i)) ++ body-within (suc n) outside (later (depth outside) (depth all) (depth-drop (run c all) all)) i)
    where
      weaker : (a b : ℕ) → a < b → a ≤ b
      weaker a b h = omega arith

      later : (a b : ℕ) → a ≤ b → a ≤ suc b
      later a b h = omega arith
