-- Worked examples.
use Rattle.std.specs.Prelude.{◌≡◌, ℕ, List, [], ◌∷◌, slice_get, Contains, Some, None, refl}
use Rattle.std.proofs.Common.{subst, arith, lit<}
use Rattle.commit_graph.specs.Graphs.{Row, IsGraph, place_of, Reaches, Itself, Through}

abbrev commit : ℕ → List ℕ → Row
commit n parents = record { name = n ∷ []; tree = 99 ∷ []; parents = parents }

-- a root, two commits on it, and their merge
abbrev fork : List Row
fork = commit 10 [] ∷ commit 11 (0 ∷ []) ∷ commit 12 (0 ∷ []) ∷ commit 13 (1 ∷ 2 ∷ []) ∷ []

-- ---- places

pub the_first_is_at_0 : place_of (10 ∷ []) fork ≡ Some 0
the_first_is_at_0 = refl

pub the_merge_is_at_3 : place_of (13 ∷ []) fork ≡ Some 3
the_merge_is_at_3 = refl

pub no_such_name : place_of (14 ∷ []) fork ≡ None
no_such_name = refl

pub a_longer_name_is_another : place_of (10 ∷ 0 ∷ []) fork ≡ None
a_longer_name_is_another = refl

pub nothing_is_in_the_empty_graph : place_of (10 ∷ []) [] ≡ None
nothing_is_in_the_empty_graph = refl

-- ---- graphs

pub no_commit_is_its_own_parent : IsGraph (commit 10 (0 ∷ []) ∷ []) → ⊥
no_commit_is_its_own_parent g = let below = g.placed 0 (commit 10 (0 ∷ [])) refl 0 0 (lit< tt) in absurd (omega (arith, below))

pub no_parent_comes_later : IsGraph (commit 10 (1 ∷ []) ∷ commit 11 [] ∷ []) → ⊥
no_parent_comes_later g = let below = g.placed 0 (commit 10 (1 ∷ [])) refl 0 0 (lit< tt) in absurd (omega (arith, below))

pub no_two_have_one_name : IsGraph (commit 10 [] ∷ commit 10 [] ∷ []) → ⊥
no_two_have_one_name g = let same = g.distinct 0 1 (commit 10 []) (commit 10 []) refl refl refl in absurd (omega (arith, same))

-- ---- reaching

pub a_commit_reaches_itself : Reaches fork 2 2
a_commit_reaches_itself = Itself 2

pub a_merge_reaches_its_first_parent : Reaches fork 3 1
a_merge_reaches_its_first_parent = Through 3 1 1 (commit 13 (1 ∷ 2 ∷ [])) refl (0, lit< tt, refl) (Itself 1)

pub a_merge_reaches_its_second_parent : Reaches fork 3 2
a_merge_reaches_its_second_parent = Through 3 2 2 (commit 13 (1 ∷ 2 ∷ [])) refl (1, lit< tt, refl) (Itself 2)

pub a_merge_reaches_the_root : Reaches fork 3 0
a_merge_reaches_the_root = Through 3 2 0 (commit 13 (1 ∷ 2 ∷ [])) refl (1, lit< tt, refl) (Through 2 0 0 (commit 12 (0 ∷ [])) refl (0, lit< tt, refl) (Itself 0))

-- the one step that a commit takes
step : (rs : List Row) (i j : ℕ) (P : Type 0) → Reaches rs i j → (i ≡ j → P) → ((p : ℕ) (r : Row) → slice_get rs i ≡ Some r → Contains r.parents p → Reaches rs p j → P) → P
step rs _ _ P (Itself i) same far = same refl
step rs _ _ P (Through i p j r e c u) same far = far p r e c u

row_at : (rs : List Row) (i p : ℕ) (r s : Row) → slice_get rs i ≡ Some r → slice_get rs i ≡ Some s → Contains s.parents p → Contains r.parents p
row_at rs i p r s e f c = let same : s ≡ r = cc in subst (λ (t : Row). Contains t.parents p) same c

pub a_root_reaches_no_other : Reaches fork 0 1 → ⊥
a_root_reaches_no_other u = step fork 0 1 ⊥ u (λ e. omega (arith, e)) (λ p r e c v. let d = row_at fork 0 p (commit 10 []) r refl e c in let l = d.1 in omega (arith, l))
