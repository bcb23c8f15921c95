-- The test that tells the first fault is exact.
use Rattle.std.specs.Prelude.{◌≡◌, refl, ℕ, ◌+◌, ◌<◌, suc, zero, Bool, true, false, cond, List, [], ◌∷◌, ◌++◌, Option, Some, None, Result, Err}
use Rattle.std.specs.Option.{option_map, option_or}
use Rattle.std.proofs.Common.{ap, sym, subst, arith, inl, inr, true≢false}
use Rattle.std.proofs.lemmas.Bool.{and_parts}
use Rattle.std.proofs.lemmas.Option.{none-some, same_Some}
use Rattle.filter_text.specs.Filters.{Filter, Filters, nop, sub, onto, dir, file, exclude, join, chain, workspace, no_more, more, has_paths, have_paths}
use Rattle.filter_routes.specs.Faults.{Piece, IsBefore, IsNotKeeping, IsOverlap, PairAt, keeps, member, nodes, nodes_all, walk, FirstNotKeeping}
use Rattle.filter_routes.specs.FaultTests.{FaultTestLaw, branches_of, fault, first_clash, first_not_keeping, first_overlap, first_pair, pair_in}
use Rattle.filter_routes.specs.Searching.{FirstPair, NoPair, NoPairAt}
use Rattle.filter_routes.specs.Soundness.{Clash, IsSound}
use Rattle.filter_routes.specs.SoundTests.{entries, is_clash}
use Rattle.filter_routes.specs.declared.fault.RouteFault.{RouteFault}
use Rattle.filter_routes.specs.declared.fault.RouteFault.TheVariants.{NotKeeping, Overlap, OutOfMemory}
use Rattle.filter_routes.proofs.Finding.{IsClear, found-here, found-more, inside-clear, list-clear, no-pair-more, no-pair-none, other-clear}
use Rattle.filter_routes.proofs.ListLaws.{clash-seen, clash-told}
use Rattle.filter_routes.proofs.SoundLemmas.{entries-list}
use Rattle.filter_routes.proofs.Sounds.{AllKeep, fault-law, refusal-told, sound-from}
use Rattle.filter_routes.proofs.Walking.{error_of, first-told}

-- ---- pieces that may not stand where they do

first-at : (b : Bool) (n : ℕ) (o : Option ℕ) (r : Result ℕ ℕ) → o ≡ error_of r → cond b o (Some n) ≡ error_of (cond b r (Err n))
first-at true n o r e = e
first-at false n o r e = refl

first-walk : (n : ℕ) (vs : List Piece) → first_not_keeping n vs ≡ error_of (walk n vs)
first-walk n [] = refl
first-walk n (v ∷ vs) = first-at (keeps v) n (first_not_keeping (n + 1) vs) (walk (n + 1) vs) (first-walk (n + 1) vs)

keeping-told : (f : Filter) → FirstNotKeeping f (first_not_keeping 0 (nodes false f))
keeping-told f = subst (FirstNotKeeping f) (sym (first-walk 0 (nodes false f))) (first-told f (walk 0 (nodes false f)) refl)

-- ---- the branches of each piece have paths

abbrev HasPaths : Piece → Type 0
HasPaths v = have_paths (branches_of v.1) ≡ true

abbrev AllPaths : List Piece → Type 0
AllPaths [] = Unit
AllPaths (v ∷ vs) = HasPaths v × AllPaths vs

paths-app : (xs ys : List Piece) → AllPaths xs → AllPaths ys → AllPaths (xs ++ ys)
paths-app [] ys h k = k
paths-app (x ∷ xs) ys h k = (h.0, paths-app xs ys h.1 k)

mutual
  nodes-paths : (i : Bool) (f : Filter) → has_paths f ≡ true → AllPaths (nodes i f)
  nodes-paths i nop h = (refl, tt)
  nodes-paths i (sub a) h = (refl, tt)
  nodes-paths i (onto a) h = (refl, tt)
  nodes-paths i (dir a) h = (refl, tt)
  nodes-paths i (file a) h = (refl, tt)
  nodes-paths i (exclude f) h = (refl, nodes-paths true f h)
  nodes-paths i (join fs) h = (h, nodes-all-paths i fs h)
  nodes-paths i (chain fs) h = nodes-all-paths i fs h
  nodes-paths i (workspace a) h = (refl, tt)

  nodes-all-paths : (i : Bool) (fs : Filters) → have_paths fs ≡ true → AllPaths (nodes_all i fs)
  nodes-all-paths i no_more h = tt
  nodes-all-paths i (more f fs) h =
      let w : (has_paths f ≡ true) × (have_paths fs ≡ true) = and_parts (has_paths f) (have_paths fs) h in
      paths-app (nodes i f) (nodes_all i fs) (nodes-paths i f w.0) (nodes-all-paths i fs w.1)

-- ---- the first branch that clashes with a filter

-- of branches numbered from b
record IsFirstClash (f : Filter) (b : ℕ) (gs : Filters) (m : ℕ) : Type 0 where
  pub place : ℕ
  pub branch : Filter
  pub is_place : b + place ≡ m
  pub is_branch : member gs place ≡ Some branch
  pub clash : Clash f branch
  pub before : (d : ℕ) (h : Filter) → d < place → member gs d ≡ Some h → Clash f h → ⊥

abbrev ClashTold : Filter → ℕ → Filters → Option ℕ → Type 0
ClashTold f b gs None = (d : ℕ) (h : Filter) → member gs d ≡ Some h → Clash f h → ⊥
ClashTold f b gs (Some m) = IsFirstClash f b gs m

none-more : (f g : Filter) (gs : Filters) → (Clash f g → ⊥) → ((d : ℕ) (h : Filter) → member gs d ≡ Some h → Clash f h → ⊥)
    → (d : ℕ) (h : Filter) → member (more g gs) d ≡ Some h → Clash f h → ⊥
none-more f g gs n k zero h e c = n (subst (Clash f) (sym (same_Some g h e)) c)
none-more f g gs n k (suc d) h e c = k d h e c

before-more : (f g : Filter) (gs : Filters) (p : ℕ) → (Clash f g → ⊥) → ((d : ℕ) (h : Filter) → d < p → member gs d ≡ Some h → Clash f h → ⊥)
    → (d : ℕ) (h : Filter) → d < suc p → member (more g gs) d ≡ Some h → Clash f h → ⊥
before-more f g gs p n k zero h l e c = n (subst (Clash f) (sym (same_Some g h e)) c)
before-more f g gs p n k (suc d) h l e c = k d h (omega (arith, l)) e c

nothing-before : (f : Filter) (gs : Filters) (d : ℕ) (h : Filter) → d < 0 → member gs d ≡ Some h → Clash f h → ⊥
nothing-before f gs d h l e c = omega (arith, l)

told-later : (f g : Filter) (b : ℕ) (gs : Filters) (o : Option ℕ) → (Clash f g → ⊥) → ClashTold f (b + 1) gs o → ClashTold f b (more g gs) o
told-later f g b gs None n t = none-more f g gs n t
told-later f g b gs (Some m) n t =
    record {
      place = suc t.place;
      branch = t.branch;
      is_place = omega (arith, t.is_place);
      is_branch = t.is_branch;
      clash = t.clash;
      before = before-more f g gs t.place n t.before;
    }

told-here : (f g : Filter) (b : ℕ) (gs : Filters) → Clash f g → ClashTold f b (more g gs) (Some b)
told-here f g b gs c =
    record { place = 0; branch = g; is_place = omega arith; is_branch = refl; clash = c; before = nothing-before f (more g gs) }

clash-by : (f g : Filter) (b : ℕ) (gs : Filters) (x : Bool) (o : Option ℕ) → (x ≡ true → Clash f g) → (Clash f g → x ≡ true)
    → ClashTold f (b + 1) gs o → ClashTold f b (more g gs) (cond x (Some b) o)
clash-by f g b gs true o told seen t = told-here f g b gs (told refl)
clash-by f g b gs false o told seen t = told-later f g b gs o (λ c. true≢false (sym (seen c))) t

clash-told-of : (f : Filter) (b : ℕ) (gs : Filters) → has_paths f ≡ true → have_paths gs ≡ true → ClashTold f b gs (first_clash f b gs)
clash-told-of f b no_more v w = λ d h e c. none-some h e
clash-told-of f b (more g gs) v w =
    let x : (has_paths g ≡ true) × (have_paths gs ≡ true) = and_parts (has_paths g) (have_paths gs) w in
    clash-by f g b gs (is_clash f g) (first_clash f (b + 1) gs)
    (clash-told f g (entries f) (entries g) (entries-list f v) (entries-list g x.0))
    (clash-seen f g (entries f) (entries g) (entries-list f v) (entries-list g x.0))
    (clash-told-of f (b + 1) gs v x.1)

-- ---- the smallest pair

-- of branches numbered from a
record IsFirstPair (a : ℕ) (fs : Filters) (m n : ℕ) : Type 0 where
  pub left : ℕ
  pub right : ℕ
  pub is_left : a + left ≡ m
  pub is_right : a + right ≡ n
  pub pair : PairAt fs left right
  pub before : (c d : ℕ) → IsBefore c d left right → PairAt fs c d → ⊥

abbrev PairTold : ℕ → Filters → Option (ℕ × ℕ) → Type 0
PairTold a fs None = NoPairAt fs
PairTold a fs (Some p) = IsFirstPair a fs p.0 p.1

-- a pair among the branches behind the first
pair-behind : (f : Filter) (fs : Filters) (c d : ℕ) → PairAt (more f fs) (suc c) (suc d) → PairAt fs c d
pair-behind f fs c d p = record { f = p.f; g = p.g; ordered = omega (arith, p.ordered); is_f = p.is_f; is_g = p.is_g; clash = p.clash }

pair-ahead : (f : Filter) (fs : Filters) (c d : ℕ) → PairAt fs c d → PairAt (more f fs) (suc c) (suc d)
pair-ahead f fs c d p = record { f = p.f; g = p.g; ordered = omega (arith, p.ordered); is_f = p.is_f; is_g = p.is_g; clash = p.clash }

-- no pair begins with the first branch
abbrev NoneWithFirst : Filter → Filters → Type 0
NoneWithFirst f fs = (d : ℕ) (h : Filter) → member fs d ≡ Some h → Clash f h → ⊥

first-of-pair : (f : Filter) (fs : Filters) (d : ℕ) (p : PairAt (more f fs) 0 (suc d)) → Clash f p.g
first-of-pair f fs d p = subst (λ x. Clash x p.g) (sym (same_Some f p.f p.is_f)) p.clash

no-pair-with : (f : Filter) (fs : Filters) → NoneWithFirst f fs → NoPairAt fs → NoPairAt (more f fs)
no-pair-with f fs n h zero zero p = omega (arith, p.ordered)
no-pair-with f fs n h zero (suc d) p = n d p.g p.is_g (first-of-pair f fs d p)
no-pair-with f fs n h (suc c) zero p = omega (arith, p.ordered)
no-pair-with f fs n h (suc c) (suc d) p = h c d (pair-behind f fs c d p)

before-later : (f : Filter) (fs : Filters) (i j : ℕ) → NoneWithFirst f fs → ((c d : ℕ) → IsBefore c d i j → PairAt fs c d → ⊥)
    → (c d : ℕ) → IsBefore c d (suc i) (suc j) → PairAt (more f fs) c d → ⊥
before-later f fs i j n h zero zero l p = omega (arith, p.ordered)
before-later f fs i j n h zero (suc d) l p = n d p.g p.is_g (first-of-pair f fs d p)
before-later f fs i j n h (suc c) zero l p = omega (arith, p.ordered)
before-later f fs i j n h (suc c) (suc d) (inl l) p = h c d (inl (omega (arith, l))) (pair-behind f fs c d p)
before-later f fs i j n h (suc c) (suc d) (inr l) p = h c d (inr (omega (arith, l.0), omega (arith, l.1))) (pair-behind f fs c d p)

pair-later : (a : ℕ) (f : Filter) (fs : Filters) (o : Option (ℕ × ℕ)) → NoneWithFirst f fs → PairTold (a + 1) fs o → PairTold a (more f fs) o
pair-later a f fs None n t = no-pair-with f fs n t
pair-later a f fs (Some p) n t =
    record {
      left = suc t.left;
      right = suc t.right;
      is_left = omega (arith, t.is_left);
      is_right = omega (arith, t.is_right);
      pair = pair-ahead f fs t.left t.right t.pair;
      before = before-later f fs t.left t.right n t.before;
    }

before-here : (f : Filter) (fs : Filters) (k : ℕ) → ((d : ℕ) (h : Filter) → d < k → member fs d ≡ Some h → Clash f h → ⊥)
    → (c d : ℕ) → IsBefore c d 0 (suc k) → PairAt (more f fs) c d → ⊥
before-here f fs k n c d (inl l) p = omega (arith, l)
before-here f fs k n zero zero (inr l) p = omega (arith, p.ordered)
before-here f fs k n zero (suc d) (inr l) p = n d p.g (omega (arith, l.1)) p.is_g (first-of-pair f fs d p)
before-here f fs k n (suc c) d (inr l) p = omega (arith, l.0)

pair-here : (a : ℕ) (f : Filter) (fs : Filters) (m : ℕ) → IsFirstClash f (a + 1) fs m → IsFirstPair a (more f fs) a m
pair-here a f fs m t =
    record {
      left = 0;
      right = suc t.place;
      is_left = omega arith;
      is_right = omega (arith, t.is_place);
      pair = record { f = f; g = t.branch; ordered = omega arith; is_f = refl; is_g = t.is_branch; clash = t.clash };
      before = before-here f fs t.place t.before;
    }

pair-by : (a : ℕ) (f : Filter) (fs : Filters) (o : Option ℕ) (later : Option (ℕ × ℕ)) → ClashTold f (a + 1) fs o → PairTold (a + 1) fs later
    → PairTold a (more f fs) (option_or (option_map (λ b. (a, b)) o) later)
pair-by a f fs None later t h = pair-later a f fs later t h
pair-by a f fs (Some m) later t h = pair-here a f fs m t

pair-told : (a : ℕ) (fs : Filters) → have_paths fs ≡ true → PairTold a fs (first_pair a fs)
pair-told a no_more v = λ c d p. none-some p.f p.is_f
pair-told a (more f fs) v =
    let w : (has_paths f ≡ true) × (have_paths fs ≡ true) = and_parts (has_paths f) (have_paths fs) v in
    pair-by a f fs (first_clash f (a + 1) fs) (first_pair (a + 1) fs) (clash-told-of f (a + 1) fs w.0 w.1) (pair-told (a + 1) fs w.1)

-- ---- the first list with a pair

-- what is told of pieces numbered from n
abbrev OverlapTold : ℕ → List Piece → Option RouteFault → Type 0
OverlapTold n vs None = NoPair vs
OverlapTold n vs (Some (NotKeeping m)) = ⊥
OverlapTold n vs (Some (Overlap m a b)) = FirstPair n vs m a b
OverlapTold n vs (Some OutOfMemory) = ⊥

later-told : (n : ℕ) (v : Piece) (vs : List Piece) (o : Option RouteFault) → IsClear v → OverlapTold (n + 1) vs o → OverlapTold n (v ∷ vs) o
later-told n v vs None c t = no-pair-more v vs c t
later-told n v vs (Some (NotKeeping m)) c t = t
later-told n v vs (Some (Overlap m a b)) c t = found-more n m a b v vs c t
later-told n v vs (Some OutOfMemory) c t = t

here-told : (n : ℕ) (fs : Filters) (vs : List Piece) (a b : ℕ) → IsFirstPair 0 fs a b → FirstPair n ((false, join fs) ∷ vs) n a b
here-told n fs vs a b t =
    let e : t.left ≡ a = omega (arith, t.is_left) in
    let g : t.right ≡ b = omega (arith, t.is_right) in
    found-here n a b fs vs (subst (λ x. PairAt fs x b) e (subst (PairAt fs t.left) g t.pair))
    (λ c d l p. t.before c d (subst (λ x. IsBefore c d x t.right) (sym e) (subst (IsBefore c d a) (sym g) l)) p)

list-told : (n : ℕ) (fs : Filters) (vs : List Piece) (o : Option (ℕ × ℕ)) (later : Option RouteFault) → PairTold 0 fs o → OverlapTold (n + 1) vs later
    → OverlapTold n ((false, join fs) ∷ vs) (option_or (option_map (λ p. Overlap n p.0 p.1) o) later)
list-told n fs vs None later t h = later-told n (false, join fs) vs later (list-clear fs t) h
list-told n fs vs (Some p) later t h = here-told n fs vs p.0 p.1 t

piece-told : (n : ℕ) (v : Piece) (vs : List Piece) (later : Option RouteFault) → HasPaths v → OverlapTold (n + 1) vs later
    → OverlapTold n (v ∷ vs) (option_or (option_map (λ p. Overlap n p.0 p.1) (pair_in v)) later)
piece-told n (true, f) vs later h t = later-told n (true, f) vs later (inside-clear f) t
piece-told n (false, nop) vs later h t = later-told n (false, nop) vs later (other-clear nop refl) t
piece-told n (false, sub a) vs later h t = later-told n (false, sub a) vs later (other-clear (sub a) refl) t
piece-told n (false, onto a) vs later h t = later-told n (false, onto a) vs later (other-clear (onto a) refl) t
piece-told n (false, dir a) vs later h t = later-told n (false, dir a) vs later (other-clear (dir a) refl) t
piece-told n (false, file a) vs later h t = later-told n (false, file a) vs later (other-clear (file a) refl) t
piece-told n (false, exclude f) vs later h t = later-told n (false, exclude f) vs later (other-clear (exclude f) refl) t
piece-told n (false, join fs) vs later h t = list-told n fs vs (first_pair 0 fs) later (pair-told 0 fs h) t
piece-told n (false, chain fs) vs later h t = later-told n (false, chain fs) vs later (other-clear (chain fs) refl) t
piece-told n (false, workspace a) vs later h t = later-told n (false, workspace a) vs later (other-clear (workspace a) refl) t

overlap-told : (n : ℕ) (vs : List Piece) → AllPaths vs → OverlapTold n vs (first_overlap n vs)
overlap-told n [] h = no-pair-none
overlap-told n (v ∷ vs) h = piece-told n v vs (first_overlap (n + 1) vs) h.0 (overlap-told (n + 1) vs h.1)

-- ---- the first fault

abbrev FaultTold : Filter → Option RouteFault → Type 0
FaultTold f None = IsSound f
FaultTold f (Some (NotKeeping n)) = IsNotKeeping f n
FaultTold f (Some (Overlap n a b)) = IsOverlap f n a b
FaultTold f (Some OutOfMemory) = ⊥

keeping-by : (f : Filter) (o : Option RouteFault) → AllKeep (nodes false f) → OverlapTold 0 (nodes false f) o → FaultTold f o
keeping-by f None k t = sound-from f k t
keeping-by f (Some (NotKeeping n)) k t = absurd t
keeping-by f (Some (Overlap n a b)) k t = refusal-told f (Overlap n a b) k t
keeping-by f (Some OutOfMemory) k t = t

told-by : (f : Filter) (o : Option ℕ) (later : Option RouteFault) → FirstNotKeeping f o → OverlapTold 0 (nodes false f) later
    → FaultTold f (option_or (option_map NotKeeping o) later)
told-by f None later k t = keeping-by f later k t
told-by f (Some n) later k t = k

fault-told : (f : Filter) → has_paths f ≡ true → FaultTold f (fault f)
unfolding fault
fault-told f h =
    told-by f (first_not_keeping 0 (nodes false f)) (first_overlap 0 (nodes false f)) (keeping-told f) (overlap-told 0 (nodes false f) (nodes-paths false f h))

-- ---- and no other

sound-none : (f : Filter) (o : Option RouteFault) → FaultTold f o → IsSound f → o ≡ None
sound-none f None t s = refl
sound-none f (Some (NotKeeping n)) t s = absurd (fault-law.not_keeping f n t s)
sound-none f (Some (Overlap n a b)) t s = absurd (fault-law.overlap f n a b t s)
sound-none f (Some OutOfMemory) t s = absurd t

piece-some : (f : Filter) (n : ℕ) (o : Option RouteFault) → FaultTold f o → IsNotKeeping f n → o ≡ Some (NotKeeping n)
piece-some f n None t k = absurd (fault-law.not_keeping f n k t)
piece-some f n (Some (NotKeeping m)) t k = ap (λ x. Some (NotKeeping x)) (fault-law.one_piece f m n t k)
piece-some f n (Some (Overlap m a b)) t k = absurd (fault-law.not_both f n m a b k t)
piece-some f n (Some OutOfMemory) t k = absurd t

pair-some : (f : Filter) (n a b : ℕ) (o : Option RouteFault) → FaultTold f o → IsOverlap f n a b → o ≡ Some (Overlap n a b)
pair-some f n a b None t k = absurd (fault-law.overlap f n a b k t)
pair-some f n a b (Some (NotKeeping m)) t k = absurd (fault-law.not_both f m n a b t k)
pair-some f n a b (Some (Overlap m c d)) t k =
    let e : (m ≡ n) × (c ≡ a) × (d ≡ b) = fault-law.one_pair f m n c d a b t k in
    cc
pair-some f n a b (Some OutOfMemory) t k = absurd t

pub fault-test-law : FaultTestLaw
fault-test-law = record {
  sound = λ f h. (λ e. subst (FaultTold f) e (fault-told f h), sound-none f (fault f) (fault-told f h));
  not_keeping = λ f n h. (λ e. subst (FaultTold f) e (fault-told f h), piece-some f n (fault f) (fault-told f h));
  overlap = λ f n a b h. (λ e. subst (FaultTold f) e (fault-told f h), pair-some f n a b (fault f) (fault-told f h));
}
