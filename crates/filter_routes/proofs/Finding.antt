-- What the search for the first overlap finds.
use Rattle.std.specs.Prelude.{◌≡◌, refl, ℕ, ◌+◌, ◌<◌, suc, zero, List, [], ◌∷◌, ◌++◌, length, take, slice_get, Option, Some, None, Bool, true, false, Result, Ok, Err, IfOk}
use Rattle.std.specs.Global.{Vec}
use Rattle.std.proofs.Common.{ap, ap₂, ◌∙◌, sym, arith, append_assoc, append-nil, get_or, length-append, subst, true≢false}
use Rattle.std.proofs.lemmas.Option.{none-some, same_Some}
use Rattle.filter_text.specs.Filters.{Filter, Filters, nop, sub, onto, dir, file, exclude, join, chain, workspace, no_more, more, only, append, pieces}
use Rattle.filter_text.specs.Shapes.{shape, shapes}
use Rattle.filter_text.specs.declared.filter.Filter as code
use Rattle.decision_lists.specs.Cells.{any_clash, cells}
use Rattle.decision_lists.specs.Entries.{Entry}
use Rattle.filter_routes.specs.Soundness.{Clash}
use Rattle.filter_routes.specs.FaultTests.{branches_of}
use Rattle.filter_routes.specs.Lists.{IsListOf}
use Rattle.filter_routes.specs.Faults.{Piece, nodes, nodes_all, member, PairAt, IsBefore}
use Rattle.filter_routes.specs.Searching.{AreListsOf, ClashBehind, clash_of, clash_at, FirstClash, NoPairAt, FirstPairOf, NoPair, FirstPair, Refused, Searched}
use Rattle.filter_routes.specs.declared.fault.RouteFault.{RouteFault}
use Rattle.filter_routes.specs.declared.fault.RouteFault.TheVariants.{NotKeeping, Overlap, OutOfMemory}
use Rattle.decision_lists.proofs.Clash.{split}
use Rattle.filter_routes.proofs.ListLaws.{clash-told, clash-seen}
use Rattle.filter_routes.proofs.Walking.{nodes-count}

-- ---- places in two lists of pieces

pub get-front : (xs ys : List Piece) (k : ℕ) (v : Piece) → slice_get xs k ≡ Some v → slice_get (xs ++ ys) k ≡ Some v
get-front [] ys k v e = absurd (none-some v e)
get-front (x ∷ xs) ys zero v e = e
get-front (x ∷ xs) ys (suc k) v e = get-front xs ys k v e

get-before : (xs ys : List Piece) (p k : ℕ) (v w : Piece) → slice_get xs p ≡ Some v → k < p → slice_get (xs ++ ys) k ≡ Some w → slice_get xs k ≡ Some w
get-before [] ys p k v w e l h = absurd (none-some v e)
get-before (x ∷ xs) ys zero k v w e l h = absurd (omega (arith, l))
get-before (x ∷ xs) ys (suc p) zero v w e l h = h
get-before (x ∷ xs) ys (suc p) (suc k) v w e l h = get-before xs ys p k v w e (omega (arith, l)) h

-- ---- pieces without two branches that clash

-- the piece is no list outside of excludes with two branches that clash
abbrev pub IsClear : Piece → Type 0
IsClear v = (fs : Filters) → v ≡ (false, join fs) → NoPairAt fs

pub no-pair-none : NoPair []
no-pair-none k fs e = absurd (none-some (false, join fs) e)

pub no-pair-more : (v : Piece) (vs : List Piece) → IsClear v → NoPair vs → NoPair (v ∷ vs)
no-pair-more v vs c n zero fs e = c fs (same_Some v (false, join fs) e)
no-pair-more v vs c n (suc k) fs e = n k fs e

no-pair-head : (v : Piece) (vs : List Piece) → NoPair (v ∷ vs) → IsClear v
no-pair-head v vs n fs e = n 0 fs (ap Some e)

pub no-pair-app : (xs ys : List Piece) → NoPair xs → NoPair ys → NoPair (xs ++ ys)
no-pair-app [] ys h k = k
no-pair-app (v ∷ xs) ys h k = no-pair-more v (xs ++ ys) (no-pair-head v xs h) (no-pair-app xs ys (λ m. h (suc m)) k)

no-pair-one : (v : Piece) → IsClear v → NoPair (v ∷ [])
no-pair-one v c = no-pair-more v [] c no-pair-none

pub inside-clear : (f : Filter) → IsClear (true, f)
inside-clear f fs e = absurd (true≢false (ap (λ (v : Piece). v.0) e))

abbrev pub is_list : Filter → Bool
is_list nop = false
is_list (sub a) = false
is_list (onto a) = false
is_list (dir a) = false
is_list (file a) = false
is_list (exclude f) = false
is_list (join fs) = true
is_list (chain fs) = false
is_list (workspace a) = false

pub other-clear : (f : Filter) → is_list f ≡ false → IsClear (false, f)
other-clear f h fs e = absurd (true≢false (sym (ap (λ (v : Piece). is_list v.1) e) ∙ h))

-- of fewer than two branches no two clash
pub few-apart : (ms : List code.Filter) → length ms < 2 → NoPairAt (shapes ms)
few-apart [] l a b p = none-some p.g p.is_g
few-apart (m ∷ []) l a zero p = omega (arith, p.ordered)
few-apart (m ∷ []) l a (suc b) p = none-some p.g p.is_g
few-apart (m ∷ k ∷ ms) l a b p = omega (arith, l)

pub list-clear : (fs : Filters) → NoPairAt fs → IsClear (false, join fs)
list-clear fs n gs e = subst NoPairAt (ap (λ (v : Piece). branches_of v.1) e) n

-- inside of an exclude there is none
mutual
  pub inside-none : (f : Filter) → NoPair (nodes true f)
  inside-none nop = no-pair-one (true, nop) (inside-clear nop)
  inside-none (sub a) = no-pair-one (true, sub a) (inside-clear (sub a))
  inside-none (onto a) = no-pair-one (true, onto a) (inside-clear (onto a))
  inside-none (dir a) = no-pair-one (true, dir a) (inside-clear (dir a))
  inside-none (file a) = no-pair-one (true, file a) (inside-clear (file a))
  inside-none (exclude f) = no-pair-more (true, exclude f) (nodes true f) (inside-clear (exclude f)) (inside-none f)
  inside-none (join fs) = no-pair-more (true, join fs) (nodes_all true fs) (inside-clear (join fs)) (inside-none-all fs)
  inside-none (chain fs) = inside-none-all fs
  inside-none (workspace a) = no-pair-one (true, workspace a) (inside-clear (workspace a))

  pub inside-none-all : (fs : Filters) → NoPair (nodes_all true fs)
  inside-none-all no_more = no-pair-none
  inside-none-all (more f fs) = no-pair-app (nodes true f) (nodes_all true fs) (inside-none f) (inside-none-all fs)

-- ---- the first list with two branches that clash

none-before : (vs : List Piece) (k : ℕ) (fs : Filters) → k < 0 → slice_get vs k ≡ Some (false, join fs) → NoPairAt fs
none-before vs k fs l e = absurd (omega (arith, l))

pub found-here : (n a b : ℕ) (fs : Filters) (vs : List Piece) → PairAt fs a b → ((c d : ℕ) → IsBefore c d a b → PairAt fs c d → ⊥)
    → FirstPair n ((false, join fs) ∷ vs) n a b
found-here n a b fs vs p q =
    record {
      place = 0;
      branches = fs;
      is_place = omega arith;
      is_list = refl;
      pair = p;
      first_list = none-before ((false, join fs) ∷ vs);
      first_pair = q;
    }

lists-more : (v : Piece) (vs : List Piece) (p : ℕ) → IsClear v → ((k : ℕ) (fs : Filters) → k < p → slice_get vs k ≡ Some (false, join fs) → NoPairAt fs)
    → (k : ℕ) (fs : Filters) → k < suc p → slice_get (v ∷ vs) k ≡ Some (false, join fs) → NoPairAt fs
lists-more v vs p c h zero fs l e = c fs (same_Some v (false, join fs) e)
lists-more v vs p c h (suc k) fs l e = h k fs (omega (arith, l)) e

pub found-more : (n m a b : ℕ) (v : Piece) (vs : List Piece) → IsClear v → FirstPair (n + 1) vs m a b → FirstPair n (v ∷ vs) m a b
found-more n m a b v vs c t =
    record {
      place = suc t.place;
      branches = t.branches;
      is_place = omega (arith, t.is_place);
      is_list = t.is_list;
      pair = t.pair;
      first_list = lists-more v vs t.place c t.first_list;
      first_pair = t.first_pair;
    }

found-behind : (n m a b : ℕ) (xs ys : List Piece) → NoPair xs → FirstPair (n + length xs) ys m a b → FirstPair n (xs ++ ys) m a b
found-behind n m a b [] ys h t = subst (λ k. FirstPair k ys m a b) (omega arith) t
found-behind n m a b (v ∷ xs) ys h t =
    found-more n m a b v (xs ++ ys) (no-pair-head v xs h)
    (found-behind (n + 1) m a b xs ys (λ k. h (suc k)) (subst (λ k. FirstPair k ys m a b) (omega arith) t))

found-front : (n m a b : ℕ) (xs ys : List Piece) → FirstPair n xs m a b → FirstPair n (xs ++ ys) m a b
found-front n m a b xs ys t =
    record {
      place = t.place;
      branches = t.branches;
      is_place = t.is_place;
      is_list = get-front xs ys t.place (false, join t.branches) t.is_list;
      pair = t.pair;
      first_list = λ k fs l e. t.first_list k fs l (get-before xs ys t.place k (false, join t.branches) (false, join fs) t.is_list l e);
      first_pair = t.first_pair;
    }

-- ---- what a search answers

refused-front : (n : ℕ) (xs ys : List Piece) (r : RouteFault) → Refused n xs r → Refused n (xs ++ ys) r
refused-front n xs ys (NotKeeping k) h = h
refused-front n xs ys (Overlap m a b) h = found-front n m a b xs ys h
refused-front n xs ys OutOfMemory h = tt

refused-behind : (n : ℕ) (xs ys : List Piece) (r : RouteFault) → NoPair xs → Refused (n + length xs) ys r → Refused n (xs ++ ys) r
refused-behind n xs ys (NotKeeping k) c h = h
refused-behind n xs ys (Overlap m a b) c h = found-behind n m a b xs ys c h
refused-behind n xs ys OutOfMemory c h = tt

-- pieces where the search ends at a fault, and others behind them
pub searched-front : (n : ℕ) (xs ys : List Piece) (r : RouteFault) → Searched n xs (Err r) → Searched n (xs ++ ys) (Err r)
searched-front n xs ys r h = refused-front n xs ys r h

-- pieces where no two branches clash, and others behind them
pub searched-app : (n m : ℕ) (xs ys : List Piece) (r : Result ℕ RouteFault) → Searched n xs (Ok m) → Searched m ys r → Searched n (xs ++ ys) r
searched-app n m xs ys (Ok k) h t = (omega (arith, h.0, t.0, length-append xs ys), no-pair-app xs ys h.1 t.1)
searched-app n m xs ys (Err r) h t = refused-behind n xs ys r h.1 (subst (λ k. Refused k ys r) h.0 t)

pub searched-none : (n : ℕ) → Searched n [] (Ok n)
searched-none n = (omega arith, no-pair-none)

leaf-at : (n : ℕ) (f : Filter) → is_list f ≡ false → Searched n ((false, f) ∷ []) (Ok (n + 1))
leaf-at n f h = (omega arith, no-pair-one (false, f) (other-clear f h))

pub searched-nop : (n : ℕ) → Searched n (nodes false nop) (Ok (n + 1))
searched-nop n = leaf-at n nop refl

pub searched-sub : (n : ℕ) (a : _) → Searched n (nodes false (sub a)) (Ok (n + 1))
searched-sub n a = leaf-at n (sub a) refl

pub searched-onto : (n : ℕ) (a : _) → Searched n (nodes false (onto a)) (Ok (n + 1))
searched-onto n a = leaf-at n (onto a) refl

pub searched-dir : (n : ℕ) (a : _) → Searched n (nodes false (dir a)) (Ok (n + 1))
searched-dir n a = leaf-at n (dir a) refl

pub searched-file : (n : ℕ) (a : _) → Searched n (nodes false (file a)) (Ok (n + 1))
searched-file n a = leaf-at n (file a) refl

pub searched-workspace : (n : ℕ) (a : _) → Searched n (nodes false (workspace a)) (Ok (n + 1))
searched-workspace n a = leaf-at n (workspace a) refl

pub searched-exclude : (n m : ℕ) (f : Filter) → m ≡ n + 1 + pieces f → Searched n (nodes false (exclude f)) (Ok m)
searched-exclude n m f e = (
  omega (arith, e, nodes-count true f),
  no-pair-more (false, exclude f) (nodes true f) (other-clear (exclude f) refl) (inside-none f),
)

pub searched-join : (n : ℕ) (fs : Filters) (r : Result ℕ RouteFault) → NoPairAt fs → Searched (n + 1) (nodes_all false fs) r → Searched n (nodes false (join fs)) r
searched-join n fs r h t = searched-app n (n + 1) ((false, join fs) ∷ []) (nodes_all false fs) r (omega arith, no-pair-one (false, join fs) (list-clear fs h)) t

pub searched-pair : (n : ℕ) (fs : Filters) (r : RouteFault) → FirstPairOf n fs r → Searched n (nodes false (join fs)) (Err r)
searched-pair n fs (NotKeeping k) h = h
searched-pair n fs (Overlap m a b) h =
    subst (λ k. FirstPair n (nodes false (join fs)) k a b) (sym h.0) (found-here n a b fs (nodes_all false fs) h.1 h.2)
searched-pair n fs OutOfMemory h = tt

pub nodes-append : (i : Bool) (fs gs : Filters) → nodes_all i (append fs gs) ≡ nodes_all i fs ++ nodes_all i gs
nodes-append i no_more gs = refl
nodes-append i (more f fs) gs = ap (λ vs. nodes i f ++ vs) (nodes-append i fs gs) ∙ sym (append_assoc (nodes i f) (nodes_all i fs) (nodes_all i gs))

-- the members up to a place, and one more
pub nodes-next : (i : Bool) (fs : Filters) (f : Filter) → nodes_all i (append fs (only f)) ≡ nodes_all i fs ++ nodes i f
nodes-next i fs f = nodes-append i fs (only f) ∙ ap (λ vs. nodes_all i fs ++ vs) (append-nil (nodes i f))

-- ---- the members' lists

lists-get : (fs : Filters) (vs : List (List Entry)) → AreListsOf fs vs → (a : ℕ) (f : Filter) → member fs a ≡ Some f
    → (v : List Entry) × (slice_get vs a ≡ Some v) × IsListOf f v
lists-get no_more [] h a f e = absurd (none-some f e)
lists-get no_more (v ∷ vs) h a f e = absurd h
lists-get (more g fs) [] h a f e = absurd h
lists-get (more g fs) (v ∷ vs) h zero f e = (v, refl, subst (λ k. IsListOf k v) (same_Some g f e) h.0)
lists-get (more g fs) (v ∷ vs) h (suc a) f e = lists-get fs vs h.1 a f e

lists-member : (fs : Filters) (vs : List (List Entry)) → AreListsOf fs vs → (a : ℕ) (v : List Entry) → slice_get vs a ≡ Some v
    → (f : Filter) × (member fs a ≡ Some f) × IsListOf f v
lists-member no_more [] h a v e = absurd (none-some v e)
lists-member no_more (w ∷ vs) h a v e = absurd h
lists-member (more g fs) [] h a v e = absurd h
lists-member (more g fs) (w ∷ vs) h zero v e = (g, refl, subst (λ (x : List Entry). IsListOf g x) (same_Some w v e) h.0)
lists-member (more g fs) (w ∷ vs) h (suc a) v e = lists-member fs vs h.1 a v e

pub lists-more-one : (fs : Filters) (vs : List (List Entry)) (f : Filter) (v : List Entry) → AreListsOf fs vs → IsListOf f v → AreListsOf (append fs (only f)) (vs ++ v ∷ [])
lists-more-one no_more [] f v h k = (k, tt)
lists-more-one no_more (w ∷ vs) f v h k = absurd h
lists-more-one (more g fs) [] f v h k = absurd h
lists-more-one (more g fs) (w ∷ vs) f v h k = (h.0, lists-more-one fs vs f v h.1 k)

pair-at : (fs : Filters) (vs : List (List Entry)) → AreListsOf fs vs → (a b : ℕ) → a < b → (o p : Option (List Entry)) → slice_get vs a ≡ o → slice_get vs b ≡ p
    → clash_of o p ≡ true → PairAt fs a b
pair-at fs vs l a b h None p e k c = absurd (true≢false (sym c))
pair-at fs vs l a b h (Some v) None e k c = absurd (true≢false (sym c))
pair-at fs vs l a b h (Some v) (Some w) e k c =
    let f = lists-member fs vs l a v e in
    let g = lists-member fs vs l b w k in
    record { f = f.0; g = g.0; ordered = h; is_f = f.1; is_g = g.1; clash = clash-told f.0 g.0 v w f.2 g.2 c }

pair-told : (fs : Filters) (vs : List (List Entry)) → AreListsOf fs vs → (a b : ℕ) → a < b → clash_at vs a b ≡ true → PairAt fs a b
pair-told fs vs l a b h c = pair-at fs vs l a b h (slice_get vs a) (slice_get vs b) refl refl c

pair-seen : (fs : Filters) (vs : List (List Entry)) → AreListsOf fs vs → (a b : ℕ) → PairAt fs a b → clash_at vs a b ≡ true
pair-seen fs vs l a b p =
    let v = lists-get fs vs l a p.f p.is_f in
    let w = lists-get fs vs l b p.g p.is_g in
    ap₂ clash_of v.1 w.1 ∙ clash-seen p.f p.g v.0 w.0 v.2 w.2 p.clash

pub first-pair : (vs : List (List Entry)) (a b : ℕ) → ((c : ℕ) → c < a → (d : ℕ) → c < d → clash_at vs c d ≡ false) → ClashBehind vs a (Some b) → FirstClash vs (Some (a, b))
first-pair vs a b h k =
    (k.0, k.1, k.2, λ c d l o. split (λ (x : c < a). h c x d l) (λ (x : (c ≡ a) × (d < b)). subst (λ y. clash_at vs y d ≡ false) (sym x.0) (k.3 d (subst (λ y. y < d) x.0 l) x.1)) o)

pub none-clash : (fs : Filters) (vs : List (List Entry)) → AreListsOf fs vs → FirstClash vs None → NoPairAt fs
none-clash fs vs l h a b p = true≢false (sym (pair-seen fs vs l a b p) ∙ h a b p.ordered)

pub first-clash : (n : ℕ) (fs : Filters) (vs : List (List Entry)) (a b : ℕ) → AreListsOf fs vs → FirstClash vs (Some (a, b)) → FirstPairOf n fs (Overlap n a b)
first-clash n fs vs a b l h =
    (refl, pair-told fs vs l a b h.0 h.2, λ c d k p. true≢false (sym (pair-seen fs vs l c d p) ∙ h.3 c d p.ordered k))

-- ---- two branches by their lists

pub member-at : (ms : List code.Filter) (i : ℕ) (m : code.Filter) → i < length ms → m ≡ get_or ms i m → member (shapes ms) i ≡ Some (shape m)
member-at [] i m l e = absurd (omega (arith, l))
member-at (x ∷ ms) zero m l e = ap (λ y. Some (shape y)) (sym e)
member-at (x ∷ ms) (suc i) m l e = member-at ms i m (omega (arith, l)) e

pub pair-by : (fs : Filters) (a b : ℕ) (f g : Filter) (es gs : List Entry) → a < b → member fs a ≡ Some f → member fs b ≡ Some g → IsListOf f es → IsListOf g gs
    → any_clash (cells [] es) (cells [] gs) ≡ true → PairAt fs a b
pair-by fs a b f g es gs l e k x y c = record { f = f; g = g; ordered = l; is_f = e; is_g = k; clash = clash-told f g es gs x y c }

pub no-pair-by : (fs : Filters) (a b : ℕ) (f g : Filter) (es gs : List Entry) → member fs a ≡ Some f → member fs b ≡ Some g → IsListOf f es → IsListOf g gs
    → any_clash (cells [] es) (cells [] gs) ≡ false → PairAt fs a b → ⊥
no-pair-by fs a b f g es gs e k x y c p =
    let q : Clash f g = subst (λ h. Clash h g) (same_Some p.f f (sym p.is_f ∙ e)) (subst (λ h. Clash p.f h) (same_Some p.g g (sym p.is_g ∙ k)) p.clash) in
    true≢false (sym (clash-seen f g es gs x y q) ∙ c)

pub first-of-first : (n : ℕ) (fs : Filters) (b : ℕ) → PairAt fs 0 b → ((d : ℕ) → d < b → PairAt fs 0 d → ⊥) → FirstPairOf n fs (Overlap n 0 b)
first-of-first n fs b q h =
    (refl, q, λ c d o p. split (λ (x : c < 0). absurd (omega (arith, x))) (λ (x : (c ≡ 0) × (d < b)). h d x.1 (subst (λ y. PairAt fs y d) x.0 p)) o)

first-list : (ms : List code.Filter) (i : ℕ) (vs : List (List Entry)) → AreListsOf (shapes (take i ms)) vs → (v : List Entry) → slice_get vs 0 ≡ Some v
    → (f : Filter) × (member (shapes ms) 0 ≡ Some f) × IsListOf f v
first-list ms zero [] h v e = absurd (none-some v e)
first-list ms zero (w ∷ vs) h v e = absurd h
first-list [] (suc i) [] h v e = absurd (none-some v e)
first-list [] (suc i) (w ∷ vs) h v e = absurd h
first-list (m ∷ ms) (suc i) [] h v e = absurd h
first-list (m ∷ ms) (suc i) (w ∷ vs) h v e = (shape m, refl, subst (IsListOf (shape m)) (same_Some w v e) h.0)

pub some-first : (vs : List (List Entry)) (gs : List Entry) → clash_of (slice_get vs 0) (Some gs) ≡ true → 0 < length vs
some-first [] gs c = absurd (true≢false (sym c))
some-first (v ∷ vs) gs c = omega arith

-- the member there clashes with the first one, as the lists of those before it say
pub pair-of-first : (ms : List code.Filter) (i : ℕ) (vs : List (List Entry)) (g : Filter) (gs : List Entry) → AreListsOf (shapes (take i ms)) vs → 0 < i
    → member (shapes ms) i ≡ Some g → IsListOf g gs → clash_of (slice_get vs 0) (Some gs) ≡ true → PairAt (shapes ms) 0 i
pair-of-first ms i vs g gs h l e x c = by (slice_get vs 0) refl c
  where
    by : (o : Option (List Entry)) → slice_get vs 0 ≡ o → clash_of o (Some gs) ≡ true → PairAt (shapes ms) 0 i
    by None k t = absurd (true≢false (sym t))
    by (Some v) k t = let f = first-list ms i vs h v k in pair-by (shapes ms) 0 i f.0 g v gs l f.1 e f.2 x t

-- it doesn't
pub no-pair-of-first : (ms : List code.Filter) (i : ℕ) (vs : List (List Entry)) (g : Filter) (gs : List Entry) → AreListsOf (shapes (take i ms)) vs → length vs ≡ i
    → member (shapes ms) i ≡ Some g → IsListOf g gs → clash_of (slice_get vs 0) (Some gs) ≡ false → PairAt (shapes ms) 0 i → ⊥
no-pair-of-first ms i [] g gs h n e x c p = omega (arith, n, p.ordered)
no-pair-of-first ms i (v ∷ vs) g gs h n e x c p =
    let f = first-list ms i (v ∷ vs) h v refl in no-pair-by (shapes ms) 0 i f.0 g v gs f.1 e f.2 x c p

-- ---- a list that is made, or not for want of memory

pub one-list : {E : Type 0} (r : Result (Vec Entry) E) (f : Filter) (es : List Entry) → IsListOf f es → IfOk r (λ v. v.items ≡ es) → IfOk r (λ v. IsListOf f v.items)
one-list (Ok v) f es h e = subst (IsListOf f) (sym e) h
one-list (Err x) f es h e = tt
