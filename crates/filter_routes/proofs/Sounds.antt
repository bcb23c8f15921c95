-- Sound filters are those without a fault.
use Rattle.std.specs.Prelude.{◌≡◌, refl, ℕ, ◌+◌, ◌<◌, suc, zero, List, [], ◌∷◌, ◌++◌, slice_get, Some, true, false}
use Rattle.std.proofs.Common.{ap, ◌∙◌, sym, arith, subst, inl, inr, true≢false}
use Rattle.std.proofs.lemmas.Bool.{and_parts, and_from}
use Rattle.std.proofs.lemmas.Option.{none-some, same_Some}
use Rattle.filter_text.specs.Filters.{Filter, Filters, nop, sub, onto, dir, file, exclude, join, chain, workspace, no_more, more, pieces}
use Rattle.filter_routes.specs.Soundness.{Clash, is_keeping, are_keeping, IsApart, AreApart, IsSound, AreSound}
use Rattle.filter_routes.specs.Faults.{Piece, nodes, nodes_all, member, keeps, PairAt, IsNotKeeping, IsOverlap}
use Rattle.filter_routes.specs.Laws.{FaultLaw}
use Rattle.filter_routes.specs.RouteFaults.{IsRouteFault}
use Rattle.filter_routes.specs.Searching.{NoPairAt, NoPair, Refused}
use Rattle.filter_routes.specs.declared.fault.RouteFault.{RouteFault}
use Rattle.filter_routes.specs.declared.fault.RouteFault.TheVariants.{NotKeeping, Overlap, OutOfMemory}
use Rattle.filter_routes.proofs.Finding.{get-front, list-clear, no-pair-app, no-pair-more, searched-dir, searched-exclude, searched-file, searched-none, searched-nop, searched-onto, searched-sub, searched-workspace}
use Rattle.filter_routes.specs.FaultTests.{branches_of}

-- each piece may stand where it does
abbrev pub AllKeep : List Piece → Type 0
AllKeep vs = (k : ℕ) (v : Piece) → slice_get vs k ≡ Some v → keeps v ≡ true

keep-left : (xs ys : List Piece) → AllKeep (xs ++ ys) → AllKeep xs
keep-left xs ys h k v e = h k v (get-front xs ys k v e)

keep-right : (xs ys : List Piece) → AllKeep (xs ++ ys) → AllKeep ys
keep-right [] ys h = h
keep-right (x ∷ xs) ys h = keep-right xs ys (λ k. h (suc k))

keep-none : AllKeep []
keep-none k v e = absurd (none-some v e)

keep-more : (v : Piece) (vs : List Piece) → keeps v ≡ true → AllKeep vs → AllKeep (v ∷ vs)
keep-more v vs h r zero w e = subst (λ x. keeps x ≡ true) (same_Some v w e) h
keep-more v vs h r (suc k) w e = r k w e

keep-app : (xs ys : List Piece) → AllKeep xs → AllKeep ys → AllKeep (xs ++ ys)
keep-app [] ys h k = k
keep-app (x ∷ xs) ys h k = keep-more x (xs ++ ys) (h 0 x refl) (keep-app xs ys (λ m. h (suc m)) k)

keep-one : (v : Piece) → keeps v ≡ true → AllKeep (v ∷ [])
keep-one v h = keep-more v [] h keep-none

none-left : (xs ys : List Piece) → NoPair (xs ++ ys) → NoPair xs
none-left xs ys h k fs e = h k fs (get-front xs ys k (false, join fs) e)

none-right : (xs ys : List Piece) → NoPair (xs ++ ys) → NoPair ys
none-right [] ys h = h
none-right (x ∷ xs) ys h = none-right xs ys (λ k. h (suc k))

-- ---- a filter without a fault is sound

mutual
  keeping-from : (f : Filter) → AllKeep (nodes true f) → is_keeping f ≡ true
  keeping-from nop h = refl
  keeping-from (sub a) h = h 0 (true, sub a) refl
  keeping-from (onto a) h = h 0 (true, onto a) refl
  keeping-from (dir a) h = refl
  keeping-from (file a) h = refl
  keeping-from (exclude f) h = h 0 (true, exclude f) refl
  keeping-from (join fs) h = keeping-all-from fs (λ k. h (suc k))
  keeping-from (chain fs) h = keeping-all-from fs h
  keeping-from (workspace a) h = h 0 (true, workspace a) refl

  keeping-all-from : (fs : Filters) → AllKeep (nodes_all true fs) → are_keeping fs ≡ true
  keeping-all-from no_more h = refl
  keeping-all-from (more f fs) h =
      and_from (is_keeping f) (are_keeping fs) (keeping-from f (keep-left (nodes true f) (nodes_all true fs) h))
      (keeping-all-from fs (keep-right (nodes true f) (nodes_all true fs) h))

apart-one : (f : Filter) (fs : Filters) → ((b : ℕ) (g : Filter) → member fs b ≡ Some g → Clash f g → ⊥) → IsApart f fs
apart-one f no_more h = tt
apart-one f (more g gs) h = (h 0 g refl, apart-one f gs (λ b k e c. h (suc b) k e c))

apart-from : (fs : Filters) → NoPairAt fs → AreApart fs
apart-from no_more n = tt
apart-from (more f fs) n = (
  apart-one f fs (λ b g e c. n 0 (suc b) (record { f = f; g = g; ordered = omega arith; is_f = refl; is_g = e; clash = c })),
  apart-from fs (λ a b p. n (suc a) (suc b) (record { f = p.f; g = p.g; ordered = omega (arith, p.ordered); is_f = p.is_f; is_g = p.is_g; clash = p.clash })),
)

mutual
  pub sound-from : (f : Filter) → AllKeep (nodes false f) → NoPair (nodes false f) → IsSound f
  sound-from nop h n = tt
  sound-from (sub a) h n = tt
  sound-from (onto a) h n = tt
  sound-from (dir a) h n = tt
  sound-from (file a) h n = tt
  sound-from (exclude f) h n = keeping-from f (λ k. h (suc k))
  sound-from (join fs) h n = (sound-all-from fs (λ k. h (suc k)) (λ k. n (suc k)), apart-from fs (n 0 fs refl))
  sound-from (chain fs) h n = sound-all-from fs h n
  sound-from (workspace a) h n = tt

  sound-all-from : (fs : Filters) → AllKeep (nodes_all false fs) → NoPair (nodes_all false fs) → AreSound fs
  sound-all-from no_more h n = tt
  sound-all-from (more f fs) h n = (
    sound-from f (keep-left (nodes false f) (nodes_all false fs) h) (none-left (nodes false f) (nodes_all false fs) n),
    sound-all-from fs (keep-right (nodes false f) (nodes_all false fs) h) (none-right (nodes false f) (nodes_all false fs) n),
  )

-- ---- a sound filter has no fault

mutual
  keeping-pieces : (f : Filter) → is_keeping f ≡ true → AllKeep (nodes true f)
  keeping-pieces nop h = keep-one (true, nop) refl
  keeping-pieces (sub a) h = absurd (true≢false (sym h))
  keeping-pieces (onto a) h = absurd (true≢false (sym h))
  keeping-pieces (dir a) h = keep-one (true, dir a) refl
  keeping-pieces (file a) h = keep-one (true, file a) refl
  keeping-pieces (exclude f) h = absurd (true≢false (sym h))
  keeping-pieces (join fs) h = keep-more (true, join fs) (nodes_all true fs) refl (keeping-pieces-in fs h)
  keeping-pieces (chain fs) h = keeping-pieces-in fs h
  keeping-pieces (workspace a) h = absurd (true≢false (sym h))

  keeping-pieces-in : (fs : Filters) → are_keeping fs ≡ true → AllKeep (nodes_all true fs)
  keeping-pieces-in no_more h = keep-none
  keeping-pieces-in (more f fs) h =
      let w : (is_keeping f ≡ true) × (are_keeping fs ≡ true) = and_parts (is_keeping f) (are_keeping fs) h in
      keep-app (nodes true f) (nodes_all true fs) (keeping-pieces f w.0) (keeping-pieces-in fs w.1)

mutual
  sound-keeps : (f : Filter) → IsSound f → AllKeep (nodes false f)
  sound-keeps nop h = keep-one (false, nop) refl
  sound-keeps (sub a) h = keep-one (false, sub a) refl
  sound-keeps (onto a) h = keep-one (false, onto a) refl
  sound-keeps (dir a) h = keep-one (false, dir a) refl
  sound-keeps (file a) h = keep-one (false, file a) refl
  sound-keeps (exclude f) h = keep-more (false, exclude f) (nodes true f) refl (keeping-pieces f h)
  sound-keeps (join fs) h = keep-more (false, join fs) (nodes_all false fs) refl (sound-keeps-in fs h.0)
  sound-keeps (chain fs) h = sound-keeps-in fs h
  sound-keeps (workspace a) h = keep-one (false, workspace a) refl

  sound-keeps-in : (fs : Filters) → AreSound fs → AllKeep (nodes_all false fs)
  sound-keeps-in no_more h = keep-none
  sound-keeps-in (more f fs) h = keep-app (nodes false f) (nodes_all false fs) (sound-keeps f h.0) (sound-keeps-in fs h.1)

apart-at : (f : Filter) (fs : Filters) → IsApart f fs → (b : ℕ) (g : Filter) → member fs b ≡ Some g → Clash f g → ⊥
apart-at f no_more h b g e c = none-some g e
apart-at f (more k fs) h zero g e c = subst (λ x. Clash f x → ⊥) (same_Some k g e) h.0 c
apart-at f (more k fs) h (suc b) g e c = apart-at f fs h.1 b g e c

apart-pair : (fs : Filters) → AreApart fs → (a b : ℕ) (f g : Filter) → a < b → member fs a ≡ Some f → member fs b ≡ Some g → Clash f g → ⊥
apart-pair no_more h a b f g l e k c = none-some f e
apart-pair (more x fs) h zero zero f g l e k c = omega (arith, l)
apart-pair (more x fs) h zero (suc b) f g l e k c = apart-at x fs h.0 b g k (subst (λ y. Clash y g) (sym (same_Some x f e)) c)
apart-pair (more x fs) h (suc a) zero f g l e k c = omega (arith, l)
apart-pair (more x fs) h (suc a) (suc b) f g l e k c = apart-pair fs h.1 a b f g (omega (arith, l)) e k c

apart-none : (fs : Filters) → AreApart fs → NoPairAt fs
apart-none fs h a b p = apart-pair fs h a b p.f p.g p.ordered p.is_f p.is_g p.clash

mutual
  sound-clear : (f : Filter) → IsSound f → NoPair (nodes false f)
  sound-clear nop h = (searched-nop 0).1
  sound-clear (sub a) h = (searched-sub 0 a).1
  sound-clear (onto a) h = (searched-onto 0 a).1
  sound-clear (dir a) h = (searched-dir 0 a).1
  sound-clear (file a) h = (searched-file 0 a).1
  sound-clear (exclude f) h = (searched-exclude 0 (0 + 1 + pieces f) f refl).1
  sound-clear (join fs) h = no-pair-more (false, join fs) (nodes_all false fs) (list-clear fs (apart-none fs h.1)) (sound-clear-in fs h.0)
  sound-clear (chain fs) h = sound-clear-in fs h
  sound-clear (workspace a) h = (searched-workspace 0 a).1

  sound-clear-in : (fs : Filters) → AreSound fs → NoPair (nodes_all false fs)
  sound-clear-in no_more h = (searched-none 0).1
  sound-clear-in (more f fs) h = no-pair-app (nodes false f) (nodes_all false fs) (sound-clear f h.0) (sound-clear-in fs h.1)

-- ---- the fault that is told

pub refusal-told : (f : Filter) (r : RouteFault) → AllKeep (nodes false f) → Refused 0 (nodes false f) r → IsRouteFault f r
refusal-told f (NotKeeping n) h t = absurd t
refusal-told f (Overlap n a b) h t =
    let e : t.place ≡ n = omega (arith, t.is_place) in
    record {
      keeping = h;
      branches = t.branches;
      is_list = ap (slice_get (nodes false f)) (sym e) ∙ t.is_list;
      pair = t.pair;
      first_list = λ m c d fs l k p. t.first_list m fs (subst (λ x. m < x) (sym e) l) k c d p;
      first_pair = t.first_pair;
    }
refusal-told f OutOfMemory h t = tt

-- ---- no filter has two faults

between : (m n : ℕ) → (m < n → ⊥) → (n < m → ⊥) → m ≡ n
between m n h k = omega (arith, h, k)

one-piece : (f : Filter) (m n : ℕ) → IsNotKeeping f m → IsNotKeeping f n → m ≡ n
one-piece f m n h k =
    between m n (λ l. true≢false (sym (k.before m h.piece l h.is_piece) ∙ h.fails))
    (λ l. true≢false (sym (h.before n k.piece l k.is_piece) ∙ k.fails))

pair-at-one : (f : Filter) (n a b c d : ℕ) → IsOverlap f n a b → IsOverlap f n c d → (a ≡ c) × (b ≡ d)
pair-at-one f n a b c d h k =
    let e : h.branches ≡ k.branches =
    ap (λ (v : Piece). branches_of v.1) (same_Some (false, join h.branches) (false, join k.branches) (sym h.is_list ∙ k.is_list)) in
    let p : PairAt k.branches a b = subst (λ fs. PairAt fs a b) e h.pair in
    let q : PairAt h.branches c d = subst (λ fs. PairAt fs c d) (sym e) k.pair in
    let s : a ≡ c = between a c (λ l. k.first_pair a b (inl l) p) (λ l. h.first_pair c d (inl l) q) in
    (s, between b d (λ l. k.first_pair a b (inr (s, l)) p) (λ l. h.first_pair c d (inr (sym s, l)) q))

one-pair : (f : Filter) (m n a b c d : ℕ) → IsOverlap f m a b → IsOverlap f n c d → (m ≡ n) × (a ≡ c) × (b ≡ d)
one-pair f m n a b c d h k =
    let s : m ≡ n =
    between m n (λ l. k.first_list m a b h.branches l h.is_list h.pair) (λ l. h.first_list n c d k.branches l k.is_list k.pair) in
    let p : (a ≡ c) × (b ≡ d) = pair-at-one f n a b c d (subst (λ x. IsOverlap f x a b) s h) k in
    (s, p.0, p.1)

pub fault-law : FaultLaw
fault-law = record {
  not_keeping = λ f n h s. true≢false (sym (sound-keeps f s n h.piece h.is_piece) ∙ h.fails);
  overlap = λ f n a b h s. sound-clear f s n h.branches h.is_list a b h.pair;
  one_piece = one-piece;
  one_pair = one-pair;
  not_both = λ f m n a b h k. true≢false (sym (k.keeping m h.piece h.is_piece) ∙ h.fails);
}
