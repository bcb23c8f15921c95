-- The entries that the operations make have paths of components.
use Rattle.std.specs.Prelude.{◌≡◌, refl, ℕ, ◌+◌, ◌<◌, List, [], ◌∷◌, ◌++◌, length, suc, zero, not, ◌&&◌, ◌==◌, nat_lt, Option, Some, None, Bool, true, false, ⊤}
use Rattle.std.proofs.Common.{ap, ap₂, subst, arith}
use Rattle.std.specs.List.{list_all}
use Rattle.std.proofs.lemmas.Bool.{and_from}
use Rattle.std.proofs.lemmas.Option.{none-some, same_Some}
use Rattle.decision_lists.proofs.Cells.{Good}
use Rattle.decision_lists.proofs.Clash.{size}
use Rattle.decision_lists.proofs.Compile.{full-behind, tail-is}
use Rattle.decision_lists.proofs.Valid.{path-from, valid-behind, valid-both, valid-path, valid-rest}
use Rattle.decision_lists.specs.Entries.{Cone, Entry, at, base, below, tail}
use Rattle.decision_lists.specs.Fronts.{proper, strip}
use Rattle.git_objects.specs.Lists.{Each}
use Rattle.decision_lists.specs.Lists.{Aimed, Fine, IsPath, Solid, Thin, Valid}
use Rattle.decision_lists.specs.Operations.{Part, after_how, after_left, alive, block, covers, either_how, either_left, either_way, flip_act, grown, heads, how, longer, onward, picked, point, pull, pulled, put, refine, same_point, thin, thin_at, turned}
use Rattle.git_objects.specs.Paths.{Path, is_component}

pub each-app : (P : Entry → Type 0) (xs ys : List Entry) → Each P xs → Each P ys → Each P (xs ++ ys)
each-app P [] ys h k = k
each-app P (e ∷ xs) ys h k = (h.0, each-app P xs ys h.1 k)

-- a part of a cone and what stands between are of components
abbrev Of : Part → Type 0
Of None = ⊤
Of (Some m) = Solid m.0 × Valid m.1

pub solid-base : (c : Cone) → Solid c → Valid (base c)
solid-base (at s) h = valid-path s h
solid-base (below s) h = h

of-longer : (s t u : Path) (o : Option Path) → strip t u ≡ o → Valid s → Valid u → Of (longer s o)
of-longer s t u None e h k = tt
of-longer s t u (Some v) e h k = (valid-both s v h (valid-rest t u v e k), refl)

of-either : (s t u : Path) (o o' : Option Path) → strip u t ≡ o → strip t u ≡ o' → Valid s → Valid t → Valid u → Of (either_way s o o')
of-either s t u (Some w) o' e f h k l = (h, valid-rest u t w e k)
of-either s t u None o' e f h k l = of-longer s t u o' f h l

of-point : (s t u : Path) (o : Option Path) → strip t u ≡ o → Valid s → Valid u → Of (point s (proper o))
of-point s t u None e h k = tt
of-point s t u (Some []) e h k = tt
of-point s t u (Some (c ∷ v)) e h k =
    (path-from (s ++ c ∷ v) (full-behind s (c ∷ v) refl) (valid-both s (c ∷ v) h (valid-rest t u (c ∷ v) e k)), refl)

of-same : (s : Path) (o : Option Path) → IsPath s → ((w : Path) → o ≡ Some w → Valid w) → Of (same_point s o)
of-same s None h k = tt
of-same s (Some w) h k = (h, k w refl)

of-pull : (c : Cone) (t : Path) (d : Cone) → Solid c → Valid t → Solid d → Of (pull c t d)
of-pull (below s) t (below u) h k l = of-either s t u (strip u t) (strip t u) refl refl h k l
of-pull (below s) t (at u) h k l = of-point s t u (strip t u) refl h (valid-path u l)
of-pull (at s) t d h k l = of-same s (tail d t) h (λ w e. valid-behind (base d) w (subst Valid (tail-is d t w e) k))

aimed-onward : (a : Option Path) (w : Path) → Aimed a → Valid w → Aimed (onward a w)
aimed-onward None w h k = tt
aimed-onward (Some t) w h k = valid-both t w h k

each-put : (m : Part) (a : Option Path) (es : List Entry) → Of m → Aimed a → Each Fine es → Each Fine (put m a es)
each-put None a es h l k = k
each-put (Some m) a es h l k = ((h.0, aimed-onward a m.1 l h.1), k)

pub each-pulled : (c : Cone) (t : Path) (gs : List Entry) → Solid c → Valid t → Each Fine gs → Each Fine (pulled c t gs)
each-pulled c t [] h k l = tt
each-pulled c t (g ∷ gs) h k l = each-put (pull c t g.0) g.1 (pulled c t gs) (of-pull c t g.0 h k l.0.0) l.0.1 (each-pulled c t gs h k l.1)

each-picked : (P : Entry → Type 0) (x b : Bool) (e : Entry) (es fs : List Entry) → P e → Each P es → Each P fs → Each P (picked x b e es fs)
each-picked P true b e es fs h k l = (h, tt)
each-picked P false true e es fs h k l = (h, k)
each-picked P false false e es fs h k l = l

pub each-block : (ps : List Entry) (hs : List Cone) (c : Cone) → Solid c → Each Fine ps → Each Fine (block hs c ps)
each-block [] hs c h k = ((h, tt), tt)
each-block (e ∷ ps) hs c h k =
    each-picked Fine (covers e.0 c) (alive hs e.0) e (block (e.0 ∷ hs) c ps) (block hs c ps) k.0 (each-block ps (e.0 ∷ hs) c h k.1) (each-block ps hs c h k.1)

each-thin_at : (P : Entry → Type 0) (b : Bool) (e : Entry) (es fs : List Entry) → P e → Each P es → Each P fs → Each P (thin_at b e es fs)
each-thin_at P true e es fs h k l = (h, k)
each-thin_at P false e es fs h k l = l

pub each-thin : (P : Entry → Type 0) (es : List Entry) (hs : List Cone) → Each P es → Each P (thin hs es)
each-thin P [] hs h = tt
each-thin P (e ∷ es) hs h = each-thin_at P (alive hs e.0) e (thin (e.0 ∷ hs) es) (thin hs es) h.0 (each-thin P es (e.0 ∷ hs) h.1) (each-thin P es hs h.1)

-- parts of a fine entry are fine
abbrev Keeps : (Cone → Option Path → Option (List Entry)) → Type 0
Keeps how = (c : Cone) (a : Option Path) (ps : List Entry) → how c a ≡ Some ps → Solid c → Aimed a → Each Fine ps

each-grown : (how : Cone → Option Path → Option (List Entry)) → Keeps how → (hs : List Cone) (c : Cone) (a : Option Path) (o : Option (List Entry)) → how c a ≡ o → Solid c → Aimed a → Each Fine (grown hs c a o)
each-grown how k hs c a None e s t = ((s, t), tt)
each-grown how k hs c a (Some ps) e s t = each-block ps hs c s (k c a ps e s t)

each-refine : (how : Cone → Option Path → Option (List Entry)) (end : List Entry) → Keeps how → Each Fine end → (es : List Entry) (hs : List Cone) → Each Fine es → Each Fine (refine how end hs es)
each-refine how end k l [] hs h = each-thin Fine end hs l
each-refine how end k l (e ∷ es) hs h =
    let b : List Entry = grown hs e.0 e.1 (how e.0 e.1) in
    each-app Fine b (refine how end (heads b hs) es)
    (each-grown how k hs e.0 e.1 (how e.0 e.1) refl h.0.0 h.0.1) (each-refine how end k l es (heads b hs) h.1)

keeps-either : (g : List Entry) → Each Fine g → Keeps (either_how g)
keeps-either g l c (Some t) ps e s a = absurd (none-some ps e)
keeps-either g l c None ps e s a = subst (Each Fine) (same_Some (pulled c (base c) g) ps e) (each-pulled c (base c) g s (solid-base c s) l)

keeps-after : (g : List Entry) → Each Fine g → Keeps (after_how g)
keeps-after g l c None ps e s a = absurd (none-some ps e)
keeps-after g l c (Some t) ps e s a = subst (Each Fine) (same_Some (pulled c t g) ps e) (each-pulled c t g s a l)

pub each-either : (es g : List Entry) → Each Fine es → Each Fine g → Each Fine (either_left es g)
each-either es g h k = each-refine (either_how g) g (keeps-either g k) k es [] h

pub each-after : (es g : List Entry) → Each Fine es → Each Fine g → Each Fine (after_left es g)
each-after es g h k = each-refine (after_how g) [] (keeps-after g k) tt es [] h

aimed-flip : (c : Cone) (a : Option Path) → Solid c → Aimed (flip_act (base c) a)
aimed-flip c None h = solid-base c h
aimed-flip c (Some t) h = tt

pub each-turned : (es : List Entry) (hs : List Cone) → Each Fine es → Each Fine (turned hs es)
each-turned [] hs h = each-thin Fine ((below [], Some []) ∷ []) hs ((refl, refl), tt)
each-turned (e ∷ es) hs h = ((h.0.0, aimed-flip e.0 e.1 h.0.0), each-turned es (e.0 ∷ hs) h.1)

-- ---- a component that is longer than all that are named

abbrev pub total : List Entry → ℕ
total [] = 0
total (e ∷ es) = size (base e.0) + total es

abbrev Short : List ℕ → Entry → Type 0
Short x e = size (base e.0) < length x

short-all : (x : List ℕ) (es : List Entry) → total es < length x → Each (Short x) es
short-all x [] h = tt
short-all x (e ∷ es) h = (omega (arith, h), short-all x es (omega (arith, h)))

good-from : (x : List ℕ) (es : List Entry) (hs : List Cone) → Thin hs es → Each Fine es → Each (Short x) es → Good x hs es
good-from x [] hs h k l = tt
good-from x (e ∷ es) hs h k l = (h.0, l.0, k.0, good-from x es (e.0 ∷ hs) h.1 k.1 l.1)

pub good-list : (x : List ℕ) (es : List Entry) → Thin [] es → Each Fine es → total es < length x → Good x [] es
good-list x es h k l = good-from x es [] h k (short-all x es l)

-- so many letters
pub letters : ℕ → List ℕ
letters zero = []
letters (suc n) = 97 ∷ letters n

all-letters : (p : ℕ → Bool) → p 97 ≡ true → (n : ℕ) → list_all p (letters n) ≡ true
unfolding letters
all-letters p e zero = refl
all-letters p e (suc n) = and_from (p 97) (list_all p (letters n)) e (all-letters p e n)

length-letters : (n : ℕ) → length (letters n) ≡ n
unfolding letters
length-letters zero = refl
length-letters (suc n) = ap suc (length-letters n)

abbrev pub long : ℕ → List ℕ
long n = 97 ∷ letters n

pub long-component : (n : ℕ) → is_component (long n) ≡ true
long-component n =
    ap₂ (λ x y. x && not false && not false && not false && not false && y)
    (all-letters (λ x. not (x == 0) && not (x == 47)) refl n) (all-letters (λ x. nat_lt x 256) refl n)

pub length-long : (n : ℕ) → n < length (long n)
length-long n = omega (arith, length-letters n)
