-- What a filter needs of its parts to be sound.
use Rattle.std.specs.Prelude.{◌≡◌, refl, List, [], ◌∷◌, Option, Some, None, Bool, true, false, ◌&&◌, ⊤, cond}
use Rattle.std.proofs.Common.{◌∙◌, sym, subst, inl, true≢false}
use Rattle.std.proofs.lemmas.Bool.{and_parts, and_from}
use Rattle.std.proofs.lemmas.Option.{none-some}
use Rattle.filter_routes.proofs.Branches.{meets-first}
use Rattle.filter_routes.proofs.ListLaws.{clash-seen, clash-told, list-all, list-chain, list-dir, list-exclude, list-file, list-join, list-none, list-nop, list-onto, list-sub, list-workspace}
use Rattle.decision_lists.specs.Cells.{any_clash, cells}
use Rattle.decision_lists.specs.Entries.{Entry, at, below}
use Rattle.decision_lists.specs.Fronts.{or_else}
use Rattle.filter_routes.specs.Images.{first, image}
use Rattle.filter_text.specs.Filters.{has_paths, have_paths, Filter, Filters, append, chain, dir, exclude, file, join, more, no_more, nop, only, onto, sub, workspace}
use Rattle.decision_lists.specs.Lists.{IsPath}
use Rattle.filter_routes.specs.Lists.{Listed}
use Rattle.decision_lists.specs.Operations.{after_left, either_left, turned}
use Rattle.filter_routes.specs.Soundness.{AreApart, AreSound, Clash, IsApart, IsSound, are_keeping, is_keeping}
use Rattle.git_objects.specs.Paths.{Path}

-- no member clashes with g
abbrev pub NoneMeets : Filters → Filter → Type 0
NoneMeets no_more g = ⊤
NoneMeets (more f fs) g = (Clash f g → ⊥) × NoneMeets fs g

apart-one : (f g : Filter) (fs : Filters) → IsApart f fs → (Clash f g → ⊥) → IsApart f (append fs (only g))
apart-one f g no_more a h = (h, tt)
apart-one f g (more k fs) a h = (a.0, apart-one f g fs a.1 h)

apart-append : (fs : Filters) (g : Filter) → AreApart fs → NoneMeets fs g → AreApart (append fs (only g))
apart-append no_more g a n = (tt, tt)
apart-append (more f fs) g a n = (apart-one f g fs a.0 n.0, apart-append fs g a.1 n.1)

apart-with : (f g : Filter) (fs gs : Filters) → IsApart f (append fs (more g gs)) → Clash f g → ⊥
apart-with f g no_more gs a = a.0
apart-with f g (more k fs) gs a = apart-with f g fs gs a.1

none-meets : (fs gs : Filters) (g : Filter) → AreApart (append fs (more g gs)) → NoneMeets fs g
none-meets no_more gs g a = tt
none-meets (more f fs) gs g a = (apart-with f g fs gs a.0, none-meets fs gs g a.1)

-- an image under a list is one under a member
meets-at : (f g : Filter) (fs : Filters) (c : Clash (join (more f fs)) g) (o : Option Path) → image f c.p ≡ o → (Clash f g → ⊥) → (Clash (join fs) g → ⊥) → or_else o (first fs c.p) ≡ Some c.x → ⊥
meets-at f g fs c None e h k q =
    k (record { p = c.p; q = c.q; x = c.x; y = c.y; path_p = c.path_p; path_q = c.path_q; image_p = q; image_q = c.image_q; meet = c.meet })
meets-at f g fs c (Some u) e h k q =
    h (record { p = c.p; q = c.q; x = c.x; y = c.y; path_p = c.path_p; path_q = c.path_q; image_p = e ∙ q; image_q = c.image_q; meet = c.meet })

pub list-meets : (fs : Filters) (g : Filter) → NoneMeets fs g → Clash (join fs) g → ⊥
list-meets no_more g n c = none-some c.x c.image_p
list-meets (more f fs) g n c = meets-at f g fs c (image f c.p) refl n.0 (list-meets fs g n.1) c.image_p

rest-at : (f : Filter) (fs : Filters) (p x : Path) (o : Option Path) → image f p ≡ o → IsApart f fs → IsPath p → first fs p ≡ Some x → or_else o (first fs p) ≡ Some x
rest-at f fs p x None e a n k = k
rest-at f fs p x (Some u) e a n k = absurd (meets-first f fs p p u x a n n e k (inl refl))

head-at : (o o' : Option Path) (x : Path) → o ≡ Some x → or_else o o' ≡ Some x
head-at None o' x e = absurd (none-some x e)
head-at (Some u) o' x e = e

-- the members of a list are apart from what the list is apart from
members-meet : (all fs : Filters) (g : Filter) → AreApart fs → ((p x : Path) → IsPath p → first fs p ≡ Some x → first all p ≡ Some x) → (Clash (join all) g → ⊥) → NoneMeets fs g
members-meet all no_more g a k h = tt
members-meet all (more f fs) g a k h = (
  λ c. h (record {
    p = c.p;
    q = c.q;
    x = c.x;
    y = c.y;
    path_p = c.path_p;
    path_q = c.path_q;
    image_p = k c.p c.x c.path_p (head-at (image f c.p) (first fs c.p) c.x c.image_p);
    image_q = c.image_q;
    meet = c.meet;
  }),
  members-meet all fs g a.1 (λ p x n e. k p x n (rest-at f fs p x (image f p) refl a.0 n e)) h,
)

pub apart-more : (fs : Filters) (g : Filter) → AreApart fs → (Clash (join fs) g → ⊥) → AreApart (append fs (only g))
apart-more fs g a h = apart-append fs g a (members-meet fs fs g a (λ p x n e. e) h)

pub apart-less : (fs gs : Filters) (g : Filter) → AreApart (append fs (more g gs)) → Clash (join fs) g → ⊥
apart-less fs gs g a = list-meets fs g (none-meets fs gs g a)

-- ---- members one after the other

sound-more : (fs : Filters) (g : Filter) → AreSound fs → IsSound g → AreSound (append fs (only g))
sound-more no_more g h k = (k, tt)
sound-more (more f fs) g h k = (h.0, sound-more fs g h.1 k)

sound-member : (fs gs : Filters) (g : Filter) → AreSound (append fs (more g gs)) → IsSound g
sound-member no_more gs g h = h.0
sound-member (more f fs) gs g h = sound-member fs gs g h.1

keeping-more : (fs : Filters) (g : Filter) → are_keeping fs ≡ true → is_keeping g ≡ true → are_keeping (append fs (only g)) ≡ true
keeping-more no_more g h k = and_from (is_keeping g) true k refl
keeping-more (more f fs) g h k =
    let w : (is_keeping f ≡ true) × (are_keeping fs ≡ true) = and_parts (is_keeping f) (are_keeping fs) h in
    and_from (is_keeping f) (are_keeping (append fs (only g))) w.0 (keeping-more fs g w.1 k)

keeping-member : (fs gs : Filters) (g : Filter) → are_keeping (append fs (more g gs)) ≡ true → is_keeping g ≡ true
keeping-member no_more gs g h = (and_parts (is_keeping g) (are_keeping gs) h).0
keeping-member (more f fs) gs g h = keeping-member fs gs g (and_parts (is_keeping f) (are_keeping (append fs (more g gs))) h).1

paths-more : (fs : Filters) (g : Filter) → have_paths fs ≡ true → has_paths g ≡ true → have_paths (append fs (only g)) ≡ true
paths-more no_more g h k = and_from (has_paths g) true k refl
paths-more (more f fs) g h k =
    let w : (has_paths f ≡ true) × (have_paths fs ≡ true) = and_parts (has_paths f) (have_paths fs) h in
    and_from (has_paths f) (have_paths (append fs (only g))) w.0 (paths-more fs g w.1 k)

-- ---- the list of a filter with one member more

pub chain-member : (apart : Bool) (fs gs : Filters) (g : Filter) → Listed apart g None → Listed apart (chain (append fs (more g gs))) None
chain-member true fs gs g h k = h (sound-member fs gs g k)
chain-member false fs gs g h k = h (keeping-member fs gs g k)

pub join-member : (apart : Bool) (fs gs : Filters) (g : Filter) → Listed apart g None → Listed apart (join (append fs (more g gs))) None
join-member true fs gs g h k = h (sound-member fs gs g k.0)
join-member false fs gs g h k = h (keeping-member fs gs g k)

pub chain-more : (apart : Bool) (fs : Filters) (g : Filter) (es ls : List Entry) → Listed apart (chain fs) (Some es) → Listed apart g (Some ls)
    → Listed apart (chain (append fs (only g))) (Some (after_left es ls))
chain-more true fs g es ls h k = (sound-more fs g h.0 k.0, list-chain fs g es ls h.1 k.1, paths-more fs g h.2 k.2)
chain-more false fs g es ls h k = (keeping-more fs g h.0 k.0, list-chain fs g es ls h.1 k.1, paths-more fs g h.2 k.2)

-- a branch that clashes with those before
pub join-clash : (apart : Bool) (fs gs : Filters) (g : Filter) (es ls : List Entry) → Listed apart (join fs) (Some es) → Listed apart g (Some ls)
    → (apart && any_clash (cells [] es) (cells [] ls)) ≡ true → Listed apart (join (append fs (more g gs))) None
join-clash true fs gs g es ls h k e s = apart-less fs gs g s.1 (clash-told (join fs) g es ls h.1 k.1 e)
join-clash false fs gs g es ls h k e s = true≢false (sym e)

pub join-more : (apart : Bool) (fs : Filters) (g : Filter) (es ls : List Entry) → Listed apart (join fs) (Some es) → Listed apart g (Some ls)
    → (apart && any_clash (cells [] es) (cells [] ls)) ≡ false → Listed apart (join (append fs (only g))) (Some (either_left es ls))
join-more true fs g es ls h k e = (
  (sound-more fs g h.0.0 k.0, apart-more fs g h.0.1 (λ c. true≢false (sym (clash-seen (join fs) g es ls h.1 k.1 c) ∙ e))),
  list-join fs g es ls h.1 k.1,
  paths-more fs g h.2 k.2,
)
join-more false fs g es ls h k e = (keeping-more fs g h.0 k.0, list-join fs g es ls h.1 k.1, paths-more fs g h.2 k.2)

-- what becomes of a list by one branch
abbrev pub Grown : Bool → Filters → Filter → Filters → Option (List Entry) → Type 0
Grown apart fs g gs None = Listed apart (join (append fs (more g gs))) None
Grown apart fs g gs (Some es) = Listed apart (join (append fs (only g))) (Some es)

grown-at : (apart : Bool) (fs gs : Filters) (g : Filter) (es ls : List Entry) → Listed apart (join fs) (Some es) → Listed apart g (Some ls)
    → (b : Bool) → (apart && any_clash (cells [] es) (cells [] ls)) ≡ b → Grown apart fs g gs (cond b None (Some (either_left es ls)))
grown-at apart fs gs g es ls h k true q = join-clash apart fs gs g es ls h k q
grown-at apart fs gs g es ls h k false q = join-more apart fs g es ls h k q

pub join-grown : (apart : Bool) (fs gs : Filters) (g : Filter) (es ls : List Entry) (o : Option (List Entry)) → Listed apart (join fs) (Some es) → Listed apart g (Some ls)
    → o ≡ cond (apart && any_clash (cells [] es) (cells [] ls)) None (Some (either_left es ls)) → Grown apart fs g gs o
join-grown apart fs gs g es ls o h k e =
    subst (Grown apart fs g gs) (sym e) (grown-at apart fs gs g es ls h k (apart && any_clash (cells [] es) (cells [] ls)) refl)

-- ---- leaves

pub listed-nop : (apart : Bool) → Listed apart nop (Some ((below [], Some []) ∷ []))
listed-nop true = (tt, list-nop, refl)
listed-nop false = (refl, list-nop, refl)

pub listed-dir : (apart : Bool) (a : Path) → IsPath a → Listed apart (dir a) (Some ((below a, Some a) ∷ []))
listed-dir true a h = (tt, list-dir a h, h)
listed-dir false a h = (refl, list-dir a h, h)

pub listed-file : (apart : Bool) (a : Path) → IsPath a → Listed apart (file a) (Some ((at a, Some a) ∷ []))
listed-file true a h = (tt, list-file a h, h)
listed-file false a h = (refl, list-file a h, h)

pub listed-sub : (apart : Bool) (a : Path) → IsPath a → Listed apart (sub a) (cond apart (Some ((below a, Some []) ∷ [])) None)
listed-sub true a h = (tt, list-sub a h, h)
listed-sub false a h = λ e. true≢false (sym e)

pub listed-onto : (apart : Bool) (a : Path) → IsPath a → Listed apart (onto a) (cond apart (Some ((below [], Some a) ∷ [])) None)
listed-onto true a h = (tt, list-onto a h, h)
listed-onto false a h = λ e. true≢false (sym e)

pub listed-workspace : (apart : Bool) (a : Path) → IsPath a → Listed apart (workspace a) (cond apart (Some ((below a, Some []) ∷ [])) None)
listed-workspace true a h = (tt, list-workspace a h, h)
listed-workspace false a h = λ e. true≢false (sym e)

pub listed-exclude : (apart : Bool) (f : Filter) (es : List Entry) → apart ≡ true → Listed false f (Some es) → Listed apart (exclude f) (Some (turned [] es))
listed-exclude true f es e h = (h.0, list-exclude f es h.1, h.2)
listed-exclude false f es e h = absurd (true≢false (sym e))

pub unlisted-exclude : (apart : Bool) (f : Filter) → Listed false f None → Listed apart (exclude f) None
unlisted-exclude true f h k = h k
unlisted-exclude false f h k = true≢false (sym k)

pub unlisted-inside : (apart : Bool) (f : Filter) → apart ≡ false → Listed apart (exclude f) None
unlisted-inside true f e = absurd (true≢false e)
unlisted-inside false f e = λ k. true≢false (sym k)

pub listed-none : (apart : Bool) → Listed apart (join no_more) (Some [])
listed-none true = ((tt, tt), list-none, refl)
listed-none false = (refl, list-none, refl)

pub listed-all : (apart : Bool) → Listed apart (chain no_more) (Some ((below [], Some []) ∷ []))
listed-all true = (tt, list-all, refl)
listed-all false = (refl, list-all, refl)
