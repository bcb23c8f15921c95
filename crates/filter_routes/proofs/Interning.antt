-- Tables that were made, each once, and the texts that they are found by.
use Rattle.std.specs.Prelude.{◌≡◌, refl, ℕ, ◌+◌, ◌<◌, ◌≤◌, suc, zero, List, [], ◌∷◌, ◌++◌, length, slice_get, Option, Some, None, Bool, true, false, cond, nat_eq, ◌⊎◌}
use Rattle.std.specs.Cmp.Lexicographic.{pointwise}
use Rattle.std.proofs.Common.{ap, ◌∙◌, sym, subst, arith, inl, inr, true≢false, length-append}
use Rattle.std.proofs.lemmas.Option.{none-some, same_Some}
use Rattle.git_objects.specs.Paths.{Bytes}
use Rattle.filter_text.specs.Filters.{Filter, same_filter}
use Rattle.filter_text.specs.Printing.{printed}
use Rattle.filter_text.specs.Reading.{filter_of}
use Rattle.filter_text.specs.Shapes.{shape}
use Rattle.filter_text.specs.Spelling.{SpellsFilter}
use Rattle.filter_text.proofs.Equals.{filter-same}
use Rattle.filter_text.proofs.Goods.{filter-good}
use Rattle.filter_text.proofs.Grammar.{filter_read}
use Rattle.filter_text.proofs.Printable.{filter_spelt}
use Rattle.filter_routes.specs.Interned.{HasAt, HasNone, AreDistinct, Interns, number_at, AreNumbered, IsStored}
use Rattle.filter_routes.specs.Laws.{TablesLaw}
use Rattle.filter_routes.specs.TableValues.{Table}
use Rattle.decision_lists.proofs.Clash.{split}
use Rattle.decision_lists.proofs.Strip.{eq-self}

-- ---- places in a list of tables

pub there-within : (ts : List Table) (n : ℕ) (t : Table) → slice_get ts n ≡ Some t → n < length ts
there-within [] n t e = absurd (none-some t e)
there-within (x ∷ ts) zero t e = omega arith
there-within (x ∷ ts) (suc n) t e = omega (arith, there-within ts n t e)

at-last : (ts : List Table) (n : ℕ) (t : Table) → n ≡ length ts → slice_get (ts ++ t ∷ []) n ≡ Some t
at-last [] zero t e = refl
at-last [] (suc n) t e = absurd (omega (arith, e))
at-last (x ∷ ts) zero t e = absurd (omega (arith, e))
at-last (x ∷ ts) (suc n) t e = at-last ts n t (omega (arith, e))

at-end : (ts : List Table) (n : ℕ) (t u : Table) → slice_get (ts ++ t ∷ []) n ≡ Some u → (slice_get ts n ≡ Some u) ⊎ ((n ≡ length ts) × (u ≡ t))
at-end [] zero t u e = inr (omega arith, sym (same_Some t u e))
at-end [] (suc n) t u e = absurd (none-some u e)
at-end (x ∷ ts) zero t u e = inl e
at-end (x ∷ ts) (suc n) t u e =
    split (λ (h : slice_get ts n ≡ Some u). inl h) (λ (h : (n ≡ length ts) × (u ≡ t)). inr (omega (arith, h.0), h.1)) (at-end ts n t u e)

has-end : (ts : List Table) (t : Table) (f : Filter) (n : ℕ) → HasAt (ts ++ t ∷ []) f n → HasAt ts f n ⊎ ((n ≡ length ts) × (shape t.filter ≡ f))
has-end ts t f n h =
    split (λ (k : slice_get ts n ≡ Some h.0). inl (h.0, k, h.2))
    (λ (k : (n ≡ length ts) × (h.0 ≡ t)). inr (k.0, ap (λ (x : Table). shape x.filter) (sym k.1) ∙ h.2)) (at-end ts n t h.0 h.1)

-- ---- a table of a filter, by the test

pub other-at : (ts : List Table) (n : ℕ) (t : Table) (f : Filter) → slice_get ts n ≡ Some t → same_filter (shape t.filter) f ≡ false → HasAt ts f n → ⊥
other-at ts n t f e s h =
    let same : h.0 ≡ t = same_Some h.0 t (sym h.1 ∙ e) in
    true≢false (sym (filter-same f) ∙ ap (λ g. same_filter g f) (sym h.2 ∙ ap (λ (x : Table). shape x.filter) same) ∙ s)

pub none-behind : (ts : List Table) (f : Filter) (i : ℕ) → length ts ≤ i → ((n : ℕ) → n < i → HasAt ts f n → ⊥) → HasNone ts f
none-behind ts f i l h n k = h n (omega (arith, l, there-within ts n k.0 k.1)) k

-- ---- one table more

distinct-add : (ts : List Table) (t : Table) → AreDistinct ts → HasNone ts (shape t.filter) → AreDistinct (ts ++ t ∷ [])
distinct-add ts t d h f m n x y =
    split
    (λ (a : HasAt ts f m). split (λ (b : HasAt ts f n). d f m n a b)
    (λ (b : (n ≡ length ts) × (shape t.filter ≡ f)). absurd (h m (subst (λ g. HasAt ts g m) (sym b.1) a))) (has-end ts t f n y))
    (λ (a : (m ≡ length ts) × (shape t.filter ≡ f)). split (λ (b : HasAt ts f n). absurd (h n (subst (λ g. HasAt ts g n) (sym a.1) b)))
    (λ (b : (n ≡ length ts) × (shape t.filter ≡ f)). a.0 ∙ sym b.0) (has-end ts t f n y))
    (has-end ts t f m x)

-- the numbers with one more
abbrev pub Puts : List (Bytes × ℕ) → Bytes → ℕ → List (Bytes × ℕ) → Type 0
Puts es key n fs = (q : Bytes) → number_at fs q ≡ cond (pointwise nat_eq key q) (Some n) (number_at es q)

put-some : (b : Bool) (n : ℕ) (o : Option ℕ) → (o ≡ None → ⊥) → cond b (Some n) o ≡ None → ⊥
put-some true n o h e = none-some n (sym e)
put-some false n o h e = h e

put-here : (b : Bool) (n : ℕ) (o : Option ℕ) → b ≡ true → cond b (Some n) o ≡ None → ⊥
put-here true n o h e = none-some n (sym e)
put-here false n o h e = true≢false (sym h)

put-within : (b : Bool) (n m k : ℕ) (o : Option ℕ) → n < k → (o ≡ Some m → m < k) → cond b (Some n) o ≡ Some m → m < k
put-within true n m k o l h e = subst (λ x. x < k) (same_Some n m e) l
put-within false n m k o l h e = h e

keyed-add : (ts : List Table) (t : Table) (es fs : List (Bytes × ℕ)) → AreNumbered ts es → Puts es (printed (shape t.filter)) (length ts) fs
    → (f : Filter) (n : ℕ) → HasAt (ts ++ t ∷ []) f n → number_at fs (printed f) ≡ None → ⊥
keyed-add ts t es fs k p f n x e =
    let q = printed f in
    let here : cond (pointwise nat_eq (printed (shape t.filter)) q) (Some (length ts)) (number_at es q) ≡ None = sym (p q) ∙ e in
    split
    (λ (a : HasAt ts f n). put-some (pointwise nat_eq (printed (shape t.filter)) q) (length ts) (number_at es q) (k.keyed f n a) here)
    (λ (a : (n ≡ length ts) × (shape t.filter ≡ f)). put-here (pointwise nat_eq (printed (shape t.filter)) q) (length ts) (number_at es q)
    (ap (λ g. pointwise nat_eq (printed g) q) a.1 ∙ eq-self q) here)
    (has-end ts t f n x)

within-add : (ts : List Table) (t : Table) (key : Bytes) (es fs : List (Bytes × ℕ)) → AreNumbered ts es → Puts es key (length ts) fs
    → (q : Bytes) (m : ℕ) → number_at fs q ≡ Some m → m < length (ts ++ t ∷ [])
within-add ts t key es fs k p q m e =
    let more : length (ts ++ t ∷ []) ≡ length ts + 1 = length-append ts (t ∷ []) in
    put-within (pointwise nat_eq key q) (length ts) m (length (ts ++ t ∷ [])) (number_at es q) (omega (arith, more))
    (λ o. omega (arith, more, k.within q m o)) (sym (p q) ∙ e)

pub stored-add : (ts : List Table) (t : Table) (es fs : List (Bytes × ℕ)) → IsStored ts es → HasNone ts (shape t.filter) → Puts es (printed (shape t.filter)) (length ts) fs → IsStored (ts ++ t ∷ []) fs
stored-add ts t es fs s h p = record {
  distinct = distinct-add ts t s.distinct h;
  numbered = record { keyed = keyed-add ts t es fs s.numbered p; within = within-add ts t (printed (shape t.filter)) es fs s.numbered p };
}

-- ---- what comes of a filter

pub interns-known : (ts : List Table) (f : Filter) (n : ℕ) → HasAt ts f n → Interns ts ts f n
interns-known ts f n h = record { there = h; known = λ m k. refl; fresh = λ k. absurd (k n h) }

pub interns-fresh : (ts us : List Table) (t : Table) (f : Filter) (n : ℕ) → HasNone ts f → shape t.filter ≡ f → n ≡ length ts → us ≡ ts ++ t ∷ [] → Interns ts us f n
interns-fresh ts us t f n h e k u = record {
  there = (t, ap (λ xs. slice_get xs n) u ∙ at-last ts n t k, e);
  known = λ m a. absurd (h m a);
  fresh = λ a. (k, (t, u));
}

-- ---- canonical texts

-- a filter that a text spells is read of its canonical text
read-again : (s : Bytes) (f : Filter) → SpellsFilter s f → filter_of (printed f) ≡ Some f
read-again s f h =
    let g = filter-good s f h in
    filter_read (printed f) f (filter_spelt f g.links g.paths)

pub tables-law : TablesLaw
tables-law s t f g h k = (
  λ e. same_Some f g (sym (read-again s f h) ∙ ap filter_of e ∙ read-again t g k),
  λ e. ap printed e,
)
