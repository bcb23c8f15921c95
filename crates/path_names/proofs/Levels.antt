-- The order of paths, a component at a time.
use Rattle.std.proofs.Common.{◌≡◌, ◌≢◌, ◌⊎◌, inl, inr, refl, sym, ap, ◌∙◌, subst}
use Rattle.std.proofs.Common.{ℕ, zero, suc, ◌+◌, ◌≤◌, ◌<◌, nat_eq, ltb, add-one, arith, eq-eqb}
use Rattle.std.proofs.Common.{Bool, true, false, cond, T, true≢false, Option, Some, None}
use Rattle.std.proofs.Common.{[], ◌∷◌, ◌++◌, length, take, drop, get_or, drop-cons}
use Rattle.std.specs.declared.cmp.Ordering.{Ordering}
use Rattle.std.specs.declared.cmp.Ordering.TheVariants.{Less, Equal, Greater}
use Rattle.std.specs.List.{slice_get}
use Rattle.std.specs.Option.{option_or, option_cmp}
use Rattle.std.specs.Ordering.{nat_cmp, ordering_then, is_lt, is_ne}
use Rattle.std.specs.Cmp.{first_so, second_so}
use Rattle.std.specs.Cmp.Lexicographic.{slice_cmp}
use Rattle.std.specs.FinMap.{nat_cmp-IsAntisymmetric}
use Rattle.std.proofs.lemmas.Bool.{not-true, ltb-true, ltb-false, le-ltb, lt-ltb}
use Rattle.std.proofs.lemmas.List.{drop_all}
use Rattle.git_objects.specs.Paths.{Bytes, Path, key, path_cmp, is_path, before}
use Rattle.git_objects.proofs.Basics.{plain}
use Rattle.git_objects.proofs.Texts.{text_order, then_assoc}

decided : (o a : Ordering) → o ≢ Equal → ordering_then o a ≡ o
decided Less a h = refl
decided Equal a h = absurd (h refl)
decided Greater a h = refl

not_slash : (x : ℕ) (c : Bytes) → plain (x ∷ c) ≡ true → x ≢ 47
not_slash x c h e = true≢false (sym (eq-eqb x 47 e) ∙ not-true (nat_eq x 47) (second_so _ _ (first_so _ _ h)))

-- a component as a text has it: with a slash behind it where more follow
abbrev pub with_slash : Bytes → Bool → Bytes
with_slash c more = cond more (c ++ 47 ∷ []) c

-- the byte there of a component, of the slash behind it, or none
abbrev pub byte : Bytes → Bool → ℕ → Option ℕ
byte c more at = option_or (slice_get c at) (cond more (Some 47) None)

behind : (x : ℕ) (c : Bytes) (more : Bool) → with_slash (x ∷ c) more ≡ x ∷ with_slash c more
behind x c true = refl
behind x c false = refl

abbrev Level : Bytes → Bool → Bytes → Bool → ℕ → Type 0
Level c m d k n =
    slice_cmp nat_cmp (with_slash c m) (with_slash d k)
    ≡ ordering_then (slice_cmp nat_cmp (take n c) (take n d)) (option_cmp nat_cmp (byte c m n) (byte d k n))

before_byte : (y : ℕ) (d : Bytes) (o : Ordering) → plain (y ∷ d) ≡ true → ordering_then (nat_cmp 47 y) o ≡ nat_cmp 47 y
before_byte y d o q = decided (nat_cmp 47 y) o (λ e. not_slash y d q (sym (nat_cmp-IsAntisymmetric 47 y e)))

behind_byte : (x : ℕ) (c : Bytes) (o : Ordering) → plain (x ∷ c) ≡ true → ordering_then (nat_cmp x 47) o ≡ nat_cmp x 47
behind_byte x c o p = decided (nat_cmp x 47) o (λ e. not_slash x c p (nat_cmp-IsAntisymmetric x 47 e))

ended : (c : Bytes) (m : Bool) (d : Bytes) (k : Bool) → (length c ≤ 0) ⊎ (length d ≤ 0) →
    plain c ≡ true → plain d ≡ true → Level c m d k 0
ended [] true [] true h p q = refl
ended [] true [] false h p q = refl
ended [] false [] true h p q = refl
ended [] false [] false h p q = refl
ended [] false (y ∷ d) true h p q = refl
ended [] false (y ∷ d) false h p q = refl
ended [] true (y ∷ d) true h p q = before_byte y d _ q
ended [] true (y ∷ d) false h p q = before_byte y d _ q
ended (x ∷ c) true [] false h p q = refl
ended (x ∷ c) false [] false h p q = refl
ended (x ∷ c) true [] true h p q = behind_byte x c _ p
ended (x ∷ c) false [] true h p q = behind_byte x c _ p
ended (x ∷ c) m (y ∷ d) k h p q = absurd (elim h [ inl l ↦ omega arith | inr r ↦ omega arith ])

-- bytes that both have are compared first, then the byte behind them
pub level_is : (c : Bytes) (m : Bool) (d : Bytes) (k : Bool) (n : ℕ) → n ≤ length c → n ≤ length d →
    (length c ≤ n) ⊎ (length d ≤ n) → plain c ≡ true → plain d ≡ true → Level c m d k n
level_is c m d k zero h g e p q = ended c m d k e p q
level_is [] m d k (suc n) h g e p q = absurd (omega arith)
level_is (x ∷ c) m [] k (suc n) h g e p q = absurd (omega arith)
level_is (x ∷ c) m (y ∷ d) k (suc n) h g e p q =
    let f : (length c ≤ n) ⊎ (length d ≤ n) = elim e [ inl l ↦ inl (omega arith) | inr r ↦ inr (omega arith) ] in
    let rest = level_is c m d k n (omega arith) (omega arith) f (second_so _ _ p) (second_so _ _ q) in
    (λ i. slice_cmp nat_cmp (behind x c m i) (behind y d k i))
    ∙ ap (ordering_then (nat_cmp x y)) rest
    ∙ then_assoc (nat_cmp x y) (slice_cmp nat_cmp (take n c) (take n d)) (option_cmp nat_cmp (byte c m n) (byte d k n))

-- the component at a place of a path, as the text has it
key_at : (c : Bytes) (a : Path) (j : ℕ) → key c (drop j a) ≡ with_slash c (ltb j (length a))
key_at c a j =
    elim (ltb j (length a)) as (λ b. ltb j (length a) ≡ b → key c (drop j a) ≡ with_slash c b) [
      | true ↦ λ e. ap (key c) (drop-cons a j [] (ltb-true j (length a) e))
      | false ↦ λ e. ap (key c) (drop_all j a (ltb-false j (length a) e))
    ]
    refl

-- the order of two components at a place of two paths, and of what is left of the paths there
abbrev level : Path → Path → ℕ → Bytes → Bytes → Ordering
level a b i c d = slice_cmp nat_cmp (with_slash c (ltb (i + 1) (length a))) (with_slash d (ltb (i + 1) (length b)))

abbrev left : Path → Path → ℕ → Ordering
left a b i = path_cmp (drop i a) (drop i b)

level_more : (a b : Path) (i : ℕ) (x y : Bytes) → i < length a → i < length b → x ≡ get_or a i x → y ≡ get_or b i y →
    left a b i ≡ ordering_then (level a b i x y) (left a b (i + 1))
level_more a b i x y h g e f =
    (λ k. path_cmp (drop-cons a i x h k) (drop-cons b i y g k))
    ∙ (λ k. path_cmp (sym e k ∷ drop (suc i) a) (sym f k ∷ drop (suc i) b))
    ∙ (λ k. ordering_then (slice_cmp nat_cmp (key_at x a (suc i) k) (key_at y b (suc i) k)) (left a b (suc i)))
    ∙ (λ k.
    let j = sym (add-one i) k in
    ordering_then (slice_cmp nat_cmp (with_slash x (ltb j (length a))) (with_slash y (ltb j (length b)))) (left a b j))

-- one turn of the loop
pub level_turn : (a b : Path) (i : ℕ) (x y c d : Bytes) (o : Ordering) → i < length a → i < length b →
    x ≡ get_or a i x → y ≡ get_or b i y → c ≡ x → d ≡ y → o ≡ level a b i c d → left a b i ≡ path_cmp a b →
    path_cmp a b ≡ ordering_then o (left a b (i + 1))
level_turn a b i x y c d o h g e f u v w before_now =
    sym before_now ∙ level_more a b i x y h g e f
    ∙ (λ k. ordering_then (sym (w ∙ (λ j. level a b i (u j) (v j))) k) (left a b (i + 1)))

-- where one path has ended
pub level_end : (p q : Path) (k m n : ℕ) → (length p ≡ 0) ⊎ (length q ≡ 0) → length p + k ≡ m → length q + k ≡ n →
    ltb m n ≡ is_lt (path_cmp p q)
level_end [] [] k m n h e f = le-ltb m n (omega arith)
level_end [] (d ∷ q) k m n h e f = lt-ltb m n (omega arith)
level_end (c ∷ p) [] k m n h e f = le-ltb m n (omega arith)
level_end (c ∷ p) (d ∷ q) k m n h e f = absurd (elim h [ inl l ↦ omega arith | inr r ↦ omega arith ])

-- what the order of one level tells of the whole
pub told : (o rest : Ordering) → is_ne o ≡ true → is_lt (ordering_then o rest) ≡ is_lt o
told Less rest h = refl
told Equal rest h = absurd (true≢false (sym h))
told Greater rest h = refl

pub untold : (o rest : Ordering) → is_ne o ≡ false → ordering_then o rest ≡ rest
untold Less rest h = absurd (true≢false h)
untold Equal rest h = refl
untold Greater rest h = absurd (true≢false h)

-- on paths
pub before-paths : (p q : Path) → is_path p ≡ true → is_path q ≡ true → before p q ≡ is_lt (path_cmp p q)
before-paths p q h g = ap is_lt (text_order p q (subst T (sym h) tt) (subst T (sym g) tt))
