-- Paths at the front of texts, and how they are spelled.
use Rattle.git_objects.proofs.Pointwise.{from-T}
use Rattle.std.proofs.lemmas.Bool.{or_parts}
use Rattle.std.proofs.Common.{◌≡◌, ◌+◌, ◌-◌, ◌≤◌, ℕ, zero, suc, Bool, true, false, not, cond, ◌&&◌, ◌||◌, true≢false, [], ◌∷◌, ◌++◌, length, take, drop, Option, Some, None, Ok, Err, refl, sym, ap, ◌∙◌, arith, eqb, eqb-true, append_assoc, append-nil, length-append, length-take}
use Rattle.std.proofs.Math.ListN.{take-append-drop}
use Rattle.std.specs.Prelude.{nat_eq}
use Rattle.std.specs.Option.{option_map}
use Rattle.std.specs.List.{list_all, list_any, ends_with, onto_first}
use Rattle.std.specs.Cmp.Lexicographic.{bytes_decides, pointwise}
use Rattle.std.proofs.lemmas.List.{drop_at, take_at}
use Rattle.git_objects.specs.Paths.{Bytes, Path, is_nil, is_component}
use Rattle.git_objects.proofs.Basics.{second}
use Rattle.path_names.specs.PathTexts.{parts, path_of}
use Rattle.path_names.specs.Quoting.{unquote}
use Rattle.path_names.proofs.Readings.{path_text_law}
use Rattle.path_names.specs.PathTexts.{ok_path}
use Rattle.filter_text.specs.Texts.{Read, begins, ends_bare, as_path, quoted_at, cut, bare_len, without_slash, name_at, kept_name_at}
use Rattle.filter_text.specs.Spelling.{SpellsName, bare, quoted}
use Rattle.filter_text.proofs.Quoteds.{quoted-front, quoted-append, quoted-begins}

take-append_seam : (w r : Bytes) → take (length w) (w ++ r) ≡ w
take-append_seam w r = take_at w r (length w) refl

drop-append_seam : (w r : Bytes) → drop (length w) (w ++ r) ≡ r
drop-append_seam w r = drop_at w r (length w) refl

-- where a bare path ends
abbrev pub stops : Bytes → Bool
stops [] = true
stops (x ∷ t) = ends_bare x

-- ---- bare paths

pub bare-append : (w r : Bytes) → list_any ends_bare w ≡ false → stops r ≡ true → bare_len (w ++ r) ≡ length w
bare-append [] [] h s = refl
bare-append [] (x ∷ r) h s = ap (λ b. cond (not b) (1 + bare_len r) 0) s
bare-append (x ∷ w) r h s =
    let both = or_parts (ends_bare x) (list_any ends_bare w) h in
    let ih = bare-append w r both.1 s in
    let more : 1 + bare_len (w ++ r) ≡ suc (length w) = omega arith in
    ap (λ b. cond (not b) (1 + bare_len (w ++ r)) 0) both.0 ∙ more

pub bare-take : (k : ℕ) (t : Bytes) → k ≤ bare_len t → list_any ends_bare (take k t) ≡ false
bare-take zero t h = refl
bare-take (suc k) [] h = refl
bare-take (suc k) (x ∷ t) h =
    elim (ends_bare x) as (λ b. ends_bare x ≡ b → suc k ≤ cond (not b) (1 + bare_len t) 0 → (b || list_any ends_bare (take k t)) ≡ false) [
      | true ↦ λ e g. absurd (omega arith)
      | false ↦ λ e g. bare-take k t (omega arith)
    ] refl h

any-append : (w v : Bytes) → list_any ends_bare w ≡ false → list_any ends_bare v ≡ false → list_any ends_bare (w ++ v) ≡ false
any-append [] v h k = k
any-append (x ∷ w) v h k =
    let both = or_parts (ends_bare x) (list_any ends_bare w) h in
    ap (λ b. b || list_any ends_bare (w ++ v)) both.0 ∙ any-append w v both.1 k

-- ---- no path's text is empty or ends in a slash

and-none : (a : Bool) → (a && false) ≡ false
and-none true = refl
and-none false = refl

slash-whole : (ps : Path) → list_all is_component (drop 1 ps) ≡ false → list_all is_component ps ≡ false
slash-whole [] h = h
slash-whole (p ∷ ps) h = ap (λ b. is_component p && b) h ∙ and-none (is_component p)

slash-onto : (x : ℕ) (ps : Path) → list_all is_component (drop 1 ps) ≡ false → list_all is_component (drop 1 (onto_first x ps)) ≡ false
slash-onto x [] h = absurd (true≢false h)
slash-onto x (p ∷ ps) h = h

slash-parts : (v : Bytes) → list_all is_component (drop 1 (parts (v ++ 47 ∷ []))) ≡ false
slash-parts [] = refl
slash-parts (x ∷ v) =
    elim (eqb x 47) as (λ b. list_all is_component (drop 1 (cond b ([] ∷ parts (v ++ 47 ∷ [])) (onto_first x (parts (v ++ 47 ∷ []))))) ≡ false) [
      | true ↦ slash-whole (parts (v ++ 47 ∷ [])) (slash-parts v)
      | false ↦ slash-onto x (parts (v ++ 47 ∷ [])) (slash-parts v)
    ]

path-parts : (t : Bytes) (p : Path) → path_of t ≡ Ok p → list_all is_component (parts t) ≡ true
path-parts t p e =
    let ok = path_text_law.path t p e in
    ap (λ s. list_all is_component (parts s)) (sym (path_text_law.same_text t p e))
    ∙ ap (list_all is_component) (path_text_law.same_parts p ok)
    ∙ from-T (list_all is_component p) (second (not (is_nil p)) (list_all is_component p) ok)

no-slash : (v : Bytes) (p : Path) → path_of (v ++ 47 ∷ []) ≡ Ok p → ⊥
no-slash v p e = true≢false (sym (path-parts (v ++ 47 ∷ []) p e) ∙ slash-whole (parts (v ++ 47 ∷ [])) (slash-parts v))

no-empty : (p : Path) → path_of [] ≡ Ok p → ⊥
unfolding path_of
no-empty p e = cc

-- a bare path doesn't begin with a byte that ends one
pub bare-first : (k : ℕ) (w r : Bytes) (p : Path) → ends_bare k ≡ true → list_any ends_bare w ≡ false → path_of w ≡ Ok p → begins k (w ++ r) ≡ false
bare-first k [] r p e h q = absurd (no-empty p q)
bare-first k (x ∷ w) r p e h q =
    elim (eqb x k) as (λ b. eqb x k ≡ b → b ≡ false) [
      | true ↦ λ g. absurd (true≢false (sym (ap ends_bare (eqb-true x k g) ∙ e) ∙ (or_parts (ends_bare x) (list_any ends_bare w) h).0))
      | false ↦ λ g. refl
    ] refl

-- ---- what is spelled so is read

path-read : (u r : Bytes) (p : Path) → path_of u ≡ Ok p → as_path (Some (u, r)) ≡ Some (p, r)
path-read u r p e = ap (λ q. option_map (λ s. (s, r)) (ok_path q)) e

quoted-read : (w u r : Bytes) → unquote w ≡ Some (u, length w) → quoted_at (w ++ r) ≡ Some (u, r)
quoted-read w u r e =
    ap (option_map (λ f. (f.0, drop f.1 (w ++ r)))) (quoted-append w u e r)
    ∙ ap (λ s. Some (u, s)) (drop-append_seam w r)

cut-read : (w r : Bytes) (n : ℕ) → n ≡ length w → cut n (w ++ r) ≡ Some (w, r)
cut-read w r n e = ap (λ k. cut k (w ++ r)) e ∙ (λ i. Some (take-append_seam w r i, drop-append_seam w r i))

pub name-read : {w : Bytes} {p : Path} → SpellsName w p → (r : Bytes) → stops r ≡ true → name_at (w ++ r) ≡ Some (p, r)
unfolding name_at
name-read (bare w p h e) r s =
    ap (λ b. as_path (cond b (quoted_at (w ++ r)) (cut (bare_len (w ++ r)) (w ++ r)))) (bare-first 34 w r p refl h e)
    ∙ ap as_path (cut-read w r (bare_len (w ++ r)) (bare-append w r h s)) ∙ path-read w r p e
name-read (quoted w u p q e) r s =
    ap (λ b. as_path (cond b (quoted_at (w ++ r)) (cut (bare_len (w ++ r)) (w ++ r)))) (quoted-begins w u q r)
    ∙ ap as_path (quoted-read w u r q) ∙ path-read u r p e

ends-slash : (w : Bytes) → ends_with nat_eq w (47 ∷ []) ≡ true → w ≡ take (length w - 1) w ++ 47 ∷ []
ends-slash w h =
    let last : 47 ∷ [] ≡ drop (length w - 1) w = (bytes_decides (47 ∷ []) (drop (length w - 1) w)).0 h in
    sym (take-append-drop (length w - 1) w) ∙ ap (λ d. take (length w - 1) w ++ d) (sym last)

with-slash : (w : Bytes) (p : Path) → path_of w ≡ Ok p → without_slash w ≡ length w
with-slash w p e =
    elim (ends_with nat_eq w (47 ∷ [])) as (λ b. ends_with nat_eq w (47 ∷ []) ≡ b → cond b (length w - 1) (length w) ≡ length w) [
      | true ↦ λ h. absurd (no-slash (take (length w - 1) w) p (ap path_of (sym (ends-slash w h)) ∙ e))
      | false ↦ λ h. refl
    ] refl

slash-left : (w : Bytes) → without_slash (w ++ 47 ∷ []) ≡ length w
slash-left w =
    let n : length (w ++ 47 ∷ []) - 1 ≡ length w = omega (arith, length-append w (47 ∷ [])) in
    let ends : ends_with nat_eq (w ++ 47 ∷ []) (47 ∷ []) ≡ true =
    ap (λ k. pointwise nat_eq (47 ∷ []) (drop k (w ++ 47 ∷ []))) n ∙ ap (pointwise nat_eq (47 ∷ [])) (drop-append_seam w (47 ∷ [])) in
    ap (λ b. cond b (length (w ++ 47 ∷ []) - 1) (length (w ++ 47 ∷ []))) ends ∙ n

pub file-read : {w : Bytes} {p : Path} → SpellsName w p → (r : Bytes) → stops r ≡ true → kept_name_at (w ++ r) ≡ Some (p, r)
unfolding kept_name_at
file-read (bare w p h e) r s =
    ap (λ b. as_path (cond b (quoted_at (w ++ r)) (cut (without_slash (take (bare_len (w ++ r)) (w ++ r))) (w ++ r)))) (bare-first 34 w r p refl h e)
    ∙ ap as_path (cut-read w r (without_slash (take (bare_len (w ++ r)) (w ++ r)))
    (ap (λ n. without_slash (take n (w ++ r))) (bare-append w r h s) ∙ ap without_slash (take-append_seam w r) ∙ with-slash w p e))
    ∙ path-read w r p e
file-read (quoted w u p q e) r s =
    ap (λ b. as_path (cond b (quoted_at (w ++ r)) (cut (without_slash (take (bare_len (w ++ r)) (w ++ r))) (w ++ r)))) (quoted-begins w u q r)
    ∙ ap as_path (quoted-read w u r q) ∙ path-read u r p e

pub dir-read : {w : Bytes} {p : Path} → SpellsName w p → (r : Bytes) → stops r ≡ true → kept_name_at (w ++ 47 ∷ r) ≡ Some (p, 47 ∷ r)
unfolding kept_name_at
dir-read (bare w p h e) r s =
    let t = w ++ 47 ∷ r in
    let regroup : t ≡ (w ++ 47 ∷ []) ++ r = sym (append_assoc w (47 ∷ []) r) in
    let n : bare_len t ≡ length (w ++ 47 ∷ []) = ap bare_len regroup ∙ bare-append (w ++ 47 ∷ []) r (any-append w (47 ∷ []) h refl) s in
    ap (λ b. as_path (cond b (quoted_at t) (cut (without_slash (take (bare_len t) t)) t))) (bare-first 34 w (47 ∷ r) p refl h e)
    ∙ ap as_path (cut-read w (47 ∷ r) (without_slash (take (bare_len t) t))
    ((λ i. without_slash (take (n i) (regroup i))) ∙ ap without_slash (take-append_seam (w ++ 47 ∷ []) r) ∙ slash-left w))
    ∙ path-read w (47 ∷ r) p e
dir-read (quoted w u p q e) r s =
    let t = w ++ 47 ∷ r in
    ap (λ b. as_path (cond b (quoted_at t) (cut (without_slash (take (bare_len t) t)) t))) (quoted-begins w u q (47 ∷ r))
    ∙ ap as_path (quoted-read w u (47 ∷ r) q) ∙ path-read u (47 ∷ r) p e

-- ---- what is read is spelled so

-- some front of t, before r, is so
pub record IsFront (S : Bytes → Type 0) (t r : Bytes) : Type 0 where
  pub front : Bytes
  pub is : t ≡ front ++ r
  pub spelled : S front

abbrev or_that : {X : Type 0} → X → Option X → X
or_that x None = x
or_that x (Some y) = y

pub some_is : {X : Type 0} (x y : X) → Some x ≡ Some y → x ≡ y
some_is x y e = ap (or_that x) e

record NamesPath (o : Read Bytes) (p : Path) (r : Bytes) : Type 0 where
  name : Bytes
  is : o ≡ Some (name, r)
  path : path_of name ≡ Ok p

names_path : (o : Read Bytes) (p : Path) (r : Bytes) → as_path o ≡ Some (p, r) → NamesPath o p r
names_path None p r e = absurd (let h : ⊥ = cc in h)
names_path (Some x) p r e =
    elim (path_of x.0) as (λ q. path_of x.0 ≡ q → option_map {U = Path × Bytes} (λ s. (s, x.1)) (ok_path q) ≡ Some (p, r) → NamesPath (Some x) p r) [
      | Ok s ↦ λ k g.
          let both = some_is (s, x.1) (p, r) g in
          let same : s ≡ p = ap (λ z. z.0) both in
          let rest : x.1 ≡ r = ap (λ z. z.1) both in
          record { name = x.0; is = (λ i. Some (x.0, rest i)); path = k ∙ ap Ok same }
      | Err f ↦ λ k g. absurd (let h : ⊥ = cc in h)
    ] refl e

quoted_spelled : (t : Bytes) (u r : Bytes) (p : Path) → quoted_at t ≡ Some (u, r) → path_of u ≡ Ok p → IsFront (λ w. SpellsName w p) t r
quoted_spelled t u r p e k =
    elim (unquote t) as (λ o. unquote t ≡ o → option_map {U = Bytes × Bytes} (λ f. (f.0, drop f.1 t)) o ≡ Some (u, r) → IsFront (λ w. SpellsName w p) t r) [
      | None ↦ λ g h. absurd (let x : ⊥ = cc in x)
      | Some f ↦ λ g h.
          let q = quoted-front t f g in
          let both = some_is (f.0, drop f.1 t) (u, r) h in
          let text_is : f.0 ≡ u = ap (λ z. z.0) both in
          let rest_is : drop f.1 t ≡ r = ap (λ z. z.1) both in
          let rest : q.rest ≡ r = sym (drop_at q.front q.rest f.1 q.size) ∙ ap (drop f.1) (sym q.is) ∙ rest_is in
          let whole : unquote q.front ≡ Some (u, length q.front) =
          ap unquote (sym (append-nil q.front)) ∙ q.reads [] ∙ (λ i. Some (text_is i, sym q.size i)) in
          record { front = q.front; is = q.is ∙ ap (λ s. q.front ++ s) rest; spelled = quoted q.front u p whole k }
    ] refl e

cut_spelled : (n : ℕ) (t u r : Bytes) (p : Path) → n ≤ bare_len t → cut n t ≡ Some (u, r) → path_of u ≡ Ok p → IsFront (λ w. SpellsName w p) t r
cut_spelled n t u r p l e k =
    let both = some_is (take n t, drop n t) (u, r) e in
    let front : take n t ≡ u = ap (λ z. z.0) both in
    let rest : drop n t ≡ r = ap (λ z. z.1) both in
    record {
      front = take n t;
      is = sym (take-append-drop n t) ∙ ap (λ s. take n t ++ s) rest;
      spelled = bare (take n t) p (bare-take n t l) (ap path_of front ∙ k);
    }

either_spelled : (b : Bool) (n : ℕ) (t u r : Bytes) (p : Path) → n ≤ bare_len t → cond b (quoted_at t) (cut n t) ≡ Some (u, r) → path_of u ≡ Ok p →
    IsFront (λ w. SpellsName w p) t r
either_spelled true n t u r p l e k = quoted_spelled t u r p e k
either_spelled false n t u r p l e k = cut_spelled n t u r p l e k

pub name-spelled : (t : Bytes) (p : Path) (r : Bytes) → name_at t ≡ Some (p, r) → IsFront (λ w. SpellsName w p) t r
unfolding name_at
name-spelled t p r e =
    let x = names_path (cond (begins 34 t) (quoted_at t) (cut (bare_len t) t)) p r e in
    either_spelled (begins 34 t) (bare_len t) t x.name r p (omega arith) x.is x.path

slash_less : (t : Bytes) → without_slash t ≤ length t
slash_less t =
    elim (ends_with nat_eq t (47 ∷ [])) as (λ b. cond b (length t - 1) (length t) ≤ length t) [ true ↦ omega arith | false ↦ omega arith ]

pub kept-spelled : (t : Bytes) (p : Path) (r : Bytes) → kept_name_at t ≡ Some (p, r) → IsFront (λ w. SpellsName w p) t r
unfolding kept_name_at
kept-spelled t p r e =
    let n = without_slash (take (bare_len t) t) in
    let x = names_path (cond (begins 34 t) (quoted_at t) (cut n t)) p r e in
    either_spelled (begins 34 t) n t x.name r p (omega (arith, slash_less (take (bare_len t) t), length-take (bare_len t) t)) x.is x.path
