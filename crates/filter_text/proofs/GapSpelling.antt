-- Gaps, blanks and targets, and how they are spelled.
use Rattle.std.proofs.Math.Bool.{or-false}
use Rattle.std.proofs.Common.{◌≡◌, ◌⊎◌, inl, inr, ℕ, Bool, true, false, not, cond, ◌&&◌, ◌||◌, true≢false, [], ◌∷◌, ◌++◌, Option, Some, None, refl, sym, ap, ◌∙◌, eqb, eqb-true, append_assoc, append-nil, subst}
use Rattle.std.specs.Option.{option_map, option_and_then}
use Rattle.std.specs.List.{list_all}
use Rattle.git_objects.specs.Paths.{Bytes, Path}
use Rattle.path_names.specs.PathTexts.{path_of}
use Rattle.git_objects.specs.CommitBodies.{strip}
use Rattle.git_objects.proofs.CommitReading.{strip-spelled}
use Rattle.filter_text.specs.Texts.{Read, begins, is_blank, is_break, ends_bare, going, gap_from, gap, past_blanks, name_at, equals, target_at}
use Rattle.filter_text.specs.Spelling.{SpellsName, bare, quoted, AreBlanks, no_lf, IsGap, nothing, blank, separator, comment, IsLastGap, closed, open_comment, SpellsTarget, without, target}
use Rattle.filter_text.proofs.Quoteds.{quoted-begins}
use Rattle.filter_text.proofs.PathNames.{stops, IsFront, some_is, bare-first, name-read, name-spelled}

-- ---- single bytes

pub blank-is : (P : ℕ → Type 0) (x : ℕ) → is_blank x ≡ true → P 32 → P 9 → P 13 → P x
blank-is P x h a b c =
    elim (eqb x 32) as (λ k. eqb x 32 ≡ k → (k || eqb x 9 || eqb x 13) ≡ true → P x) [
      | true ↦ λ e g. subst P (sym (eqb-true x 32 e)) a
      | false ↦ λ e.
          elim (eqb x 9) as (λ k. eqb x 9 ≡ k → (k || eqb x 13) ≡ true → P x) [
            | true ↦ λ f g. subst P (sym (eqb-true x 9 f)) b
            | false ↦ λ f g. subst P (sym (eqb-true x 13 g)) c
          ] refl
    ] refl h

pub break-is : (P : ℕ → Type 0) (x : ℕ) → is_break x ≡ true → P 44 → P 10 → P x
break-is P x h a b =
    elim (eqb x 44) as (λ k. eqb x 44 ≡ k → (k || eqb x 10) ≡ true → P x) [
      | true ↦ λ e g. subst P (sym (eqb-true x 44 e)) a
      | false ↦ λ e g. subst P (sym (eqb-true x 10 g)) b
    ] refl h

or-all : (b : Bool) → (b || true) ≡ true
or-all true = refl
or-all false = refl

pub stops-not : (k : ℕ) (r : Bytes) → ends_bare k ≡ false → stops r ≡ true → begins k r ≡ false
stops-not k [] h s = refl
stops-not k (x ∷ r) h s =
    elim (eqb x k) as (λ b. eqb x k ≡ b → b ≡ false) [
      | true ↦ λ e. absurd (true≢false (sym s ∙ ap ends_bare (eqb-true x k e) ∙ h))
      | false ↦ λ e. refl
    ] refl

pub begins-one : (j k : ℕ) (t : Bytes) → eqb j k ≡ false → begins j t ≡ true → begins k t ≡ false
begins-one j k [] h e = refl
begins-one j k (x ∷ t) h e = ap (λ y. eqb y k) (eqb-true x j e) ∙ h

pub begins-stops : (k : ℕ) (t : Bytes) → ends_bare k ≡ true → begins k t ≡ true → stops t ≡ true
begins-stops k [] h e = refl
begins-stops k (x ∷ t) h e = ap ends_bare (eqb-true x k e) ∙ h

-- ---- gaps that were read

pub record InGap (b : Bool) (t : Bytes) (o : Bool × Bytes) : Type 0 where
  pub gap : Bytes
  pub broken : Bool
  pub spelled : IsGap gap broken
  pub is : t ≡ gap ++ o.1
  pub flag : o.0 ≡ (b || broken)

pub record InLast (t : Bytes) (o : Bool × Bytes) : Type 0 where
  pub gap : Bytes
  pub line : Bytes
  pub broken : Bool
  pub spelled : IsGap gap broken
  pub plain : no_lf line ≡ true
  pub is : t ≡ gap ++ 35 ∷ line
  pub rest : o.1 ≡ []

abbrev pub Gapped : Bool → Bytes → Bool × Bytes → Type 0
Gapped b t o = InGap b t o ⊎ InLast t o

record InComment (t : Bytes) (o : Bool × Bytes) : Type 0 where
  line : Bytes
  behind : Bytes
  plain : no_lf line ≡ true
  is : t ≡ line ++ 10 ∷ behind
  after : Gapped true behind o

record OpenComment (t : Bytes) (o : Bool × Bytes) : Type 0 where
  plain : no_lf t ≡ true
  rest : o.1 ≡ []

at_once : (b : Bool) (t : Bytes) → Gapped b t (b, t)
at_once b t = inl (record { gap = []; broken = false; spelled = nothing; is = refl; flag = sym (or-false b) })

after_break : (b : Bool) (x : ℕ) (t : Bytes) (o : Bool × Bytes) → is_break x ≡ true → Gapped true t o → Gapped b (x ∷ t) o
after_break b x t o e (inl g) =
    inl (record { gap = x ∷ g.gap; broken = true; spelled = separator x g.gap g.broken e g.spelled; is = ap (λ s. x ∷ s) g.is; flag = g.flag ∙ sym (or-all b) })
after_break b x t o e (inr g) =
    inr (record { gap = x ∷ g.gap; line = g.line; broken = true; spelled = separator x g.gap g.broken e g.spelled; plain = g.plain; is = ap (λ s. x ∷ s) g.is; rest = g.rest })

after_blank : (b : Bool) (x : ℕ) (t : Bytes) (o : Bool × Bytes) → is_blank x ≡ true → Gapped b t o → Gapped b (x ∷ t) o
after_blank b x t o e (inl g) =
    inl (record { gap = x ∷ g.gap; broken = g.broken; spelled = blank x g.gap g.broken e g.spelled; is = ap (λ s. x ∷ s) g.is; flag = g.flag })
after_blank b x t o e (inr g) =
    inr (record { gap = x ∷ g.gap; line = g.line; broken = g.broken; spelled = blank x g.gap g.broken e g.spelled; plain = g.plain; is = ap (λ s. x ∷ s) g.is; rest = g.rest })

after_line : (b : Bool) (x : ℕ) (t line behind : Bytes) (o : Bool × Bytes) → x ≡ 35 → no_lf line ≡ true → t ≡ line ++ 10 ∷ behind → Gapped true behind o → Gapped b (x ∷ t) o
after_line b x t line behind o e h k (inl g) =
    inl (record {
      gap = (35 ∷ line) ++ 10 ∷ g.gap;
      broken = true;
      spelled = comment line g.gap g.broken h g.spelled;
      is = (λ i. e i ∷ (k ∙ ap (λ s. line ++ 10 ∷ s) g.is ∙ sym (append_assoc line (10 ∷ g.gap) o.1)) i);
      flag = g.flag ∙ sym (or-all b);
    })
after_line b x t line behind o e h k (inr g) =
    inr (record {
      gap = (35 ∷ line) ++ 10 ∷ g.gap;
      line = g.line;
      broken = true;
      spelled = comment line g.gap g.broken h g.spelled;
      plain = g.plain;
      is = (λ i. e i ∷ (k ∙ ap (λ s. line ++ 10 ∷ s) g.is ∙ sym (append_assoc line (10 ∷ g.gap) (35 ∷ g.line))) i);
      rest = g.rest;
    })

after_comment : (b : Bool) (x : ℕ) (t : Bytes) (o : Bool × Bytes) → x ≡ 35 → InComment t o ⊎ OpenComment t o → Gapped b (x ∷ t) o
after_comment b x t o e (inl c) = after_line b x t c.line c.behind o e c.plain c.is c.after
after_comment b x t o e (inr c) =
    inr (record { gap = []; line = t; broken = false; spelled = nothing; plain = c.plain; is = (λ i. e i ∷ t); rest = c.rest })

line_longer : (x : ℕ) (t : Bytes) (o : Bool × Bytes) → eqb x 10 ≡ false → InComment t o ⊎ OpenComment t o → InComment (x ∷ t) o ⊎ OpenComment (x ∷ t) o
line_longer x t o e (inl c) =
    inl (record { line = x ∷ c.line; behind = c.behind; plain = (λ i. not (e i) && c.plain i); is = ap (λ s. x ∷ s) c.is; after = c.after })
line_longer x t o e (inr c) = inr (record { plain = (λ i. not (e i) && c.plain i); rest = c.rest })

mutual
  pub gapped : (b : Bool) (t : Bytes) → Gapped b t (gap_from false b t)
  gapped b [] = at_once b []
  gapped b (x ∷ t) =
      elim (is_break x) as (λ k. is_break x ≡ k → Gapped b (x ∷ t) (going (cond k (Some (false, true)) (cond (is_blank x) (Some (false, b)) (cond (eqb x 35) (Some (true, b)) None))) (λ c d. gap_from c d t) (b, x ∷ t))) [
        | true ↦ λ e. after_break b x t (gap_from false true t) e (gapped true t)
        | false ↦ λ e.
            elim (is_blank x) as (λ k. is_blank x ≡ k → Gapped b (x ∷ t) (going (cond k (Some (false, b)) (cond (eqb x 35) (Some (true, b)) None)) (λ c d. gap_from c d t) (b, x ∷ t))) [
              | true ↦ λ f. after_blank b x t (gap_from false b t) f (gapped b t)
              | false ↦ λ f.
                  elim (eqb x 35) as (λ k. eqb x 35 ≡ k → Gapped b (x ∷ t) (going (cond k (Some (true, b)) None) (λ c d. gap_from c d t) (b, x ∷ t))) [
                    | true ↦ λ g. after_comment b x t (gap_from true b t) (eqb-true x 35 g) (commented b t)
                    | false ↦ λ g. at_once b (x ∷ t)
                  ] refl
            ] refl
      ] refl

  commented : (b : Bool) (t : Bytes) → InComment t (gap_from true b t) ⊎ OpenComment t (gap_from true b t)
  commented b [] = inr (record { plain = refl; rest = refl })
  commented b (x ∷ t) =
      elim (eqb x 10) as (λ k. eqb x 10 ≡ k → InComment (x ∷ t) (gap_from (not k) (b || k) t) ⊎ OpenComment (x ∷ t) (gap_from (not k) (b || k) t)) [
        | true ↦ λ e. inl (record {
          line = [];
          behind = t;
          plain = refl;
          is = (λ i. eqb-true x 10 e i ∷ t);
          after = subst (λ d. Gapped d t (gap_from false (b || true) t)) (or-all b) (gapped (b || true) t);
        })
        | false ↦ λ e. line_longer x t (gap_from true (b || false) t) e (commented (b || false) t)
      ] refl

-- ---- gaps that are spelled

-- no gap goes on
abbrev pub firm : Bytes → Bool
firm [] = true
firm (x ∷ t) = not (is_break x) && not (is_blank x) && not (eqb x 35)

pub firm-from : (t : Bytes) → begins 44 t ≡ false → begins 10 t ≡ false → begins 32 t ≡ false → begins 9 t ≡ false → begins 13 t ≡ false → begins 35 t ≡ false → firm t ≡ true
firm-from [] a b c d e f = refl
firm-from (x ∷ t) a b c d e f = λ i. not (a i || b i) && not (c i || d i || e i) && not (f i)

pub firm-at : (k : ℕ) (t : Bytes) → firm (k ∷ []) ≡ true → begins k t ≡ true → firm t ≡ true
firm-at k [] h e = refl
firm-at k (x ∷ t) h e = ap (λ y. firm (y ∷ [])) (eqb-true x k e) ∙ h

firm-stays : (b : Bool) (t : Bytes) → firm t ≡ true → gap_from false b t ≡ (b, t)
firm-stays b [] h = refl
firm-stays b (x ∷ t) h =
    elim (is_break x) as (λ k. (not k && not (is_blank x) && not (eqb x 35)) ≡ true → going (cond k (Some (false, true)) (cond (is_blank x) (Some (false, b)) (cond (eqb x 35) (Some (true, b)) None))) (λ c d. gap_from c d t) (b, x ∷ t) ≡ (b, x ∷ t)) [
      | true ↦ λ g. absurd (true≢false (sym g))
      | false ↦
          elim (is_blank x) as (λ k. (not k && not (eqb x 35)) ≡ true → going (cond k (Some (false, b)) (cond (eqb x 35) (Some (true, b)) None)) (λ c d. gap_from c d t) (b, x ∷ t) ≡ (b, x ∷ t)) [
            | true ↦ λ g. absurd (true≢false (sym g))
            | false ↦
                elim (eqb x 35) as (λ k. not k ≡ true → going (cond k (Some (true, b)) None) (λ c d. gap_from c d t) (b, x ∷ t) ≡ (b, x ∷ t)) [
                  | true ↦ λ g. absurd (true≢false (sym g))
                  | false ↦ λ g. refl
                ]
          ]
    ] h

comment-read : (w u : Bytes) (b : Bool) → no_lf w ≡ true → gap_from true b (w ++ 10 ∷ u) ≡ gap_from false true u
comment-read [] u b h = ap (λ d. gap_from false d u) (or-all b)
comment-read (x ∷ w) u b h =
    elim (eqb x 10) as (λ k. (not k && no_lf w) ≡ true → gap_from (not k) (b || k) (w ++ 10 ∷ u) ≡ gap_from false true u) [
      | true ↦ λ g. absurd (true≢false (sym g))
      | false ↦ λ g. comment-read w u (b || false) g
    ] h

pub gap-read : {g : Bytes} {d : Bool} → IsGap g d → (b : Bool) (t : Bytes) → firm t ≡ true → gap_from false b (g ++ t) ≡ ((b || d), t)
gap-read nothing b t h = firm-stays b t h ∙ (λ i. (sym (or-false b) i, t))
gap-read (blank x s d e g) b t h =
    blank-is (λ y. gap_from false b (y ∷ (s ++ t)) ≡ ((b || d), t)) x e (gap-read g b t h) (gap-read g b t h) (gap-read g b t h)
gap-read (separator x s d e g) b t h =
    let rest = gap-read g true t h ∙ (λ i. (sym (or-all b) i, t)) in
    break-is (λ y. gap_from false b (y ∷ (s ++ t)) ≡ ((b || true), t)) x e rest rest
gap-read (comment w s d e g) b t h =
    ap (gap_from true b) (append_assoc w (10 ∷ s) t) ∙ comment-read w (s ++ t) b e ∙ gap-read g true t h ∙ (λ i. (sym (or-all b) i, t))

comment-open : (w : Bytes) (b : Bool) → no_lf w ≡ true → (gap_from true b w).1 ≡ []
comment-open [] b h = refl
comment-open (x ∷ w) b h =
    elim (eqb x 10) as (λ k. (not k && no_lf w) ≡ true → (gap_from (not k) (b || k) w).1 ≡ []) [
      | true ↦ λ g. absurd (true≢false (sym g))
      | false ↦ λ g. comment-open w (b || false) g
    ] h

open-read : {g : Bytes} {d : Bool} → IsGap g d → (b : Bool) (w : Bytes) → no_lf w ≡ true → (gap_from false b (g ++ 35 ∷ w)).1 ≡ []
open-read nothing b w h = comment-open w b h
open-read (blank x s d e g) b w h =
    blank-is (λ y. (gap_from false b (y ∷ (s ++ 35 ∷ w))).1 ≡ []) x e (open-read g b w h) (open-read g b w h) (open-read g b w h)
open-read (separator x s d e g) b w h =
    break-is (λ y. (gap_from false b (y ∷ (s ++ 35 ∷ w))).1 ≡ []) x e (open-read g true w h) (open-read g true w h)
open-read (comment v s d e g) b w h =
    ap (λ x. (gap_from true b x).1) (append_assoc v (10 ∷ s) (35 ∷ w)) ∙ ap (λ x. x.1) (comment-read v (s ++ 35 ∷ w) b e) ∙ open-read g true w h

pub last-read : {g : Bytes} → IsLastGap g → (gap g).1 ≡ []
last-read (closed t b g) = ap (λ s. (gap s).1) (sym (append-nil t)) ∙ ap (λ x. x.1) (gap-read g false [] refl)
last-read (open_comment t w b g h) = open-read g false w h

-- a gap begins with no byte of a name, nor with a colon
pub gap-stops : {g : Bytes} {d : Bool} → IsGap g d → (t : Bytes) → stops t ≡ true → stops (g ++ t) ≡ true
gap-stops nothing t h = h
gap-stops (blank x s d e g) t h = blank-is (λ y. ends_bare y ≡ true) x e refl refl refl
gap-stops (separator x s d e g) t h = break-is (λ y. ends_bare y ≡ true) x e refl refl
gap-stops (comment w s d e g) t h = refl

pub gap-no-colon : {g : Bytes} {d : Bool} → IsGap g d → (t : Bytes) → begins 58 t ≡ false → begins 58 (g ++ t) ≡ false
gap-no-colon nothing t h = h
gap-no-colon (blank x s d e g) t h = blank-is (λ y. eqb y 58 ≡ false) x e refl refl refl
gap-no-colon (separator x s d e g) t h = break-is (λ y. eqb y 58 ≡ false) x e refl refl
gap-no-colon (comment w s d e g) t h = refl

-- a break has a byte
pub break-stops : {g : Bytes} {d : Bool} → IsGap g d → d ≡ true → (t : Bytes) → stops (g ++ t) ≡ true
break-stops nothing e t = absurd (true≢false (sym e))
break-stops (blank x s d e g) f t = blank-is (λ y. ends_bare y ≡ true) x e refl refl refl
break-stops (separator x s d e g) f t = break-is (λ y. ends_bare y ≡ true) x e refl refl
break-stops (comment w s d e g) f t = refl

pub break-no-colon : {g : Bytes} {d : Bool} → IsGap g d → d ≡ true → (t : Bytes) → begins 58 (g ++ t) ≡ false
break-no-colon nothing e t = absurd (true≢false (sym e))
break-no-colon (blank x s d e g) f t = blank-is (λ y. eqb y 58 ≡ false) x e refl refl refl
break-no-colon (separator x s d e g) f t = break-is (λ y. eqb y 58 ≡ false) x e refl refl
break-no-colon (comment w s d e g) f t = refl

pub last-stops : {g : Bytes} → IsLastGap g → stops g ≡ true
last-stops (closed t b g) = ap stops (sym (append-nil t)) ∙ gap-stops g [] refl
last-stops (open_comment t w b g h) = gap-stops g (35 ∷ w) refl

pub last-no-colon : {g : Bytes} → IsLastGap g → begins 58 g ≡ false
last-no-colon (closed t b g) = ap (begins 58) (sym (append-nil t)) ∙ gap-no-colon g [] refl
last-no-colon (open_comment t w b g h) = gap-no-colon g (35 ∷ w) refl

-- ---- blanks

pub blanks-front : (t : Bytes) → IsFront AreBlanks t (past_blanks t)
blanks-front [] = record { front = []; is = refl; spelled = refl }
blanks-front (x ∷ t) =
    elim (is_blank x) as (λ b. is_blank x ≡ b → IsFront AreBlanks (x ∷ t) (cond b (past_blanks t) (x ∷ t))) [
      | true ↦ λ e.
          let f = blanks-front t in
          record { front = x ∷ f.front; is = ap (λ s. x ∷ s) f.is; spelled = (λ i. e i && f.spelled i) }
      | false ↦ λ e. record { front = []; is = refl; spelled = refl }
    ] refl

abbrev solid : Bytes → Bool
solid [] = true
solid (x ∷ t) = not (is_blank x)

blanks-read : (u t : Bytes) → AreBlanks u → solid t ≡ true → past_blanks (u ++ t) ≡ t
blanks-read [] [] h s = refl
blanks-read [] (x ∷ t) h s =
    elim (is_blank x) as (λ b. not b ≡ true → cond b (past_blanks t) (x ∷ t) ≡ x ∷ t) [
      | true ↦ λ e. absurd (true≢false (sym e))
      | false ↦ λ e. refl
    ] s
blanks-read (x ∷ u) t h s =
    elim (is_blank x) as (λ b. (b && list_all is_blank u) ≡ true → cond b (past_blanks (u ++ t)) (x ∷ (u ++ t)) ≡ t) [
      | true ↦ λ e. blanks-read u t e s
      | false ↦ λ e. absurd (true≢false (sym e))
    ] h

solid-at : (k : ℕ) (t : Bytes) → is_blank k ≡ false → begins k t ≡ true → solid t ≡ true
solid-at k [] h e = refl
solid-at k (x ∷ t) h e = ap (λ y. not (is_blank y)) (eqb-true x k e) ∙ ap not h

blanks-stop : (u t : Bytes) → AreBlanks u → stops t ≡ true → stops (u ++ t) ≡ true
blanks-stop [] t h s = s
blanks-stop (x ∷ u) t h s =
    elim (is_blank x) as (λ b. is_blank x ≡ b → (b && list_all is_blank u) ≡ true → ends_bare x ≡ true) [
      | true ↦ λ e g. blank-is (λ y. ends_bare y ≡ true) x e refl refl refl
      | false ↦ λ e g. absurd (true≢false (sym g))
    ] refl h

-- ---- targets

pub name-first : {w : Bytes} {p : Path} → SpellsName w p → (k : ℕ) (r : Bytes) → ends_bare k ≡ true → eqb 34 k ≡ false → begins k (w ++ r) ≡ false
name-first (bare w p h e) k r s n = bare-first k w r p s h e
name-first (quoted w u p q e) k r s n = begins-one 34 k (w ++ r) n (quoted-begins w u q r)

pub target-read : {w : Bytes} {t : Option Path} → SpellsTarget w t → (s : Bytes) → begins 58 s ≡ true → target_at (w ++ s) ≡ Some (t, s)
unfolding target_at
target-read without s h = ap (λ b. cond b (Some (None, s)) (option_and_then equals (name_at s))) h
target-read (target w u v p n bu bv) s h =
    let rest = u ++ 61 ∷ (v ++ s) in
    let regroup : ((w ++ u) ++ 61 ∷ v) ++ s ≡ w ++ rest = append_assoc (w ++ u) (61 ∷ v) s ∙ append_assoc w u (61 ∷ (v ++ s)) in
    (λ i. cond (begins 58 (regroup i)) (Some (None, regroup i)) (option_and_then equals (name_at (regroup i))))
    ∙ ap (λ b. cond b (Some (None, w ++ rest)) (option_and_then equals (name_at (w ++ rest)))) (name-first n 58 rest refl refl)
    ∙ ap (option_and_then equals) (name-read n rest (blanks-stop u (61 ∷ (v ++ s)) bu refl))
    ∙ ap (λ x. option_map (λ r. (Some p, past_blanks r)) (strip (61 ∷ []) x)) (blanks-read u (61 ∷ (v ++ s)) bu refl)
    ∙ ap (λ x. Some (Some p, x)) (blanks-read v s bv (solid-at 58 s refl h))

equals-spelled : (t : Bytes) (x : Path × Bytes) (o : Option Path) (r : Bytes) → name_at t ≡ Some x → equals x ≡ Some (o, r) → IsFront (λ w. SpellsTarget w o) t r
equals-spelled t x o r n e =
    elim (strip (61 ∷ []) (past_blanks x.1)) as (λ q. strip (61 ∷ []) (past_blanks x.1) ≡ q → option_map {U = Option Path × Bytes} (λ s. (Some x.0, past_blanks s)) q ≡ Some (o, r) → IsFront (λ w. SpellsTarget w o) t r) [
      | None ↦ λ h g. absurd (let k : ⊥ = cc in k)
      | Some s ↦ λ h g.
          let both = some_is (Some x.0, past_blanks s) (o, r) g in
          let name = name-spelled t x.0 x.1 n in
          let before = blanks-front x.1 in
          let after = blanks-front s in
          let rest_is : past_blanks s ≡ r = ap (λ z. z.1) both in
          let whole : t ≡ ((name.front ++ before.front) ++ 61 ∷ after.front) ++ r =
          name.is ∙ ap (λ y. name.front ++ y) (before.is ∙ ap (λ y. before.front ++ y) (strip-spelled (61 ∷ []) (past_blanks x.1) s h
          ∙ ap (λ y. 61 ∷ y) (after.is ∙ ap (λ y. after.front ++ y) rest_is)))
          ∙ sym (append_assoc name.front before.front (61 ∷ (after.front ++ r)))
          ∙ sym (append_assoc (name.front ++ before.front) (61 ∷ after.front) r) in
          record {
            front = (name.front ++ before.front) ++ 61 ∷ after.front;
            is = whole;
            spelled = subst (SpellsTarget ((name.front ++ before.front) ++ 61 ∷ after.front)) (ap (λ z. z.0) both)
                (target name.front before.front after.front x.0 name.spelled before.spelled after.spelled);
          }
    ] refl e

named-spelled : (t : Bytes) (n : Read Path) (o : Option Path) (r : Bytes) → name_at t ≡ n → option_and_then equals n ≡ Some (o, r) → IsFront (λ w. SpellsTarget w o) t r
named-spelled t None o r n e = absurd (let k : ⊥ = cc in k)
named-spelled t (Some x) o r n e = equals-spelled t x o r n e

pub target-spelled : (t : Bytes) (o : Option Path) (r : Bytes) → target_at t ≡ Some (o, r) → IsFront (λ w. SpellsTarget w o) t r
unfolding target_at
target-spelled t o r e =
    elim (begins 58 t) as (λ b. cond b (Some (None, t)) (option_and_then equals (name_at t)) ≡ Some (o, r) → IsFront (λ w. SpellsTarget w o) t r) [
      | true ↦ λ g.
          let both = some_is (None, t) (o, r) g in
          record { front = []; is = ap (λ z. z.1) both; spelled = subst (SpellsTarget []) (ap (λ z. z.0) both) without }
      | false ↦ λ g. named-spelled t (name_at t) o r refl g
    ] e

pub target-none : target_at [] ≡ None
unfolding target_at name_at path_of
target-none = refl
