-- Rooms for pieces and components, and depth.
use Rattle.std.proofs.Common.{◌≡◌, ◌+◌, ◌-◌, ◌≤◌, ℕ, true, false, cond, [], ◌∷◌, Some, None, refl, sym, ap, ◌∙◌, arith, leb, le-leb}
use Rattle.std.proofs.lemmas.Bool.{leb-true, leb-false}
use Rattle.git_objects.specs.Paths.{Bytes}
use Rattle.filter_text.specs.Limits.{without, is_deep}

pub without-add : (a b room r : ℕ) → Some r ≡ without room a → without r b ≡ without room (a + b)
without-add a b room r h =
    elim (leb a room) as (λ t. leb a room ≡ t → Some r ≡ cond t (Some (room - a)) None → without r b ≡ without room (a + b)) [
      | true ↦ λ e g.
          let is : r ≡ room - a = cc in
          let le : a ≤ room = leb-true a room e in
          ap (λ n. without n b) is ∙ split le
      | false ↦ λ e g. cc
    ] refl h
  where
    split : a ≤ room → without (room - a) b ≡ without room (a + b)
    split le =
        elim (leb b (room - a)) as (λ t. leb b (room - a) ≡ t → cond t (Some (room - a - b)) None ≡ without room (a + b)) [
          | true ↦ λ e.
              let k : b ≤ room - a = leb-true b (room - a) e in
              let yes : leb (a + b) room ≡ true = le-leb (a + b) room (omega arith) in
              let same : room - a - b ≡ room - (a + b) = omega arith in
              ap Some same ∙ sym (ap (λ t. cond t (Some (room - (a + b))) None) yes)
          | false ↦ λ e.
              let k = leb-false b (room - a) e in
              let no : leb (a + b) room ≡ false = not_le (a + b) room (omega arith) in
              sym (ap (λ t. cond t (Some (room - (a + b))) None) no)
        ] refl
      where
        not_le : (m n : ℕ) → n + 1 ≤ m → leb m n ≡ false
        not_le m n h =
            elim (leb m n) as (λ t. leb m n ≡ t → t ≡ false) [
              | true ↦ λ e. absurd (omega (arith, leb-true m n e))
              | false ↦ λ e. refl
            ] refl

pub deep-passed : (o c : ℕ) (t : Bytes) → leb (17 + c) o ≡ true → is_deep o c t ≡ true
deep-passed o c [] h = h
deep-passed o c (x ∷ t) h = rw h refl
