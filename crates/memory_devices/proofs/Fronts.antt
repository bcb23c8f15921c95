-- The front of a list of bytes, given into a buffer.
use Rattle.std.proofs.Common.{◌≡◌, ℕ, ◌%◌, ◌<◌, true, List, [], ◌++◌, length, take, drop, min}
use Rattle.std.proofs.Common.{sym, ap, ◌∙◌, arith, take-append-drop}
use Rattle.std.proofs.lemmas.Grind.{common_steps}
use Rattle.std.proofs.lemmas.List.{map-append}
use Rattle.git_objects.specs.Paths.{is_bytes}
use Rattle.proj_io.specs.HeldBytes.{held_bytes}
use Rattle.proj_io.proofs.Known.{held_same, front_bytes}

-- what a list holds is its front, where that is bytes, and what the rest holds
pub held_halves : (old front rest : List ℕ) (n : ℕ) → is_bytes front ≡ true
    → front ≡ take n old → rest ≡ drop n old → held_bytes old ≡ front ++ held_bytes rest
held_halves old front rest n are p q =
    let whole : old ≡ front ++ rest = sym (take-append-drop n old) ∙ ap (λ (l : List ℕ). l ++ drop n old) (sym p)
    ∙ ap (λ (l : List ℕ). front ++ l) (sym q) in
    ap held_bytes whole ∙ map-append (λ x. x % 256) front rest
    ∙ ap (λ (l : List ℕ). l ++ held_bytes rest) (held_same front are)

-- the front that was copied is the front of the buffer, and none is given only where none is left
pub gives_front : (old front rest copied buf : List ℕ) (n : ℕ) → is_bytes (copied ++ drop n buf) ≡ true
    → front ≡ take n old → rest ≡ drop n old → copied ≡ front → n ≡ min (length old) (length buf)
    → (held_bytes old ≡ take n (copied ++ drop n buf) ++ held_bytes rest)
    × (n ≡ 0 → 0 < length (copied ++ drop n buf) → held_bytes rest ≡ [])
gives_front old front rest copied buf n fits p q same count =
    let size : length copied ≡ n = grind (arith, common_steps) in
    let there : take n (copied ++ drop n buf) ≡ front = grind (arith, common_steps) in
    let are : is_bytes front ≡ true = ap is_bytes (sym there) ∙ front_bytes n (copied ++ drop n buf) fits in (
      held_halves old front rest n are p q ∙ ap (λ (l : List ℕ). l ++ held_bytes rest) (sym there),
      λ zero room.
          let none : rest ≡ [] = grind (arith, common_steps) in
          ap held_bytes none,
    )
