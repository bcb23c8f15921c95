-- A journal has no more items than bytes.
use Rattle.std.proofs.Common.{◌≤◌, ◌+◌, ◌==◌, [], ◌∷◌, ℕ, zero, suc, Bool, true, false, List, length, drop, Result, Ok, Err, Some, None, if◌then◌else◌, arith, length-drop}
use Rattle.std.specs.Prelude.{unwrap_or}
use Rattle.std.specs.List.{starts_with}
use Rattle.std.specs.Prelude.{nat_eq}
use Rattle.std.specs.declared.option.Option.{Option}
use Rattle.proj_journal.specs.Spelling.{before, header, item_then, items_from, list_in, listed, size_at, spelled}

one_before : (item : List ℕ) (others : Result (List (List ℕ)) ℕ) → length (list_in (before item others)) ≤ length (list_in others) + 1
one_before item (Ok items) = omega arith
one_before item (Err place) = omega arith

one_then : (place : ℕ) (behind : List ℕ) (size : Option ℕ) (others : Result (List (List ℕ)) ℕ) → length (list_in (item_then place behind size others)) ≤ length (list_in others) + 1
one_then place behind None others = omega arith
one_then place behind (Some size) others = one_before _ others

either : (b : Bool) (r s : Result (List (List ℕ)) ℕ) (n : ℕ) → length (list_in r) ≤ n → length (list_in s) ≤ n → length (list_in (if b then r else s)) ≤ n
either true r s n first second = first
either false r s n first second = second

items_short : (place number skip : ℕ) (bytes : List ℕ) → length (list_in (items_from place number skip bytes)) ≤ length bytes
unfolding items_from
items_short place number skip [] = omega arith
items_short place number zero (gate ∷ behind) =
    let size = size_at number behind in
    let others = items_from (place + 1) (number + 1) (4 + unwrap_or size 0) behind in
    either (gate == 1) (item_then place behind size others) (Ok []) (length (gate ∷ behind))
    (omega (arith, one_then place behind size others, items_short (place + 1) (number + 1) (4 + unwrap_or size 0) behind)) (omega arith)
items_short place number (suc skip) (byte ∷ bytes) = omega (arith, items_short (place + 1) number skip bytes)

pub list_short : (bytes : List ℕ) → length (listed bytes) ≤ length bytes
unfolding spelled
list_short bytes =
    either (starts_with nat_eq bytes header) (items_from 8 0 0 (drop 8 bytes)) (Err 0) (length bytes) (omega (arith, items_short 8 0 0 (drop 8 bytes), length-drop 8 bytes)) (omega arith)
