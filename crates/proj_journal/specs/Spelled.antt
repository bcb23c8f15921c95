-- What bytes spell that are made of records.
use Rattle.std.proofs.Common.{◌≡◌, ◌≢◌, ◌<◌, ◌≤◌, ◌+◌, ◌^◌, ◌++◌, [], ◌∷◌, ℕ, zero, suc, List, Bool, true, false, length, take, drop, Result, Ok, Err, Some, None, refl, sym, ◌∙◌, ap, arith, length-append, append_assoc, append-nil}
use Rattle.std.specs.Prelude.{◌==◌, ◌&&◌, nat_le, nat_lt, if◌then◌else◌, unwrap_or}
use Rattle.std.specs.Prelude.{nat_eq}
use Rattle.std.specs.List.{starts_with}
use Rattle.std.specs.declared.option.Option.{Option}
use Rattle.std.specs.Int.{w32, to_be_bytes, from_be_bytes}
use Rattle.std.proofs.lemmas.Bool.{lt-ltb, le-leb, ltb-true, leb-true, eqb-true, false≢true}
use Rattle.std.proofs.lemmas.Bool.Decides.{nat_tests}
use Rattle.std.proofs.lemmas.List.{take_at, drop_at}
use Rattle.std.proofs.lemmas.Nat.{from_be_bytes-to_be_bytes_4}
use Rattle.proj_journal.specs.Spelling.{header, record_of, records_of, size_at, before, item_then, items_from, spelled, AreItems}

passed : (place number skip byte : ℕ) (bytes : List ℕ) → items_from place number (suc skip) (byte ∷ bytes) ≡ items_from (place + 1) number skip bytes
unfolding items_from
passed place number skip byte bytes = refl

-- bytes of an item are passed over
pub items_from-skip : (place number skip : ℕ) (bytes : List ℕ) → skip ≤ length bytes → items_from place number skip bytes ≡ items_from (place + skip) number 0 (drop skip bytes)
items_from-skip place number zero bytes le = let same : place ≡ place + 0 = omega arith in ap (λ (p : ℕ). items_from p number 0 bytes) same
items_from-skip place number (suc skip) [] le = absurd (omega arith)
items_from-skip place number (suc skip) (b ∷ bytes) le =
    let same : place + 1 + skip ≡ place + suc skip = omega arith in
    passed place number skip b bytes ∙ items_from-skip (place + 1) number skip bytes (omega arith) ∙ ap (λ (p : ℕ). items_from p number 0 (drop skip bytes)) same

-- a gate that isn't 1 ends the list
pub items_from-shut : (place number gate : ℕ) (behind : List ℕ) → gate ≢ 1 → items_from place number 0 (gate ∷ behind) ≡ Ok []
unfolding items_from
items_from-shut place number gate behind shut =
    let no : (gate == 1) ≡ false = grind (arith, nat_tests) in
    rw no

-- one that is 1 is followed by an item
pub items_from-open : (place number : ℕ) (behind : List ℕ) → items_from place number 0 (1 ∷ behind)
    ≡ item_then place behind (size_at number behind) (items_from (place + 1) (number + 1) (4 + unwrap_or (size_at number behind) 0) behind)
unfolding items_from
items_from-open place number behind = refl

-- where no gate stands, or none may be open, the bytes are broken
pub items_from-none : (place number : ℕ) → items_from place number 0 [] ≡ Err place
unfolding items_from
items_from-none place number = refl

pub items_from-broken : (place number : ℕ) (behind : List ℕ) → size_at number behind ≡ None → items_from place number 0 (1 ∷ behind) ≡ Err place
items_from-broken place number behind none =
    items_from-open place number behind ∙ ap (λ (o : Option ℕ). item_then place behind o (items_from (place + 1) (number + 1) (4 + unwrap_or (size_at number behind) 0) behind)) none

pub length-size : (n : ℕ) → length (to_be_bytes w32 n) ≡ 4
length-size n = refl

all_five : (a b c d e : Bool) (size : ℕ) → a ≡ true → b ≡ true → c ≡ true → d ≡ true → e ≡ true → (if a && (b && (c && (d && e))) then Some size else None) ≡ Some size
all_five a b c d e size p q r s t = rw (p, q, r, s, t)

-- the size of a record that stands there
pub size_at-is : (number size : ℕ) (behind : List ℕ) → size ≡ from_be_bytes w32 (take 4 behind) → number < 2 ^ 20 → 0 < size → size ≤ 2 ^ 29 → 4 + size ≤ length behind → size_at number behind ≡ Some size
unfolding size_at
size_at-is number size behind is few some small room =
    rw (← is) (all_five _ _ _ _ _ size (lt-ltb number (2 ^ 20) few) (le-leb 4 (length behind) (omega arith)) (le-leb 1 size (omega arith)) (le-leb size (2 ^ 29) small) (le-leb (4 + size) (length behind) room))

take_size : (item rest : List ℕ) → length item ≤ 2 ^ 29 → length item ≡ from_be_bytes w32 (take 4 (to_be_bytes w32 (length item) ++ item ++ rest))
take_size item rest small =
    let tb = to_be_bytes w32 (length item) in
    let front : take 4 (tb ++ item ++ rest) ≡ tb = ap (λ (l : List ℕ). take 4 l) (append_assoc tb item rest) ∙ take_at tb (item ++ rest) 4 (length-size (length item)) in
    sym (ap (from_be_bytes w32) front ∙ from_be_bytes-to_be_bytes_4 (length item) (omega arith))

pub length-record : (item : List ℕ) → length (record_of item) ≡ 5 + length item
unfolding record_of
length-record item = omega (arith, length-append (to_be_bytes w32 (length item)) item, length-size (length item))

-- a record spells its item before what follows
pub items_from-record : (place number : ℕ) (item rest : List ℕ) → 0 < length item → length item ≤ 2 ^ 29 → number < 2 ^ 20
    → items_from place number 0 (record_of item ++ rest) ≡ before item (items_from (place + length (record_of item)) (number + 1) 0 rest)
unfolding record_of
items_from-record place number item rest some small few =
    let tb = to_be_bytes w32 (length item) in
    let behind = tb ++ item ++ rest in
    let four : length tb ≡ 4 = length-size (length item) in
    let room : 4 + length item ≤ length behind = omega (arith, four, length-append (tb ++ item) rest, length-append tb item) in
    let size : size_at number behind ≡ Some (length item) = size_at-is number (length item) behind (take_size item rest small) few some small room in
    let body : drop 4 behind ≡ item ++ rest = ap (λ (l : List ℕ). drop 4 l) (append_assoc tb item rest) ∙ drop_at tb (item ++ rest) 4 four in
    let whole : take (length item) (drop 4 behind) ≡ item = ap (λ (l : List ℕ). take (length item) l) body ∙ take_at item rest (length item) refl in
    let past : drop (4 + length item) behind ≡ rest = drop_at (tb ++ item) rest (4 + length item) (omega (arith, four, length-append tb item)) in
    let end : place + 1 + (4 + length item) ≡ place + length (record_of item) = omega (arith, length-record item) in
    items_from-open place number behind
    ∙ ap (λ (o : Option ℕ). item_then place behind o (items_from (place + 1) (number + 1) (4 + unwrap_or o 0) behind)) size
    ∙ ap (λ (l : List ℕ). before l (items_from (place + 1) (number + 1) (4 + length item) behind)) whole
    ∙ ap (before item) (items_from-skip (place + 1) (number + 1) (4 + length item) behind room ∙ (λ i. items_from (end i) (number + 1) 0 (past i)))

-- items before others
pub befores : List (List ℕ) → Result (List (List ℕ)) ℕ → Result (List (List ℕ)) ℕ
befores [] others = others
befores (item ∷ items) others = before item (befores items others)

pub befores-ok : (items more : List (List ℕ)) → befores items (Ok more) ≡ Ok (items ++ more)
unfolding befores
befores-ok [] more = refl
befores-ok (item ∷ items) more = ap (before item) (befores-ok items more)

pub befores-err : (items : List (List ℕ)) (place : ℕ) → befores items (Err place) ≡ Err place
unfolding befores
befores-err [] place = refl
befores-err (item ∷ items) place = ap (before item) (befores-err items place)

pub items_from-records : (place number : ℕ) (items : List (List ℕ)) (rest : List ℕ) → AreItems items → number + length items ≤ 2 ^ 20
    → items_from place number 0 (records_of items ++ rest) ≡ befores items (items_from (place + length (records_of items)) (number + length items) 0 rest)
unfolding befores records_of
items_from-records place number [] rest sized few = (λ i. items_from (at i) (num i) 0 rest)
  where
    at : place ≡ place + 0
    at = omega arith

    num : number ≡ number + 0
    num = omega arith
items_from-records place number (item ∷ items) rest sized few =
    let next = place + length (record_of item) in
    let at : next + length (records_of items) ≡ place + length (record_of item ++ records_of items) = omega (arith, length-append (record_of item) (records_of items)) in
    let num : number + 1 + length items ≡ number + suc (length items) = omega arith in
    ap (λ (l : List ℕ). items_from place number 0 l) (append_assoc (record_of item) (records_of items) rest)
    ∙ items_from-record place number item (records_of items ++ rest) sized.0 sized.1 (omega arith)
    ∙ ap (before item) (items_from-records next (number + 1) items rest sized.2 (omega arith) ∙ ap (befores items) (λ i. items_from (at i) (num i) 0 rest))

-- behind the header
pub spelled-header : (rest : List ℕ) → spelled (header ++ rest) ≡ items_from 8 0 0 rest
unfolding spelled
spelled-header rest = refl

-- a list and a shut gate
pub spelled-list : (items : List (List ℕ)) (gate : ℕ) (rest : List ℕ) → AreItems items → length items ≤ 2 ^ 20 → gate ≢ 1
    → spelled (header ++ (records_of items ++ (gate ∷ rest))) ≡ Ok items
spelled-list items gate rest sized few shut =
    spelled-header (records_of items ++ (gate ∷ rest)) ∙ items_from-records 8 0 items (gate ∷ rest) sized (omega (arith, few))
    ∙ ap (befores items) (items_from-shut _ _ gate rest shut) ∙ befores-ok items [] ∙ ap Ok (append-nil items)

pub records_of-push : (items : List (List ℕ)) (item : List ℕ) → records_of (items ++ item ∷ []) ≡ records_of items ++ record_of item
unfolding records_of
records_of-push [] item = append-nil (record_of item)
records_of-push (x ∷ items) item = ap (λ (l : List ℕ). record_of x ++ l) (records_of-push items item) ∙ sym (append_assoc (record_of x) (records_of items) (record_of item))

pub are-push : (items : List (List ℕ)) (item : List ℕ) → AreItems items → 0 < length item → length item ≤ 2 ^ 29 → AreItems (items ++ item ∷ [])
are-push [] item sized some small = (some, small, tt)
are-push (x ∷ items) item sized some small = (sized.0, sized.1, are-push items item sized.2 some small)

pub records_with : (items : List (List ℕ)) (item rest : List ℕ) → records_of items ++ (1 ∷ (to_be_bytes w32 (length item) ++ (item ++ rest))) ≡ records_of (items ++ item ∷ []) ++ rest
unfolding record_of
records_with items item rest =
    ap (λ (l : List ℕ). records_of items ++ (1 ∷ l)) (sym (append_assoc (to_be_bytes w32 (length item)) item rest))
    ∙ sym (append_assoc (records_of items) (record_of item) rest)
    ∙ ap (λ (l : List ℕ). l ++ rest) (sym (records_of-push items item))

pub length-records_push : (items : List (List ℕ)) (item : List ℕ) → length (records_of (items ++ item ∷ [])) ≡ length (records_of items) + (5 + length item)
length-records_push items item = ap length (records_of-push items item) ∙ length-append (records_of items) (record_of item) ∙ ap (λ (n : ℕ). length (records_of items) + n) (length-record item)

none_if : (b : Bool) (size : ℕ) → (b ≡ true → ⊥) → (if b then Some size else None) ≡ None
none_if true size never = absurd (never refl)
none_if false size never = refl

and_both : (a b : Bool) → (a && b) ≡ true → (a ≡ true) × (b ≡ true)
and_both true b is = (refl, is)
and_both false b is = absurd (false≢true is)

-- no record stands there that breaks a rule
pub size_at-none : (number : ℕ) (behind : List ℕ)
    → (number < 2 ^ 20 → 4 ≤ length behind → 1 ≤ from_be_bytes w32 (take 4 behind) → from_be_bytes w32 (take 4 behind) ≤ 2 ^ 29 → 4 + from_be_bytes w32 (take 4 behind) ≤ length behind → ⊥)
    → size_at number behind ≡ None
unfolding size_at
size_at-none number behind never =
    let size = from_be_bytes w32 (take 4 behind) in
    none_if _ size (λ all.
    let a = and_both (nat_lt number (2 ^ 20)) _ all in
    let b = and_both (nat_le 4 (length behind)) _ a.1 in
    let c = and_both (nat_le 1 size) _ b.1 in
    let d = and_both (nat_le size (2 ^ 29)) _ c.1 in
    never (ltb-true number (2 ^ 20) a.0) (leb-true 4 (length behind) b.0) (leb-true 1 size c.0) (leb-true size (2 ^ 29) d.0) (leb-true (4 + size) (length behind) d.1))

pub records_of-none : [] ≡ records_of []
unfolding records_of
records_of-none = refl

-- without the header the bytes are broken at once
begins : (bytes needle : List ℕ) → starts_with nat_eq bytes needle ≡ true → take (length needle) bytes ≡ needle
begins bytes [] is = refl
begins [] (y ∷ needle) is = absurd (false≢true is)
begins (x ∷ bytes) (y ∷ needle) is =
    let both = and_both (nat_eq y x) _ is in
    let first : x ≡ y = sym (eqb-true y x both.0) in
    λ i. first i ∷ begins bytes needle both.1 i

begins_as : (bytes : List ℕ) → starts_with nat_eq bytes header ≡ true → take 8 bytes ≡ header
begins_as bytes is = begins bytes header is

pub spelled-other : (bytes : List ℕ) → (take 8 bytes ≡ header → ⊥) → spelled bytes ≡ Err 0
unfolding spelled
spelled-other bytes never = other (starts_with nat_eq bytes header) (λ is. never (begins_as bytes is))
  where
    other : (b : Bool) → (b ≡ true → ⊥) → (if b then items_from 8 0 0 (drop 8 bytes) else Err 0) ≡ Err 0
    other true no_header = absurd (no_header refl)
    other false no_header = refl

pub spelled-none : spelled (header ++ (0 ∷ [])) ≡ Ok []
spelled-none = ap (λ (l : List ℕ). spelled (header ++ (l ++ (0 ∷ [])))) records_of-none ∙ spelled-list [] 0 [] tt (omega arith) (omega arith)
