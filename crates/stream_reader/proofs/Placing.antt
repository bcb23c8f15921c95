-- Where the next line stands, and how much has come where it is waited for.
use Rattle.std.proofs.Common.{◌≡◌, inl, inr, ◌+◌, ◌<◌, ◌≤◌, ℕ, zero, suc, Bool, true, false, cond, List, [], ◌∷◌, length, Option, Some, None, Ok, Err, refl, sym, ap, ◌∙◌, arith, leb, leb-true, subst}
use Rattle.std.specs.Prelude.{◌&&◌}
use Rattle.std.proofs.lemmas.Bool.{leb-false}
use Rattle.git_objects.specs.declared.limits.TheConstants.{LINE_BYTES, STREAM_BYTES}
use Rattle.git_objects.specs.Paths.{Bytes}
use Rattle.stream_lex.specs.Cutting.{Steps, grown, place}
use Rattle.stream_lex.specs.Lines.{Input, Lex, Line, any_line, is_comment, is_long, last_line, line_at, line_from, split_line}
use Rattle.stream_lex.specs.Spelling.{NextLine, SkipsComments, TakesLine}
use Rattle.stream_lex.specs.declared.stop.LimitFault.TheVariants.{LongLine, StreamTooLong}
use Rattle.stream_lex.specs.declared.stop.Stop.TheVariants.{More, Fault}
use Rattle.stream_lex.specs.declared.stop.Wanted.{Wanted}
use Rattle.stream_lex.proofs.Advance.{any_line-steps}
use Rattle.stream_lex.proofs.Fuel.{line_err, line_none, line_skip, line_some, moves_some}
use Rattle.stream_lex.proofs.Passing.{past_one}
use Rattle.stream_lex.proofs.Spelled.{Spelled, Told, any_line-told, line_at-spelled}
use Rattle.stream_reader.specs.Waited.{line_place, next_place}
use Rattle.stream_reader.proofs.Reading.{came_along}

-- ---- a line and what stands before it

taken_behind : (i : Input) (l : Line) (j : Input) → TakesLine i l j → (i.at ≤ j.at) × (j.at ≤ i.at + (LINE_BYTES + 1))
taken_behind i l j t =
    elim t.ends [
      | inl e ↦ (omega (arith, e.1), omega (arith, e.1, t.short))
      | inr e ↦ (omega (arith, ap (λ (k : Input). k.at) e.2), omega (arith, ap (λ (k : Input). k.at) e.2, t.short))
    ]

skips_behind : (ks : List Bytes) (i j : Input) → SkipsComments ks i j → i.at ≤ j.at
skips_behind [] i j h = omega (arith, ap (λ (k : Input). k.at) h)
skips_behind (k ∷ ks) i j h = omega (arith, (taken_behind i _ h.0 h.1).0, skips_behind ks h.0 j h.3)

-- where the next line begins and ends
pub record IsLineAt (i : Input) (l : Line) (j : Input) : Type 0 where
  pub from : i.at ≤ l.place
  pub to : l.place ≤ j.at
  pub short : j.at ≤ l.place + (LINE_BYTES + 1)
  pub within : j.at ≤ STREAM_BYTES

abbrev PlacesOf : Input → Lex (Option Line) → Type 0
PlacesOf i (Ok (Some l, j)) = IsLineAt i l j
PlacesOf i (Ok (None, j)) = (i.at ≤ j.at) × (j.at ≤ STREAM_BYTES)
PlacesOf i (Err (Fault (LongLine at))) = i.at ≤ at
PlacesOf i (Err (Fault StreamTooLong)) = Unit {0}
PlacesOf i (Err (More w)) = Unit {0}

next_is : (i : Input) (l : Line) (j : Input) → NextLine i l j → IsLineAt i l j
next_is i l j h =
    let t = taken_behind h.from l j h.takes in record {
      from = omega (arith, skips_behind h.comments i h.from h.skips, h.takes.place);
      to = omega (arith, t.0, h.takes.place);
      short = omega (arith, t.1, h.takes.place);
      within = h.takes.within;
    }

spelled_places : (ended : Bool) (i : Input) (r : Lex (Option Line)) → Spelled ended i r → PlacesOf i r
spelled_places ended i (Ok (Some l, j)) h = next_is i l j h.0
spelled_places ended i (Ok (None, j)) h = (skips_behind h.0.comments i j h.0.skips, h.0.within)
spelled_places ended i (Err (Fault (LongLine at))) h = omega (arith, skips_behind h.comments i h.from h.skips, h.place)
spelled_places ended i (Err (Fault StreamTooLong)) h = tt
spelled_places ended i (Err (More w)) h = tt

pub line_is : (ended : Bool) (i : Input) (l : Line) (j : Input) → line_at ended i ≡ Ok (Some l, j) → IsLineAt i l j
line_is ended i l j e = subst (PlacesOf i) e (spelled_places ended i (line_at ended i) (line_at-spelled ended i))

pub none_is : (ended : Bool) (i j : Input) → line_at ended i ≡ Ok (None, j) → (i.at ≤ j.at) × (j.at ≤ STREAM_BYTES)
none_is ended i j e = subst (PlacesOf i) e (spelled_places ended i (line_at ended i) (line_at-spelled ended i))

place_ahead : (i : Input) (r : Lex (Option Line)) → i.at ≤ STREAM_BYTES → PlacesOf i r → Spelled true i r → i.at ≤ line_place r
place_ahead i (Ok (Some l, j)) h p s = p.from
place_ahead i (Ok (None, j)) h p s = p.0
place_ahead i (Err (Fault (LongLine at))) h p s = p
place_ahead i (Err (Fault StreamTooLong)) h p s = h
place_ahead i (Err (More w)) h p s = let no : ⊥ = cc in absurd no

-- the next line stands at or behind the front
pub ahead : (i : Input) → i.at ≤ STREAM_BYTES → i.at ≤ next_place i
ahead i h = place_ahead i (line_at true i) h (spelled_places true i (line_at true i) (line_at-spelled true i)) (line_at-spelled true i)

-- ---- what has come where a line is waited for

abbrev IsShort : Input → Lex (Option Line) → Type 0
IsShort i (Ok x) = Unit {0}
IsShort i (Err (More w)) = length i.rest ≤ LINE_BYTES
IsShort i (Err (Fault f)) = Unit {0}

not_long : (at n : ℕ) → is_long at n ≡ false → at + n ≤ STREAM_BYTES → n ≤ LINE_BYTES
not_long at n e h =
    elim (leb (LINE_BYTES + 1) n) as (λ b. leb (LINE_BYTES + 1) n ≡ b → (b && leb (at + LINE_BYTES + 1) STREAM_BYTES) ≡ false → n ≤ LINE_BYTES) [
      | true ↦ λ p q. omega (arith, h, leb-true (LINE_BYTES + 1) n p, leb-false (at + LINE_BYTES + 1) STREAM_BYTES q)
      | false ↦ λ p q. omega (arith, leb-false (LINE_BYTES + 1) n p)
    ] refl e

last_short : (ended : Bool) (i : Input) (xs : Bytes) → length i.rest ≤ LINE_BYTES → IsShort i (last_line ended i xs)
last_short false i xs h = h
last_short true i [] h = tt
last_short true i (x ∷ xs) h = tt

from_short : (ended : Bool) (i : Input) (o : Option (Bytes × Bytes)) → IsShort i (line_from ended i o)
from_short ended i (Some r) =
    elim (is_long i.at (length r.0)) as (λ b. IsShort i (cond b (Err (Fault (LongLine i.at))) (cond (leb (i.at + (length r.0 + 1)) STREAM_BYTES) (Ok (Some (record { place = i.at; bytes = r.0 }), record { at = i.at + (length r.0 + 1); rest = r.1 })) (Err (Fault StreamTooLong))))) [
      | true ↦ tt
      | false ↦ elim (leb (i.at + (length r.0 + 1)) STREAM_BYTES) as (λ b. IsShort i (cond b (Ok (Some (record { place = i.at; bytes = r.0 }), record { at = i.at + (length r.0 + 1); rest = r.1 })) (Err (Fault StreamTooLong)))) [ true ↦ tt | false ↦ tt ]
    ]
from_short ended i None =
    elim (is_long i.at (length i.rest)) as (λ b. is_long i.at (length i.rest) ≡ b → IsShort i (cond b (Err (Fault (LongLine i.at))) (cond (leb (i.at + length i.rest) STREAM_BYTES) (last_line ended i i.rest) (Err (Fault StreamTooLong))))) [
      | true ↦ λ e. tt
      | false ↦ λ e. elim (leb (i.at + length i.rest) STREAM_BYTES) as (λ b. leb (i.at + length i.rest) STREAM_BYTES ≡ b → IsShort i (cond b (last_line ended i i.rest) (Err (Fault StreamTooLong)))) [
        | true ↦ λ g. last_short ended i i.rest (not_long i.at (length i.rest) e (leb-true (i.at + length i.rest) STREAM_BYTES g))
        | false ↦ λ g. tt
      ] refl
    ] refl

any_line-short : (ended : Bool) (i : Input) → IsShort i (any_line ended i)
unfolding any_line
any_line-short ended i = from_short ended i (split_line i.rest)

-- little has come behind what is waited for, and the next line doesn't stand before it, whatever comes
pub record IsWaited (i : Input) (w : Wanted) : Type 0 where
  pub few : i.at + length i.rest ≤ place w + LINE_BYTES
  pub ahead : (more : Bytes) → place w ≤ next_place (grown more i)

module _ (i : Input) (w : Wanted) (e : line_at false i ≡ Err (More w)) (next : (j : Input) → length j.rest < length i.rest → line_at false j ≡ Err (More w) → IsWaited j w) where
  behind : (l : Line) (j : Input) → any_line false i ≡ Ok (Some l, j) → (b : Bool) → is_comment l.bytes ≡ b → IsWaited i w
  behind l j p false c = let told = line_some false i j l p c in let no : ⊥ = cc in absurd no
  behind l j p true c =
      let u = next j (moves_some false i j l p).0 (sym (line_skip false i j l p c) ∙ e) in record {
        few = omega (arith, u.few, came_along i j (subst (Steps i) p (any_line-steps false i)));
        ahead = λ more. subst (λ n. place w ≤ n) (sym (ap line_place (past_one i j l p c true more))) (u.ahead more);
      }

  one_line : (r : Lex (Option Line)) → any_line false i ≡ r → IsWaited i w
  one_line (Ok (Some l, j)) p = behind l j p (is_comment l.bytes) refl
  one_line (Ok (None, j)) p = let told = line_none false i j p in let no : ⊥ = cc in absurd no
  one_line (Err (More v)) p =
      let told = subst (Told false i) p (any_line-told false i) in
      let same : v ≡ w = (let g = line_err false i i (More v) p in cc) in
      let here : place w ≡ i.at = ap place (sym same ∙ told.2) in record {
        few = omega (arith, here, subst (IsShort i) p (any_line-short false i));
        ahead = λ more. subst (λ n. n ≤ next_place (grown more i)) (sym here) (ahead (grown more i) (omega (arith, told.1)));
      }
  one_line (Err (Fault f)) p = let told = line_err false i i (Fault f) p in let no : ⊥ = cc in absurd no

waited_within : (n : ℕ) (i : Input) → length i.rest < n → (w : Wanted) → line_at false i ≡ Err (More w) → IsWaited i w
waited_within zero i h w e = absurd (omega arith)
waited_within (suc n) i h w e = one_line i w e (λ j k. waited_within n j (omega (arith, h, k)) w) (any_line false i) refl

pub line_waited : (i : Input) (w : Wanted) → line_at false i ≡ Err (More w) → IsWaited i w
line_waited i w e = waited_within (length i.rest + 1) i (omega arith) w e
