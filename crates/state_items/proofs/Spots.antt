-- Where fields stand in an item.
use Rattle.std.proofs.Common.{◌≡◌, ◌+◌, ℕ, Bool, true, false, cond, Option, Some, None, length, take, drop, Ok, Err, refl, sym, ap, ◌∙◌}
use Rattle.std.specs.Prelude.{nat_le}
use Rattle.std.proofs.lemmas.List.{drop-drop}
use Rattle.git_objects.specs.Paths.{Bytes}
use Rattle.git_objects.specs.Results.{◌>>=◌, or_refuse}
use Rattle.git_objects.specs.declared.kind.Kind.{Kind}
use Rattle.state_items.specs.Fields.{Spot, BrokenAt, Read, as_number, field, number, number_of}
use Rattle.state_items.specs.Items.{kind_field, kind_of}
use Rattle.state_items.specs.Steps.{body_field}
use Rattle.state_items.specs.Stops.{spot_at}
use Rattle.state_items.proofs.Stopping.{same-value, then-ok}

-- a field at a place, and the spot behind it
pub record IsField (item : Bytes) (at n : ℕ) (b : Bytes) (t : Spot) : Type 0 where
  pub bytes : b ≡ take n (drop at item)
  pub behind : t ≡ spot_at (at + n) item

pub field-spot : (item : Bytes) (at n : ℕ) (b : Bytes) (t : Spot) → field n (spot_at at item) ≡ Ok (b, t) → IsField item at n b t
field-spot item at n b t h = by (nat_le n (length (drop at item))) h
  where
    by : (fits : Bool) → ◌≡◌ {A = Read Bytes} (cond fits (Ok (take n (drop at item), record { at = at + n; rest = drop n (drop at item) })) (Err (BrokenAt at))) (Ok (b, t)) → IsField item at n b t
    by true e =
        let both = same-value {A = Bytes × Spot} (take n (drop at item), record { at = at + n; rest = drop n (drop at item) }) (b, t) e in
        record {
          bytes = sym (ap (λ (p : Bytes × Spot). p.0) both);
          behind = sym (ap (λ (p : Bytes × Spot). p.1) both) ∙ ap (λ (r : Bytes). record { at = at + n; rest = r }) (drop-drop n at item);
        }
    by false e = cc

pub number-spot : (item : Bytes) (at n x : ℕ) (t : Spot) → number n (spot_at at item) ≡ Ok (x, t) → t ≡ spot_at (at + n) item
number-spot item at n x t h = by (field n (spot_at at item)) refl h
  where
    by : (r : Read Bytes) → field n (spot_at at item) ≡ r → (r >>= as_number) ≡ Ok (x, t) → t ≡ spot_at (at + n) item
    by (Ok p) e g =
        let behind : p.1 ≡ t = ap (λ (q : ℕ × Spot). q.1) (same-value {A = ℕ × Spot} (number_of p.0, p.1) (x, t) g) in
        sym behind ∙ (field-spot item at n p.0 p.1 e).behind
    by (Err f) e g = cc

-- a kind of that number, and what follows
abbrev listed_kind : ℕ → ℕ × Spot → Read Kind
listed_kind at x = or_refuse (BrokenAt at) (kind_of x.0) >>= λ k. Ok (k, x.1)

pub kind-spot : (item : Bytes) (at : ℕ) (k : Kind) (t : Spot) → kind_field (spot_at at item) ≡ Ok (k, t) → t ≡ spot_at (at + 1) item
kind-spot item at k t h = by (number 1 (spot_at at item)) refl h
  where
    listed : (x : ℕ × Spot) (o : Option Kind) → ◌≡◌ {A = Read Kind} (or_refuse (BrokenAt at) o >>= λ k. Ok (k, x.1)) (Ok (k, t)) → x.1 ≡ t
    listed x None g = cc
    listed x (Some j) g = ap (λ (q : Kind × Spot). q.1) (same-value {A = Kind × Spot} (j, x.1) (k, t) g)

    by : (r : Read ℕ) → number 1 (spot_at at item) ≡ r → (r >>= listed_kind at) ≡ Ok (k, t) → t ≡ spot_at (at + 1) item
    by (Ok x) e g = sym (listed x (kind_of x.0) g) ∙ number-spot item at 1 x.0 x.1 e
    by (Err f) e g = cc

-- an object's field at a place
module _ (item : Bytes) (at : ℕ) (s u v w : Spot) (k : Kind) (n : ℕ) (b : Bytes) where
  body-read : kind_field s ≡ Ok (k, u) → number 4 u ≡ Ok (n, v) → field n v ≡ Ok (b, w) → body_field s ≡ Ok (record { kind = k; body = b; at = v.at }, w)
  body-read e f g =
      then-ok (kind_field s) (λ k. number 4 k.1 >>= λ n. field n.0 n.1 >>= λ b. Ok (record { kind = k.0; body = b.0; at = n.1.at }, b.1)) (k, u) e
      ∙ then-ok (number 4 u) (λ n. field n.0 n.1 >>= λ b. Ok (record { kind = k; body = b.0; at = n.1.at }, b.1)) (n, v) f
      ∙ then-ok (field n v) (λ b. Ok (record { kind = k; body = b.0; at = v.at }, b.1)) (b, w) g

  pub body-spot : s ≡ spot_at at item → kind_field s ≡ Ok (k, u) → number 4 u ≡ Ok (n, v) → field n v ≡ Ok (b, w)
      → body_field (spot_at at item) ≡ Ok (record { kind = k; body = take n (drop v.at item); at = v.at }, spot_at (v.at + n) item)
  body-spot d e f g =
      let first : u ≡ spot_at (at + 1) item = kind-spot item at k u (ap kind_field (sym d) ∙ e) in
      let second : v ≡ spot_at (at + 1 + 4) item = number-spot item (at + 1) 4 n v (ap (number 4) (sym first) ∙ f) in
      let here : v.at ≡ at + 1 + 4 = ap (λ (q : Spot). q.at) second in
      let third = field-spot item v.at n b w (ap (field n) (sym (second ∙ ap (λ (p : ℕ). spot_at p item) (sym here))) ∙ g) in
      ap body_field (sym d) ∙ body-read e f g
      ∙ (λ i. Ok (record { kind = k; body = third.bytes i; at = v.at }, third.behind i))
