-- A name has 20 bytes.
use Rattle.std.proofs.Common.{◌≡◌, ℕ, zero, suc, ◌*◌, ◌<◌, List, [], ◌∷◌, ◌++◌, length, refl, true, arith, length-append, w32, get_or, eq-eqb}
use Rattle.std.specs.Int.{to_be_bytes, bytes_high_first, byte_at}
use Rattle.std.specs.Cmp.{first_so, second_so}
use Rattle.std.proofs.Math.Nat.{mod-lt}
use Rattle.std.proofs.lemmas.Bool.{lt-ltb}
use Rattle.sha1.specs.Sha1.{sha1, digest_bytes}
use Rattle.git_objects.specs.Paths.{Bytes, is_bytes}
use Rattle.git_objects.specs.Names.{name}
use Rattle.git_objects.specs.Bodies.{is_name}
use Rattle.git_objects.specs.declared.kind.Kind.{Kind}
use Rattle.git_objects.proofs.Basics.{and_both}

length-word : (x : ℕ) → length (to_be_bytes w32 x) ≡ 4
length-word x = refl

length-digest : (h : List ℕ) (n : ℕ) → length (digest_bytes h n) ≡ 4 * n
unfolding digest_bytes
length-digest h zero = refl
length-digest h (suc n) =
    let a = length-append (digest_bytes h n) (to_be_bytes w32 (get_or h n 0)) in
    let b = length-word (get_or h n 0) in
    let c = length-digest h n in omega arith

is_byte : (i n : ℕ) → byte_at i n < 256
is_byte zero n = mod-lt n (omega arith)
is_byte (suc i) n = mod-lt _ (omega arith)

bytes-high : (k n : ℕ) → is_bytes (bytes_high_first k n) ≡ true
bytes-high zero n = refl
bytes-high (suc k) n = and_both (lt-ltb (byte_at k n) 256 (is_byte k n)) (bytes-high k n)

bytes-append : (x y : Bytes) → is_bytes x ≡ true → is_bytes y ≡ true → is_bytes (x ++ y) ≡ true
bytes-append [] y h g = g
bytes-append (a ∷ x) y h g = and_both (first_so _ _ h) (bytes-append x y (second_so _ _ h) g)

bytes-digest : (h : List ℕ) (n : ℕ) → is_bytes (digest_bytes h n) ≡ true
unfolding digest_bytes
bytes-digest h zero = refl
bytes-digest h (suc n) = bytes-append (digest_bytes h n) (to_be_bytes w32 (get_or h n 0)) (bytes-digest h n) (bytes-high 4 (get_or h n 0))

pub name-is_name : (k : Kind) (b : Bytes) → is_name (name k b) ≡ true
unfolding name sha1
name-is_name k b = and_both (bytes-digest _ 5) (eq-eqb _ 20 (length-digest _ 5))
