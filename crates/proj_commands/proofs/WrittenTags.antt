-- A text that is written behind another one.
use Rattle.std.proofs.Common.{◌≡◌, ℕ, ◌++◌, take, drop, length, append_assoc, sym, ap, subst, ◌∙◌, Option}
use Rattle.std.specs.Io.KnownBytes.{Appends}
use Rattle.std.proofs.KnownBytes.{Appends-trans}
use Rattle.std.proofs.Math.Seq.{take-append_seam}
use Rattle.std.proofs.lemmas.List.{take-append-drop}
use Rattle.git_objects.specs.Paths.{Bytes}

seam : (whole some rest : Bytes) → some ++ rest ≡ whole → take (length some) whole ≡ some
seam whole some rest e = ap (λ (t : Bytes). take (length some) t) (sym e) ∙ take-append_seam some rest

-- a front of the first is a front of both
pub front-first : (o q : Option Bytes) (a b : Bytes) → ((n : ℕ) × Appends o q (take n a)) → (n : ℕ) × Appends o q (take n (a ++ b))
front-first o q a b w =
    let whole : take w.0 a ++ (drop w.0 a ++ b) ≡ a ++ b = sym (append_assoc (take w.0 a) (drop w.0 a) b) ∙ ap (λ (t : Bytes). t ++ b) (take-append-drop w.0 a) in
    (length (take w.0 a), subst (Appends o q) (sym (seam (a ++ b) (take w.0 a) (drop w.0 a ++ b) whole)) w.1)

-- and so is the first with a front of the second behind it
pub front-behind : (o m q : Option Bytes) (a b : Bytes) → Appends o m a → ((n : ℕ) × Appends m q (take n b)) → (n : ℕ) × Appends o q (take n (a ++ b))
front-behind o m q a b first w =
    let whole : (a ++ take w.0 b) ++ drop w.0 b ≡ a ++ b = append_assoc a (take w.0 b) (drop w.0 b) ∙ ap (λ (t : Bytes). a ++ t) (take-append-drop w.0 b) in
    (length (a ++ take w.0 b), subst (Appends o q) (sym (seam (a ++ b) (a ++ take w.0 b) (drop w.0 b) whole)) (Appends-trans o m q a (take w.0 b) first w.1))
