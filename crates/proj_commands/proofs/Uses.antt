-- Counts of faults behind a call, and errors that results answer.
use Rattle.std.proofs.Common.{◌≡◌, ℕ, Result, Ok, Err, arith}
use Rattle.proj_io.specs.Counts.{Counts}

-- a result that isn't an error, and the error of one
pub ok-never : {A E : Type 0} (x : A) (e : E) → ◌≡◌ {A = Result A E} (Ok x) (Err e) → ⊥
ok-never x e q = cc

pub err-of : {A E : Type 0} (x e : E) → ◌≡◌ {A = Result A E} (Err x) (Err e) → x ≡ e
err-of x e q = cc

-- the count of a device that wasn't called, where no fault of it is answered
pub counts-none : (n : ℕ) (F : Type 0) → (F → ⊥) → Counts n n F
counts-none n F never = record { later = omega arith; rose = λ f. absurd (never f) }
