-- What holds of refs.
use Rattle.std.specs.Prelude.{◌≡◌, false, List, Some}
use Rattle.git_objects.specs.Paths.{Bytes, same_bytes}
use Rattle.ref_store.specs.Refs.{head_of, with_head, AreDistinct}

-- after a ref is set it has that commit, and each other ref has what it had; and ref names stay distinct
pub record SetLaw : Type 0 where
  pub set : (refs : List (Bytes × Bytes)) (n c : Bytes) → head_of (with_head refs n c) n ≡ Some c
  pub others : (refs : List (Bytes × Bytes)) (n c m : Bytes) → same_bytes n m ≡ false → head_of (with_head refs n c) m ≡ head_of refs m
  pub distinct : (refs : List (Bytes × Bytes)) (n c : Bytes) → AreDistinct refs → AreDistinct (with_head refs n c)
