-- Certificates as texts: what is written of objects, and how a text is read.
use Rattle.std.specs.Prelude.{ℕ, zero, suc, ◌+◌, ◌-◌, ◌*◌, nat_le, if◌then◌else◌, List, [], ◌∷◌, ◌++◌, length, take, drop, codes, decimal, Option, Some, None, Result, Ok, Err}
use Rattle.std.specs.Option.{option_map, option_and_then}
use Rattle.std.specs.List.{flat_map}
use Rattle.git_objects.specs.Paths.{Bytes, same_bytes}
use Rattle.git_objects.specs.Names.{kind_word}
use Rattle.git_objects.specs.Idents.{cut_at, is_number}
use Rattle.git_objects.specs.CommitBodies.{strip}
use Rattle.git_objects.specs.Results.{◌>>=◌, or_refuse}
use Rattle.git_objects.specs.declared.kind.Kind.{Kind}
use Rattle.git_objects.specs.declared.kind.Kind.TheVariants.{Blob, Tree, Commit as CommitKind}
use Rattle.object_store.specs.Objects.{Object}

-- ---- writing

abbrev pub first_line : Bytes
first_line = codes "audit 1\n"

-- the kind, a space, the size, LF, the body, LF
abbrev pub object_text : Object → Bytes
object_text o = kind_word o.kind ++ 32 ∷ (decimal (length o.body) ++ 10 ∷ (o.body ++ 10 ∷ []))

-- the certificate of these objects
abbrev pub certificate : List Object → Bytes
certificate os = first_line ++ flat_map object_text os

-- ---- reading

abbrev pub kind_from : Bytes → Option Kind
kind_from t =
    if same_bytes t (kind_word Blob) then Some Blob
    else if same_bytes t (kind_word Tree) then Some Tree
    else if same_bytes t (kind_word CommitKind) then Some CommitKind
    else None

-- what further digits say behind a number
abbrev pub number_from : ℕ → Bytes → ℕ
number_from n [] = n
number_from n (x ∷ t) = number_from (10 * n + (x - 48)) t

-- what 1 to 20 digits say
abbrev pub size_from : Bytes → Option ℕ
size_from t = if is_number 20 t then Some (number_from 0 t) else None

-- an object's kind and size, of its first line
abbrev pub head_from : Bytes → Option (Kind × ℕ)
head_from t =
    option_and_then (λ r. option_and_then (λ k. option_map (λ n. (k, n)) (size_from r.1)) (kind_from r.0)) (cut_at 32 t)

-- an object of that kind and size at the front of a text, and what follows its LF
abbrev pub body_from : Kind × ℕ → Bytes → Option (Object × Bytes)
body_from h t =
    if nat_le h.1 (length t)
    then option_map (λ r. (record { kind = h.0; body = take h.1 t }, r)) (strip (10 ∷ []) (drop h.1 t))
    else None

-- the object at the front of a text, and what follows it
abbrev pub object_from : Bytes → Option (Object × Bytes)
object_from t = option_and_then (λ r. option_and_then (λ h. body_from h r.1) (head_from r.0)) (cut_at 10 t)

-- At most n objects, at the end of a text of that size; or the place of the first line of the first one that is none.
abbrev pub objects_within : ℕ → ℕ → Bytes → Result (List Object) ℕ
objects_within n size [] = Ok []
objects_within zero size (x ∷ t) = Err (size - length (x ∷ t))
objects_within (suc n) size (x ∷ t) = do
  r ← or_refuse (size - length (x ∷ t)) (object_from (x ∷ t))
  os ← objects_within n size r.1
  Ok (r.0 ∷ os)

-- the objects of a certificate, or the place of the first line that doesn't fit
abbrev pub objects : Bytes → Result (List Object) ℕ
objects t = do
  rest ← or_refuse 0 (strip first_line t)
  objects_within (length t) (length t) rest
