-- Marks by the names of blobs and commits, and by what the names stand for.
use Rattle.std.proofs.Common.{◌≡◌, ℕ, Bool, true, false, cond, ◌||◌, List, [], ◌∷◌, map, Option, Some, refl, sym, ap, ◌∙◌}
use Rattle.std.specs.Prelude.{if◌then◌else◌, unwrap_or}
use Rattle.std.specs.Option.{is_some}
use Rattle.std.specs.Map.{lookup}
use Rattle.std.specs.Cmp.Lexicographic.{bytes_decides}
use Rattle.git_objects.specs.Lists.{Each}
use Rattle.git_objects.specs.Paths.{Bytes, same_bytes}
use Rattle.git_objects.specs.Names.{name}
use Rattle.git_objects.specs.declared.kind.Kind.TheVariants.{Blob}
use Rattle.git_objects.specs.declared.name.Name.{Name}
use Rattle.git_objects.proofs.Basics.{same_bytes-self, same_bytes-back}
use Rattle.object_store.specs.Objects.{Object, body_of, has}
use Rattle.object_store.proofs.Held.{body_named}
use Rattle.fast_export.specs.ExportTexts.{is_among, mark_of}
use Rattle.fast_export.specs.Given.{is_named, blob_mark, commit_mark}

abbrev pub second_of : ℕ × Bytes → Bytes
second_of m = m.1

-- two blobs that a store has have one name exactly where they have the same bytes
same_bodies : (S : List Object) (n k : Bytes) → has Blob S n ≡ true → has Blob S k ≡ true → same_bytes (body_of Blob S n) (body_of Blob S k) ≡ same_bytes n k
same_bodies S n k h g =
    elim (same_bytes n k) as (λ b. same_bytes n k ≡ b → same_bytes (body_of Blob S n) (body_of Blob S k) ≡ b) [
      | true ↦ λ e. ap (λ (x : Bytes). same_bytes (body_of Blob S n) (body_of Blob S x)) (sym ((bytes_decides n k).0 e)) ∙ same_bytes-self (body_of Blob S n)
      | false ↦ λ e. elim (same_bytes (body_of Blob S n) (body_of Blob S k)) as (λ b. same_bytes (body_of Blob S n) (body_of Blob S k) ≡ b → b ≡ false) [
        | true ↦ λ f. sym ((bytes_decides n k).1 (sym (body_named Blob S n h) ∙ ap (name Blob) ((bytes_decides _ _).0 f) ∙ body_named Blob S k g)) ∙ e
        | false ↦ λ f. refl
      ] refl
    ] refl

some_test : (b : Bool) (k : ℕ) (o : Option ℕ) → is_some (cond b (Some k) o) ≡ (b || is_some o)
some_test true k o = refl
some_test false k o = refl

or_zero : (b : Bool) (k : ℕ) (o : Option ℕ) → unwrap_or (cond b (Some k) o) 0 ≡ (if b then k else unwrap_or o 0)
or_zero true k o = refl
or_zero false k o = refl

module _ (S : List Object) (n : Name) (held : has Blob S n.0 ≡ true) where
  -- whether a blob has a mark
  pub blob_among : (es : List (Name × ℕ)) → Each (λ e. has Blob S e.0.0 ≡ true) es → is_among (body_of Blob S n.0) (map second_of (map (blob_mark S) es)) ≡ is_some (lookup (is_named n) es)
  blob_among [] h = refl
  blob_among (e ∷ es) h =
      (λ i. same_bodies S n.0 e.0.0 held h.0 i || blob_among es h.1 i)
      ∙ sym (some_test (is_named n e.0) e.1 (lookup (is_named n) es))

  -- and which
  pub blob_number : (es : List (Name × ℕ)) → Each (λ e. has Blob S e.0.0 ≡ true) es → mark_of (body_of Blob S n.0) (map (blob_mark S) es) ≡ unwrap_or (lookup (is_named n) es) 0
  blob_number [] h = refl
  blob_number (e ∷ es) h =
      (λ i. if (same_bytes-back (body_of Blob S e.0.0) (body_of Blob S n.0) ∙ same_bodies S n.0 e.0.0 held h.0) i then e.1 else blob_number es h.1 i)
      ∙ sym (or_zero (is_named n e.0) e.1 (lookup (is_named n) es))

-- a commit's mark
pub commit_number : (n : Name) (es : List (Name × ℕ)) → mark_of n.0 (map commit_mark es) ≡ unwrap_or (lookup (is_named n) es) 0
commit_number n [] = refl
commit_number n (e ∷ es) =
    (λ i. if same_bytes-back e.0.0 n.0 i then e.1 else commit_number n es i)
    ∙ sym (or_zero (is_named n e.0) e.1 (lookup (is_named n) es))
