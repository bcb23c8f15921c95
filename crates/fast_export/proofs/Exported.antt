-- The whole text of a history.
use Rattle.std.proofs.Common.{◌≡◌, ℕ, suc, ◌-◌, ◌<◌, true, false, List, [], ◌∷◌, ◌++◌, length, map, take, Option, Result, Ok, Err, refl, sym, ap, subst, ◌∙◌, append_assoc, append-nil, arith}
use Rattle.std.specs.Prelude.{codes, IsErrAnd, OnOk, OnErr, ◌==◌}
use Rattle.std.specs.List.{list_all, cons_option}
use Rattle.std.specs.Option.{option_map}
use Rattle.std.specs.Io.KnownBytes.{Appends}
use Rattle.std.specs.Cmp.{first_so}
use Rattle.std.proofs.lemmas.Bool.Decides.{nat_tests}
use Rattle.git_objects.specs.Paths.{Bytes}
use Rattle.git_objects.specs.Commits.{Commit}
use Rattle.git_objects.specs.Parts.{name_bytes}
use Rattle.git_objects.specs.Snapshots.{Snapshot}
use Rattle.git_objects.specs.declared.kind.Kind.TheVariants.{Commit as CommitKind}
use Rattle.git_objects.specs.declared.name.Name.{Name}
use Rattle.object_store.specs.Objects.{Object, IsStore, has}
use Rattle.object_store.specs.StoredSnapshots.{snapshot_of}
use Rattle.object_store.proofs.StoredCommits.{stored-commit}
use Rattle.fast_export.specs.ExportTexts.{commits_text, export_text, line, mark_line, marks_behind, no_marks}
use Rattle.fast_export.specs.Histories.{snapshots_at}
use Rattle.fast_export.specs.Sending.{IsPut, unit_of}
use Rattle.fast_export.specs.declared.error.ExportError.{ExportError}

-- ---- texts

pub unit_err : {A : Type 0} (r : Result A ExportError) (e : ExportError) → IsErrAnd r (λ x. x ≡ e) → Err e ≡ unit_of r
unit_err (Ok x) e h = absurd h
unit_err (Err x) e h = ap Err (sym h)

abbrev pub last_lines : Bytes → ℕ → Bytes
last_lines refname n = line (codes "reset ") refname ++ mark_line (codes "from ") n ++ 10 ∷ []

last_parts : (t a b f : Bytes) → ((t ++ a) ++ b) ++ f ≡ t ++ ((a ++ b) ++ f)
last_parts t a b f = simp append_assoc

-- a commit at least, and then the ref
some_text : (c : Snapshot) (cs : List Snapshot) (refname : Bytes) (n : ℕ) → n ≡ (marks_behind no_marks (c ∷ cs)).next - 1 → commits_text refname no_marks (c ∷ cs) ++ last_lines refname n ≡ export_text (c ∷ cs) refname
unfolding export_text
some_text c cs refname n e =
    ap (λ k. commits_text refname no_marks (c ∷ cs) ++ last_lines refname k) e
    ∙ sym (last_parts (commits_text refname no_marks (c ∷ cs)) (line (codes "reset ") refname) (mark_line (codes "from ") ((marks_behind no_marks (c ∷ cs)).next - 1)) (10 ∷ []))

pub no_text : (refname : Bytes) → export_text [] refname ≡ []
unfolding export_text
no_text refname = refl

-- the commits are a front
pub rest_text : (cs : List Snapshot) (refname : Bytes) → (r : Bytes) × (commits_text refname no_marks cs ++ r ≡ export_text cs refname)
rest_text [] refname = ([], sym (no_text refname))
rest_text (c ∷ cs) refname = (last_lines refname ((marks_behind no_marks (c ∷ cs)).next - 1), some_text c cs refname _ refl)

pub whole_text : (S : List Object) (names : List Name) (refname : Bytes) (n : ℕ) → IsStore S → list_all (has CommitKind S) (map name_bytes names) ≡ true → 0 < length names → n ≡ (marks_behind no_marks (snapshots_at S (map name_bytes names))).next - 1
    → commits_text refname no_marks (snapshots_at S (map name_bytes names)) ++ last_lines refname n ≡ export_text (snapshots_at S (map name_bytes names)) refname
whole_text S [] refname n s h some e = absurd (omega arith)
whole_text S (k ∷ names) refname n s h some e =
    let c = stored-commit S k.0 s (first_so _ _ h) in
    let same : snapshots_at S (map name_bytes (k ∷ names)) ≡ snapshot_of S c.commit ∷ snapshots_at S (map name_bytes names) = ap (λ (o : Option Commit). cons_option (option_map (snapshot_of S) o) (snapshots_at S (map name_bytes names))) c.read in
    let P : List Snapshot → Type 0 = λ cs. n ≡ (marks_behind no_marks cs).next - 1 → commits_text refname no_marks cs ++ last_lines refname n ≡ export_text cs refname in
    subst P (sym same) (some_text (snapshot_of S c.commit) (snapshots_at S (map name_bytes names)) refname n) e

pub empty_text : (S : List Object) (names : List Name) (refname : Bytes) → (length names == 0) ≡ true → export_text (snapshots_at S (map name_bytes names)) refname ≡ []
empty_text S [] refname h = no_text refname
empty_text S (k ∷ names) refname h = absurd (never (length names) h)
  where
    never : (n : ℕ) → (suc n == 0) ≡ true → ⊥
    never n e = absurd (grind (arith, nat_tests))

pub not_empty : (n : ℕ) → (n == 0) ≡ false → 0 < n
not_empty n h = grind (arith, nat_tests)

-- ---- what the sink has

module _ {O : Type 0} {tells : O → Type 0} {written : O → Option Bytes} {faults refusals : O → ℕ} where
  pub front_of : (a b : O) (k l t : Bytes) (r : Result Unit ExportError) → k ≡ [] → IsPut tells written faults refusals a b k l t r → OnErr r ((n : ℕ) × Appends (written a) (written b) (take n t))
  front_of a b k l t (Ok x) e p = tt
  front_of a b k l t (Err f) e p = let q = p.front in (q.count, subst (λ (y : Bytes). Appends (written a) (written b) (take q.count (y ++ t))) e q.got)

  pub text_of : (a b : O) (k l t : Bytes) (r : Result Unit ExportError) → k ≡ [] → OnOk r (l ≡ []) → IsPut tells written faults refusals a b k l t r → OnOk r (Appends (written a) (written b) t)
  text_of a b k l t (Err f) e h p = tt
  text_of a b k l t (Ok x) e h p =
      let q = p.sent in
      let same : q.sent ≡ t = sym (append-nil q.sent) ∙ ap (λ (y : Bytes). q.sent ++ y) (sym h) ∙ q.all ∙ ap (λ (y : Bytes). y ++ t) e in
      subst (Appends (written a) (written b)) same q.got
