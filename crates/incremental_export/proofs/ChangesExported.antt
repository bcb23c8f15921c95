-- The whole text of commits, each with what it changes.
use Rattle.std.proofs.Common.{◌≡◌, ℕ, suc, ◌-◌, ◌<◌, true, List, [], ◌∷◌, ◌++◌, length, map, Option, refl, sym, ap, subst, ◌∙◌, append_assoc, arith}
use Rattle.std.specs.Prelude.{codes, ◌==◌}
use Rattle.std.specs.List.{list_all, cons_option}
use Rattle.std.specs.Option.{option_map}
use Rattle.std.specs.Cmp.{first_so}
use Rattle.std.proofs.lemmas.Bool.Decides.{nat_tests}
use Rattle.git_objects.specs.Paths.{Bytes}
use Rattle.git_objects.specs.Trees.{Flat}
use Rattle.git_objects.specs.Commits.{Commit}
use Rattle.git_objects.specs.Parts.{name_bytes}
use Rattle.git_objects.specs.Snapshots.{Snapshot}
use Rattle.git_objects.specs.declared.kind.Kind.TheVariants.{Commit as CommitKind}
use Rattle.git_objects.specs.declared.name.Name.{Name}
use Rattle.object_store.specs.Objects.{Object, IsStore, has}
use Rattle.object_store.specs.StoredSnapshots.{snapshot_of}
use Rattle.object_store.proofs.StoredCommits.{stored-commit}
use Rattle.fast_export.specs.ExportTexts.{line, mark_line, no_marks}
use Rattle.fast_export.specs.Histories.{snapshots_at}
use Rattle.fast_export.proofs.Exported.{last_lines}
use Rattle.incremental_export.specs.ChangeTexts.{changes_text, commits_text, marks_behind}
use Rattle.incremental_export.specs.Histories.{tree_in}

last_parts : (t a b f : Bytes) → ((t ++ a) ++ b) ++ f ≡ t ++ ((a ++ b) ++ f)
last_parts t a b f = simp append_assoc

module _ (tree_of : Bytes → Flat) where
  -- a commit at least, and then the ref
  some_text : (c : Snapshot) (cs : List Snapshot) (refname : Bytes) (n : ℕ) → n ≡ (marks_behind tree_of no_marks (c ∷ cs)).next - 1 → commits_text tree_of refname no_marks (c ∷ cs) ++ last_lines refname n ≡ changes_text tree_of (c ∷ cs) refname
  unfolding changes_text
  some_text c cs refname n e =
      ap (λ k. commits_text tree_of refname no_marks (c ∷ cs) ++ last_lines refname k) e
      ∙ sym (last_parts (commits_text tree_of refname no_marks (c ∷ cs)) (line (codes "reset ") refname) (mark_line (codes "from ") ((marks_behind tree_of no_marks (c ∷ cs)).next - 1)) (10 ∷ []))

  no_text : (refname : Bytes) → changes_text tree_of [] refname ≡ []
  unfolding changes_text
  no_text refname = refl

  -- the commits are a front
  pub rest_text : (cs : List Snapshot) (refname : Bytes) → (r : Bytes) × (commits_text tree_of refname no_marks cs ++ r ≡ changes_text tree_of cs refname)
  rest_text [] refname = ([], sym (no_text refname))
  rest_text (c ∷ cs) refname = (last_lines refname ((marks_behind tree_of no_marks (c ∷ cs)).next - 1), some_text c cs refname _ refl)

pub whole_text : (S : List Object) (names : List Name) (refname : Bytes) (n : ℕ) → IsStore S → list_all (has CommitKind S) (map name_bytes names) ≡ true → 0 < length names
    → n ≡ (marks_behind (tree_in S) no_marks (snapshots_at S (map name_bytes names))).next - 1
    → commits_text (tree_in S) refname no_marks (snapshots_at S (map name_bytes names)) ++ last_lines refname n ≡ changes_text (tree_in S) (snapshots_at S (map name_bytes names)) refname
whole_text S [] refname n s h some e = absurd (omega arith)
whole_text S (k ∷ names) refname n s h some e =
    let c = stored-commit S k.0 s (first_so _ _ h) in
    let same : snapshots_at S (map name_bytes (k ∷ names)) ≡ snapshot_of S c.commit ∷ snapshots_at S (map name_bytes names) = ap (λ (o : Option Commit). cons_option (option_map (snapshot_of S) o) (snapshots_at S (map name_bytes names))) c.read in
    let P : List Snapshot → Type 0 = λ cs. n ≡ (marks_behind (tree_in S) no_marks cs).next - 1 → commits_text (tree_in S) refname no_marks cs ++ last_lines refname n ≡ changes_text (tree_in S) cs refname in
    subst P (sym same) (some_text (tree_in S) (snapshot_of S c.commit) (snapshots_at S (map name_bytes names)) refname n) e

pub empty_text : (S : List Object) (names : List Name) (refname : Bytes) → (length names == 0) ≡ true → changes_text (tree_in S) (snapshots_at S (map name_bytes names)) refname ≡ []
empty_text S [] refname h = no_text (tree_in S) refname
empty_text S (k ∷ names) refname h = absurd (never (length names) h)
  where
    never : (n : ℕ) → (suc n == 0) ≡ true → ⊥
    never n e = absurd (grind (arith, nat_tests))
