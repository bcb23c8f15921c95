-- How far the commits are written.
use Rattle.std.proofs.Common.{◌≡◌, ℕ, ◌<◌, ◌+◌, ◌∙◌, ◌++◌, List, [], ◌∷◌, length, map, take, drop, get_or, Option, Ok, Err, refl, sym, ap, subst, arith}
use Rattle.git_objects.specs.Paths.{Bytes}
use Rattle.git_objects.specs.Parts.{name_bytes}
use Rattle.git_objects.specs.declared.name.Name.{Name}
use Rattle.object_store.specs.Objects.{Object, IsStore}
use Rattle.fast_export.specs.ExportTexts.{Marks, commits_text, marks_behind, no_marks}
use Rattle.fast_export.specs.Given.{Given, commit_names, marks_in, no_given}
use Rattle.fast_export.specs.Histories.{IsHistoryIn, snapshots_at}
use Rattle.fast_export.specs.Known.{AreWritten}
use Rattle.fast_export.specs.Sending.{IsPut}
use Rattle.fast_export.specs.declared.known.Lines.{Lines}
use Rattle.fast_export.specs.declared.error.ExportError.{ExportError}
use Rattle.fast_export.proofs.Listed.{names_left, names_more, one_name}
use Rattle.fast_export.proofs.Sent.{put_as, put_idle, put_stop, put_then}
use Rattle.fast_export.proofs.StoredHistories.{marks_further, texts_behind}

-- the text of the commits of these names, behind no others
abbrev pub text_to : List Object → Bytes → List Bytes → Bytes
text_to S refname ns = commits_text refname no_marks (snapshots_at S ns)

-- the first i of these commits are written
pub record AreCommitsWritten {O : Type 0} (tells : O → Type 0) (written : O → Option Bytes) (faults refusals : O → ℕ) (a b : O) (k l : Bytes) (S : List Object) (refname : Bytes) (names : List Name) (i : ℕ) (g : Given) (known : List (Name × Lines)) : Type 0 where
  pub put : IsPut tells written faults refusals a b k l (text_to S refname (map name_bytes (take i names))) (Ok tt)
  pub marks : marks_in S g ≡ marks_behind no_marks (snapshots_at S (map name_bytes (take i names)))
  pub all : AreWritten S g known
  pub given : commit_names g ≡ take i names
  pub store : 0 < i → IsStore S

module _ (S : List Object) (refname : Bytes) (names : List Name) (history : IsHistoryIn S (map name_bytes names)) (i : ℕ) (d : Name) (within : i < length names) where
  abbrev next : Name
  next = get_or names i d

  abbrev front : List Bytes
  front = map name_bytes (take i names)

  abbrev further : List Bytes
  further = map name_bytes (take (i + 1) names)

  text_more : (g : Given) → marks_in S g ≡ marks_behind no_marks (snapshots_at S front) → text_to S refname front ++ commits_text refname (marks_in S g) (snapshots_at S (next.0 ∷ [])) ≡ text_to S refname further
  text_more g m =
      (λ j. text_to S refname front ++ commits_text refname (m j) (snapshots_at S (next.0 ∷ [])))
      ∙ sym (texts_behind S refname no_marks front (next.0 ∷ []))
      ∙ ap (text_to S refname) (sym (names_more S names history i d within))

  marks_more : (g h : Given) → marks_in S g ≡ marks_behind no_marks (snapshots_at S front) → marks_in S h ≡ marks_behind (marks_in S g) (snapshots_at S (next.0 ∷ [])) → marks_in S h ≡ marks_behind no_marks (snapshots_at S further)
  marks_more g h m e =
      e ∙ ap (λ (x : Marks). marks_behind x (snapshots_at S (next.0 ∷ []))) m
      ∙ sym (marks_further S no_marks front (next.0 ∷ []))
      ∙ ap (λ (ns : List Bytes). marks_behind no_marks (snapshots_at S ns)) (sym (names_more S names history i d within))

  module _ {O : Type 0} {tells : O → Type 0} {written : O → Option Bytes} {faults refusals : O → ℕ} where
    pub more_commits : (a b c : O) (k l m : Bytes) (g h : Given) (known more : List (Name × Lines)) → AreCommitsWritten tells written faults refusals a b k l S refname names i g known
        → IsPut tells written faults refusals b c l m (commits_text refname (marks_in S g) (snapshots_at S (next.0 ∷ []))) (Ok tt) → marks_in S h ≡ marks_behind (marks_in S g) (snapshots_at S (next.0 ∷ []))
        → AreWritten S h more → commit_names h ≡ commit_names g ++ next ∷ [] → IsStore S → AreCommitsWritten tells written faults refusals a c k m S refname names (i + 1) h more
    more_commits a b c k l m g h known more p q marks all given store = record {
      put = put_as a c k m _ _ (Ok tt) (text_more g p.marks) (put_then a b c k l m _ _ (Ok tt) p.put q);
      marks = marks_more g h p.marks marks;
      all = all;
      given = given ∙ ap (λ (ns : List Name). ns ++ next ∷ []) p.given ∙ sym (one_name S names history i d within);
      store = λ some. store;
    }

    pub less_commits : (a b c : O) (k l m : Bytes) (g : Given) (known : List (Name × Lines)) (f : ExportError) → AreCommitsWritten tells written faults refusals a b k l S refname names i g known
        → IsPut tells written faults refusals b c l m (commits_text refname (marks_in S g) (snapshots_at S (next.0 ∷ []))) (Err f) → IsPut tells written faults refusals a c k m (text_to S refname (map name_bytes names)) (Err f)
    less_commits a b c k l m g known f p q =
        let left : List Bytes = map name_bytes (drop (i + 1) names) in
        put_as a c k m _ _ (Err f) (sym (texts_behind S refname no_marks further left) ∙ ap (text_to S refname) (sym (names_left S names history i d within)))
        (put_stop a c k m m _ _ f (put_as a c k m _ _ (Err f) (text_more g p.marks) (put_then a b c k l m _ _ (Err f) p.put q)))

-- nothing is written yet
module _ {O : Type 0} {tells : O → Type 0} {written : O → Option Bytes} {faults refusals : O → ℕ} where
  pub no_commits : (a : O) (k : Bytes) (S : List Object) (refname : Bytes) (names : List Name) (g : Given) (known : List (Name × Lines)) → g ≡ no_given → known ≡ [] → AreCommitsWritten tells written faults refusals a a k k S refname names 0 g known
  no_commits a k S refname names g known e f =
      subst (λ (h : Given). AreCommitsWritten tells written faults refusals a a k k S refname names 0 h known) (sym e)
      (subst (λ (es : List (Name × Lines)). AreCommitsWritten tells written faults refusals a a k k S refname names 0 no_given es) (sym f)
      (record {
        put = put_idle a k;
        marks = refl;
        all = record { given = record { held = tt; trees = tt }; lines = tt };
        given = refl;
        store = λ some. absurd (omega arith);
      }))
