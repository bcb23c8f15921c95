-- How far commits are written, each with what it changes.
use Rattle.std.proofs.Common.{◌≡◌, ℕ, suc, ◌<◌, ◌+◌, ◌∙◌, Bool, true, false, ◌||◌, ◌++◌, List, [], ◌∷◌, length, map, take, drop, get_or, take-append-drop, Option, None, Ok, Err, refl, sym, ap, subst, arith}
use Rattle.std.specs.Map.{lookup}
use Rattle.std.specs.Cmp.{first_so, second_so}
use Rattle.std.proofs.lemmas.List.{map-append, take_more}
use Rattle.git_objects.specs.Paths.{Bytes, same_bytes}
use Rattle.git_objects.specs.Parts.{name_bytes}
use Rattle.git_objects.specs.declared.name.Name.{Name}
use Rattle.git_objects.proofs.Basics.{same_bytes-back}
use Rattle.git_objects.proofs.IdentSpelling.{not-false}
use Rattle.object_store.specs.Objects.{Object, IsStore}
use Rattle.fast_export.specs.ExportTexts.{Marks, is_among, no_marks}
use Rattle.fast_export.specs.Given.{Given, AreGivenIn, commit_names, is_named, marks_in, no_given}
use Rattle.fast_export.specs.Histories.{are_distinct, snapshots_at}
use Rattle.fast_export.specs.Sending.{IsPut}
use Rattle.fast_export.specs.declared.error.ExportError.{ExportError}
use Rattle.fast_export.proofs.Changing.{or_none}
use Rattle.fast_export.proofs.Listed.{no_mark, split_at}
use Rattle.fast_export.proofs.Sent.{put_as, put_idle, put_stop, put_then}
use Rattle.incremental_export.specs.ChangeTexts.{commits_text, marks_behind}
use Rattle.incremental_export.specs.Histories.{tree_in}
use Rattle.incremental_export.proofs.StoredChanges.{marks_further, texts_behind}

-- ---- names, one by one

not_behind : (x y : Bytes) (xs ys : List Bytes) → is_among x (xs ++ y ∷ ys) ≡ false → same_bytes x y ≡ false
not_behind x y [] ys h = (or_none _ _ h).0
not_behind x y (z ∷ xs) ys h = not_behind x y xs ys (or_none _ _ h).1

-- what comes later isn't among what came before
not_before : (xs : List Bytes) (y : Bytes) (ys : List Bytes) → are_distinct (xs ++ y ∷ ys) ≡ true → is_among y xs ≡ false
not_before [] y ys h = refl
not_before (x ∷ xs) y ys h =
    let one : same_bytes y x ≡ false = same_bytes-back y x ∙ not_behind x y xs ys (not-false _ (first_so _ _ h)) in
    (λ i. one i || not_before xs y ys (second_so _ _ h) i)

module _ (names : List Name) (i : ℕ) (d : Name) (within : i < length names) where
  abbrev next : Name
  next = get_or names i d

  pub next_new : (g : Given) → are_distinct (map name_bytes names) ≡ true → commit_names g ≡ take i names → lookup (is_named next) g.commits ≡ None
  next_new g h e =
      let parts : map name_bytes names ≡ map name_bytes (take i names) ++ next.0 ∷ map name_bytes (drop (suc i) names) = ap (map name_bytes) (split_at names i d within) ∙ map-append name_bytes (take i names) (next ∷ drop (suc i) names) in
      no_mark next g.commits
      (ap (λ (ns : List Name). is_among next.0 (map name_bytes ns)) e
      ∙ not_before (map name_bytes (take i names)) next.0 (map name_bytes (drop (suc i) names)) (ap are_distinct (sym parts) ∙ h))

  names_more : map name_bytes (take (i + 1) names) ≡ map name_bytes (take i names) ++ next.0 ∷ []
  names_more = ap (map name_bytes) (take_more names i d within) ∙ map-append name_bytes (take i names) (next ∷ [])

  names_left : map name_bytes names ≡ map name_bytes (take (i + 1) names) ++ map name_bytes (drop (i + 1) names)
  names_left = ap (map name_bytes) (sym (take-append-drop (i + 1) names)) ∙ map-append name_bytes (take (i + 1) names) (drop (i + 1) names)

-- ---- the first of these commits

-- the text of the commits of these names, behind no others
abbrev pub text_to : List Object → Bytes → List Bytes → Bytes
text_to S refname ns = commits_text (tree_in S) refname no_marks (snapshots_at S ns)

-- the first i of these commits are written
pub record AreChangesWritten {O : Type 0} (tells : O → Type 0) (written : O → Option Bytes) (faults refusals : O → ℕ) (a b : O) (k l : Bytes) (S : List Object) (refname : Bytes) (names : List Name) (i : ℕ) (g : Given) : Type 0 where
  pub put : IsPut tells written faults refusals a b k l (text_to S refname (map name_bytes (take i names))) (Ok tt)
  pub marks : marks_in S g ≡ marks_behind (tree_in S) no_marks (snapshots_at S (map name_bytes (take i names)))
  pub all : AreGivenIn S g
  pub given : commit_names g ≡ take i names
  pub store : 0 < i → IsStore S

module _ (S : List Object) (refname : Bytes) (names : List Name) (i : ℕ) (d : Name) (within : i < length names) where
  abbrev here : Bytes
  here = (get_or names i d).0

  abbrev front : List Bytes
  front = map name_bytes (take i names)

  abbrev further : List Bytes
  further = map name_bytes (take (i + 1) names)

  text_more : (g : Given) → marks_in S g ≡ marks_behind (tree_in S) no_marks (snapshots_at S front)
      → text_to S refname front ++ commits_text (tree_in S) refname (marks_in S g) (snapshots_at S (here ∷ [])) ≡ text_to S refname further
  text_more g m =
      (λ j. text_to S refname front ++ commits_text (tree_in S) refname (m j) (snapshots_at S (here ∷ [])))
      ∙ sym (texts_behind (tree_in S) S refname no_marks front (here ∷ []))
      ∙ ap (text_to S refname) (sym (names_more names i d within))

  marks_more : (g h : Given) → marks_in S g ≡ marks_behind (tree_in S) no_marks (snapshots_at S front) → marks_in S h ≡ marks_behind (tree_in S) (marks_in S g) (snapshots_at S (here ∷ []))
      → marks_in S h ≡ marks_behind (tree_in S) no_marks (snapshots_at S further)
  marks_more g h m e =
      e ∙ ap (λ (x : Marks). marks_behind (tree_in S) x (snapshots_at S (here ∷ []))) m
      ∙ sym (marks_further (tree_in S) S no_marks front (here ∷ []))
      ∙ ap (λ (ns : List Bytes). marks_behind (tree_in S) no_marks (snapshots_at S ns)) (sym (names_more names i d within))

  module _ {O : Type 0} {tells : O → Type 0} {written : O → Option Bytes} {faults refusals : O → ℕ} where
    pub more_commits : (a b c : O) (k l m : Bytes) (g h : Given) → AreChangesWritten tells written faults refusals a b k l S refname names i g
        → IsPut tells written faults refusals b c l m (commits_text (tree_in S) refname (marks_in S g) (snapshots_at S (here ∷ []))) (Ok tt) → marks_in S h ≡ marks_behind (tree_in S) (marks_in S g) (snapshots_at S (here ∷ []))
        → AreGivenIn S h → commit_names h ≡ commit_names g ++ get_or names i d ∷ [] → IsStore S → AreChangesWritten tells written faults refusals a c k m S refname names (i + 1) h
    more_commits a b c k l m g h p q marks all given store = record {
      put = put_as a c k m _ _ (Ok tt) (text_more g p.marks) (put_then a b c k l m _ _ (Ok tt) p.put q);
      marks = marks_more g h p.marks marks;
      all = all;
      given = given ∙ ap (λ (ns : List Name). ns ++ get_or names i d ∷ []) p.given ∙ sym (take_more names i d within);
      store = λ some. store;
    }

    pub less_commits : (a b c : O) (k l m : Bytes) (g : Given) (f : ExportError) → AreChangesWritten tells written faults refusals a b k l S refname names i g
        → IsPut tells written faults refusals b c l m (commits_text (tree_in S) refname (marks_in S g) (snapshots_at S (here ∷ []))) (Err f) → IsPut tells written faults refusals a c k m (text_to S refname (map name_bytes names)) (Err f)
    less_commits a b c k l m g f p q =
        let left : List Bytes = map name_bytes (drop (i + 1) names) in
        put_as a c k m _ _ (Err f) (sym (texts_behind (tree_in S) S refname no_marks further left) ∙ ap (text_to S refname) (sym (names_left names i d within)))
        (put_stop a c k m m _ _ f (put_as a c k m _ _ (Err f) (text_more g p.marks) (put_then a b c k l m _ _ (Err f) p.put q)))

-- nothing is written yet
module _ {O : Type 0} {tells : O → Type 0} {written : O → Option Bytes} {faults refusals : O → ℕ} where
  pub no_commits : (a : O) (k : Bytes) (S : List Object) (refname : Bytes) (names : List Name) (g : Given) → g ≡ no_given → AreChangesWritten tells written faults refusals a a k k S refname names 0 g
  no_commits a k S refname names g e =
      subst (λ (h : Given). AreChangesWritten tells written faults refusals a a k k S refname names 0 h) (sym e)
      (record {
        put = put_idle a k;
        marks = refl;
        all = record { held = tt; trees = tt };
        given = refl;
        store = λ some. absurd (omega arith);
      })
