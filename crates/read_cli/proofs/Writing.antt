-- What is new upon a state, written.
use Rattle.std.proofs.Common.{◌≡◌, true, List, [], ◌∷◌, ◌++◌, reverse, Some, Result, Ok, append-nil, sym, ap, subst, ◌∙◌}
use Rattle.std.specs.FinMap.{find}
use Rattle.git_objects.specs.Paths.{Bytes}
use Rattle.git_objects.specs.Refs.{bytes_cmp}
use Rattle.git_objects.specs.Results.{◌>>=◌, or_refuse}
use Rattle.git_objects.specs.Snapshots.{Graph, ancestors, tree_at}
use Rattle.object_store.specs.Objects.{Object}
use Rattle.filter_text.specs.Filters.{Filter}
use Rattle.path_names.specs.RefNames.{is_ref_name}
use Rattle.fast_export.specs.Histories.{snapshots_at}
use Rattle.incremental_export.specs.ChangeTexts.{changes_text}
use Rattle.incremental_export.specs.Histories.{tree_in}
use Rattle.incremental_export.specs.Unreached.{unreached}
use Rattle.projection_laws.specs.ProjectionLaws.{HistoryLaw}
use Rattle.projection_ground.specs.Grounds.{commits_of}
use Rattle.proj_io.specs.Views.{SinkView}
use Rattle.tag_objects.specs.Tags.{tags_text}
use Rattle.tag_objects.specs.declared.tag.Tag.{Tag}
use Rattle.state_items.specs.Items.{Held}
use Rattle.state_items.specs.Repos.{repo}
use Rattle.state_items.proofs.ReadEntries.{read-law}
use Rattle.repo_ground.specs.Contents.{Contents}
use Rattle.proj_words.specs.declared.outcome.Outcome.{Outcome}
use Rattle.proj_words.specs.declared.outcome.Outcome.TheVariants.{UnknownRef}
use Rattle.proj_commands.specs.Export.{export_hand}
use Rattle.proj_commands.specs.Hands.{still_hand}
use Rattle.proj_commands.specs.Makes.{IsStateOf}
use Rattle.read_cli.specs.Answers.{IsGiven, IsNewLawful, IsReadBackUpon, OfHead}
use Rattle.read_cli.specs.Looks.{AreFresh, AreNew, IsAtHand, IsLookedFor, IsUnshown, IsWriteOutcome, at_head}
use Rattle.read_cli.specs.Outputs.{has_tags, names_text, new_output, new_tags, original_commits, originals_output}
use Rattle.read_cli.specs.declared.words.Beside.{Beside}
use Rattle.proj_commands.proofs.Exports.{found-name}
use Rattle.read_cli.proofs.NewEnds.{ends-new}
use Rattle.read_cli.proofs.NewTags.{tags-new}
use Rattle.read_cli.proofs.Looked.{looked-at, unshown-looked, written-looked}
use Rattle.repo_ground.proofs.GroundLaws.{ground-law}

-- ---- names of refs

ok-same : (x y : Bytes) → ◌≡◌ {A = Result Bytes Outcome} (Ok x) (Ok y) → x ≡ y
ok-same x y e = cc

module _ (items : List Bytes) (h : Held) (s : Contents) (w : IsStateOf items h s) (refname : Bytes) where
  pub named : (n : Bytes) → find bytes_cmp refname h.refs ≡ Some n → is_ref_name refname ≡ true
  named n e = found-name h.refs refname n (read-law.sound items h w.current.read).names e

  -- a law of the head
  pub law-at : (Law : Held → Bytes → Type 0) (n : Bytes) → find bytes_cmp refname h.refs ≡ Some n → Law h n → OfHead (Ok h) refname Law
  law-at Law n e l = λ m q. subst (Law h) (ok-same n m (sym (ap (or_refuse UnknownRef) e) ∙ q)) l

-- ---- a projected history

module _ (beside : Beside) (items : List Bytes) (h : Held) (s : Contents) (w : IsStateOf items h s) (f : Filter) (refname n : Bytes) (e : find bytes_cmp refname h.refs ≡ Some n) (haves : List Bytes) where
  -- of equal stores, names and tags
  pub new-as : (S T : List Object) (ms ns : List Bytes) (us ts : List Tag) → T ≡ S → ns ≡ ms → ts ≡ us → AreNew (has_tags beside) h f n haves S ms us → AreNew (has_tags beside) h f n haves T ns ts
  new-as S T ms ns us ts x y z a =
      subst (λ (q : List Object). AreNew (has_tags beside) h f n haves q ns ts) (sym x)
      (subst (λ (q : List Bytes). AreNew (has_tags beside) h f n haves S q ts) (sym y) (subst (λ (q : List Tag). AreNew (has_tags beside) h f n haves S ms q) (sym z) a))

  abbrev pub IsNewLooked : SinkView → SinkView → Outcome → Type 0
  IsNewLooked before after o = IsLookedFor s.basis.store (at_head refname h (export_hand (has_tags beside) h f)) (at_head refname h (λ m. new_output beside h f refname m haves)) before after o

  pub looked-as : (before a b : SinkView) (o p : Outcome) → a ≡ b → o ≡ p → IsNewLooked before b p → IsNewLooked before a o
  looked-as before a b o p x y l = subst (λ (v : SinkView). IsNewLooked before v o) (sym x) (subst (λ (q : Outcome). IsNewLooked before b q) (sym y) l)

  pub new-looked : (lines : Bytes) (S : List Object) (ns : List Bytes) (tags : List Tag) → lines ≡ names_text beside h f n → AreNew (has_tags beside) h f n haves S ns tags → (before after : SinkView) (o : Outcome) → IsWriteOutcome o
      → IsGiven (lines ++ (changes_text (tree_in S) (snapshots_at S ns) refname ++ tags_text tags)) before after o → IsNewLooked before after o
  new-looked lines S ns tags l a before after o wrote g =
      let text : lines ++ (changes_text (tree_in S) (snapshots_at S ns) refname ++ tags_text tags) ≡ new_output beside h f refname n haves = λ i. l i ++ (a.fresh.text refname i ++ tags_text (a.same_tags i)) in
      looked-at s.basis.store (λ (r : Result Bytes Outcome). r >>= λ m. Ok (export_hand (has_tags beside) h f m)) (λ m. new_output beside h f refname m haves) refname h.refs before after n o e
      (written-looked s.basis.store (export_hand (has_tags beside) h f n ∷ []) (new_output beside h f refname n haves) before after o wrote (subst (λ (t : Bytes). IsGiven t before after o) text g))

  pub unshown-new : (before : SinkView) (o : Outcome) → IsUnshown (IsAtHand s.basis.store (export_hand (has_tags beside) h f n ∷ [])) o → IsNewLooked before before o
  unshown-new before o u =
      looked-at s.basis.store (λ (r : Result Bytes Outcome). r >>= λ m. Ok (export_hand (has_tags beside) h f m)) (λ m. new_output beside h f refname m haves) refname h.refs before before n o e
      (unshown-looked s.basis.store (export_hand (has_tags beside) h f n ∷ []) (new_output beside h f refname n haves) before o u)

  pub new-lawful : HistoryLaw → (S : List Object) (ns : List Bytes) (tags : List Tag) → AreNew (has_tags beside) h f n haves S ns tags
      → OfHead (Ok h) refname (λ h n. IsNewLawful (has_tags beside) h f refname n haves)
  new-lawful law S ns tags a =
      let named-ref = named items h s w refname n e in
      law-at items h s w refname (λ h n. IsNewLawful (has_tags beside) h f refname n haves) n e (record {
        last = ends-new law h f n haves w.spells.store;
        again = a.fresh.lawful refname named-ref;
        with_tags = λ z. a.fresh.with_tags refname named-ref (new_tags (has_tags beside) h f n haves) (tags-new law (has_tags beside) h f n haves w.spells.store (read-law.sound items h w.current.read).tags z);
      })

-- ---- originals

module _ (items : List Bytes) (h : Held) (s : Contents) (w : IsStateOf items h s) (refname n : Bytes) (e : find bytes_cmp refname h.refs ≡ Some n) (haves ns : List Bytes)
    (fresh : AreFresh s.basis.store (tree_at (commits_of s.basis)) (reverse (unreached (ancestors (commits_of s.basis) n) haves)) ns) where
  here : AreFresh s.basis.store (tree_at (repo h).commits) (original_commits h n haves) ns
  here = subst (λ (g : Graph). AreFresh s.basis.store (tree_at g) (reverse (unreached (ancestors g n) haves)) ns) (ground-law.commits h s w.spells w.ground) fresh

  pub originals-looked : (before after : SinkView) (o : Outcome) → IsWriteOutcome o → IsGiven (changes_text (tree_in s.basis.store) (snapshots_at s.basis.store ns) refname ++ []) before after o
      → IsLookedFor s.basis.store (Ok (still_hand h.objects [] [])) (at_head refname h (λ m. originals_output h refname m haves)) before after o
  originals-looked before after o wrote g =
      let text : changes_text (tree_in s.basis.store) (snapshots_at s.basis.store ns) refname ++ [] ≡ originals_output h refname n haves =
      append-nil (changes_text (tree_in s.basis.store) (snapshots_at s.basis.store ns) refname) ∙ here.text refname in
      looked-at s.basis.store (λ (r : Result Bytes Outcome). Ok (still_hand h.objects [] [])) (λ m. originals_output h refname m haves) refname h.refs before after n o e
      (written-looked s.basis.store (still_hand h.objects [] [] ∷ []) (originals_output h refname n haves) before after o wrote (subst (λ (t : Bytes). IsGiven t before after o) text g))

  pub originals-lawful : OfHead (Ok h) refname (λ h n. IsReadBackUpon (tree_at (repo h).commits) (original_commits h n haves) refname)
  originals-lawful = law-at items h s w refname (λ h n. IsReadBackUpon (tree_at (repo h).commits) (original_commits h n haves) refname) n e (here.lawful refname (named items h s w refname n e))
