-- A commit that begins, and one that ends, in the replay.
use Rattle.std.proofs.Common.{◌≡◌, ◌⊎◌, inl, inr, ℕ, List, [], ◌∷◌, ◌++◌, map, Option, Some, None, Result, Ok, Err, IfErr, OnOk, refl, sym, ap, subst, ◌∙◌}
use Rattle.std.specs.Prelude.{IsOkAnd}
use Rattle.std.specs.Global.{Vec}
use Rattle.std.specs.Option.{option_map, option_to_list, unwrap_or}
use Rattle.git_objects.specs.Parts.{name_bytes}
use Rattle.git_objects.specs.Paths.{Bytes}
use Rattle.git_objects.specs.Refs.{Refs}
use Rattle.git_objects.specs.Results.{◌>>=◌, or_refuse}
use Rattle.git_objects.specs.Snapshots.{snapshot_name}
use Rattle.git_objects.specs.Trees.{Flat}
use Rattle.git_objects.specs.declared.kind.Kind.TheVariants.{Commit as CommitKind}
use Rattle.git_objects.specs.declared.name.Name.{Name}
use Rattle.object_store.specs.Growth.{IsGrownBy}
use Rattle.object_store.specs.Objects.{Object}
use Rattle.object_store.specs.StoredSnapshots.{snapshot_object}
use Rattle.object_store.proofs.Parts.{found-has}
use Rattle.stage_tree.specs.Stages.{Shows, Staged}
use Rattle.fast_import.specs.Bases.{IsBaseIn, base_in}
use Rattle.fast_import.specs.Made.{IsMadeOf, IsPutFault}
use Rattle.fast_import.specs.Replays.{Base, CommitMark, Draft, Replay, begun, command_step, commit_of, committed, entered, first_parent, tree_of, tree_upon, with_branch, with_mark, with_merges}
use Rattle.fast_import.specs.Replaying.{Replaying, with_head}
use Rattle.fast_import.specs.Standing.{IsBegun, IsDraftIn, IsDraftOf, IsDrawnUp, IsEnded, IsGivenMark, IsReplayOf, IsStepped, IsTried}
use Rattle.stream_reader.specs.declared.command.Command.TheVariants as commands
use Rattle.stream_reader.specs.declared.command.CommitHead.{CommitHead}
use Rattle.fast_import.specs.declared.draft.Begun.{Begun}
use Rattle.fast_import.specs.declared.draft.Draft.{Draft as DraftNames}
use Rattle.fast_import.specs.declared.draft.Ended.{Ended}
use Rattle.stream_reader.specs.declared.fault.StreamFault.{StreamFault}
use Rattle.stream_reader.specs.declared.fault.StreamFault.TheVariants.{OutOfMemory, Syntax}
use Rattle.fast_import.specs.declared.marks.Marked.TheVariants as names
use Rattle.fast_import.proofs.Growing.{replay-grown}
use Rattle.fast_import.proofs.Knowing.{AreParents, first-parents, first-there, merges-there}
use Rattle.fast_import.proofs.Stepping.{commits-push, given_mark, set_branch}

-- ---- the tree of the first parent

pub upon_nothing : (base : Base) (r : Replay) (first : Option Name) → first ≡ None → tree_upon base r (option_map name_bytes first) ≡ []
upon_nothing base r first e = ap (λ (o : Option Name). tree_upon base r (option_map name_bytes o)) e

pub upon_unknown : (base : Base) (r : Replay) (first : Option Name) (n : Name) → first ≡ Some n → tree_of base r n.0 ≡ None → tree_upon base r (option_map name_bytes first) ≡ []
upon_unknown base r first n e q = ap (λ (o : Option Name). tree_upon base r (option_map name_bytes o)) e ∙ ap (λ (o : Option Flat). unwrap_or o []) q

pub upon_known : (base : Base) (r : Replay) (first : Option Name) (n : Name) (t : Flat) → first ≡ Some n → tree_of base r n.0 ≡ Some t → tree_upon base r (option_map name_bytes first) ≡ t
upon_known base r first n t e q = ap (λ (o : Option Name). tree_upon base r (option_map name_bytes o)) e ∙ ap (λ (o : Option Flat). unwrap_or o []) q

-- ---- a commit begins

pub with_draft : (S : List Object) (v : Replaying) (r : Replay) (x : Option DraftNames) (d : Option Draft) → IsReplayOf S v r → IsDraftIn S x d → IsReplayOf S (record v { draft = x }) (record r { draft = d })
with_draft S v r x d h k = record { blobs = h.blobs; commits = h.commits; branches = h.branches; sorted = h.sorted; held = h.held; marks = h.marks; draft = k; tags = h.tags }

module _ (S : List Object) (v : Replaying) (r : Replay) (h : IsReplayOf S v r) (commits : List (Bytes × Bytes)) (refs : Refs) (blobs : List Bytes) (b : IsBaseIn S commits refs blobs) (at : ℕ) (head : CommitHead) where
  abbrev base : Base
  base = base_in S commits refs blobs

  abbrev left : Result Replay StreamFault
  left = command_step base r at (commands.Commit head)

  pub no_parent : (f : StreamFault) → first_parent base r head ≡ Err f → IsBegun S v head left (Err f)
  no_parent f e = record { begins = tt; not_begun = inl (ap (λ (x : Result (Option Bytes) StreamFault). x >>= λ first. with_merges base r (option_to_list first) head.merges >>= λ parents. Ok (begun base r head first parents)) e) }

  module _ (first : Option Name) (upon : first_parent base r head ≡ Ok (option_map name_bytes first)) where
    step_is : left ≡ (with_merges base r (option_to_list (option_map name_bytes first)) head.merges >>= λ parents. Ok (begun base r head (option_map name_bytes first) parents))
    step_is = ap (λ (x : Result (Option Bytes) StreamFault). x >>= λ first. with_merges base r (option_to_list first) head.merges >>= λ parents. Ok (begun base r head first parents)) upon

    pub no_merge : (f : StreamFault) → (with_merges base r (option_to_list (option_map name_bytes first)) head.merges ≡ Err f) ⊎ (f ≡ OutOfMemory) → IsBegun S v head left (Err f)
    no_merge f (inl e) = record { begins = tt; not_begun = inl (step_is ∙ ap (λ (x : Result (List Bytes) StreamFault). x >>= λ parents. Ok (begun base r head (option_map name_bytes first) parents)) e) }
    no_merge f (inr e) = record { begins = tt; not_begun = inr e }

    pub no_stage : IsBegun S v head left (Err OutOfMemory)
    no_stage = record { begins = tt; not_begun = inr refl }

    pub commit_begun : (x : Begun) → with_merges base r (option_to_list (option_map name_bytes first)) head.merges ≡ Ok (map name_bytes x.parents.items)
        → Shows S x.stage (tree_upon base r (option_map name_bytes first)) → IsBegun S v head left (Ok x)
    commit_begun x e s = record {
      begins = λ y k. subst (λ (l : Result Replay StreamFault). IsOkAnd l (IsReplayOf S (record v { draft = Some y }))) (sym (step_is ∙ ap (λ (l : Result (List Bytes) StreamFault). l >>= λ parents. Ok (begun base r head (option_map name_bytes first) parents)) e))
          (with_draft S v r (Some y) (begun base r head (option_map name_bytes first) (map name_bytes x.parents.items)).draft h
          (record { of_branch = k.to_branch; with_mark = k.to_mark; letter = k.says; parents = ap (λ (l : Vec Name). map name_bytes l.items) k.upon; held = ps.held; few = ps.few; stage = subst (λ (z : Staged). Shows S z (tree_upon base r (option_map name_bytes first))) (sym k.staged) s }));
      not_begun = tt;
    }
      where
        ps : AreParents S v r h commits refs blobs b (map name_bytes x.parents.items)
        ps = merges-there S v r h commits refs blobs b head.merges (option_to_list (option_map name_bytes first)) (map name_bytes x.parents.items)
            (first-parents S v r h commits refs blobs b (option_map name_bytes first) (first-there S v r h commits refs blobs b head (option_map name_bytes first) upon)) e

pub begun_done : (S : List Object) (v w : Replaying) (h : CommitHead) (left : Result Replay StreamFault) (b : Begun) (x : DraftNames) → IsBegun S v h left (Ok b) → IsDrawnUp h b x → w ≡ record v { draft = Some x } → IsTried S w left (Ok tt)
begun_done S v w h left b x k d e = record { done = subst (λ (y : Replaying). IsOkAnd left (IsReplayOf S y)) (sym e) (k.begins x d); refused = tt }

-- ---- a commit ends

pub draft_there : (S : List Object) (v : Replaying) (r : Replay) (x : DraftNames) → IsReplayOf S v r → v.draft ≡ Some x → (d : Draft) × (r.draft ≡ Some d) × IsDraftOf S x d
draft_there S v r x h e = by r.draft refl (subst (λ (o : Option DraftNames). IsDraftIn S o r.draft) e h.draft)
  where
    by : (o : Option Draft) → r.draft ≡ o → IsDraftIn S (Some x) r.draft → (d : Draft) × (r.draft ≡ Some d) × IsDraftOf S x d
    by None q k = absurd (subst (IsDraftIn S (Some x)) q k)
    by (Some d) q k = (d, q, subst (IsDraftIn S (Some x)) q k)

pub draft_none : (S : List Object) (v : Replaying) (r : Replay) → IsReplayOf S v r → v.draft ≡ None → r.draft ≡ None
draft_none S v r h e = by r.draft refl (subst (λ (o : Option DraftNames). IsDraftIn S o r.draft) e h.draft)
  where
    by : (o : Option Draft) → r.draft ≡ o → IsDraftIn S None r.draft → r.draft ≡ None
    by None q k = q
    by (Some d) q k = absurd (subst (IsDraftIn S None) q k)

pub entered_done : (S : List Object) (v v₁ v₂ w : Replaying) (r : Replay) (d : Draft) (e : Ended) → IsReplayOf S v r → IsEnded S e d → v₁ ≡ record v { commits = v.commits ++ e.made ∷ [] }
    → v₂ ≡ record v₁ { branches = with_head e.refname (Some e.made.name) v₁.branches } → IsGivenMark v₂ w e.mark (names.Commit e.made.name) → IsReplayOf S w (entered d.head.refname d.head.mark (commit_of d) r)
entered_done S v v₁ v₂ w r d e h k q₁ q₂ g =
    subst (λ (m : Option ℕ). IsReplayOf S w (with_mark m (CommitMark (snapshot_name (commit_of d))) (with_branch d.head.refname (Some (snapshot_name (commit_of d))) more))) k.at_mark
    (subst (λ (n : Bytes). IsReplayOf S w (with_mark e.mark (CommitMark (snapshot_name (commit_of d))) (with_branch n (Some (snapshot_name (commit_of d))) more))) k.on_branch
    (given_mark S v₂ w (with_branch e.refname (Some (snapshot_name (commit_of d))) more) e.mark (names.Commit e.made.name) (CommitMark (snapshot_name (commit_of d))) at_branch g (sym k.made_commit.named)))
  where
    more : Replay
    more = record r { commits = r.commits ++ commit_of d ∷ [] }

    at_commit : IsReplayOf S v₁ more
    at_commit =
        subst (λ (u : Replaying). IsReplayOf S u more) (sym q₁)
        (record { blobs = h.blobs; commits = commits-push S v.commits r.commits e.made (commit_of d) h.commits k.made_commit; branches = h.branches; sorted = h.sorted; held = h.held; marks = h.marks; draft = h.draft; tags = h.tags })

    at_branch : IsReplayOf S v₂ (with_branch e.refname (Some (snapshot_name (commit_of d))) more)
    at_branch =
        subst (λ (n : Bytes). IsReplayOf S v₂ (with_branch e.refname (Some n) more)) (sym k.made_commit.named)
        (subst (λ (u : Replaying). IsReplayOf S u (with_branch e.refname (Some e.made.name.0) more)) (sym q₂)
        (set_branch S v₁ more e.refname (Some e.made.name) at_commit (found-has S CommitKind e.made.name.0 (snapshot_object (commit_of d)) k.made_commit.held refl).0))

module _ (base : Base) (S T : List Object) (v w : Replaying) (r : Replay) (at : ℕ) (x : DraftNames) (h : IsReplayOf S v r) (drafted : v.draft ≡ Some x)
    (grown : (d : Draft) → IsDraftOf S x d → IsGrownBy (IsMadeOf (Some d)) S T) where
  here : (d : Draft) × (r.draft ≡ Some d) × IsDraftOf S x d
  here = draft_there S v r x h drafted

  grown_here : IsGrownBy (IsMadeOf r.draft) S T
  grown_here = subst (λ (o : Option Draft). IsGrownBy (IsMadeOf o) S T) (sym here.1) (grown here.0 here.2)

  pub end_refused : (f : StreamFault) → ((d : Draft) → IsDraftOf S x d → IsPutFault (IsMadeOf (Some d)) T f) → IsStepped base S T w r (record { at = at; command = commands.CommitEnd }) (Err f)
  end_refused f p = record { done = tt; refused = inr (subst (λ (o : Option Draft). IsPutFault (IsMadeOf o) T f) (sym here.1) (p here.0 here.2)); grown = grown_here }

  pub end_done : (e : Ended) (u : Replaying) → ((d : Draft) → IsDraftOf S x d → IsEnded T e d) → u ≡ record v { draft = None }
      → (result : Result Unit StreamFault)
      → OnOk result ((R : List Object) (s : Replay) (d : Draft) → IsReplayOf R u s → IsEnded R e d → IsReplayOf R w (entered d.head.refname d.head.mark (commit_of d) s))
      → IfErr result (λ f. f ≡ OutOfMemory) → IsStepped base S T w r (record { at = at; command = commands.CommitEnd }) result
  end_done e u k q (Err f) ok err = record { done = tt; refused = inr (inl err); grown = grown_here }
  end_done e u k q (Ok t) ok err = record {
    done = subst (λ (y : Result Replay StreamFault). IsOkAnd y (IsReplayOf T w)) (sym (ap (λ (o : Option Draft). or_refuse (Syntax at) o >>= λ d. Ok (committed r d)) here.1))
        (ok T (record r { draft = None }) here.0
        (subst (λ (y : Replaying). IsReplayOf T y (record r { draft = None })) (sym q) (with_draft T v r None None (replay-grown S T grown_here v r h) tt))
        (k here.0 here.2));
    refused = tt;
    grown = grown_here;
  }
