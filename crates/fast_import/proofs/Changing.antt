-- Changes, in the code and in the replay.
use Rattle.std.proofs.Common.{◌≡◌, ◌⊎◌, inl, inr, ℕ, zero, true, false, cond, List, [], ◌∷◌, ◌++◌, length, Option, Some, None, Result, Ok, Err, refl, sym, ap, subst, ◌∙◌, append-nil, arith}
use Rattle.std.specs.Prelude.{IsOkAnd, nat_le}
use Rattle.std.specs.List.{list_all}
use Rattle.git_objects.specs.Paths.{Bytes, Path, text}
use Rattle.git_objects.specs.Results.{◌>>=◌, must, or_refuse, refused_by}
use Rattle.git_objects.specs.Trees.{Flat, Node, LeafNode, FileLeaf, ExecLeaf, LinkLeaf, put, remove, standing}
use Rattle.git_objects.specs.declared.kind.Kind.TheVariants.{Blob, Commit as CommitKind}
use Rattle.git_objects.specs.declared.limits.TheConstants.{PATH_BYTES, PATH_COMPONENTS, TREE_FILES}
use Rattle.git_objects.specs.declared.mode.Mode.{Mode}
use Rattle.git_objects.specs.declared.mode.Mode.TheVariants.{File, Exec, Link, Module, Dir}
use Rattle.git_objects.specs.declared.name.Name.{Name}
use Rattle.object_store.specs.Growth.{IsOnly}
use Rattle.object_store.specs.Objects.{Object, IsStore, has_child}
use Rattle.object_store.proofs.Growth.{grown_as, grown_self}
use Rattle.object_store.proofs.Parts.{found-has}
use Rattle.path_trees.specs.Standing.{node}
use Rattle.stage_tree.specs.Edits as stage
use Rattle.stage_tree.specs.Stages.{Shows, Staged}
use Rattle.stage_tree.specs.declared.fault.StageFault.{StageFault}
use Rattle.stage_tree.specs.declared.fault.StageFault.TheVariants as edits
use Rattle.fast_import.specs.Made.{IsBlobAmong, IsRefusal, blob_object}
use Rattle.fast_import.specs.Replays.{Base, Draft, Replay, blob_inline, blob_named, command_step, edited, few_files, given_bytes, inline_blob, leaf_of, within_paths}
use Rattle.stream_reader.specs.Replayable.{is_fit}
use Rattle.fast_import.specs.Replaying.{Replaying, fault_at}
use Rattle.fast_import.specs.Standing.{Gives, IsBlobIn, IsBrought, IsChanged, IsDraftOf, IsGiven, IsLeafIn, IsRedrawn, IsReplayOf, IsStepped}
use Rattle.stream_reader.specs.declared.command.BlobRef.{BlobRef}
use Rattle.stream_reader.specs.declared.command.BlobRef.TheVariants as blobs
use Rattle.stream_reader.specs.declared.command.Change.{Change}
use Rattle.stream_reader.specs.declared.command.Change.TheVariants as changes
use Rattle.stream_reader.specs.declared.command.Command.TheVariants as commands
use Rattle.fast_import.specs.declared.draft.Draft.{Draft as DraftNames}
use Rattle.stream_reader.specs.declared.fault.StreamFault.{StreamFault}
use Rattle.stream_reader.specs.declared.fault.StreamFault.TheVariants.{OutOfMemory, Syntax, Unresolved}
use Rattle.fast_import.proofs.Committing.{draft_there, with_draft}
use Rattle.fast_import.proofs.Growing.{all-grown, replay-grown}
use Rattle.fast_import.proofs.Putting.{fault_as}
use Rattle.fast_import.proofs.Stepping.{with_blob}

-- ---- what is put

pub digits_known : (S : List Object) (base : Base) (r : Replay) (at : ℕ) (m : Mode) (n : Name) (b : Bytes) → (m ≡ Module → ⊥) → blob_named base r n.0 ≡ Some b → IsBlobIn S n b
    → IsOkAnd (given_bytes base r at m (blobs.Digits n)) (IsLeafIn S m n)
digits_known S base r at File n b other e h = subst (λ (o : Option Bytes). IsOkAnd (or_refuse (Unresolved at) o) (IsBlobIn S n)) (sym e) h
digits_known S base r at Exec n b other e h = subst (λ (o : Option Bytes). IsOkAnd (or_refuse (Unresolved at) o) (IsBlobIn S n)) (sym e) h
digits_known S base r at Link n b other e h = subst (λ (o : Option Bytes). IsOkAnd (or_refuse (Unresolved at) o) (IsBlobIn S n)) (sym e) h
digits_known S base r at Module n b other e h = absurd (other refl)
digits_known S base r at Dir n b other e h = subst (λ (o : Option Bytes). IsOkAnd (or_refuse (Unresolved at) o) (IsBlobIn S n)) (sym e) h

pub digits_unknown : (base : Base) (r : Replay) (at : ℕ) (m : Mode) (n : Name) → (m ≡ Module → ⊥) → blob_named base r n.0 ≡ None → given_bytes base r at m (blobs.Digits n) ≡ Err (Unresolved at)
digits_unknown base r at File n other e = ap (λ (o : Option Bytes). or_refuse (Unresolved at) o) e
digits_unknown base r at Exec n other e = ap (λ (o : Option Bytes). or_refuse (Unresolved at) o) e
digits_unknown base r at Link n other e = ap (λ (o : Option Bytes). or_refuse (Unresolved at) o) e
digits_unknown base r at Module n other e = absurd (other refl)
digits_unknown base r at Dir n other e = ap (λ (o : Option Bytes). or_refuse (Unresolved at) o) e

only_among : (b : Bytes) (o : Object) → IsOnly Blob b o → IsBlobAmong (b ∷ []) o
only_among b o e = (b, (zero, omega arith, refl), e)

inline_leaf : (T : List Object) (base : Base) (r : Replay) (at : ℕ) (m : Mode) (n : Name) (b : Bytes) → is_fit m (blobs.Inline b) ≡ true → IsBlobIn T n b → IsOkAnd (given_bytes base r at m (blobs.Inline b)) (IsLeafIn T m n)
inline_leaf T base r at File n b f h = h
inline_leaf T base r at Exec n b f h = h
inline_leaf T base r at Link n b f h = h
inline_leaf T base r at Module n b f h = absurd cc
inline_leaf T base r at Dir n b f h = absurd cc

pub inline_given : (base : Base) (S T : List Object) (v w : Replaying) (r : Replay) (at : ℕ) (m : Mode) (b : Bytes) → is_fit m (blobs.Inline b) ≡ true → IsReplayOf S v r → (result : Result Name StreamFault) → IsBrought S T v w b result
    → IsGiven S T w r m (blobs.Inline b) (given_bytes base r at m (blobs.Inline b)) result
inline_given base S T v w r at m b f h (Ok n) k = record {
  leaf = inline_leaf T base r at m n b f k.named;
  read = subst (λ (x : Replaying). IsReplayOf T x (record r { blobs = r.blobs ++ b ∷ [] })) (sym k.behind) (with_blob T v r n b (replay-grown S T k.grown v r h) k.named);
  refused = tt;
  grown = grown_as (IsOnly Blob b) (IsBlobAmong (b ∷ [])) S T (only_among b) k.grown;
}
inline_given base S T v w r at m b f h (Err e) k = record {
  leaf = tt;
  read = tt;
  refused = inr (fault_as (IsOnly Blob b) (IsBlobAmong (b ∷ [])) T e (only_among b) k.refused);
  grown = grown_as (IsOnly Blob b) (IsBlobAmong (b ∷ [])) S T (only_among b) k.grown;
}

more_none : (S : List Object) (v : Replaying) (r : Replay) (bs : List Bytes) → bs ≡ [] → IsReplayOf S v r → IsReplayOf S v (record r { blobs = r.blobs ++ bs })
more_none S v r bs e h = subst (λ (xs : List Bytes). IsReplayOf S v (record r { blobs = xs })) (sym (ap (λ (ys : List Bytes). r.blobs ++ ys) e ∙ append-nil r.blobs)) h

pub gives_given : (S : List Object) (v : Replaying) (r : Replay) (m : Mode) (x : BlobRef) (left : Result Bytes StreamFault) → blob_inline x ≡ [] → IsStore S → IsReplayOf S v r → (result : Result Name StreamFault) → Gives (IsLeafIn S m) left result → IsGiven S S v r m x left result
gives_given S v r m x left e s h (Ok n) k = record { leaf = k; read = more_none S v r (blob_inline x) e h; refused = tt; grown = grown_self (IsBlobAmong (blob_inline x)) S s }
gives_given S v r m x left e s h (Err f) k = record { leaf = tt; read = tt; refused = inl k; grown = grown_self (IsBlobAmong (blob_inline x)) S s }

-- ---- a leaf

blob_child : (T : List Object) (n : Name) (b : Bytes) → IsBlobIn T n b → has_child T File n.0 ≡ true
blob_child T n b h = (found-has T Blob n.0 (blob_object b) h refl).0

leaf_child : (T : List Object) (m : Mode) (x : BlobRef) (n : Name) (b : Bytes) → is_fit m x ≡ true → IsLeafIn T m n b → has_child T m n.0 ≡ true
leaf_child T File x n b f h = blob_child T n b h
leaf_child T Exec x n b f h = blob_child T n b h
leaf_child T Link x n b f h = blob_child T n b h
leaf_child T Module x n b f h = refl
leaf_child T Dir x n b f h = absurd cc

pub given_child : (T : List Object) (m : Mode) (x : BlobRef) (n : Name) (left : Result Bytes StreamFault) → is_fit m x ≡ true → IsOkAnd left (IsLeafIn T m n) → has_child T m n.0 ≡ true
given_child T m x n (Ok b) f h = leaf_child T m x n b f h
given_child T m x n (Err e) f h = absurd h

leaf_node : (T : List Object) (m : Mode) (x : BlobRef) (n : Name) (b : Bytes) → is_fit m x ≡ true → IsLeafIn T m n b → node T (record { mode = m; name = n }) ≡ LeafNode (leaf_of m b)
leaf_node T File x n b f h = ap (λ (c : Bytes). LeafNode (FileLeaf c)) (found-has T Blob n.0 (blob_object b) h refl).1
leaf_node T Exec x n b f h = ap (λ (c : Bytes). LeafNode (ExecLeaf c)) (found-has T Blob n.0 (blob_object b) h refl).1
leaf_node T Link x n b f h = ap (λ (c : Bytes). LeafNode (LinkLeaf c)) (found-has T Blob n.0 (blob_object b) h refl).1
leaf_node T Module x n b f h = ap (λ (c : Bytes). LeafNode (leaf_of Module c)) h
leaf_node T Dir x n b f h = absurd cc

few : (at : ℕ) (t : Flat) → refused_by (fault_at at) (stage.few_files t) ≡ few_files at t
few at t = elim (nat_le (length t) TREE_FILES) as (λ b. refused_by (fault_at at) (cond b (Ok t) (Err edits.TooMany)) ≡ cond b (Ok t) (Err (fault_at at edits.TooMany))) [ true ↦ refl | false ↦ refl ]

-- a leaf was put
no_leaf : {made : Object → Type 0} (T : List Object) (left : Result Flat StreamFault) (f : StreamFault) → (left ≡ Err f) ⊎ (f ≡ OutOfMemory) → IsRefusal made T left f
no_leaf T left f (inl q) = inl q
no_leaf T left f (inr q) = inr (inl q)

module _ (base : Base) (S T : List Object) (w : Replaying) (s : Staged) (r : Replay) (t : Flat) (at : ℕ) (m : Mode) (x : BlobRef) (p : Path) where
  abbrev leaves : Bytes → Result Flat StreamFault
  leaves b = few_files at (put t p (LeafNode (leaf_of m b)))

  -- none was given
  pub none_given : (f : StreamFault) → IsGiven S T w r m x (given_bytes base r at m x) (Err f) → IsChanged S T w s r (changes.Modify m x p) (edited base r at t (changes.Modify m x p)) (Err f)
  none_given f k = record { changed = tt; blobs_read = tt; why = by k.refused; brought = k.grown }
    where
      by : IsRefusal (IsBlobAmong (blob_inline x)) T (given_bytes base r at m x) f → IsRefusal (IsBlobAmong (blob_inline x)) T (edited base r at t (changes.Modify m x p)) f
      by (inl q) = inl (ap (λ (y : Result Bytes StreamFault). y >>= leaves) q)
      by (inr q) = inr q

  module _ (n : Name) (fit : is_fit m x ≡ true) (given : IsGiven S T w r m x (given_bytes base r at m x) (Ok n)) where
    leaf_put : (b : Bytes) (result : Result Unit StreamFault) → IsRedrawn T s (leaves b) result → IsChanged S T w s r (changes.Modify m x p) (leaves b) result
    leaf_put b (Ok u) q = record { changed = q.drawn; blobs_read = given.read; why = tt; brought = given.grown }
    leaf_put b (Err e) q = record { changed = tt; blobs_read = tt; why = no_leaf T (leaves b) e q.not_drawn; brought = given.grown }

    pub modify_done : (result : Result Unit StreamFault) → IsRedrawn T s (refused_by (fault_at at) (stage.set_in t p (node T (record { mode = m; name = n })))) result
        → IsChanged S T w s r (changes.Modify m x p) (edited base r at t (changes.Modify m x p)) result
    modify_done result k = by (given_bytes base r at m x) given.leaf
      where
        by : (left : Result Bytes StreamFault) → IsOkAnd left (IsLeafIn T m n) → IsChanged S T w s r (changes.Modify m x p) (left >>= leaves) result
        by (Err e) h = absurd h
        by (Ok b) h = leaf_put b result
            (subst (λ (l : Result Flat StreamFault). IsRedrawn T s l result) (few at (put t p (LeafNode (leaf_of m b))))
            (subst (λ (y : Node). IsRedrawn T s (refused_by (fault_at at) (stage.set_in t p y)) result) (leaf_node T m x n b fit h) k))

-- ---- moves and copies

within : (at : ℕ) (p : Path) (x : Node) → refused_by (fault_at at) (stage.within_paths p x) ≡ within_paths at p x
within at p x =
    elim (list_all (λ q. nat_le (length q) PATH_COMPONENTS) (stage.paths_put p x)) as (λ b.
    refused_by (fault_at at) (must edits.TooDeep b >>= λ _. must edits.TooLong (list_all (λ q. nat_le (length (text q)) PATH_BYTES) (stage.paths_put p x)))
    ≡ (must (fault_at at edits.TooDeep) b >>= λ _. must (fault_at at edits.TooLong) (list_all (λ q. nat_le (length (text q)) PATH_BYTES) (stage.paths_put p x)))) [
      | true ↦ elim (list_all (λ q. nat_le (length (text q)) PATH_BYTES) (stage.paths_put p x)) as (λ c. refused_by (fault_at at) (must edits.TooLong c) ≡ must (fault_at at edits.TooLong) c) [ true ↦ refl | false ↦ refl ]
      | false ↦ refl
    ]

bound : {A B : Type 0} (at : ℕ) (x : Result A StageFault) (f : A → Result B StageFault) → refused_by (fault_at at) (x >>= f) ≡ (refused_by (fault_at at) x >>= λ y. refused_by (fault_at at) (f y))
bound at (Ok x) f = refl
bound at (Err e) f = refl

source : (at : ℕ) (o : Option Node) → refused_by (fault_at at) (or_refuse edits.NoSource o) ≡ or_refuse (fault_at at edits.NoSource) o
source at None = refl
source at (Some x) = refl

after_paths : {A : Type 0} (at : ℕ) (p : Path) (x : Node) (f : Result A StageFault) (g : Result A StreamFault) → refused_by (fault_at at) f ≡ g → refused_by (fault_at at) (stage.within_paths p x >>= λ _. f) ≡ (within_paths at p x >>= λ _. g)
after_paths at p x f g e = bound at (stage.within_paths p x) (λ _. f) ∙ ap (λ (y : Result (Unit {0}) StreamFault). y >>= λ _. refused_by (fault_at at) f) (within at p x) ∙ ap (λ (z : Result _ StreamFault). within_paths at p x >>= λ _. z) e

pub rename_is : (base : Base) (r : Replay) (at : ℕ) (t : Flat) (s p : Path) → refused_by (fault_at at) (stage.renamed t s p) ≡ edited base r at t (changes.Rename s p)
rename_is base r at t s p = by (standing t s)
  where
    by : (o : Option Node) → refused_by (fault_at at) (or_refuse edits.NoSource o >>= λ x. stage.within_paths p x >>= λ _. Ok (put (remove t s) p x))
        ≡ (or_refuse (fault_at at edits.NoSource) o >>= λ x. within_paths at p x >>= λ _. Ok (put (remove t s) p x))
    by None = refl
    by (Some x) = after_paths at p x (Ok (put (remove t s) p x)) (Ok (put (remove t s) p x)) refl

pub copy_is : (base : Base) (r : Replay) (at : ℕ) (t : Flat) (s p : Path) → refused_by (fault_at at) (stage.copied t s p) ≡ edited base r at t (changes.Copy s p)
copy_is base r at t s p = by (standing t s)
  where
    by : (o : Option Node) → refused_by (fault_at at) (or_refuse edits.NoSource o >>= λ x. stage.within_paths p x >>= λ _. stage.few_files (put t p x))
        ≡ (or_refuse (fault_at at edits.NoSource) o >>= λ x. within_paths at p x >>= λ _. few_files at (put t p x))
    by None = refl
    by (Some x) = after_paths at p x (stage.few_files (put t p x)) (few_files at (put t p x)) (few at (put t p x))

-- ---- an edit that reads no blob

pub redrawn_changed : (S : List Object) (v : Replaying) (s : Staged) (r : Replay) (c : Change) (left : Result Flat StreamFault) → inline_blob c ≡ [] → IsStore S → IsReplayOf S v r → (result : Result Unit StreamFault) → IsRedrawn S s left result → IsChanged S S v s r c left result
redrawn_changed S v s r c left e i h (Ok x) k = record { changed = k.drawn; blobs_read = more_none S v r (inline_blob c) e h; why = tt; brought = grown_self (IsBlobAmong (inline_blob c)) S i }
redrawn_changed S v s r c left e i h (Err f) k = record { changed = tt; blobs_read = tt; why = by k.not_drawn; brought = grown_self (IsBlobAmong (inline_blob c)) S i }
  where
    by : (left ≡ Err f) ⊎ (f ≡ OutOfMemory) → IsRefusal (IsBlobAmong (inline_blob c)) S left f
    by (inl q) = inl q
    by (inr q) = inr (inl q)

-- ---- a change of the commit that is being made

-- what a change gives doesn't rest on the draft
given_same : (base : Base) (r : Replay) (at : ℕ) (m : Mode) (x : BlobRef) → given_bytes base (record r { draft = None }) at m x ≡ given_bytes base r at m x
given_same base r at File (blobs.Inline b) = refl
given_same base r at Exec (blobs.Inline b) = refl
given_same base r at Link (blobs.Inline b) = refl
given_same base r at Module (blobs.Inline b) = refl
given_same base r at Dir (blobs.Inline b) = refl
given_same base r at File (blobs.Mark n) = refl
given_same base r at Exec (blobs.Mark n) = refl
given_same base r at Link (blobs.Mark n) = refl
given_same base r at Module (blobs.Mark n) = refl
given_same base r at Dir (blobs.Mark n) = refl
given_same base r at File (blobs.Digits n) = refl
given_same base r at Exec (blobs.Digits n) = refl
given_same base r at Link (blobs.Digits n) = refl
given_same base r at Module (blobs.Digits n) = refl
given_same base r at Dir (blobs.Digits n) = refl

edited_same : (base : Base) (r : Replay) (at : ℕ) (t : Flat) (c : Change) → edited base (record r { draft = None }) at t c ≡ edited base r at t c
edited_same base r at t (changes.Modify m x p) = ap (λ (y : Result Bytes StreamFault). y >>= λ b. few_files at (put t p (LeafNode (leaf_of m b)))) (given_same base r at m x)
edited_same base r at t (changes.Delete p) = refl
edited_same base r at t (changes.Rename s p) = refl
edited_same base r at t (changes.Copy s p) = refl
edited_same base r at t changes.DeleteAll = refl

module _ (S : List Object) (v u : Replaying) (r : Replay) (x : DraftNames) (h : IsReplayOf S v r) (drafted : v.draft ≡ Some x) (taken : u ≡ record v { draft = None }) where
  pub undrafted : IsReplayOf S u (record r { draft = None })
  undrafted = subst (λ (y : Replaying). IsReplayOf S y (record r { draft = None })) (sym taken) (with_draft S v r None None h tt)

  pub drafted_as : (d : Draft) × (r.draft ≡ Some d) × IsDraftOf S x d
  drafted_as = draft_there S v r x h drafted

  module _ (base : Base) (T : List Object) (w : Replaying) (s : Staged) (at : ℕ) (c : Change) (result : Result Unit StreamFault)
      (k : (q : Replay) (t : Flat) → IsReplayOf S u q → Shows S x.stage t → IsChanged S T w s q c (edited base q at t c) result) where
    abbrev d : Draft
    d = drafted_as.0

    is : IsChanged S T w s (record r { draft = None }) c (edited base r at d.tree c) result
    is = subst (λ (y : Result Flat StreamFault). IsChanged S T w s (record r { draft = None }) c y result) (edited_same base r at d.tree c) (k (record r { draft = None }) d.tree undrafted drafted_as.2.stage)

    step_is : command_step base r at (commands.Change c) ≡ (edited base r at d.tree c >>= λ t. Ok (record r { blobs = r.blobs ++ inline_blob c; draft = Some (record d { tree = t }) }))
    step_is = ap (λ (o : Option Draft). or_refuse (Syntax at) o >>= λ d. edited base r at d.tree c >>= λ t. Ok (record r { blobs = r.blobs ++ inline_blob c; draft = Some (record d { tree = t }) })) drafted_as.1

    -- the draft behind the change
    redrawn : (t : Flat) → Shows T s t → IsDraftOf T (record x { stage = s }) (record d { tree = t })
    redrawn t g = let o = drafted_as.2 in record { of_branch = o.of_branch; with_mark = o.with_mark; letter = o.letter; parents = o.parents; held = all-grown S T is.brought CommitKind d.parents o.held; few = o.few; stage = g }

    module _ (z : Replaying) (put : z ≡ record w { draft = Some (record x { stage = s }) }) where
      refused_as : (f : StreamFault) → IsRefusal (IsBlobAmong (inline_blob c)) T (edited base r at d.tree c) f → IsRefusal (IsBlobAmong (inline_blob c)) T (command_step base r at (commands.Change c)) f
      refused_as f (inl q) = inl (step_is ∙ ap (λ (y : Result Flat StreamFault). y >>= λ t. Ok (record r { blobs = r.blobs ++ inline_blob c; draft = Some (record d { tree = t }) })) q)
      refused_as f (inr q) = inr q

      done_as : IsReplayOf T w (record r { blobs = r.blobs ++ inline_blob c; draft = None }) → (left : Result Flat StreamFault) → edited base r at d.tree c ≡ left → IsOkAnd left (Shows T s) → IsOkAnd (command_step base r at (commands.Change c)) (IsReplayOf T z)
      done_as read (Err f) g j = absurd j
      done_as read (Ok t) g j =
          subst (λ (l : Result Replay StreamFault). IsOkAnd l (IsReplayOf T z))
          (sym (step_is ∙ ap (λ (l : Result Flat StreamFault). l >>= λ t. Ok (record r { blobs = r.blobs ++ inline_blob c; draft = Some (record d { tree = t }) })) g))
          (subst (λ (a : Replaying). IsReplayOf T a (record r { blobs = r.blobs ++ inline_blob c; draft = Some (record d { tree = t }) })) (sym put)
          (with_draft T w (record r { blobs = r.blobs ++ inline_blob c; draft = None }) (Some (record x { stage = s })) (Some (record d { tree = t })) read (redrawn t j)))

      by_result : (y : Result Unit StreamFault) → IsChanged S T w s (record r { draft = None }) c (edited base r at d.tree c) y → IsStepped base S T z r (record { at = at; command = commands.Change c }) y
      by_result (Ok u) k = record { done = done_as k.blobs_read (edited base r at d.tree c) refl k.changed; refused = tt; grown = k.brought }
      by_result (Err f) k = record { done = tt; refused = refused_as f k.why; grown = k.brought }

      pub change_done : IsStepped base S T z r (record { at = at; command = commands.Change c }) result
      change_done = by_result result is
