-- What the code's names stand for over the objects of a store.
use Rattle.std.specs.Prelude.{◌≡◌, ◌⊎◌, ◌≤◌, ⊤, ℕ, true, T, cond, nat_eq, List, [], ◌∷◌, ◌++◌, length, map, OnOk, IfOk, IfErr, IsOkAnd, Option, Some, None, Result, Ok, Err}
use Rattle.std.specs.FinMap.{is_sorted}
use Rattle.std.specs.Map.{lookup}
use Rattle.git_objects.specs.Commits.{Letter}
use Rattle.git_objects.specs.Lists.{Each}
use Rattle.git_objects.specs.Parts.{name_bytes}
use Rattle.git_objects.specs.Paths.{Bytes}
use Rattle.git_objects.specs.Refs.{bytes_cmp}
use Rattle.git_objects.specs.Snapshots.{Snapshot, snapshot_name}
use Rattle.git_objects.specs.Trees.{Flat}
use Rattle.git_objects.specs.declared.limits.TheConstants.{PARENTS}
use Rattle.git_objects.specs.declared.kind.Kind.TheVariants.{Blob, Commit as CommitKind}
use Rattle.git_objects.specs.declared.name.Name.{Name}
use Rattle.object_store.specs.Growth.{IsGrownBy, IsOnly}
use Rattle.object_store.specs.Objects.{Object, find_named, has}
use Rattle.object_store.specs.StoredSnapshots.{snapshot_object}
use Rattle.object_store.specs.Unfolding.{StandsFor}
use Rattle.stage_tree.specs.Stages.{Shows, Staged}
use Rattle.fast_import.specs.Made.{IsBlobAmong, IsMadeAt, IsPutFault, IsRefusal, blob_object}
use Rattle.fast_import.specs.Replays.{Base, Marked, BlobMark, CommitMark, TagMark, Draft, Replay, Replayed, TaggedReplayed, blob_inline, commit_of, heads_of, inline_blob, letter_of, step}
use Rattle.fast_import.specs.Replaying.{Replaying, setting_value}
use Rattle.git_objects.specs.declared.mode.Mode.{Mode}
use Rattle.git_objects.specs.declared.mode.Mode.TheVariants.{Module}
use Rattle.stream_reader.specs.declared.command.BlobRef.{BlobRef}
use Rattle.stream_reader.specs.declared.command.Change.{Change}
use Rattle.stream_reader.specs.declared.command.CommitHead.{CommitHead}
use Rattle.stream_reader.specs.declared.command.Placed.{Placed}
use Rattle.fast_import.specs.declared.draft.Begun.{Begun}
use Rattle.fast_import.specs.declared.draft.Draft.{Draft as DraftNames}
use Rattle.fast_import.specs.declared.draft.Ended.{Ended}
use Rattle.stream_reader.specs.declared.fault.StreamFault.{StreamFault}
use Rattle.stream_reader.specs.declared.fault.StreamFault.TheVariants.{OutOfMemory}
use Rattle.fast_import.specs.declared.marks.Marked.{Marked as MarkedName}
use Rattle.fast_import.specs.declared.marks.Marked.TheVariants as marked
use Rattle.fast_import.specs.declared.replayed.Made.{Made}
use Rattle.fast_import.specs.declared.replayed.Replayed.{Replayed as ReplayedNames}
use Rattle.fast_import.specs.declared.replayed.TaggedReplay.{TaggedReplay as TaggedNames}

-- a blob of these bytes has the name
abbrev pub IsBlobIn : List Object → Name → Bytes → Type 0
IsBlobIn S n b = find_named S n.0 ≡ Some (blob_object b)

abbrev pub AreBlobsIn : List Object → List Name → List Bytes → Type 0
AreBlobsIn S [] [] = ⊤
AreBlobsIn S [] (b ∷ bs) = ⊥
AreBlobsIn S (n ∷ ns) [] = ⊥
AreBlobsIn S (n ∷ ns) (b ∷ bs) = IsBlobIn S n b × AreBlobsIn S ns bs

-- the commit has the name, and its tree stands for its flat tree
pub record IsCommitIn (S : List Object) (m : Made) (c : Snapshot) : Type 0 where
  pub named : snapshot_name c ≡ m.name.0
  pub held : find_named S m.name.0 ≡ Some (snapshot_object c)
  pub stands : StandsFor S m.tree.0 c.tree

abbrev pub AreCommitsIn : List Object → List Made → List Snapshot → Type 0
AreCommitsIn S [] [] = ⊤
AreCommitsIn S [] (c ∷ cs) = ⊥
AreCommitsIn S (m ∷ ms) [] = ⊥
AreCommitsIn S (m ∷ ms) (c ∷ cs) = IsCommitIn S m c × AreCommitsIn S ms cs

-- what a mark names
abbrev pub IsMarkIn : List Object → Option MarkedName → Option Marked → Type 0
IsMarkIn S None None = ⊤
IsMarkIn S (Some (marked.Blob n)) (Some (BlobMark b)) = IsBlobIn S n b
IsMarkIn S (Some (marked.Commit n)) (Some (CommitMark c)) = n.0 ≡ c
IsMarkIn S (Some marked.Tag) (Some TagMark) = ⊤
IsMarkIn S _ _ = ⊥

-- author, committer and message of the commit that is being made
abbrev pub letter_by : DraftNames → Letter
letter_by v = record { author = v.parts.author; committer = v.parts.committer; message = v.parts.message }

-- the commit that is being made
pub record IsDraftOf (S : List Object) (v : DraftNames) (d : Draft) : Type 0 where
  pub of_branch : v.refname ≡ d.head.refname
  pub with_mark : v.mark ≡ d.head.mark
  pub letter : letter_by v ≡ letter_of d.head
  pub parents : map name_bytes v.parts.parents.items ≡ d.parents
  pub held : Each (λ n. has CommitKind S n ≡ true) d.parents
  pub few : length d.parents ≤ PARENTS
  pub stage : Shows S v.stage d.tree

abbrev pub IsDraftIn : List Object → Option DraftNames → Option Draft → Type 0
IsDraftIn S None None = ⊤
IsDraftIn S None (Some d) = ⊥
IsDraftIn S (Some v) None = ⊥
IsDraftIn S (Some v) (Some d) = IsDraftOf S v d

-- Over a store, the code's names stand for a replay; and the store has the commit of each branch that is set.
pub record IsReplayOf (S : List Object) (v : Replaying) (r : Replay) : Type 0 where
  pub blobs : AreBlobsIn S v.blobs r.blobs
  pub commits : AreCommitsIn S v.commits r.commits
  pub branches : v.branches ≡ heads_of r
  pub sorted : T (is_sorted bytes_cmp r.branches)
  pub held : Each (λ e. has CommitKind S e.1 ≡ true) v.branches
  pub marks : (n : ℕ) → IsMarkIn S (lookup (nat_eq n) v.marks) (Rattle.fast_import.specs.Replays.marked n r.marks)
  pub draft : IsDraftIn S v.draft r.draft
  pub tags : v.tags ≡ r.tags

-- a command was tried: the names then stand for the replay behind it, or the command is refused
pub record IsStepped (base : Base) (S S' : List Object) (after : Replaying) (r : Replay) (p : Placed) (result : Result Unit StreamFault) : Type 0 where
  pub done : OnOk result (IsOkAnd (step base r p) (IsReplayOf S' after))
  pub refused : IfErr result (IsRefusal (IsMadeAt r p.command) S' (step base r p))
  pub grown : IsGrownBy (IsMadeAt r p.command) S S'

-- what a stream gives
pub record IsReplayedOf (S : List Object) (v : ReplayedNames) (g : Replayed) : Type 0 where
  pub made_blobs : AreBlobsIn S v.blobs.items g.blobs
  pub made_commits : AreCommitsIn S v.commits.items g.commits
  pub settings : map setting_value v.heads.items ≡ g.heads

-- what a stream gives, and its tags
pub record IsTaggedReplayedOf (S : List Object) (v : TaggedNames) (g : TaggedReplayed) : Type 0 where
  pub replayed : IsReplayedOf S v.replayed g.replayed
  pub tags : v.tags.items ≡ g.tags

-- a command was tried that brings no object: the names then stand for the replay behind it, or it is refused
pub record IsTried (S : List Object) (after : Replaying) (left : Result Replay StreamFault) (result : Result Unit StreamFault) : Type 0 where
  pub done : OnOk result (IsOkAnd left (IsReplayOf S after))
  pub refused : IfErr result (λ f. (left ≡ Err f) ⊎ (f ≡ OutOfMemory))

-- a tag was kept, or there was no memory
pub record IsTagKept (S : List Object) (after : Replaying) (left : Replay) (result : Result Unit StreamFault) : Type 0 where
  pub kept : OnOk result (IsReplayOf S after left)
  pub no_room : IfErr result (λ f. f ≡ OutOfMemory)

-- the draft of a commit that begins with this head, these parents and this stage
pub record IsDrawnUp (h : CommitHead) (b : Begun) (v : DraftNames) : Type 0 where
  pub to_branch : v.refname ≡ h.refname
  pub to_mark : v.mark ≡ h.mark
  pub says : letter_by v ≡ letter_of h
  pub upon : v.parts.parents ≡ b.parents
  pub staged : v.stage ≡ b.stage

-- a commit begins with these parents and the tree that this stage shows, or the command is refused
pub record IsBegun (S : List Object) (v : Replaying) (h : CommitHead) (left : Result Replay StreamFault) (result : Result Begun StreamFault) : Type 0 where
  pub begins : IfOk result (λ b. (x : DraftNames) → IsDrawnUp h b x → IsOkAnd left (IsReplayOf S (record v { draft = Some x })))
  pub not_begun : IfErr result (λ f. (left ≡ Err f) ⊎ (f ≡ OutOfMemory))

-- a blob was brought
pub record IsBrought (S S' : List Object) (before after : Replaying) (b : Bytes) (result : Result Name StreamFault) : Type 0 where
  pub named : IfOk result (λ n. IsBlobIn S' n b)
  pub behind : IfOk result (λ n. after ≡ record before { blobs = before.blobs ++ n ∷ [] })
  pub refused : IfErr result (IsPutFault (IsOnly Blob b) S')
  pub grown : IsGrownBy (IsOnly Blob b) S S'

-- a mark names this, where there is one
abbrev pub mark_at : Option ℕ → MarkedName → ℕ → Option MarkedName → Option MarkedName
mark_at None x q old = old
mark_at (Some n) x q old = cond (nat_eq n q) (Some x) old

pub record IsGivenMark (before after : Replaying) (mark : Option ℕ) (x : MarkedName) : Type 0 where
  pub others : after ≡ record before { marks = after.marks }
  pub named : (q : ℕ) → lookup (nat_eq q) after.marks ≡ mark_at mark x q (lookup (nat_eq q) before.marks)

-- the draft's commit has been made, its branch and its mark are known
pub record IsEnded (S : List Object) (e : Ended) (d : Draft) : Type 0 where
  pub made_commit : IsCommitIn S e.made (commit_of d)
  pub on_branch : e.refname ≡ d.head.refname
  pub at_mark : e.mark ≡ d.head.mark

-- what a change puts: a blob of these bytes, or a module of this name
abbrev pub IsLeafIn : List Object → Mode → Name → Bytes → Type 0
IsLeafIn S Module n b = n.0 ≡ b
IsLeafIn S m n b = IsBlobIn S n b

-- a name that stands for what is left, or why there is none
abbrev pub Gives : {A : Type 0} → (Name → A → Type 0) → Result A StreamFault → Result Name StreamFault → Type 0
Gives stands left (Ok n) = IsOkAnd left (stands n)
Gives stands left (Err f) = left ≡ Err f

-- what a change puts was looked up, or brought
pub record IsGiven (S S' : List Object) (after : Replaying) (r : Replay) (mode : Mode) (blob : BlobRef) (left : Result Bytes StreamFault) (result : Result Name StreamFault) : Type 0 where
  pub leaf : IfOk result (λ n. IsOkAnd left (IsLeafIn S' mode n))
  pub read : OnOk result (IsReplayOf S' after (record r { blobs = r.blobs ++ blob_inline blob }))
  pub refused : IfErr result (IsRefusal (IsBlobAmong (blob_inline blob)) S' left)
  pub grown : IsGrownBy (IsBlobAmong (blob_inline blob)) S S'

-- the tree that a stage shows was changed, or it wasn't
pub record IsChanged (S S' : List Object) (after : Replaying) (stage : Staged) (r : Replay) (change : Change) (left : Result Flat StreamFault) (result : Result Unit StreamFault) : Type 0 where
  pub changed : OnOk result (IsOkAnd left (Shows S' stage))
  pub blobs_read : OnOk result (IsReplayOf S' after (record r { blobs = r.blobs ++ inline_blob change }))
  pub why : IfErr result (IsRefusal (IsBlobAmong (inline_blob change)) S' left)
  pub brought : IsGrownBy (IsBlobAmong (inline_blob change)) S S'

-- the tree that a stage shows was changed by an edit that reads no blob, or it wasn't
pub record IsRedrawn (S : List Object) (stage : Staged) (left : Result Flat StreamFault) (result : Result Unit StreamFault) : Type 0 where
  pub drawn : OnOk result (IsOkAnd left (Shows S stage))
  pub not_drawn : IfErr result (λ f. (left ≡ Err f) ⊎ (f ≡ OutOfMemory))
