-- Replaying a stream upon what is there: the blobs, commits and heads that it gives, or its first fault.
use Rattle.std.specs.Prelude.{ℕ, ◌==◌, nat_le, nat_lt, if◌then◌else◌, List, [], ◌∷◌, ◌++◌, length, map, filter_map, find, Option, Some, None, Result, Ok, Err}
use Rattle.std.specs.Option.{is_some, option_and_then, option_map, option_or, option_to_list, unwrap_or}
use Rattle.std.specs.List.{list_all}
use Rattle.std.specs.FinMap.{find as find_entry, put as put_entry}
use Rattle.git_objects.specs.Paths.{Bytes, Path, same_bytes, text}
use Rattle.git_objects.specs.Trees.{Leaf, FileLeaf, ExecLeaf, LinkLeaf, ModuleLeaf, Flat, Node, LeafNode, put, remove, rests, standing}
use Rattle.git_objects.specs.Names.{name}
use Rattle.git_objects.specs.Refs.{Refs, bytes_cmp}
use Rattle.git_objects.specs.Results.{◌>>=◌, or_refuse, must}
use Rattle.git_objects.specs.Snapshots.{Snapshot, snapshot_name}
use Rattle.git_objects.specs.Commits.{Letter}
use Rattle.git_objects.specs.declared.kind.Kind.TheVariants as kinds
use Rattle.git_objects.specs.declared.mode.Mode.{Mode}
use Rattle.git_objects.specs.declared.mode.Mode.TheVariants.{File, Exec, Link, Module, Dir}
use Rattle.git_objects.specs.declared.limits.TheConstants.{PARENTS, PATH_BYTES, PATH_COMPONENTS, TREE_FILES}
use Rattle.git_objects.specs.declared.quantity.Quantity.TheVariants.{PathDepth, PathBytes, Parents, Files}
use Rattle.stream_reader.specs.declared.command.Command.{Command}
use Rattle.stream_reader.specs.declared.command.Command.TheVariants as commands
use Rattle.stream_reader.specs.declared.command.CommitHead.{CommitHead}
use Rattle.stream_reader.specs.declared.command.TagHead.{TagHead}
use Rattle.tag_objects.specs.TagLists.{put_tag}
use Rattle.tag_objects.specs.declared.tag.Tag.{Tag}
use Rattle.stream_reader.specs.declared.command.Change.{Change}
use Rattle.stream_reader.specs.declared.command.Change.TheVariants as changes
use Rattle.stream_reader.specs.declared.command.BlobRef.{BlobRef}
use Rattle.stream_reader.specs.declared.command.BlobRef.TheVariants as blobs
use Rattle.stream_reader.specs.declared.command.Placed.{Placed}
use Rattle.stream_reader.specs.declared.commit_ref.CommitRef.{CommitRef}
use Rattle.stream_reader.specs.declared.commit_ref.Target.{Target}
use Rattle.stream_reader.specs.declared.commit_ref.Target.TheVariants as targets
use Rattle.stream_reader.specs.declared.fault.StreamFault.{StreamFault}
use Rattle.stream_reader.specs.declared.fault.StreamFault.TheVariants.{Syntax, Unresolved, NoSource, Limit}
use Rattle.stream_reader.specs.Verdicts.{start, tagged_start, verdict}
use Rattle.stream_reader.specs.declared.progress.Progress.{Progress}

-- What is there before the stream: commits by their names, with their flat trees; refs with their commits; the contents of the
-- known blobs.
pub record Base : Type 0 where
  pub commits : List (Bytes × Flat)
  pub refs : Refs
  pub blobs : List Bytes

-- what a mark names: a blob's bytes, the name of a commit, or a tag
pub data Marked : Type 0 where
  BlobMark : Bytes → Marked
  CommitMark : Bytes → Marked
  TagMark : Marked

-- a commit that is being made: its first lines, its parents, and its tree so far
pub record Draft : Type 0 where
  pub head : CommitHead
  pub parents : List Bytes
  pub tree : Flat

-- How far a replay has come: the blobs that were read and the commits that were made, in order; the branches in byte order, each
-- with its commit, or unset; the marks, the last one given first; the commit that is being made; and the tags, the last one of
-- each name, in the byte order of the names.
pub record Replay : Type 0 where
  pub blobs : List Bytes
  pub commits : List Snapshot
  pub branches : List (Bytes × Option Bytes)
  pub marks : List (ℕ × Marked)
  pub draft : Option Draft
  pub tags : List Tag

abbrev pub nothing_yet : Replay
nothing_yet = record { blobs = []; commits = []; branches = []; marks = []; draft = None; tags = [] }

-- ---- what names stand for

-- the value of a key
abbrev pub value_at : {A : Type 0} → Bytes → List (Bytes × A) → Option A
value_at n [] = None
value_at n (e ∷ es) = if same_bytes e.0 n then Some e.1 else value_at n es

abbrev pub named_tree : Snapshot → Bytes × Flat
named_tree c = (snapshot_name c, c.tree)

-- the tree of the commit of that name, of this stream or from before
abbrev pub tree_of : Base → Replay → Bytes → Option Flat
tree_of base r n = value_at n (map named_tree r.commits ++ base.commits)

-- the bytes of the blob of that name, read earlier or known before
abbrev pub blob_named : Base → Replay → Bytes → Option Bytes
blob_named base r n = find (λ b. same_bytes (name kinds.Blob b) n) (r.blobs ++ base.blobs)

abbrev pub marked : ℕ → List (ℕ × Marked) → Option Marked
marked n [] = None
marked n (m ∷ ms) = if m.0 == n then Some m.1 else marked n ms

abbrev pub marked_blob : Marked → Option Bytes
marked_blob (BlobMark b) = Some b
marked_blob (CommitMark n) = None
marked_blob TagMark = None

abbrev pub marked_commit : Marked → Option Bytes
marked_commit (BlobMark b) = None
marked_commit (CommitMark n) = Some n
marked_commit TagMark = None

-- the commit to which the stream has set a branch
abbrev pub branch : Replay → Bytes → Option Bytes
branch r refname = option_and_then (λ n. n) (find_entry bytes_cmp refname r.branches)

-- the name that stands for a commit: digits stand for themselves, a ref for the stream's head where it is set, else for the
-- stored one
abbrev pub target_name : Base → Replay → Target → Option Bytes
target_name base r (targets.Mark n) = option_and_then marked_commit (marked n r.marks)
target_name base r (targets.Digits n) = Some n.0
target_name base r (targets.Ref refname) = option_or (branch r refname) (find_entry bytes_cmp refname base.refs)

-- the commit that a line `from` names, there or not; and without this line the branch's, where the stream has set it
abbrev pub named_parent : Base → Replay → CommitHead → Result (Option Bytes) StreamFault
named_parent base r h = named_by h.from
  where
    named_by : Option CommitRef → Result (Option Bytes) StreamFault
    named_by None = Ok (branch r h.refname)
    named_by (Some c) = or_refuse (Unresolved c.at) (target_name base r c.target) >>= λ n. Ok (Some n)

-- the commit that a line names, which must be there
abbrev pub known : Base → Replay → CommitRef → Result Bytes StreamFault
known base r c = do
  n ← or_refuse (Unresolved c.at) (target_name base r c.target)
  _ ← must (Unresolved c.at) (is_some (tree_of base r n))
  Ok n

-- the commit of a line `from`, where there is one
abbrev pub said : Base → Replay → Option CommitRef → Result (Option Bytes) StreamFault
said base r None = Ok None
said base r (Some c) = known base r c >>= λ n. Ok (Some n)

-- ---- the first lines of a commit

-- the first parent: the commit of the line `from`, and without this line the branch's commit, where the stream has set it
abbrev pub first_parent : Base → Replay → CommitHead → Result (Option Bytes) StreamFault
first_parent base r h = said base r h.from >>= λ n. Ok (option_or n (branch r h.refname))

-- one parent more, of at most 16
abbrev pub one_more : ℕ → List Bytes → Bytes → Result (List Bytes) StreamFault
one_more at parents n = if nat_lt (length parents) PARENTS then Ok (parents ++ n ∷ []) else Err (Limit at Parents)

-- with the commit of a line `merge` behind
abbrev pub one_merge : Base → Replay → List Bytes → CommitRef → Result (List Bytes) StreamFault
one_merge base r parents m = known base r m >>= λ n. one_more m.at parents n

-- with the commits of the lines `merge` behind, line by line
abbrev pub with_merges : Base → Replay → List Bytes → List CommitRef → Result (List Bytes) StreamFault
with_merges base r parents [] = Ok parents
with_merges base r parents (m ∷ ms) = do
  n ← known base r m
  more ← one_more m.at parents n
  with_merges base r more ms

-- the tree of the first parent, and none where there is no such parent
abbrev pub tree_upon : Base → Replay → Option Bytes → Flat
tree_upon base r first = unwrap_or (option_and_then (tree_of base r) first) []

abbrev pub begun : Base → Replay → CommitHead → Option Bytes → List Bytes → Replay
begun base r h first parents = record r { draft = Some (record { head = h; parents = parents; tree = tree_upon base r first }) }

-- ---- changes

-- the bytes that a change puts: a blob's, or for a module its name, which isn't looked up
abbrev pub given_bytes : Base → Replay → ℕ → Mode → BlobRef → Result Bytes StreamFault
given_bytes base r at m (blobs.Inline b) = Ok b
given_bytes base r at m (blobs.Mark n) = or_refuse (Unresolved at) (option_and_then marked_blob (marked n r.marks))
given_bytes base r at Module (blobs.Digits n) = Ok n.0
given_bytes base r at m (blobs.Digits n) = or_refuse (Unresolved at) (blob_named base r n.0)

-- a leaf of that mode; no change gives a directory's
abbrev pub leaf_of : Mode → Bytes → Leaf
leaf_of File b = FileLeaf b
leaf_of Exec b = ExecLeaf b
leaf_of Link b = LinkLeaf b
leaf_of Module b = ModuleLeaf b
leaf_of Dir b = ModuleLeaf b

-- a tree of at most 1,048,576 files
abbrev pub few_files : ℕ → Flat → Result Flat StreamFault
few_files at t = if nat_le (length t) TREE_FILES then Ok t else Err (Limit at Files)

-- the paths that come of putting this at p: at most 128 components, and 4,096 bytes
abbrev pub within_paths : ℕ → Path → Node → Result (Unit {0}) StreamFault
within_paths at p x = do
  let paths = map (λ e. p ++ e.0) (rests x)
  _ ← must (Limit at PathDepth) (list_all (λ q. nat_le (length q) PATH_COMPONENTS) paths)
  must (Limit at PathBytes) (list_all (λ q. nat_le (length (text q)) PATH_BYTES) paths)

-- the tree after a change
abbrev pub edited : Base → Replay → ℕ → Flat → Change → Result Flat StreamFault
edited base r at t (changes.Modify m blob p) = given_bytes base r at m blob >>= λ b. few_files at (put t p (LeafNode (leaf_of m b)))
edited base r at t (changes.Delete p) = Ok (remove t p)
edited base r at t (changes.Rename s p) = do
  x ← or_refuse (NoSource at) (standing t s)
  _ ← within_paths at p x
  Ok (put (remove t s) p x)
edited base r at t (changes.Copy s p) = do
  x ← or_refuse (NoSource at) (standing t s)
  _ ← within_paths at p x
  few_files at (put t p x)
edited base r at t changes.DeleteAll = Ok []

-- the blob that stands in the line's data
abbrev pub blob_inline : BlobRef → List Bytes
blob_inline (blobs.Inline b) = b ∷ []
blob_inline x = []

abbrev pub inline_blob : Change → List Bytes
inline_blob (changes.Modify m x p) = blob_inline x
inline_blob c = []

-- ---- one command

abbrev pub with_mark : Option ℕ → Marked → Replay → Replay
with_mark None x r = r
with_mark (Some n) x r = record r { marks = (n, x) ∷ r.marks }

abbrev pub with_branch : Bytes → Option Bytes → Replay → Replay
with_branch refname n r = record r { branches = put_entry bytes_cmp refname n r.branches }

abbrev pub letter_of : CommitHead → Letter
letter_of h = record { author = h.author; committer = h.committer; message = h.message }

abbrev pub commit_of : Draft → Snapshot
commit_of d = record { tree = d.tree; parents = d.parents; letter = letter_of d.head }

-- a commit is made: its branch is at it, and its mark names it
abbrev pub entered : Bytes → Option ℕ → Snapshot → Replay → Replay
entered refname mark c r = with_mark mark (CommitMark (snapshot_name c)) (with_branch refname (Some (snapshot_name c)) (record r { commits = r.commits ++ c ∷ [] }))

abbrev pub committed : Replay → Draft → Replay
committed r d = entered d.head.refname d.head.mark (commit_of d) (record r { draft = None })

abbrev pub tag_of : TagHead → Bytes → Tag
tag_of h n = record { name = h.name; target = record { 0 = n }; tagger = h.tagger; message = h.message }

-- a tag is read: its mark names no commit and no blob
abbrev pub tagged : TagHead → Bytes → Replay → Replay
tagged h n r = with_mark h.mark TagMark (record r { tags = put_tag (tag_of h n) r.tags })

-- One command at a place, its faults in the order of its lines. Changes and the end of a commit come in a commit alone.
abbrev pub command_step : Base → Replay → ℕ → Command → Result Replay StreamFault
command_step base r at (commands.Blob mark b) = Ok (with_mark mark (BlobMark b) (record r { blobs = r.blobs ++ b ∷ [] }))
command_step base r at (commands.Commit h) = do
  first ← first_parent base r h
  parents ← with_merges base r (option_to_list first) h.merges
  Ok (begun base r h first parents)
command_step base r at (commands.Change c) = do
  d ← or_refuse (Syntax at) r.draft
  t ← edited base r at d.tree c
  Ok (record r { blobs = r.blobs ++ inline_blob c; draft = Some (record d { tree = t }) })
command_step base r at commands.CommitEnd = or_refuse (Syntax at) r.draft >>= λ d. Ok (committed r d)
command_step base r at (commands.Reset refname from) = said base r from >>= λ n. Ok (with_branch refname n r)
command_step base r at (commands.Tag h) = known base r h.from >>= λ n. Ok (tagged h n r)
command_step base r at commands.Done = Ok r

abbrev pub step : Base → Replay → Placed → Result Replay StreamFault
step base r p = command_step base r p.at p.command

-- ---- a whole stream

-- A replay that has ended: the commands that were tried, the last one of which may have been refused; what the others made; and
-- the first fault, of reading or of replaying.
pub record Ran (F : Type 0) : Type 0 where
  pub tried : List Placed
  pub state : Replay
  pub fault : Option F

abbrev pub also_tried : {F : Type 0} → Placed → Ran F → Ran F
also_tried p x = record { tried = p ∷ x.tried; state = x.state; fault = x.fault }

abbrev pub gone_on : {F : Type 0} → Placed → Replay → (Replay → Ran F) → Result Replay F → Ran F
gone_on p before next (Ok r) = also_tried p (next r)
gone_on p before next (Err f) = record { tried = p ∷ []; state = before; fault = Some f }

-- command by command, by whatever one command does, and then the end, which may be a fault of reading
abbrev pub ran_by : {F : Type 0} → (Replay → Placed → Result Replay F) → Option F → Replay → List Placed → Ran F
ran_by one end r [] = record { tried = []; state = r; fault = end }
ran_by one end r (p ∷ ps) = gone_on p r (λ s. ran_by one end s ps) (one r p)

-- A stream, read from its start by a `Progress`: by `start`, or by `tagged_start`, where the command `tag` is read, too.
abbrev pub ran_in : Progress → Base → Bytes → Ran StreamFault
ran_in begins base input = ran_by (step base) (verdict begins input).fault nothing_yet (verdict begins input).commands

abbrev pub ran : Base → Bytes → Ran StreamFault
ran base input = ran_in start base input

-- what a stream gives: its blobs and its commits in order, and the heads that it has set, in byte order
pub record Replayed : Type 0 where
  pub blobs : List Bytes
  pub commits : List Snapshot
  pub heads : Refs

abbrev pub heads_of : Replay → Refs
heads_of r = filter_map (λ b. option_map (λ n. (b.0, n)) b.1) r.branches

abbrev pub given_by : Replay → Replayed
given_by r = record { blobs = r.blobs; commits = r.commits; heads = heads_of r }

-- how far a replay has come, where it has no fault
abbrev pub reached : Replay → Option StreamFault → Result Replay StreamFault
reached r None = Ok r
reached r (Some f) = Err f

abbrev pub outcome_of : Replay → Option StreamFault → Result Replayed StreamFault
outcome_of r None = Ok (given_by r)
outcome_of r (Some f) = Err f

-- what the stream gives, or its first fault
abbrev pub replay_in : Progress → Base → Bytes → Result Replayed StreamFault
replay_in begins base input = outcome_of (ran_in begins base input).state (ran_in begins base input).fault

abbrev pub replay : Base → Bytes → Result Replayed StreamFault
replay base input = replay_in start base input

-- what a stream gives, and the tags that were read, the last one of each name, in the byte order of the names
pub record TaggedReplayed : Type 0 where
  pub replayed : Replayed
  pub tags : List Tag

abbrev pub tagged_given : Replay → TaggedReplayed
tagged_given r = record { replayed = given_by r; tags = r.tags }

abbrev pub tagged_replay : Base → Bytes → Result TaggedReplayed StreamFault
tagged_replay base input =
    replay_in tagged_start base input >>= λ g. Ok (record { replayed = g; tags = (ran_in tagged_start base input).state.tags })

abbrev pub empty_base : Base
empty_base = record { commits = []; refs = []; blobs = [] }
