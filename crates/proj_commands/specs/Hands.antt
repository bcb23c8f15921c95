-- The objects that come up in a command. Only of two of them can it be told that they have one name.
use Rattle.std.specs.List.{flat_map}
use Rattle.std.specs.Prelude.{List, ◌++◌, map, ◌≡◌, Contains, Any, [], ◌∷◌, Result, Ok, Err, ℕ}
use Rattle.git_objects.specs.Paths.{Bytes}
use Rattle.git_objects.specs.Snapshots.{Snapshot}
use Rattle.git_objects.specs.Trees.{Leaf}
use Rattle.object_store.specs.Hands.{IsTreeMade}
use Rattle.object_store.specs.Objects.{Object}
use Rattle.object_store.specs.StoredSnapshots.{snapshot_object}
use Rattle.stream_reader.specs.declared.command.Change.TheVariants as changes
use Rattle.stream_reader.specs.declared.command.Change.{Change}
use Rattle.stream_reader.specs.declared.command.Command.TheVariants as commands
use Rattle.stream_reader.specs.declared.command.Command.{Command}
use Rattle.stream_reader.specs.declared.command.Placed.{Placed}
use Rattle.fast_import.specs.Replays.{inline_blob, Base, Replay, given_bytes, leaf_of, step, Ran, nothing_yet}
use Rattle.filter_text.specs.Filters.{Filter}
use Rattle.workspace.specs.Workspaces.{next, resolve, shown}
use Rattle.projection_laws.specs.Projections.{own_commits}
use Rattle.state_items.specs.Changes.{blob_object}
use Rattle.state_items.specs.Items.{Held}
use Rattle.state_items.specs.Repos.{repo}
use Rattle.filter_apply.specs.Hands.{parts_in}
use Rattle.proj_commands.specs.Filters.{history, rule_by}

-- What a command brings together: the objects that the items hold; the blobs that it reads; the commits that are held or made, with
-- their projections and originals; the leaves that changes give; and components of paths that it is given.
pub record Hand : Type 0 where
  pub held : List Object
  pub blobs : List Bytes
  pub commits : List Snapshot
  pub leaves : List Leaf
  pub components : List Bytes

-- the leaves of the commits' trees too
abbrev pub all_leaves : Hand → List Leaf
all_leaves k = k.leaves ++ flat_map (λ c. map (λ e. e.1) c.tree) k.commits

-- the components of the paths of these trees too
abbrev pub all_components : Hand → List Bytes
all_components k = k.components ++ flat_map (λ c. flat_map (λ e. e.0) c.tree) k.commits

-- An object in hand is held; or is a blob that is read; or is one of the commits; or is a tree, also one below another, of leaves and
-- components in hand.
pub data IsInHand (k : Hand) (o : Object) : Type 0 where
  HeldObject : Contains k.held o → IsInHand k o
  BlobRead : (b : Bytes) → Contains k.blobs b → o ≡ blob_object b → IsInHand k o
  CommitMade : (c : Snapshot) → Contains k.commits c → o ≡ snapshot_object c → IsInHand k o
  TreeMade : IsTreeMade (Contains (all_leaves k)) (Contains (all_components k)) o → IsInHand k o

-- of one of several commands
abbrev pub IsInHands : List Hand → Object → Type 0
IsInHands ks o = Any (λ k. IsInHand k o) ks

-- ---- what a stream brings

abbrev pub blobs_read : Command → List Bytes
blobs_read (commands.Blob m b) = b ∷ []
blobs_read (commands.Commit h) = []
blobs_read (commands.Change c) = inline_blob c
blobs_read commands.CommitEnd = []
blobs_read (commands.Reset refname from) = []
blobs_read (commands.Tag h) = []
blobs_read commands.Done = []

-- the components of a change's paths
abbrev pub change_components : Change → List Bytes
change_components (changes.Modify m b p) = p
change_components (changes.Delete p) = p
change_components (changes.Rename p q) = p ++ q
change_components (changes.Copy p q) = p ++ q
change_components changes.DeleteAll = []

abbrev pub command_components : Command → List Bytes
command_components (commands.Blob m b) = []
command_components (commands.Commit h) = []
command_components (commands.Change c) = change_components c
command_components commands.CommitEnd = []
command_components (commands.Reset refname from) = []
command_components (commands.Tag h) = []
command_components commands.Done = []

abbrev pub leaf_by : {E : Type 0} → (Bytes → Leaf) → Result Bytes E → List Leaf
leaf_by make (Ok x) = make x ∷ []
leaf_by make (Err e) = []

abbrev pub change_leaf : Base → Replay → Placed → Change → List Leaf
change_leaf base r p (changes.Modify m b q) = leaf_by (leaf_of m) (given_bytes base r p.at m b)
change_leaf base r p (changes.Delete q) = []
change_leaf base r p (changes.Rename q s) = []
change_leaf base r p (changes.Copy q s) = []
change_leaf base r p changes.DeleteAll = []

abbrev pub given_leaf : Base → Replay → Placed → Command → List Leaf
given_leaf base r p (commands.Blob m b) = []
given_leaf base r p (commands.Commit h) = []
given_leaf base r p (commands.Change c) = change_leaf base r p c
given_leaf base r p commands.CommitEnd = []
given_leaf base r p (commands.Reset refname from) = []
given_leaf base r p (commands.Tag h) = []
given_leaf base r p commands.Done = []

abbrev pub leaves_on : {E : Type 0} → (Replay → List Leaf) → Result Replay E → List Leaf
leaves_on next (Ok s) = next s
leaves_on next (Err f) = []

-- the leaves that the changes of these commands give
abbrev pub leaves_given : Base → Replay → List Placed → List Leaf
leaves_given base r [] = []
leaves_given base r (p ∷ ps) = given_leaf base r p p.command ++ leaves_on (λ s. leaves_given base s ps) (step base r p)

-- of objects that are held, commits, a stream upon a base, and further components
abbrev pub hand_of : {F : Type 0} → List Object → List Snapshot → Base → Ran F → List Bytes → Hand
hand_of objects commits base x components = record {
  held = objects;
  blobs = flat_map (λ p. blobs_read p.command) x.tried;
  commits = commits ++ x.state.commits;
  leaves = leaves_given base nothing_yet x.tried;
  components = flat_map (λ p. command_components p.command) x.tried ++ components;
}

-- without a stream
abbrev pub still_hand : List Object → List Snapshot → List Bytes → Hand
still_hand objects commits components = record { held = objects; blobs = []; commits = commits; leaves = []; components = components }

-- ---- of histories and filters

-- the components of a filter's paths, also of its workspace's items in each of these commits
abbrev pub components_for : Filter → List Snapshot → List Bytes
components_for f cs = parts_in f ++ flat_map (λ c. parts_in (resolve f c.tree)) cs

-- the commits of their own that a head and its ancestors are projected to, also where several have one name
abbrev pub own : ℕ → Filter → List Snapshot → Bytes → List Snapshot
own k f cs n = own_commits (rule_by k) (shown f) cs (n ∷ [])

-- of projections, each by itself: what is held, with the commits of their own that a commit and its ancestors become
abbrev pub seen_hand : Held → Filter → Bytes → Hand
seen_hand h f n = still_hand h.objects ((repo h).commits ++ own h.rule f (repo h).commits n) (components_for f (repo h).commits)

-- of a history: what is held, with the projections
abbrev pub history_hand : Held → Filter → Bytes → Hand
history_hand h f n = still_hand h.objects ((repo h).commits ++ history h.rule f (repo h).commits n) (components_for f (repo h).commits)
