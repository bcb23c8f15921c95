-- What a push may bring to a graph: commits and blobs within the limits of objects.
use Rattle.std.specs.Prelude.{◌≡◌, true, ◌&&◌, nat_le, length, List, ◌++◌, filter_map, Option, Ok}
use Rattle.std.specs.List.{list_all}
use Rattle.git_objects.specs.Idents.{is_ident}
use Rattle.git_objects.specs.Lists.{Each}
use Rattle.git_objects.specs.Paths.{Bytes, is_bytes}
use Rattle.git_objects.specs.Snapshots.{Snapshot, Graph, has, tree_at}
use Rattle.git_objects.specs.Trees.{Flat, IsTree}
use Rattle.git_objects.specs.declared.limits.TheConstants.{BLOB_BYTES, MESSAGE_BYTES}
use Rattle.object_store.specs.Fits.{tree_fits}
use Rattle.filter_text.specs.Filters.{Filter}
use Rattle.workspace.specs.Laws.{IsUsable}
use Rattle.workspace.specs.Workspaces.{shown}
use Rattle.fast_import.specs.Replays.{Replay}
use Rattle.state_items.specs.Imported.{AreWhole, has_leaves}
use Rattle.push_laws.specs.PushLaws.{AreTrees, originals}
use Rattle.object_store.specs.TreeObjects.{blob_of}
use Rattle.push_laws.specs.PushReplays.{push_replay}
use Rattle.push_laws.specs.PushVerdicts.{Pair, verdict}

-- the blobs of a tree in path order
abbrev pub blobs_in : Flat → List Bytes
blobs_in t = filter_map (λ e. blob_of e.1) t

-- what is shown is a tree, and its blobs are bytes
pub record IsSeenTree (t : Flat) : Type 0 where
  pub tree : IsTree t
  pub bytes : list_all is_bytes (blobs_in t) ≡ true

-- A commit whose tree is one of these blobs, with a letter that may stand in a commit.
pub record IsGivenCommit (blobs : List Bytes) (c : Snapshot) : Type 0 where
  pub tree : IsTree c.tree
  pub leaves : has_leaves blobs c.tree ≡ true
  pub author : is_ident c.letter.author ≡ true
  pub committer : is_ident c.letter.committer ≡ true
  pub author_bytes : is_bytes c.letter.author ≡ true
  pub committer_bytes : is_bytes c.letter.committer ≡ true
  pub message : is_bytes c.letter.message ≡ true
  pub short : nat_le (length c.letter.message) MESSAGE_BYTES ≡ true

-- Blobs within the limits, and commits of these and of known blobs.
pub record IsGiven (known : List Bytes) (r : Replay) : Type 0 where
  pub bytes : list_all is_bytes r.blobs ≡ true
  pub small : list_all (λ b. nat_le (length b) BLOB_BYTES) r.blobs ≡ true
  pub commits : Each (IsGivenCommit (r.blobs ++ known)) r.commits

-- So is what a pushed stream of bytes gives upon a tree, up to its first refusal or to its end.
abbrev pub GivenLaw : Type 0
GivenLaw = (refname : Bytes) (from : Option Bytes) (seen : Flat) (input : Bytes) → IsTree seen → list_all is_bytes (blobs_in seen) ≡ true → is_bytes input ≡ true →
    IsGiven (blobs_in seen) (push_replay refname from seen input).state

-- Originals that may be brought to a graph: whole commits, each behind its parents, within the limits, of these blobs.
pub record AreBrought (g : Graph) (blobs : List Bytes) (os : List Snapshot) : Type 0 where
  pub whole : AreWhole g os
  pub leaves : list_all (λ o. has_leaves blobs o.tree) os ≡ true
  pub small : list_all (λ o. tree_fits o.tree && nat_le (length o.letter.message) MESSAGE_BYTES) os ≡ true

-- So are the originals of an accepted push, of the blobs that it gave and of those known before.
abbrev pub BroughtLaw : Type 0
BroughtLaw = (f : Filter) (g : Graph) (h : Bytes) (bs known : List Bytes) (cs : List Snapshot) (ps : List Pair) → IsUsable f → AreTrees g → has g h ≡ true →
    has_leaves known (tree_at g h) ≡ true → Each (IsGivenCommit (bs ++ blobs_in (shown f (tree_at g h)))) cs → verdict f g h cs ≡ Ok ps → AreBrought g (bs ++ known) (originals ps)
