-- What a command leaves of a replay by names.
use Rattle.std.proofs.Common.{◌≡◌, ◌⊎◌, inl, inr, ℕ, Bool, true, false, cond, T, List, [], ◌∷◌, ◌++◌, Option, Some, None, Result, Ok, Err, IfSome, IfErr, OnOk, sym, ap, subst, ◌∙◌}
use Rattle.std.specs.Prelude.{nat_eq, IsOkAnd}
use Rattle.std.specs.FinMap.{put}
use Rattle.std.specs.FinMap.Entries.{is_sorted-put}
use Rattle.std.specs.Cmp.Lexicographic.{nat_list_cmp_total}
use Rattle.std.specs.Map.{lookup}
use Rattle.std.specs.Option.{option_map}
use Rattle.std.specs.Ordering.{is_eq}
use Rattle.std.specs.declared.cmp.Ordering.{Ordering}
use Rattle.std.specs.declared.cmp.Ordering.TheVariants.{Less, Equal, Greater}
use Rattle.std.specs.FinMap.Entries.{by_order}
use Rattle.git_objects.specs.Lists.{Each}
use Rattle.git_objects.specs.Parts.{name_bytes}
use Rattle.git_objects.specs.Paths.{Bytes}
use Rattle.git_objects.specs.Refs.{Refs, bytes_cmp}
use Rattle.git_objects.specs.Results.{◌>>=◌}
use Rattle.git_objects.specs.Snapshots.{Snapshot}
use Rattle.git_objects.specs.declared.kind.Kind.TheVariants as kinds
use Rattle.git_objects.specs.declared.name.Name.{Name}
use Rattle.object_store.specs.Growth.{IsGrownBy, IsOnly}
use Rattle.object_store.specs.Objects.{Object, IsStore, has}
use Rattle.object_store.proofs.Growth.{grown_self}
use Rattle.fast_import.specs.Made.{IsMadeAt, IsPutFault}
use Rattle.fast_import.specs.Replays.{Base, Marked, BlobMark, TagMark, Replay, command_step, known, said, step, tag_of, tagged, with_branch, with_mark}
use Rattle.fast_import.specs.Replaying.{Replaying, with_head, without_ref}
use Rattle.fast_import.specs.Standing.{AreBlobsIn, AreCommitsIn, IsBlobIn, IsCommitIn, IsGivenMark, IsMarkIn, IsReplayOf, IsStepped, IsTagKept, IsTried}
use Rattle.stream_reader.specs.declared.command.Command.TheVariants as commands
use Rattle.stream_reader.specs.declared.command.Placed.{Placed}
use Rattle.stream_reader.specs.declared.command.TagHead.{TagHead}
use Rattle.tag_objects.specs.TagLists.{put_tag}
use Rattle.tag_objects.specs.declared.tag.Tag.{Tag}
use Rattle.stream_reader.specs.declared.commit_ref.CommitRef.{CommitRef}
use Rattle.stream_reader.specs.declared.fault.StreamFault.{StreamFault}
use Rattle.stream_reader.specs.declared.fault.StreamFault.TheVariants.{OutOfMemory}
use Rattle.fast_import.specs.declared.marks.Marked.{Marked as MarkedName}
use Rattle.fast_import.specs.declared.marks.Marked.TheVariants as names
use Rattle.fast_import.specs.declared.replayed.Made.{Made}
use Rattle.fast_import.proofs.Growing.{replay-grown}
use Rattle.fast_import.proofs.Heading.{heads-put, heads-unset}

-- ---- one blob, one commit more

pub blobs-push : (S : List Object) (ns : List Name) (bs : List Bytes) (n : Name) (b : Bytes) → AreBlobsIn S ns bs → IsBlobIn S n b → AreBlobsIn S (ns ++ n ∷ []) (bs ++ b ∷ [])
blobs-push S [] [] n b h k = (k, tt)
blobs-push S [] (c ∷ bs) n b h k = absurd h
blobs-push S (m ∷ ns) [] n b h k = absurd h
blobs-push S (m ∷ ns) (c ∷ bs) n b h k = (h.0, blobs-push S ns bs n b h.1 k)

pub commits-push : (S : List Object) (ms : List Made) (cs : List Snapshot) (m : Made) (c : Snapshot) → AreCommitsIn S ms cs → IsCommitIn S m c → AreCommitsIn S (ms ++ m ∷ []) (cs ++ c ∷ [])
commits-push S [] [] m c h k = (k, tt)
commits-push S [] (d ∷ cs) m c h k = absurd h
commits-push S (n ∷ ms) [] m c h k = absurd h
commits-push S (n ∷ ms) (d ∷ cs) m c h k = (h.0, commits-push S ms cs m c h.1 k)

pub with_blob : (S : List Object) (v : Replaying) (r : Replay) (n : Name) (b : Bytes) → IsReplayOf S v r → IsBlobIn S n b → IsReplayOf S (record v { blobs = v.blobs ++ n ∷ [] }) (record r { blobs = r.blobs ++ b ∷ [] })
with_blob S v r n b h k = record {
  blobs = blobs-push S v.blobs r.blobs n b h.blobs k;
  commits = h.commits;
  branches = h.branches;
  sorted = h.sorted;
  held = h.held;
  marks = h.marks;
  draft = h.draft;
  tags = h.tags;
}

-- ---- a mark

mark_here : (S : List Object) (b : Bool) (x : MarkedName) (y : Marked) (old : Option MarkedName) (older : Option Marked) → IsMarkIn S (Some x) (Some y) → IsMarkIn S old older → IsMarkIn S (cond b (Some x) old) (cond b (Some y) older)
mark_here S true x y old older h g = h
mark_here S false x y old older h g = g

pub given_mark : (S : List Object) (v w : Replaying) (r : Replay) (mark : Option ℕ) (x : MarkedName) (y : Marked) → IsReplayOf S v r → IsGivenMark v w mark x → IsMarkIn S (Some x) (Some y) → IsReplayOf S w (with_mark mark y r)
given_mark S v w r None x y h g k =
    subst (λ (u : Replaying). IsReplayOf S u r) (sym g.others)
    (record { blobs = h.blobs; commits = h.commits; branches = h.branches; sorted = h.sorted; held = h.held; marks = λ q. subst (λ (o : Option MarkedName). IsMarkIn S o (Rattle.fast_import.specs.Replays.marked q r.marks)) (sym (g.named q)) (h.marks q); draft = h.draft; tags = h.tags })
given_mark S v w r (Some n) x y h g k =
    subst (λ (u : Replaying). IsReplayOf S u (with_mark (Some n) y r)) (sym g.others)
    (record {
      blobs = h.blobs;
      commits = h.commits;
      branches = h.branches;
      sorted = h.sorted;
      held = h.held;
      marks = λ q. subst (λ (o : Option MarkedName). IsMarkIn S o (Rattle.fast_import.specs.Replays.marked q ((n, y) ∷ r.marks))) (sym (g.named q))
          (mark_here S (nat_eq n q) x y (lookup (nat_eq q) v.marks) (Rattle.fast_import.specs.Replays.marked q r.marks) k (h.marks q));
      draft = h.draft;
      tags = h.tags;
    })

-- ---- a branch

each-put : (S : List Object) (n c : Bytes) (hs : Refs) → Each (λ e. has kinds.Commit S e.1 ≡ true) hs → has kinds.Commit S c ≡ true → Each (λ e. has kinds.Commit S e.1 ≡ true) (put bytes_cmp n c hs)
each-put S n c [] h k = (k, tt)
each-put S n c (e ∷ hs) h k = elim (bytes_cmp n e.0) as (λ (o : Ordering). Each (λ (d : Bytes × Bytes). has kinds.Commit S d.1 ≡ true) (by_order o ((n, c) ∷ e ∷ hs) ((e.0, c) ∷ hs) (e ∷ put bytes_cmp n c hs))) [
  | Less ↦ (k, h)
  | Equal ↦ (k, h.1)
  | Greater ↦ (h.0, each-put S n c hs h.1 k)
]

each-without : (S : List Object) (n : Bytes) (hs : Refs) → Each (λ e. has kinds.Commit S e.1 ≡ true) hs → Each (λ e. has kinds.Commit S e.1 ≡ true) (without_ref n hs)
each-without S n [] h = tt
each-without S n (e ∷ hs) h = elim (is_eq (bytes_cmp n e.0)) as (λ (b : Bool). Each (λ (d : Bytes × Bytes). has kinds.Commit S d.1 ≡ true) (cond b hs (e ∷ without_ref n hs))) [ true ↦ h.1 | false ↦ (h.0, each-without S n hs h.1) ]

pub set_branch : (S : List Object) (v : Replaying) (r : Replay) (n : Bytes) (o : Option Name) → IsReplayOf S v r → IfSome o (λ c. has kinds.Commit S c.0 ≡ true)
    → IsReplayOf S (record v { branches = with_head n o v.branches }) (with_branch n (option_map name_bytes o) r)
set_branch S v r n None h k = record {
  blobs = h.blobs;
  commits = h.commits;
  branches = ap (without_ref n) h.branches ∙ sym (heads-unset n r.branches h.sorted);
  sorted = is_sorted-put bytes_cmp nat_list_cmp_total n None r.branches h.sorted;
  held = each-without S n v.branches h.held;
  marks = h.marks;
  draft = h.draft;
  tags = h.tags;
}
set_branch S v r n (Some c) h k = record {
  blobs = h.blobs;
  commits = h.commits;
  branches = ap (put bytes_cmp n c.0) h.branches ∙ sym (heads-put n c.0 r.branches h.sorted);
  sorted = is_sorted-put bytes_cmp nat_list_cmp_total n (Some c.0) r.branches h.sorted;
  held = each-put S n c.0 v.branches h.held k;
  marks = h.marks;
  draft = h.draft;
  tags = h.tags;
}

-- ---- commands

pub blob_refused : (base : Base) (S T : List Object) (w : Replaying) (r : Replay) (at : ℕ) (mark : Option ℕ) (b : Bytes) (f : StreamFault) → IsPutFault (IsOnly kinds.Blob b) T f → IsGrownBy (IsOnly kinds.Blob b) S T
    → IsStepped base S T w r (record { at = at; command = commands.Blob mark b }) (Err f)
blob_refused base S T w r at mark b f h g = record { done = tt; refused = inr h; grown = g }

pub blob_done : (base : Base) (S T : List Object) (v v' w : Replaying) (r : Replay) (at : ℕ) (mark : Option ℕ) (b : Bytes) (n : Name) → IsReplayOf S v r → IsBlobIn T n b → v' ≡ record v { blobs = v.blobs ++ n ∷ [] } → IsGrownBy (IsOnly kinds.Blob b) S T
    → (result : Result Unit StreamFault) → OnOk result (IsGivenMark v' w mark (names.Blob n)) → IfErr result (λ f. f ≡ OutOfMemory) → IsStepped base S T w r (record { at = at; command = commands.Blob mark b }) result
blob_done base S T v v' w r at mark b n h k e g (Err f) ok err = record { done = tt; refused = inr (inl err); grown = g }
blob_done base S T v v' w r at mark b n h k e g (Ok u) ok err = record {
  done = given_mark T v' w (record r { blobs = r.blobs ++ b ∷ [] }) mark (names.Blob n) (BlobMark b)
      (subst (λ (x : Replaying). IsReplayOf T x (record r { blobs = r.blobs ++ b ∷ [] })) (sym e) (with_blob T v r n b (replay-grown S T g v r h) k)) ok k;
  refused = tt;
  grown = g;
}

pub reset_done : (base : Base) (S : List Object) (v w : Replaying) (r : Replay) (at : ℕ) (n : Bytes) (from : Option CommitRef) (o : Option Name) → IsReplayOf S v r → said base r from ≡ Ok (option_map name_bytes o) → IfSome o (λ c. has kinds.Commit S c.0 ≡ true)
    → (result : Result Unit StreamFault) → OnOk result (w ≡ record v { branches = with_head n o v.branches }) → IfErr result (λ f. f ≡ OutOfMemory) → IsTried S w (command_step base r at (commands.Reset n from)) result
reset_done base S v w r at n from o h q k (Err f) ok err = record { done = tt; refused = inr err }
reset_done base S v w r at n from o h q k (Ok u) ok err = record {
  done = subst (λ (x : Result Replay StreamFault). IsOkAnd x (IsReplayOf S w)) (sym (ap (λ (x : Result (Option Bytes) StreamFault). x >>= λ m. Ok (with_branch n m r)) q))
      (subst (λ (x : Replaying). IsReplayOf S x (with_branch n (option_map name_bytes o) r)) (sym ok) (set_branch S v r n o h k));
  refused = tt;
}

-- a tag: its list and its mark
with_tag : (S : List Object) (v : Replaying) (r : Replay) (t : Tag) → IsReplayOf S v r → IsReplayOf S (record v { tags = put_tag t v.tags }) (record r { tags = put_tag t r.tags })
with_tag S v r t h = record { blobs = h.blobs; commits = h.commits; branches = h.branches; sorted = h.sorted; held = h.held; marks = h.marks; draft = h.draft; tags = ap (put_tag t) h.tags }

pub tag_kept : (S : List Object) (v v' w : Replaying) (r : Replay) (g : TagHead) (n : Bytes) → IsReplayOf S v r → v' ≡ record v { tags = put_tag (tag_of g n) v.tags }
    → (result : Result Unit StreamFault) → OnOk result (IsGivenMark v' w g.mark names.Tag) → IfErr result (λ f. f ≡ OutOfMemory) → IsTagKept S w (tagged g n r) result
tag_kept S v v' w r g n h e (Err f) ok err = record { kept = tt; no_room = err }
tag_kept S v v' w r g n h e (Ok u) ok err = record {
  kept = given_mark S v' w (record r { tags = put_tag (tag_of g n) r.tags }) g.mark names.Tag TagMark (subst (λ (x : Replaying). IsReplayOf S x (record r { tags = put_tag (tag_of g n) r.tags })) (sym e) (with_tag S v r (tag_of g n) h)) ok tt;
  no_room = tt;
}

pub tag_done : (base : Base) (S : List Object) (w : Replaying) (r : Replay) (at : ℕ) (g : TagHead) (n : Name) → known base r g.from ≡ Ok n.0
    → (result : Result Unit StreamFault) → IsTagKept S w (tagged g n.0 r) result → IsTried S w (command_step base r at (commands.Tag g)) result
tag_done base S w r at g n q (Err f) k = record { done = tt; refused = inr k.no_room }
tag_done base S w r at g n q (Ok u) k = record { done = subst (λ (x : Result Replay StreamFault). IsOkAnd x (IsReplayOf S w)) (sym (ap (λ (x : Result Bytes StreamFault). x >>= λ m. Ok (tagged g m r)) q)) k.kept; refused = tt }

pub tag_unknown : (base : Base) (S : List Object) (w : Replaying) (r : Replay) (at : ℕ) (g : TagHead) (f : StreamFault) → known base r g.from ≡ Err f → IsTried S w (command_step base r at (commands.Tag g)) (Err f)
tag_unknown base S w r at g f q = record { done = tt; refused = inl (ap (λ (x : Result Bytes StreamFault). x >>= λ m. Ok (tagged g m r)) q) }

-- a command that brings no object
pub tried_stepped : (base : Base) (S : List Object) (w : Replaying) (r : Replay) (p : Placed) (result : Result Unit StreamFault) → IsStore S → IsTried S w (step base r p) result → IsStepped base S S w r p result
tried_stepped base S w r p (Ok u) s h = record { done = h.done; refused = tt; grown = grown_self (IsMadeAt r p.command) S s }
tried_stepped base S w r p (Err f) s h = record { done = tt; refused = by h.refused; grown = grown_self (IsMadeAt r p.command) S s }
  where
    by : (step base r p ≡ Err f) ⊎ (f ≡ OutOfMemory) → (step base r p ≡ Err f) ⊎ IsPutFault (IsMadeAt r p.command) S f
    by (inl e) = inl e
    by (inr e) = inr (inl e)
