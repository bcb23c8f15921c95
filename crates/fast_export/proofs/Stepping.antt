-- What one command of an export makes of a replay.
use Rattle.std.proofs.Common.{◌≡◌, ℕ, ◌^◌, true, false, List, [], ◌∷◌, ◌++◌, length, map, refl, sym, ap, ◌∙◌, Option, Some, None, Result, Ok, Err, append_assoc, append-nil}
use Rattle.std.specs.Prelude.{if◌then◌else◌, nat_lt, nat_le}
use Rattle.std.specs.Option.{is_some, option_and_then, option_or, option_to_list}
use Rattle.std.specs.FinMap.{put as put_entry}
use Rattle.git_objects.specs.declared.quantity.Quantity.{Quantity}
use Rattle.git_objects.specs.declared.quantity.Quantity.TheVariants.{Parents, Files}
use Rattle.git_objects.specs.Paths.{Bytes, Path}
use Rattle.git_objects.specs.Trees.{Leaf, FileLeaf, ExecLeaf, LinkLeaf, ModuleLeaf, Flat, LeafNode, put}
use Rattle.git_objects.specs.Names.{leaf_mode}
use Rattle.git_objects.specs.Commits.{Letter}
use Rattle.git_objects.specs.Lists.{Each}
use Rattle.stream_reader.specs.declared.fault.StreamFault.{StreamFault}
use Rattle.stream_reader.specs.declared.fault.StreamFault.TheVariants.{Syntax, Unresolved, Limit}
use Rattle.stream_reader.specs.declared.command.Command.{Command}
use Rattle.stream_reader.specs.declared.command.Command.TheVariants as commands
use Rattle.stream_reader.specs.declared.command.CommitHead.{CommitHead}
use Rattle.stream_reader.specs.declared.command.Change.{Change}
use Rattle.stream_reader.specs.declared.command.Change.TheVariants as changes
use Rattle.stream_reader.specs.declared.command.Placed.{Placed}
use Rattle.stream_reader.specs.declared.commit_ref.CommitRef.{CommitRef}
use Rattle.stream_reader.specs.declared.commit_ref.Target.TheVariants as targets
use Rattle.git_objects.specs.Refs.{bytes_cmp}
use Rattle.git_objects.specs.Snapshots.{Snapshot, snapshot_name}
use Rattle.git_objects.specs.Results.{◌>>=◌, or_refuse, must}
use Rattle.fast_import.specs.Replays.{Replay, Draft, Marked, BlobMark, CommitMark, marked, marked_blob, marked_commit, tree_of, target_name, known, said, branch, first_parent, one_more, with_merges, tree_upon, begun, given_bytes, leaf_of, few_files, edited, inline_blob, with_mark, with_branch, letter_of, commit_of, committed, command_step, step, empty_base}
use Rattle.fast_export.specs.ExportTexts.{mark_of, is_among}
use Rattle.fast_export.proofs.Goings.{Steps, Stepped, TooMuch}
use Rattle.fast_export.proofs.Heads.{IsHead, targets_of, is_reset}
use Rattle.fast_export.proofs.Changing.{leaf_blob, leaf_change, is_change}
use Rattle.fast_export.proofs.Marking.{contents, IsMarked, AreMarked}

pub blob_step : (s : Replay) (c : Placed) (m : ℕ) (b : Bytes) → c.command ≡ commands.Blob (Some m) b → step empty_base s c ≡ Ok (with_mark (Some m) (BlobMark b) (record s { blobs = s.blobs ++ b ∷ [] }))
blob_step s c m b e = ap (command_step empty_base s c.at) e

-- ---- parents

-- a commit with a mark
pub record IsThere (r : Replay) (ms : List (ℕ × Bytes)) (p : Bytes) : Type 0 where
  pub among : is_among p (contents ms) ≡ true
  pub tree : is_some (tree_of empty_base r p) ≡ true

pub known_number : (r : Replay) (k : ℕ) (p : Bytes) (c : CommitRef) → marked k r.marks ≡ Some (CommitMark p) → is_some (tree_of empty_base r p) ≡ true → c.target ≡ targets.Mark k → known empty_base r c ≡ Ok p
known_number r k p c m t e =
    ap (λ g. or_refuse (Unresolved c.at) (target_name empty_base r g) >>= λ n. must (Unresolved c.at) (is_some (tree_of empty_base r n)) >>= λ u. Ok n) e
    ∙ ap (λ o. or_refuse (Unresolved c.at) (option_and_then marked_commit o) >>= λ n. must (Unresolved c.at) (is_some (tree_of empty_base r n)) >>= λ u. Ok n) m
    ∙ ap (λ b. must (Unresolved c.at) b >>= λ u. Ok p) t

pub known_is : (r : Replay) (ms : List (ℕ × Bytes)) (top : ℕ) (p : Bytes) (c : CommitRef) → IsMarked CommitMark ms top r.marks p → is_some (tree_of empty_base r p) ≡ true → c.target ≡ targets.Mark (mark_of p ms) →
    known empty_base r c ≡ Ok p
known_is r ms top p c m t e = known_number r (mark_of p ms) p c m.names t e

pub data Counts (o : Result (List Bytes) StreamFault) (ps : List Bytes) : Type 0 where
  Counted : o ≡ Ok ps → Counts o ps
  Passed : (at : ℕ) (which : Quantity) → o ≡ Err (Limit at which) → Counts o ps

pub counts_along : (o u : Result (List Bytes) StreamFault) (ps qs : List Bytes) → o ≡ u → ps ≡ qs → Counts u ps → Counts o qs
counts_along o u ps qs e f (Counted d) = Counted (e ∙ d ∙ ap Ok f)
counts_along o u ps qs e f (Passed at which d) = Passed at which (e ∙ d)

merges_count : (r : Replay) (ms : List (ℕ × Bytes)) (top : ℕ) → AreMarked CommitMark ms top r.marks → (acc : List Bytes) (cs : List CommitRef) (ps : List Bytes) →
    targets_of cs ≡ map targets.Mark (map (λ p. mark_of p ms) ps) → Each (IsThere r ms) ps → Counts (with_merges empty_base r acc cs) (acc ++ ps)
merges_count r ms top m acc [] [] e h = Counted (ap Ok (sym (append-nil acc)))
merges_count r ms top m acc [] (p ∷ ps) e h = absurd cc
merges_count r ms top m acc (c ∷ cs) [] e h = absurd cc
merges_count r ms top m acc (c ∷ cs) (p ∷ ps) e h =
    let target : c.target ≡ targets.Mark (mark_of p ms) = cc in
    let others : targets_of cs ≡ map targets.Mark (map (λ p. mark_of p ms) ps) = cc in
    let k = known_is r ms top p c (m p h.0.among) h.0.tree target in
    let rest = merges_count r ms top m (acc ++ p ∷ []) cs ps others h.1 in
    let first : with_merges empty_base r acc (c ∷ cs) ≡ one_more c.at acc p >>= λ more. with_merges empty_base r more cs = ap (λ o. o >>= λ n. one_more c.at acc n >>= λ more. with_merges empty_base r more cs) k in
    elim (nat_lt (length acc) 16) as (λ b. nat_lt (length acc) 16 ≡ b → Counts (with_merges empty_base r acc (c ∷ cs)) (acc ++ p ∷ ps)) [
      | true ↦ λ d. counts_along (with_merges empty_base r acc (c ∷ cs)) (with_merges empty_base r (acc ++ p ∷ []) cs) ((acc ++ p ∷ []) ++ ps) (acc ++ p ∷ ps)
          (first ∙ ap (λ b. (if b then Ok (acc ++ p ∷ []) else Err (Limit c.at Parents)) >>= λ more. with_merges empty_base r more cs) d) (append_assoc acc (p ∷ []) ps) rest
      | false ↦ λ d. Passed c.at Parents (first ∙ ap (λ b. (if b then Ok (acc ++ p ∷ []) else Err (Limit c.at Parents)) >>= λ more. with_merges empty_base r more cs) d)
    ] refl

-- ---- a commit that is being made

pub record Drafting (r : Replay) (ref : Bytes) (number : ℕ) (l : Letter) (ps : List Bytes) (t : Flat) (s : Replay) : Type 0 where
  pub head : CommitHead
  pub refname : head.refname ≡ ref
  pub mark : head.mark ≡ Some number
  pub letter : letter_of head ≡ l
  pub commits : s.commits ≡ r.commits
  pub branches : s.branches ≡ r.branches
  pub marks : s.marks ≡ r.marks
  pub tags : s.tags ≡ r.tags
  pub draft : s.draft ≡ Some (record { head = head; parents = ps; tree = t })

abbrev pub DraftsSome : Replay → Bytes → ℕ → Letter → List Bytes → Replay → Type 0
DraftsSome r ref number l ps s = (t : Flat) × Drafting r ref number l ps t s

begun_is : (r : Replay) (ref : Bytes) (number : ℕ) (l : Letter) (ms : List ℕ) (c : Command) (h : IsHead ref number l ms c) (first : Option Bytes) (ps : List Bytes) → DraftsSome r ref number l ps (begun empty_base r h.head first ps)
begun_is r ref number l ms c h first ps = (
  tree_upon empty_base r first,
  record { head = h.head; refname = h.refname; mark = h.mark; letter = λ i. record { author = h.author i; committer = h.committer i; message = h.message i }; commits = refl; branches = refl; marks = refl; tags = refl; draft = refl },
)

abbrev head_from : Replay → CommitHead → Result (Option Bytes) StreamFault → Result Replay StreamFault
head_from r h o = o >>= λ first. with_merges empty_base r (option_to_list first) h.merges >>= λ ps. Ok (begun empty_base r h first ps)

-- the lines of parents name these
pub head_step : (r : Replay) (ms : List (ℕ × Bytes)) (top : ℕ) (ref : Bytes) (number : ℕ) (l : Letter) (ps : List Bytes) (c : Placed) → AreMarked CommitMark ms top r.marks → Each (IsThere r ms) ps →
    (ps ≡ [] → branch r ref ≡ None) → IsHead ref number l (map (λ p. mark_of p ms) ps) c.command → Steps (step empty_base r c) (DraftsSome r ref number l ps)
head_step r ms top ref number l [] c m there none h =
    let from = h.parents.0 in
    let merges = h.parents.1 in
    let first : first_parent empty_base r h.head ≡ Ok None =
    ap (λ f. said empty_base r f >>= λ n. Ok (option_or n (branch r h.head.refname))) from ∙ ap (λ t. Ok (branch r t)) h.refname ∙ ap Ok (none refl) in
    Stepped (begun empty_base r h.head None [])
    (ap (command_step empty_base r c.at) h.same ∙ ap (head_from r h.head) first ∙ ap (λ cs. with_merges empty_base r [] cs >>= λ ps. Ok (begun empty_base r h.head None ps)) merges)
    (begun_is r ref number l [] c.command h None [])
head_step r ms top ref number l (p ∷ ps) c m there none h = by (merges_count r ms top m (p ∷ []) h.head.merges ps h.parents.3 there.1)
  where
    k : known empty_base r h.parents.0 ≡ Ok p
    k = known_is r ms top p h.parents.0 (m p there.0.among) there.0.tree h.parents.2

    first : first_parent empty_base r h.head ≡ Ok (Some p)
    first =
        ap (λ f. said empty_base r f >>= λ n. Ok (option_or n (branch r h.head.refname))) h.parents.1
        ∙ ap (λ o. (o >>= λ n. Ok (Some n)) >>= λ n. Ok (option_or n (branch r h.head.refname))) k

    there_is : step empty_base r c ≡ with_merges empty_base r (p ∷ []) h.head.merges >>= λ ps. Ok (begun empty_base r h.head (Some p) ps)
    there_is = ap (command_step empty_base r c.at) h.same ∙ ap (head_from r h.head) first

    by : Counts (with_merges empty_base r (p ∷ []) h.head.merges) (p ∷ ps) → Steps (step empty_base r c) (DraftsSome r ref number l (p ∷ ps))
    by (Counted e) = Stepped (begun empty_base r h.head (Some p) (p ∷ ps)) (there_is ∙ ap (λ o. o >>= λ ps. Ok (begun empty_base r h.head (Some p) ps)) e) (begun_is r ref number l (map (λ p. mark_of p ms) (p ∷ ps)) c.command h (Some p) (p ∷ ps))
    by (Passed at which e) = TooMuch at which (there_is ∙ ap (λ o. o >>= λ ps. Ok (begun empty_base r h.head (Some p) ps)) e)

-- ---- changes

abbrev changed_by : Replay → ℕ → Change → Draft → Result Replay StreamFault
changed_by s at c d = edited empty_base s at d.tree c >>= λ t. Ok (record s { blobs = s.blobs ++ inline_blob c; draft = Some (record d { tree = t }) })

change_is : (r : Replay) (ref : Bytes) (number : ℕ) (l : Letter) (ps : List Bytes) (t : Flat) (s : Replay) (c : Placed) (x : Change) (d : Drafting r ref number l ps t s) → is_change x c.command →
    step empty_base s c ≡ changed_by s c.at x (record { head = d.head; parents = ps; tree = t })
change_is r ref number l ps t s c x d e = ap (command_step empty_base s c.at) e ∙ ap (λ o. or_refuse (Syntax c.at) o >>= changed_by s c.at x) d.draft

drafting_on : (r : Replay) (ref : Bytes) (number : ℕ) (l : Letter) (ps : List Bytes) (t u : Flat) (s : Replay) (bs : List Bytes) (d : Drafting r ref number l ps t s) →
    Drafting r ref number l ps u (record s { blobs = bs; draft = Some (record { head = d.head; parents = ps; tree = u }) })
drafting_on r ref number l ps t u s bs d = record { head = d.head; refname = d.refname; mark = d.mark; letter = d.letter; commits = d.commits; branches = d.branches; marks = d.marks; tags = d.tags; draft = refl }

pub all_step : (r : Replay) (ref : Bytes) (number : ℕ) (l : Letter) (ps : List Bytes) (t : Flat) (s : Replay) (c : Placed) → Drafting r ref number l ps t s → is_change changes.DeleteAll c.command → Steps (step empty_base s c) (Drafting r ref number l ps [])
all_step r ref number l ps t s c d e = Stepped (record s { blobs = s.blobs ++ []; draft = Some (record { head = d.head; parents = ps; tree = [] }) }) (change_is r ref number l ps t s c changes.DeleteAll d e) (drafting_on r ref number l ps t [] s (s.blobs ++ []) d)

-- the mark names the leaf's blob
abbrev pub NamesLeaf : List (ℕ × Marked) → ℕ → Leaf → Type 0
NamesLeaf marks k (FileLeaf b) = marked k marks ≡ Some (BlobMark b)
NamesLeaf marks k (ExecLeaf b) = marked k marks ≡ Some (BlobMark b)
NamesLeaf marks k (LinkLeaf b) = marked k marks ≡ Some (BlobMark b)
NamesLeaf marks k (ModuleLeaf n) = Unit {0}

record GivesLeaf (s : Replay) (at k : ℕ) (x : Leaf) : Type 0 where
  content : Bytes
  given : given_bytes empty_base s at (leaf_mode x) (leaf_blob k x) ≡ Ok content
  leaf : leaf_of (leaf_mode x) content ≡ x

gives_leaf : (s : Replay) (at k : ℕ) (x : Leaf) → NamesLeaf s.marks k x → GivesLeaf s at k x
gives_leaf s at k (FileLeaf b) h = record { content = b; given = ap (λ o. or_refuse (Unresolved at) (option_and_then marked_blob o)) h; leaf = refl }
gives_leaf s at k (ExecLeaf b) h = record { content = b; given = ap (λ o. or_refuse (Unresolved at) (option_and_then marked_blob o)) h; leaf = refl }
gives_leaf s at k (LinkLeaf b) h = record { content = b; given = ap (λ o. or_refuse (Unresolved at) (option_and_then marked_blob o)) h; leaf = refl }
gives_leaf s at k (ModuleLeaf n) h = record { content = n; given = refl; leaf = refl }

pub leaf_step : (r : Replay) (ref : Bytes) (number : ℕ) (l : Letter) (ps : List Bytes) (t u : Flat) (s : Replay) (c : Placed) (k : ℕ) (p : Path) (x : Leaf) → Drafting r ref number l ps t s → NamesLeaf s.marks k x →
    put t p (LeafNode x) ≡ u → is_change (leaf_change k p x) c.command → Steps (step empty_base s c) (Drafting r ref number l ps u)
leaf_step r ref number l ps t u s c k p x d names e is =
    elim (nat_le (length u) (2 ^ 20)) as (λ b. nat_le (length u) (2 ^ 20) ≡ b → Steps (step empty_base s c) (Drafting r ref number l ps u)) [
      | true ↦ λ f. Stepped (record s { blobs = s.blobs ++ inline_blob (leaf_change k p x); draft = Some (record { head = d.head; parents = ps; tree = u }) })
          (there ∙ ap (λ b. on (if b then Ok u else Err (Limit c.at Files))) f) (drafting_on r ref number l ps t u s (s.blobs ++ inline_blob (leaf_change k p x)) d)
      | false ↦ λ f. TooMuch c.at Files (there ∙ ap (λ b. on (if b then Ok u else Err (Limit c.at Files))) f)
    ] refl
  where
    g : GivesLeaf s c.at k x
    g = gives_leaf s c.at k x names

    on : Result Flat StreamFault → Result Replay StreamFault
    on o = o >>= λ t. Ok (record s { blobs = s.blobs ++ inline_blob (leaf_change k p x); draft = Some (record { head = d.head; parents = ps; tree = t }) })

    there : step empty_base s c ≡ on (few_files c.at u)
    there =
        change_is r ref number l ps t s c (leaf_change k p x) d is
        ∙ ap (λ o. on (o >>= λ b. few_files c.at (put t p (LeafNode (leaf_of (leaf_mode x) b))))) g.given
        ∙ ap (λ y. on (few_files c.at (put t p (LeafNode y)))) g.leaf
        ∙ ap (λ u. on (few_files c.at u)) e

-- ---- a commit that is made

pub record Committed (r : Replay) (ref : Bytes) (number : ℕ) (c : Snapshot) (s : Replay) : Type 0 where
  pub commits : s.commits ≡ r.commits ++ c ∷ []
  pub branches : s.branches ≡ put_entry bytes_cmp ref (Some (snapshot_name c)) r.branches
  pub marks : s.marks ≡ (number, CommitMark (snapshot_name c)) ∷ r.marks
  pub tags : s.tags ≡ r.tags

pub end_step : (r : Replay) (ref : Bytes) (number : ℕ) (c : Snapshot) (s : Replay) (p : Placed) → Drafting r ref number c.letter c.parents c.tree s → p.command ≡ commands.CommitEnd →
    Steps (step empty_base s p) (Committed r ref number c)
end_step r ref number c s p d e =
    Stepped made
    (ap (command_step empty_base s p.at) e ∙ ap (λ o. or_refuse (Syntax p.at) o >>= λ d. Ok (committed s d)) d.draft
    ∙ ap (λ m. Ok (with_mark m (CommitMark (snapshot_name built)) (with_branch d.head.refname (Some (snapshot_name built)) (record s { commits = s.commits ++ built ∷ []; draft = None })))) d.mark)
    (record {
      commits = λ i. d.commits i ++ same i ∷ [];
      branches = λ i. put_entry bytes_cmp (d.refname i) (Some (snapshot_name (same i))) (d.branches i);
      marks = λ i. (number, CommitMark (snapshot_name (same i))) ∷ d.marks i;
      tags = d.tags;
    })
  where
    built : Snapshot
    built = commit_of (record { head = d.head; parents = c.parents; tree = c.tree })

    same : built ≡ c
    same = λ i. record { tree = c.tree; parents = c.parents; letter = d.letter i }

    made : Replay
    made = with_mark (Some number) (CommitMark (snapshot_name built)) (with_branch d.head.refname (Some (snapshot_name built)) (record s { commits = s.commits ++ built ∷ []; draft = None }))

-- ---- resets

pub reset_step : (s : Replay) (p : Placed) (ref : Bytes) → p.command ≡ commands.Reset ref None → step empty_base s p ≡ Ok (with_branch ref None s)
reset_step s p ref e = ap (command_step empty_base s p.at) e

-- a mark that names a commit
pub reset_number_step : (s : Replay) (k : ℕ) (p : Placed) (ref n : Bytes) → marked k s.marks ≡ Some (CommitMark n) → is_some (tree_of empty_base s n) ≡ true → is_reset ref k p.command →
    step empty_base s p ≡ Ok (with_branch ref (Some n) s)
reset_number_step s k p ref n m t h =
    ap (command_step empty_base s p.at) h.1 ∙ ap (λ o. (o >>= λ n. Ok (Some n)) >>= λ n. Ok (with_branch ref n s)) (known_number s k n h.0 m t h.2)
