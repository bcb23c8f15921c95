-- What stays true in a replay of sound commands.
use Rattle.std.proofs.Common.{◌≡◌, ℕ, zero, suc, ◌/◌, ◌%◌, ◌≤◌, Bool, true, false, cond, ◌||◌, List, [], ◌∷◌, ◌++◌, length, map, reverse, get_or, All, Option, None, Some, Ok, Err, refl, sym, ap, subst, ◌∙◌, true≢false, arith, length-append}
use borrow.Author.Tests.{ltb-true}
use Rattle.std.specs.Prelude.{if◌then◌else◌, nat_lt, codes, filter_map}
use Rattle.std.specs.Cmp.{first_so, second_so}
use Rattle.std.specs.Cmp.Lexicographic.{bytes_decides}
use Rattle.std.specs.List.{list_all, list_any}
use Rattle.std.specs.Option.{is_some, option_and_then, option_map, option_or, option_to_list}
use Rattle.std.specs.FinMap.{find as find_entry, put as put_entry}
use Rattle.std.specs.FinMap.Entries.{by_order}
use Rattle.std.specs.Ordering.{eq_by_cmp}
use Rattle.std.specs.declared.cmp.Ordering.TheVariants.{Less, Equal, Greater}
use Rattle.std.proofs.lemmas.Bool.{or_right}
use Rattle.std.proofs.lemmas.List.{append_assoc, reverse-append}
use Rattle.std.proofs.lemmas.List.Elements.{All-head, All-tail}
use Rattle.hex.specs.Hex.{encode_with, lower_digits}
use Rattle.git_objects.specs.Paths.{Bytes, is_bytes, same_bytes}
use Rattle.git_objects.specs.Trees.{Flat, IsTree}
use Rattle.git_objects.specs.Names.{body}
use Rattle.git_objects.specs.Bodies.{is_name}
use Rattle.git_objects.specs.Commits.{Commit, commit_body, commit_name, field, hex, letter_text, parent_lines}
use Rattle.git_objects.specs.declared.kind.Kind.TheVariants.{Tree, Commit as CommitKind}
use Rattle.git_objects.specs.Lists.{Each}
use Rattle.git_objects.proofs.Basics.{and_both, same_bytes-self}
use Rattle.git_objects.proofs.Digests.{name-is_name}
use Rattle.path_names.specs.RefNames.{is_ref_name}
use Rattle.object_store.specs.Objects.{IsStore}
use Rattle.stream_reader.specs.declared.command.Command.{Command}
use Rattle.stream_reader.specs.declared.command.Command.TheVariants as commands
use Rattle.stream_reader.specs.declared.command.CommitHead.{CommitHead}
use Rattle.stream_reader.specs.declared.command.Placed.{Placed}
use Rattle.stream_reader.specs.declared.commit_ref.CommitRef.{CommitRef}
use Rattle.stream_reader.specs.declared.fault.StreamFault.{StreamFault}
use Rattle.stream_reader.specs.declared.fault.StreamFault.TheVariants.{Syntax, Unresolved, Limit}
use Rattle.git_objects.specs.declared.quantity.Quantity.TheVariants.{Parents}
use Rattle.git_objects.specs.Refs.{bytes_cmp}
use Rattle.git_objects.specs.Snapshots.{Snapshot, snapshot_commit, snapshot_name}
use Rattle.git_objects.specs.Results.{◌>>=◌, or_refuse, must}
use Rattle.state_items.specs.Items.{Held}
use Rattle.state_items.specs.Repos.{repo}
use Rattle.import_laws.specs.Bases.{base_of}
use Rattle.tag_objects.specs.TagLists.{put_tag}
use Rattle.fast_import.specs.Replays.{Base, BlobMark, CommitMark, Draft, Marked, Replay, begun, branch, commit_of, committed, command_step, edited, first_parent, gone_on, inline_blob, known, named_tree, nothing_yet, one_more, ran_by, said, step, target_name, tree_of, value_at, with_branch, with_mark, with_merges, TagMark, tag_of, tagged}
use Rattle.state_items.specs.Imported.{AreWhole, IsWhole, has_leaves, is_among, with_commits}
use Rattle.import_laws.specs.Replayed.{IsReplayed, ReplayedLaw}
use Rattle.import_laws.specs.SoundCommands.{IsSound, IsSoundHead}
use Rattle.state_items.proofs.Bringing.{any-back}
use Rattle.import_laws.proofs.EditLeaves.{IsGood, held-bytes, held-trees}
use Rattle.state_items.proofs.Imports.{any-front}
use Rattle.state_items.proofs.ReadObjects.{must-hold, ok-same, value-of}
use Rattle.state_items.proofs.TreesAdded.{bytes-both}
use Rattle.import_laws.proofs.TreeReplaying.{AreGood, IfGood, each-named, nothing-good, pool, step-good}
pub use Rattle.import_laws.proofs.TreeReplaying.{refuse-value}

-- ---- bodies of commits are bytes

digit-byte : (xs : Bytes) (k : ℕ) → is_bytes xs ≡ true → nat_lt (get_or xs k 0) 256 ≡ true
digit-byte [] k h = refl
digit-byte (x ∷ xs) zero h = first_so _ _ h
digit-byte (x ∷ xs) (suc k) h = digit-byte xs k (second_so (nat_lt x 256) _ h)

hex-bytes : (n : Bytes) → is_bytes (encode_with lower_digits n) ≡ true
unfolding encode_with
hex-bytes [] = refl
hex-bytes (b ∷ n) = and_both (digit-byte lower_digits (b / 16) refl) (and_both (digit-byte lower_digits (b % 16) refl) (hex-bytes n))

field-bytes : (word value rest : Bytes) → is_bytes word ≡ true → is_bytes value ≡ true → is_bytes rest ≡ true → is_bytes (field word value rest) ≡ true
field-bytes word value rest h g k = bytes-both word (32 ∷ (value ++ (10 ∷ rest))) h (bytes-both value (10 ∷ rest) g k)

parents-bytes : (ps : List Bytes) (rest : Bytes) → is_bytes rest ≡ true → is_bytes (parent_lines ps rest) ≡ true
parents-bytes [] rest h = h
parents-bytes (p ∷ ps) rest h = field-bytes (codes "parent") (hex p) (parent_lines ps rest) refl (hex-bytes p) (parents-bytes ps rest h)

pub commit-bytes : (c : Commit) → is_bytes c.letter.author ≡ true → is_bytes c.letter.committer ≡ true → is_bytes c.letter.message ≡ true → is_bytes (commit_body c) ≡ true
unfolding commit_body
commit-bytes c a b m =
    field-bytes (codes "tree") (hex c.tree) (parent_lines c.parents (letter_text c.letter)) refl (hex-bytes c.tree)
    (parents-bytes c.parents (letter_text c.letter)
    (field-bytes (codes "author") c.letter.author (field (codes "committer") c.letter.committer (10 ∷ c.letter.message)) refl a (field-bytes (codes "committer") c.letter.committer (10 ∷ c.letter.message) refl b m)))

-- ---- names

pub among-name : (cs : List Snapshot) (n : Bytes) → is_among cs n ≡ true → is_name n ≡ true
unfolding commit_name
among-name [] n e = absurd (true≢false (sym e))
among-name (c ∷ cs) n e =
    elim (same_bytes (snapshot_name c) n) as (λ t. same_bytes (snapshot_name c) n ≡ t → (t || is_among cs n) ≡ true → is_name n ≡ true) [
      | true ↦ λ g k. ap is_name (sym ((bytes_decides (snapshot_name c) n).0 g)) ∙ name-is_name CommitKind (commit_body (snapshot_commit c))
      | false ↦ λ g k. among-name cs n k
    ] refl e

among-names : (cs : List Snapshot) (ps : List Bytes) → list_all (is_among cs) ps ≡ true → list_all is_name ps ≡ true
among-names cs [] h = refl
among-names cs (p ∷ ps) h = and_both (among-name cs p (first_so _ _ h)) (among-names cs ps (second_so (is_among cs p) _ h))

any-reverse : (p : Snapshot → Bool) (xs : List Snapshot) → list_any p xs ≡ true → list_any p (reverse xs) ≡ true
any-reverse p [] h = h
any-reverse p (x ∷ xs) h =
    ap (list_any p) (reverse-append (x ∷ []) xs)
    ∙ elim (p x) as (λ t. p x ≡ t → (t || list_any p xs) ≡ true → list_any p (reverse xs ++ x ∷ []) ≡ true) [
      | true ↦ λ g k. any-back p (reverse xs) (x ∷ []) (ap (λ t. t || false) g)
      | false ↦ λ g k. any-front p (reverse xs) (x ∷ []) (any-reverse p xs k)
    ] refl h

value-among : (n : Bytes) (cs : List Snapshot) (rest : List (Bytes × Flat)) (R : Type 0) → is_some (value_at n (map named_tree cs ++ rest)) ≡ true → (is_among cs n ≡ true → R) → (is_some (value_at n rest) ≡ true → R) → R
value-among n [] rest R e f g = g e
value-among n (c ∷ cs) rest R e f g =
    elim (same_bytes (snapshot_name c) n) as (λ b. is_some (if b then Some c.tree else value_at n (map named_tree cs ++ rest)) ≡ true → ((b || is_among cs n) ≡ true → R) → R) [
      | true ↦ λ k u. u refl
      | false ↦ λ k u. value-among n cs rest R k u g
    ] e f

value-last : (n : Bytes) (cs : List Snapshot) → is_some (value_at n (map named_tree cs)) ≡ true → is_among cs n ≡ true
value-last n [] e = e
value-last n (c ∷ cs) e =
    elim (same_bytes (snapshot_name c) n) as (λ b. is_some (if b then Some c.tree else value_at n (map named_tree cs)) ≡ true → (b || is_among cs n) ≡ true) [
      | true ↦ λ k. refl
      | false ↦ λ k. value-last n cs k
    ] e

-- ---- what is looked up

abbrev IfHead : List Snapshot → Option Bytes → Type 0
IfHead cs None = Unit
IfHead cs (Some n) = is_among cs n ≡ true

abbrev IsHead : List Snapshot → Bytes × Option Bytes → Type 0
IsHead cs b = (is_ref_name b.0 ≡ true) × IfHead cs b.1

-- all but its tree
record IsDraft (cs : List Snapshot) (d : Draft) : Type 0 where
  head : IsSoundHead d.head
  parents : list_all (is_among cs) d.parents ≡ true
  few : length d.parents ≤ 16

abbrev IfDraft : List Snapshot → Option Draft → Type 0
IfDraft cs None = Unit
IfDraft cs (Some d) = IsDraft cs d

either-head : (cs : List Snapshot) (a b : Option Bytes) → IfHead cs a → IfHead cs b → IfHead cs (option_or a b)
either-head cs None b h g = g
either-head cs (Some n) b h g = h

branch-head : (cs : List Snapshot) (refname : Bytes) (bs : List (Bytes × Option Bytes)) → Each (IsHead cs) bs → IfHead cs (option_and_then (λ n. n) (find_entry bytes_cmp refname bs))
branch-head cs refname [] h = tt
branch-head cs refname (b ∷ bs) h =
    elim (eq_by_cmp bytes_cmp refname b.0) as (λ t. IfHead cs (option_and_then (λ n. n) (cond t (Some b.1) (find_entry bytes_cmp refname bs)))) [
      | true ↦ h.0.1
      | false ↦ branch-head cs refname bs h.1
    ]

put-heads : (cs : List Snapshot) (k : Bytes) (o : Option Bytes) (bs : List (Bytes × Option Bytes)) → is_ref_name k ≡ true → IfHead cs o → Each (IsHead cs) bs → Each (IsHead cs) (put_entry bytes_cmp k o bs)
put-heads cs k o [] g i h = ((g, i), tt)
put-heads cs k o (b ∷ bs) g i h =
    elim (bytes_cmp k b.0) as (λ r. Each (IsHead cs) (by_order r ((k, o) ∷ b ∷ bs) ((b.0, o) ∷ bs) (b ∷ put_entry bytes_cmp k o bs))) [
      | Less ↦ ((g, i), h)
      | Equal ↦ ((h.0.0, i), h.1)
      | Greater ↦ (h.0, put-heads cs k o bs g i h.1)
    ]

all-push : (cs : List Snapshot) (ps : List Bytes) (n : Bytes) → list_all (is_among cs) ps ≡ true → is_among cs n ≡ true → list_all (is_among cs) (ps ++ n ∷ []) ≡ true
all-push cs [] n h g = and_both g refl
all-push cs (p ∷ ps) n h g = and_both (first_so _ _ h) (all-push cs ps n (second_so (is_among cs p) _ h) g)

-- ---- what stays true

module _ (h : Held) (s : IsStore h.objects) where
  abbrev K : List Snapshot
  K = (repo h).commits

  abbrev base : Base
  base = base_of h

  abbrev made : Replay → List Snapshot
  made r = reverse r.commits ++ K

  -- the commits with their parents, the branches, and the first lines of the commit that is being made
  record Inv (r : Replay) : Type 0 where
    commits : AreWhole K r.commits
    heads : Each (IsHead (made r)) r.branches
    drafted : IfDraft (made r) r.draft

  tree-made : (r : Replay) (n : Bytes) → is_some (tree_of base r n) ≡ true → is_among (made r) n ≡ true
  tree-made r n e =
      value-among n r.commits (map named_tree K) (is_among (made r) n ≡ true) e
      (λ k. any-front (λ c. same_bytes (snapshot_name c) n) (reverse r.commits) K (any-reverse (λ c. same_bytes (snapshot_name c) n) r.commits k))
      (λ k. any-back (λ c. same_bytes (snapshot_name c) n) (reverse r.commits) K (value-last n K k))

  known-made : (r : Replay) (c : CommitRef) (n : Bytes) → known base r c ≡ Ok n → is_among (made r) n ≡ true
  known-made r c n e =
      let v = value-of (or_refuse (Unresolved c.at) (target_name base r c.target)) (λ n. must (Unresolved c.at) (is_some (tree_of base r n)) >>= λ _. Ok n) n e in
      let m = must-hold (Unresolved c.at) (is_some (tree_of base r v.value)) (λ _. Ok v.value) n v.rest in
      ap (is_among (made r)) (sym (ok-same v.value n m.1)) ∙ tree-made r v.value m.0

  said-made : (r : Replay) (o : Option CommitRef) (x : Option Bytes) → said base r o ≡ Ok x → IfHead (made r) x
  said-made r None x e = subst (IfHead (made r)) (ok-same None x e) tt
  said-made r (Some c) x e =
      let v = value-of (known base r c) (λ n. Ok (Some n)) x e in
      subst (IfHead (made r)) (ok-same (Some v.value) x v.rest) (known-made r c v.value v.was)

  first-made : (r : Replay) (d : CommitHead) (x : Option Bytes) → Inv r → first_parent base r d ≡ Ok x → IfHead (made r) x
  first-made r d x i e =
      let v = value-of (said base r d.from) (λ n. Ok (option_or n (branch r d.refname))) x e in
      subst (IfHead (made r)) (ok-same (option_or v.value (branch r d.refname)) x v.rest)
      (either-head (made r) v.value (branch r d.refname) (said-made r d.from v.value v.was) (branch-head (made r) d.refname r.branches i.heads))

  abbrev AreParents : Replay → List Bytes → Type 0
  AreParents r ps = (list_all (is_among (made r)) ps ≡ true) × (length ps ≤ 16)

  one-parent : (r : Replay) (at : ℕ) (ps : List Bytes) (n : Bytes) (qs : List Bytes) → AreParents r ps → is_among (made r) n ≡ true → one_more at ps n ≡ Ok qs → AreParents r qs
  one-parent r at ps n qs p a e =
      elim (nat_lt (length ps) 16) as (λ b. nat_lt (length ps) 16 ≡ b → (if b then Ok (ps ++ n ∷ []) else Err (Limit at Parents)) ≡ Ok qs → AreParents r qs) [
        | true ↦ λ g k.
            let lt = ltb-true (length ps) 16 g in
            let few : length (ps ++ n ∷ []) ≤ 16 = omega (arith, lt, length-append ps (n ∷ [])) in
            subst (AreParents r) (ok-same (ps ++ n ∷ []) qs k) (all-push (made r) ps n p.0 a, few)
        | false ↦ λ g k. absurd (no-parents (Limit at Parents) qs k)
      ] refl e
    where
      no-parents : (d : StreamFault) (u : List Bytes) → Err d ≡ Ok u → ⊥
      no-parents d u k = cc

  merges-made : (r : Replay) (ms : List CommitRef) (ps qs : List Bytes) → AreParents r ps → with_merges base r ps ms ≡ Ok qs → AreParents r qs
  merges-made r [] ps qs p e = subst (AreParents r) (ok-same ps qs e) p
  merges-made r (m ∷ ms) ps qs p e =
      let n = value-of (known base r m) (λ n. one_more m.at ps n >>= λ more. with_merges base r more ms) qs e in
      let o = value-of (one_more m.at ps n.value) (λ more. with_merges base r more ms) qs n.rest in
      merges-made r ms o.value qs (one-parent r m.at ps n.value o.value p (known-made r m n.value n.was) o.was) o.rest

  first-list : (r : Replay) (x : Option Bytes) → IfHead (made r) x → AreParents r (option_to_list x)
  first-list r None k = (refl, omega arith)
  first-list r (Some n) k = (and_both k refl, omega arith)

  -- a commit begins
  begun-sound : (r q : Replay) (d : CommitHead) → IsSoundHead d → Inv r → command_step base r 0 (commands.Commit d) ≡ Ok q → Inv q
  begun-sound r q d w i e =
      let f = value-of (first_parent base r d) (λ first. with_merges base r (option_to_list first) d.merges >>= λ parents. Ok (begun base r d first parents)) q e in
      let m = value-of (with_merges base r (option_to_list f.value) d.merges) (λ parents. Ok (begun base r d f.value parents)) q f.rest in
      let ps = merges-made r d.merges (option_to_list f.value) m.value (first-list r f.value (first-made r d f.value i f.was)) m.was in
      subst Inv (ok-same (begun base r d f.value m.value) q m.rest) (record { commits = i.commits; heads = i.heads; drafted = record { head = w; parents = ps.0; few = ps.1 } })

  -- ---- marks and branches

  mark-sound : (r : Replay) (m : Option ℕ) (x : Marked) → Inv r → Inv (with_mark m x r)
  mark-sound r None x i = i
  mark-sound r (Some n) x i = record { commits = i.commits; heads = i.heads; drafted = i.drafted }

  branch-sound : (r : Replay) (refname : Bytes) (o : Option Bytes) → Inv r → is_ref_name refname ≡ true → IfHead (made r) o → Inv (with_branch refname o r)
  branch-sound r refname o i v k = record { commits = i.commits; heads = put-heads (made r) refname o r.branches v k i.heads; drafted = i.drafted }

  -- ---- a commit is made

  whole-push : (cs known : List Snapshot) (c : Snapshot) → AreWhole known cs → IsWhole c → list_all (is_among (reverse cs ++ known)) c.parents ≡ true → AreWhole known (cs ++ c ∷ [])
  whole-push [] known c w v p = (v, p, tt)
  whole-push (d ∷ cs) known c w v p =
      let same : reverse (d ∷ cs) ++ known ≡ reverse cs ++ (d ∷ known) = ap (λ (x : List Snapshot). x ++ known) (reverse-append (d ∷ []) cs) ∙ append_assoc (reverse cs) (d ∷ []) known in
      (w.0, w.1, whole-push cs (d ∷ known) c w.2 v (ap (λ (x : List Snapshot). list_all (is_among x) c.parents) (sym same) ∙ p))

  whole-made : (r : Replay) (d : Draft) → IsTree d.tree → IsDraft (made r) d → IsWhole (commit_of d)
  whole-made r d t w = record {
    tree = t;
    body = record {
      tree = name-is_name Tree (body d.tree);
      parents = among-names (made r) d.parents w.parents;
      few = w.few;
      author = w.head.author;
      committer = w.head.committer;
      spelled = refl;
    };
    bytes = commit-bytes (snapshot_commit (commit_of d)) w.head.author_bytes w.head.committer_bytes w.head.message;
  }

  heads-more : (cs : List Snapshot) (c : Snapshot) (bs : List (Bytes × Option Bytes)) → Each (IsHead cs) bs → Each (IsHead (c ∷ cs)) bs
  heads-more cs c [] k = tt
  heads-more cs c ((n, None) ∷ bs) k = ((k.0.0, tt), heads-more cs c bs k.1)
  heads-more cs c ((n, Some m) ∷ bs) k = ((k.0.0, or_right (same_bytes (snapshot_name c) m) (is_among cs m) k.0.1), heads-more cs c bs k.1)

  made-push : (r : Replay) (c : Snapshot) → made (record r { commits = r.commits ++ c ∷ []; draft = None }) ≡ c ∷ made r
  made-push r c = ap (λ (x : List Snapshot). x ++ K) (reverse-append r.commits (c ∷ []))

  committed-sound : (r : Replay) (d : Draft) → Inv r → IsTree d.tree → IsDraft (made r) d → Inv (committed r d)
  committed-sound r d i t w =
      let c = commit_of d in
      let n = snapshot_name c in
      let next : Replay = record r { commits = r.commits ++ c ∷ []; draft = None } in
      let same = made-push r c in
      let there : is_among (made next) n ≡ true = ap (λ (x : List Snapshot). is_among x n) same ∙ ap (λ t. t || is_among (made r) n) (same_bytes-self n) in
      let sound : Inv next = record {
        commits = whole-push r.commits K c i.commits (whole-made r d t w) w.parents;
        heads = subst (λ (x : List Snapshot). Each (IsHead x) r.branches) (sym same) (heads-more (made r) c r.branches i.heads);
        drafted = tt;
      } in
      mark-sound (with_branch d.head.refname (Some n) next) d.head.mark (CommitMark n) (branch-sound next d.head.refname (Some n) sound w.head.refname there)

  -- ---- one command

  step-inv : (r q : Replay) (at : ℕ) (c : Command) → IsSound c → AreGood base r → Inv r → command_step base r at c ≡ Ok q → Inv q
  step-inv r q at (commands.Blob m b) v g i e =
      let next : Replay = record r { blobs = r.blobs ++ b ∷ [] } in
      subst Inv (ok-same (with_mark m (BlobMark b) next) q e) (mark-sound next m (BlobMark b) (record { commits = i.commits; heads = i.heads; drafted = i.drafted }))
  step-inv r q at (commands.Commit d) v g i e = begun-sound r q d v i e
  step-inv r q at (commands.Change c) v g i e =
      let d = value-of (or_refuse (Syntax at) r.draft) (λ d. edited base r at d.tree c >>= λ t. Ok (record r { blobs = r.blobs ++ inline_blob c; draft = Some (record d { tree = t }) })) q e in
      let t = value-of (edited base r at d.value.tree c) (λ t. Ok (record r { blobs = r.blobs ++ inline_blob c; draft = Some (record d.value { tree = t }) })) q d.rest in
      let w : IsDraft (made r) d.value = subst (IfDraft (made r)) (refuse-value (Syntax at) r.draft d.value d.was) i.drafted in
      let next : Replay = record r { blobs = r.blobs ++ inline_blob c; draft = Some (record d.value { tree = t.value }) } in
      subst Inv (ok-same next q t.rest) (record { commits = i.commits; heads = i.heads; drafted = record { head = w.head; parents = w.parents; few = w.few } })
  step-inv r q at commands.CommitEnd v g i e =
      let d = value-of (or_refuse (Syntax at) r.draft) (λ d. Ok (committed r d)) q e in
      let there = refuse-value (Syntax at) r.draft d.value d.was in
      let t : IsGood (pool base r) d.value.tree = subst (IfGood (pool base r)) there g.drafted in
      subst Inv (ok-same (committed r d.value) q d.rest) (committed-sound r d.value i t.0 (subst (IfDraft (made r)) there i.drafted))
  step-inv r q at (commands.Reset refname from) v g i e =
      let n = value-of (said base r from) (λ n. Ok (with_branch refname n r)) q e in
      subst Inv (ok-same (with_branch refname n.value r) q n.rest) (branch-sound r refname n.value i v (said-made r from n.value n.was))
  step-inv r q at (commands.Tag h) v g i e =
      let n = value-of (known base r h.from) (λ n. Ok (tagged h n r)) q e in
      subst Inv (ok-same (tagged h n.value r) q n.rest) (mark-sound (record r { tags = put_tag (tag_of h n.value) r.tags }) h.mark TagMark (record { commits = i.commits; heads = i.heads; drafted = i.drafted }))
  step-inv r q at commands.Done v g i e = subst Inv (ok-same r q e) i

  abbrev Sound : Replay → Type 0
  Sound r = AreGood base r × Inv r

  step-sound : (r q : Replay) (at : ℕ) (c : Command) → IsSound c → Sound r → command_step base r at c ≡ Ok q → Sound q
  step-sound r q at c v i e =
      (step-good base (held-bytes h.objects s) (each-named (IsGood base.blobs) K (held-trees h.objects s)) r q at c v i.0 e, step-inv r q at c v i.0 i.1 e)

  -- ---- a whole stream

  ran-sound : (ps : List Placed) (end : Option StreamFault) (r : Replay) → Sound r → All (λ p. IsSound p.command) ps → Sound (ran_by (step base) end r ps).state
  ran-sound [] end r i v = i
  ran-sound (p ∷ ps) end r i v =
      elim (step base r p) as (λ o. step base r p ≡ o → Sound (gone_on p r (λ s. ran_by (step base) end s ps) o).state) [
        | Ok q ↦ λ e. ran-sound ps end q (step-sound r q p.at p.command (All-head (λ p. IsSound p.command) p ps v) i e) (All-tail (λ p. IsSound p.command) p ps v)
        | Err f ↦ λ e. i
      ] refl

  nothing-sound : Sound nothing_yet
  nothing-sound = (nothing-good base, record { commits = tt; heads = tt; drafted = tt })

  leaves-of : (q : List Bytes) (cs : List Snapshot) → Each (λ c. IsGood q c.tree) cs → list_all (λ c. has_leaves q c.tree) cs ≡ true
  leaves-of q [] g = refl
  leaves-of q (c ∷ cs) g = and_both g.0.1 (leaves-of q cs g.1)

  -- a commit that is there or was made is among those after it
  among-known : (cs known : List Snapshot) (n : Bytes) → is_among known n ≡ true → is_among (with_commits known cs) n ≡ true
  among-known [] known n e = e
  among-known (c ∷ cs) known n e =
      among-known cs (if is_among known (snapshot_name c) then known else c ∷ known) n
      (elim (is_among known (snapshot_name c)) as (λ t. is_among (if t then known else c ∷ known) n ≡ true) [ true ↦ e | false ↦ or_right (same_bytes (snapshot_name c) n) (is_among known n) e ])

  among-own : (known : List Snapshot) (c : Snapshot) → is_among (if is_among known (snapshot_name c) then known else c ∷ known) (snapshot_name c) ≡ true
  among-own known c =
      elim (is_among known (snapshot_name c)) as (λ t. is_among known (snapshot_name c) ≡ t → is_among (if t then known else c ∷ known) (snapshot_name c) ≡ true) [
        | true ↦ λ e. e
        | false ↦ λ e. ap (λ t. t || is_among known (snapshot_name c)) (same_bytes-self (snapshot_name c))
      ] refl

  among-after : (cs known : List Snapshot) (n : Bytes) → is_among (reverse cs ++ known) n ≡ true → is_among (with_commits known cs) n ≡ true
  among-after [] known n e = e
  among-after (c ∷ cs) known n e =
      let next = if is_among known (snapshot_name c) then known else c ∷ known in
      let same : reverse (c ∷ cs) ++ known ≡ reverse cs ++ (c ∷ known) = ap (λ (x : List Snapshot). x ++ known) (reverse-append (c ∷ []) cs) ∙ append_assoc (reverse cs) (c ∷ []) known in
      among-after cs next n (swap (reverse cs) (c ∷ known) next n (one next) (ap (λ (x : List Snapshot). is_among x n) (sym same) ∙ e))
    where
      one : (next : List Snapshot) → is_among (c ∷ known) n ≡ true → is_among (if is_among known (snapshot_name c) then known else c ∷ known) n ≡ true
      one next k =
          elim (same_bytes (snapshot_name c) n) as (λ t. same_bytes (snapshot_name c) n ≡ t → (t || is_among known n) ≡ true → is_among (if is_among known (snapshot_name c) then known else c ∷ known) n ≡ true) [
            | true ↦ λ g w. ap (is_among (if is_among known (snapshot_name c) then known else c ∷ known)) (sym ((bytes_decides (snapshot_name c) n).0 g)) ∙ among-own known c
            | false ↦ λ g w. elim (is_among known (snapshot_name c)) as (λ t. is_among (if t then known else c ∷ known) n ≡ true) [ true ↦ w | false ↦ or_right (same_bytes (snapshot_name c) n) (is_among known n) w ]
          ] refl k

      swap : (xs ys zs : List Snapshot) (n : Bytes) → (is_among ys n ≡ true → is_among zs n ≡ true) → is_among (xs ++ ys) n ≡ true → is_among (xs ++ zs) n ≡ true
      swap [] ys zs n f k = f k
      swap (x ∷ xs) ys zs n f k =
          elim (same_bytes (snapshot_name x) n) as (λ t. (t || is_among (xs ++ ys) n) ≡ true → (t || is_among (xs ++ zs) n) ≡ true) [
            | true ↦ λ w. refl
            | false ↦ λ w. swap xs ys zs n f w
          ] k

  heads-names : (cs : List Snapshot) (bs : List (Bytes × Option Bytes)) → Each (IsHead cs) bs → list_all (λ (e : Bytes × Bytes). is_ref_name e.0) (filter_map (λ (b : Bytes × Option Bytes). option_map (λ n. (b.0, n)) b.1) bs) ≡ true
  heads-names cs [] k = refl
  heads-names cs ((m, None) ∷ bs) k = heads-names cs bs k.1
  heads-names cs ((m, Some n) ∷ bs) k = and_both k.0.0 (heads-names cs bs k.1)

  heads-among : (cs all : List Snapshot) (bs : List (Bytes × Option Bytes)) → ((n : Bytes) → is_among cs n ≡ true → is_among all n ≡ true) → Each (IsHead cs) bs →
      list_all (λ (e : Bytes × Bytes). is_among all e.1) (filter_map (λ (b : Bytes × Option Bytes). option_map (λ n. (b.0, n)) b.1) bs) ≡ true
  heads-among cs all [] f k = refl
  heads-among cs all ((m, None) ∷ bs) f k = heads-among cs all bs f k.1
  heads-among cs all ((m, Some n) ∷ bs) f k = and_both (f n k.0.1) (heads-among cs all bs f k.1)

  replayed : (ps : List Placed) (end : Option StreamFault) → All (λ p. IsSound p.command) ps → IsReplayed h (ran_by (step base) end nothing_yet ps).state
  replayed ps end v =
      let r : Replay = (ran_by (step base) end nothing_yet ps).state in
      let i = ran-sound ps end nothing_yet nothing-sound v in
      record {
        bytes = i.0.bytes;
        commits = i.1.commits;
        leaves = leaves-of (pool base r) r.commits i.0.trees;
        heads = record { names = heads-names (made r) r.branches i.1.heads; heads = heads-among (made r) (with_commits K r.commits) r.branches (λ n k. among-after r.commits K n k) i.1.heads };
      }

pub replayed-law : ReplayedLaw
replayed-law h ps end s v = replayed h s ps end v
