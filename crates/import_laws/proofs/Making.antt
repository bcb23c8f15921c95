-- The objects that a replay brings.
use Rattle.std.proofs.Common.{◌≡◌, ℕ, true, List, [], ◌∷◌, ◌++◌, map, All, Contains, Option, None, Some, Ok, Err, inl, inr, refl, sym, subst, true≢false}
use Rattle.std.specs.Prelude.{◌⊎◌}
use Rattle.std.specs.Cmp.{first_so, second_so}
use Rattle.std.specs.List.{flat_map, list_all, list_any}
use Rattle.std.specs.Option.{option_to_list}
use Rattle.std.proofs.lemmas.List.Elements.{All-contains}
use Rattle.git_objects.specs.Lists.{Each}
use Rattle.git_objects.specs.Paths.{Bytes, Path, same_bytes}
use Rattle.git_objects.specs.Results.{◌>>=◌, or_refuse}
use Rattle.git_objects.specs.Snapshots.{Snapshot}
use Rattle.git_objects.specs.Trees.{Leaf, FileLeaf, ExecLeaf, LinkLeaf, ModuleLeaf, Flat, under}
use Rattle.object_store.specs.Objects.{Object, IsStore}
use Rattle.object_store.specs.StoredSnapshots.{snapshot_object}
use Rattle.object_store.specs.TreeObjects.{leaf_objects, tree_objects}
use Rattle.fast_import.specs.Made.{IsMadeAt, IsMadeBy, IsMadeOf, IsMadeOn, blob_object, tree_object}
use Rattle.tag_objects.specs.TagLists.{put_tag}
use Rattle.fast_import.specs.Replays.{Base, BlobMark, CommitMark, Draft, Marked, Replay, begun, commit_of, committed, command_step, edited, first_parent, gone_on, inline_blob, nothing_yet, ran_by, said, step, with_branch, with_mark, with_merges, TagMark, known, tag_of, tagged}
use Rattle.stream_reader.specs.declared.command.Command.{Command}
use Rattle.stream_reader.specs.declared.command.Command.TheVariants as commands
use Rattle.stream_reader.specs.declared.command.CommitHead.{CommitHead}
use Rattle.stream_reader.specs.declared.command.Placed.{Placed}
use Rattle.stream_reader.specs.declared.fault.StreamFault.{StreamFault}
use Rattle.stream_reader.specs.declared.fault.StreamFault.TheVariants.{Syntax}
use Rattle.state_items.specs.Items.{Held}
use Rattle.state_items.specs.Repos.{repo}
use Rattle.state_items.specs.Changes.{commit_objects, objects_of}
use Rattle.state_items.specs.Imported.{AreWhole, has_leaves}
use Rattle.state_items.proofs.Imports.{any-cases}
use Rattle.state_items.proofs.InHand.{any-member, known-held}
use Rattle.state_items.proofs.ReadObjects.{ok-same, value-of}
use Rattle.state_items.proofs.TreeParts.{all-each, each-map, each-member, tree-each}
use Rattle.state_items.proofs.TreesHeld.{each-both}
use Rattle.state_items.proofs.Twices.{clash-twice}
use Rattle.import_laws.specs.Bases.{base_of}
use Rattle.import_laws.specs.MadeObjects.{ClashLaw, IsHeldOrMade, MadeLaw}
use Rattle.import_laws.specs.Replayed.{end_of}
use Rattle.import_laws.specs.SoundCommands.{IsSound}
use Rattle.import_laws.proofs.Replaying.{replayed-law}
use Rattle.import_laws.proofs.TreeReplaying.{refuse-value}

module _ (base : Base) (P : Object → Type 0) where
  -- a commit, its tree, and what lies below a path of its tree
  record IsCommitIn (c : Snapshot) : Type 0 where
    commit : P (snapshot_object c)
    trees : (p : Path) → P (tree_object (under c.tree p))

  -- each blob that was read, and each commit that was made
  record Holds (r : Replay) : Type 0 where
    blobs : Each (λ b. P (blob_object b)) r.blobs
    commits : Each IsCommitIn r.commits

  mark-holds : (m : Option ℕ) (x : Marked) (r : Replay) → Holds r → Holds (with_mark m x r)
  mark-holds None x r i = i
  mark-holds (Some n) x r i = record { blobs = i.blobs; commits = i.commits }

  inline-each : (bs : List Bytes) → ((o : Object) → Rattle.fast_import.specs.Made.IsBlobAmong bs o → P o) → Each (λ b. P (blob_object b)) bs
  inline-each bs f = each-map (Contains bs) (λ b. P (blob_object b)) bs (λ b m. f (blob_object b) (b, m, refl)) (each-member bs)

  begun-holds : (r q : Replay) (d : CommitHead) → Holds r → command_step base r 0 (commands.Commit d) ≡ Ok q → Holds q
  begun-holds r q d i e =
      let f = value-of (first_parent base r d) (λ first. with_merges base r (option_to_list first) d.merges >>= λ parents. Ok (begun base r d first parents)) q e in
      let m = value-of (with_merges base r (option_to_list f.value) d.merges) (λ parents. Ok (begun base r d f.value parents)) q f.rest in
      subst Holds (ok-same (begun base r d f.value m.value) q m.rest) (record { blobs = i.blobs; commits = i.commits })

  committed-holds : (r : Replay) (d : Draft) → Holds r → ((o : Object) → IsMadeOf (Some d) o → P o) → Holds (committed r d)
  committed-holds r d i f =
      let c = commit_of d in
      mark-holds d.head.mark (CommitMark _) _ (record {
        blobs = i.blobs;
        commits = each-both IsCommitIn r.commits (c ∷ []) i.commits (record { commit = f (snapshot_object c) (inl refl); trees = λ p. f (tree_object (under d.tree p)) (inr (p, refl)) }, tt);
      })

  step-holds : (r q : Replay) (at : ℕ) (c : Command) → Holds r → ((o : Object) → IsMadeAt r c o → P o) → command_step base r at c ≡ Ok q → Holds q
  step-holds r q at (commands.Blob m b) i f e =
      let next : Replay = record r { blobs = r.blobs ++ b ∷ [] } in
      subst Holds (ok-same (with_mark m (BlobMark b) next) q e)
      (mark-holds m (BlobMark b) next (record { blobs = each-both (λ b. P (blob_object b)) r.blobs (b ∷ []) i.blobs (f (blob_object b) refl, tt); commits = i.commits }))
  step-holds r q at (commands.Commit d) i f e = begun-holds r q d i e
  step-holds r q at (commands.Change c) i f e =
      let d = value-of (or_refuse (Syntax at) r.draft) (λ d. edited base r at d.tree c >>= λ t. Ok (record r { blobs = r.blobs ++ inline_blob c; draft = Some (record d { tree = t }) })) q e in
      let t = value-of (edited base r at d.value.tree c) (λ t. Ok (record r { blobs = r.blobs ++ inline_blob c; draft = Some (record d.value { tree = t }) })) q d.rest in
      let next : Replay = record r { blobs = r.blobs ++ inline_blob c; draft = Some (record d.value { tree = t.value }) } in
      subst Holds (ok-same next q t.rest) (record { blobs = each-both (λ b. P (blob_object b)) r.blobs (inline_blob c) i.blobs (inline-each (inline_blob c) f); commits = i.commits })
  step-holds r q at commands.CommitEnd i f e =
      let d = value-of (or_refuse (Syntax at) r.draft) (λ d. Ok (committed r d)) q e in
      let there = refuse-value (Syntax at) r.draft d.value d.was in
      subst Holds (ok-same (committed r d.value) q d.rest) (committed-holds r d.value i (λ o m. f o (subst (λ x. IsMadeOf x o) (sym there) m)))
  step-holds r q at (commands.Reset refname from) i f e =
      let n = value-of (said base r from) (λ n. Ok (with_branch refname n r)) q e in
      subst Holds (ok-same (with_branch refname n.value r) q n.rest) (record { blobs = i.blobs; commits = i.commits })
  step-holds r q at (commands.Tag g) i f e =
      let n = value-of (known base r g.from) (λ n. Ok (tagged g n r)) q e in
      subst Holds (ok-same (tagged g n.value r) q n.rest) (mark-holds g.mark TagMark (record r { tags = put_tag (tag_of g n.value) r.tags }) (record { blobs = i.blobs; commits = i.commits }))
  step-holds r q at commands.Done i f e = subst Holds (ok-same r q e) i

  ran-holds : (ps : List Placed) (end : Option StreamFault) (r : Replay) → Holds r → ((o : Object) → IsMadeBy base r ps o → P o) → Holds (ran_by (step base) end r ps).state
  ran-holds [] end r i f = i
  ran-holds (p ∷ ps) end r i f =
      elim (step base r p) as (λ x. step base r p ≡ x → ((o : Object) → (IsMadeAt r p.command o ⊎ IsMadeOn (λ s. IsMadeBy base s ps o) x) → P o) → Holds (gone_on p r (λ s. ran_by (step base) end s ps) x).state) [
        | Ok q ↦ λ e g. ran-holds ps end q (step-holds r q p.at p.command i (λ o m. g o (inl m)) e) (λ o m. g o (inr m))
        | Err f ↦ λ e g. i
      ] refl f

-- ---- the law

module _ (h : Held) (ps : List Placed) (end : Option StreamFault) (s : IsStore h.objects) (v : All (λ p. IsSound p.command) ps) where
  abbrev Hand : Object → Type 0
  Hand o = IsHeldOrMade h ps o

  abbrev r : Replay
  r = end_of h ps end

  holds : Holds (base_of h) Hand r
  holds = ran-holds (base_of h) Hand ps end nothing_yet (record { blobs = tt; commits = tt }) (λ o m. inr m)

  blob-among : (b : Bytes) (bs : List Bytes) → Each (λ b. Hand (blob_object b)) bs → list_any (same_bytes b) bs ≡ true → Hand (blob_object b)
  blob-among b [] i e = absurd (true≢false (sym e))
  blob-among b (x ∷ bs) i e = All-contains (λ b. Hand (blob_object b)) (x ∷ bs) b (all-each (λ b. Hand (blob_object b)) (x ∷ bs) i) (any-member b (x ∷ bs) e)

  pool-hand : (b : Bytes) → list_any (same_bytes b) (r.blobs ++ (repo h).blobs) ≡ true → Hand (blob_object b)
  pool-hand b e = any-cases (same_bytes b) r.blobs (repo h).blobs (Hand (blob_object b)) e (blob-among b r.blobs holds.blobs) (λ k. inl (known-held b h.objects k))

  leaf-hand : (x : Leaf) → list_all (λ (o : Object). list_any (same_bytes o.body) (r.blobs ++ (repo h).blobs)) (leaf_objects x) ≡ true → Each Hand (leaf_objects x)
  leaf-hand (FileLeaf b) e = (pool-hand b (first_so _ _ e), tt)
  leaf-hand (ExecLeaf b) e = (pool-hand b (first_so _ _ e), tt)
  leaf-hand (LinkLeaf b) e = (pool-hand b (first_so _ _ e), tt)
  leaf-hand (ModuleLeaf n) e = tt

  leaves-hand : (t : Flat) → has_leaves (r.blobs ++ (repo h).blobs) t ≡ true → Each (λ e. Each Hand (leaf_objects e.1)) t
  leaves-hand [] e = tt
  leaves-hand (d ∷ t) e = (leaf-hand d.1 (first_so _ _ e), leaves-hand t (second_so (list_all (λ o. list_any (same_bytes o.body) (r.blobs ++ (repo h).blobs)) (leaf_objects d.1)) _ e))

  commits-hand : (cs known : List Snapshot) → Each (IsCommitIn (base_of h) Hand) cs → AreWhole known cs → list_all (λ (c : Snapshot). has_leaves (r.blobs ++ (repo h).blobs) c.tree) cs ≡ true → Each Hand (flat_map commit_objects cs)
  commits-hand [] known i w l = tt
  commits-hand (c ∷ cs) known i w l =
      each-both Hand (commit_objects c) (flat_map commit_objects cs)
      (each-both Hand (tree_objects c.tree) (snapshot_object c ∷ []) (tree-each Hand c.tree w.0.tree (leaves-hand c.tree (first_so _ _ l)) i.0.trees) (i.0.commit, tt))
      (commits-hand cs (c ∷ known) i.1 w.2 (second_so (has_leaves (r.blobs ++ (repo h).blobs) c.tree) _ l))

  blobs-hand : (bs : List Bytes) → Each (λ b. Hand (blob_object b)) bs → Each Hand (map blob_object bs)
  blobs-hand [] i = tt
  blobs-hand (b ∷ bs) i = (i.0, blobs-hand bs i.1)

  all-hand : Each Hand (h.objects ++ objects_of r.blobs r.commits)
  all-hand =
      let w = replayed-law h ps end s v in
      each-both Hand h.objects (objects_of r.blobs r.commits) (each-map (Contains h.objects) Hand h.objects (λ o m. inl m) (each-member h.objects))
      (each-both Hand (map blob_object r.blobs) (flat_map commit_objects r.commits) (blobs-hand r.blobs holds.blobs) (commits-hand r.commits (repo h).commits holds.commits w.commits w.leaves))

pub made-law : MadeLaw
made-law h ps end s v o m = All-contains (IsHeldOrMade h ps) _ o (all-each (IsHeldOrMade h ps) _ (all-hand h ps end s v)) m

pub clash-law : ClashLaw
clash-law h ps S n g c = clash-twice (IsMadeBy (base_of h) nothing_yet ps) h.objects S n g c
