-- What a stream gives that has no fault, and its tags beside what it brings.
use Rattle.std.proofs.Common.{◌≡◌, true, false, ◌||◌, List, [], ◌∷◌, ◌++◌, map, length, Option, None, Some, Ok, refl, sym, ap, ap₂, subst, ◌∙◌, true≢false}
use Rattle.std.specs.Prelude.{if◌then◌else◌}
use Rattle.std.specs.List.{flat_map, list_all}
use Rattle.std.specs.Option.{is_some}
use Rattle.std.specs.Result.{IsOkAnd}
use Rattle.std.proofs.lemmas.Bool.{le-leb}
use Rattle.std.proofs.lemmas.Option.{same_Some}
use Rattle.git_objects.specs.Commits.{commit_name}
use Rattle.git_objects.specs.Lists.{Each}
use Rattle.git_objects.specs.Paths.{Bytes, same_bytes}
use Rattle.git_objects.specs.Results.{◌>>=◌}
use Rattle.git_objects.specs.Snapshots.{Snapshot, snapshot_name}
use Rattle.git_objects.specs.declared.kind.Kind.{Kind}
use Rattle.git_objects.specs.declared.kind.Kind.TheVariants.{Commit as CommitKind}
use Rattle.git_objects.specs.declared.limits.TheConstants.{MESSAGE_BYTES}
use Rattle.git_objects.specs.declared.name.Name.{Name}
use Rattle.git_objects.proofs.Basics.{and_both}
use Rattle.object_store.specs.Objects.{IsStore, Object, has, is_named}
use Rattle.object_store.specs.StoredSnapshots.{snapshot_object}
use Rattle.object_store.specs.TreeObjects.{tree_objects}
use Rattle.object_store.proofs.Held.{has-above}
use Rattle.tag_objects.specs.declared.tag.Tag.{Tag}
use Rattle.stream_reader.specs.Verdicts.{tagged_start}
use Rattle.stream_reader.specs.declared.fault.StreamFault.{StreamFault}
use Rattle.fast_import.specs.Replays.{Base, Replay, TaggedReplayed, given_by, named_tree, outcome_of, replay_in, tagged_given, tagged_replay, value_at}
use Rattle.fast_import.specs.Standing.{IsReplayedOf, IsTaggedReplayedOf}
use Rattle.fast_import.specs.TagLaws.{AreReplayedTags, IsReplayedTag, ReplayedTagsLaw}
use Rattle.fast_import.specs.declared.replayed.TaggedReplay.{TaggedReplay as TaggedNames}
use Rattle.projection_ground.specs.Grounds.{IsGround}
use Rattle.state_items.specs.Appending.{are_tags}
use Rattle.state_items.specs.Changes.{blob_object, commit_objects, objects_of}
use Rattle.state_items.specs.Imported.{is_among}
use Rattle.state_items.specs.Items.{Held}
use Rattle.state_items.specs.Repos.{repo}
use Rattle.state_items.proofs.HeldTags.{is_right, tags-of}
use Rattle.import_laws.specs.Bases.{base_of}
use Rattle.repo_ground.specs.Changes.{AreNamedIn, IsBatchOf}
use Rattle.repo_ground.specs.Contents.{Contents}
use Rattle.repo_ground.specs.declared.commit.Batch.{Batch}
use Rattle.repo_ground.proofs.CommitGraphs.{has-commit}
use Rattle.proj_commands.specs.Import.{tagged_ran}
use Rattle.proj_commands.proofs.StateBases.{state-base-is}
use Rattle.proj_commands.proofs.Staying.{among-has}

-- ---- what is given

-- The stream has no fault, and the names of the code stand for what it gives.
pub record IsGivenNames (base : Base) (all : Bytes) (S : List Object) (g : TaggedNames) : Type 0 where
  pub given : replay_in tagged_start base all ≡ Ok (given_by (tagged_ran base all).state)
  pub stand : IsReplayedOf S g.replayed (given_by (tagged_ran base all).state)
  pub tags : g.tags.items ≡ (tagged_ran base all).state.tags

ok-given : (r : Replay) (fault : Option StreamFault) (P : TaggedReplayed → Type 0) → IsOkAnd (outcome_of r fault >>= λ x. Ok (record { replayed = x; tags = r.tags })) P
    → (outcome_of r fault ≡ Ok (given_by r)) × P (tagged_given r)
ok-given r None P h = (refl, h)
ok-given r (Some f) P h = absurd h

pub is-given : (base : Base) (all : Bytes) (S : List Object) (g : TaggedNames) → IsOkAnd (tagged_replay base all) (IsTaggedReplayedOf S g) → IsGivenNames base all S g
is-given base all S g h =
    let w = ok-given (tagged_ran base all).state (tagged_ran base all).fault (IsTaggedReplayedOf S g) h in
    record { given = w.0; stand = w.1.replayed; tags = w.1.tags }

-- its tags are such as a stream's are
pub given-tags : ReplayedTagsLaw → (base : Base) (all : Bytes) (S : List Object) (g : TaggedNames) → IsGivenNames base all S g → AreReplayedTags base (tagged_ran base all).state.commits g.tags.items
given-tags law base all S g w =
    let r : Replay = (tagged_ran base all).state in
    subst (AreReplayedTags base r.commits) (sym w.tags) (law base all (tagged_given r) (ap (λ o. o >>= λ x. Ok (record { replayed = x; tags = r.tags })) w.given))

-- ---- a commit that is there or brought

value-known : (n : Bytes) (cs : List Snapshot) → is_some (value_at n (map named_tree cs)) ≡ is_among cs n
value-known n [] = refl
value-known n (c ∷ cs) =
    elim (same_bytes (snapshot_name c) n) as (λ b. is_some (if b then Some c.tree else value_at n (map named_tree cs)) ≡ (b || is_among cs n)) [
      | true ↦ refl
      | false ↦ value-known n cs
    ]

value-among : (n : Bytes) (cs known : List Snapshot) → is_some (value_at n (map named_tree cs ++ map named_tree known)) ≡ (is_among cs n || is_among known n)
value-among n [] known = value-known n known
value-among n (c ∷ cs) known =
    elim (same_bytes (snapshot_name c) n) as (λ b. is_some (if b then Some c.tree else value_at n (map named_tree cs ++ map named_tree known)) ≡ ((b || is_among cs n) || is_among known n)) [
      | true ↦ refl
      | false ↦ value-among n cs known
    ]

-- what is among the first is among all
has-first : (os more : List Object) (k : Kind) (n : Bytes) → has k os n ≡ true → has k (os ++ more) n ≡ true
unfolding has
has-first [] more k n h = absurd (true≢false (sym h))
has-first (o ∷ os) more k n h =
    elim (is_named k o n) as (λ b. (b || has k os n) ≡ true → (b || has k (os ++ more) n) ≡ true) [
      | true ↦ λ g. refl
      | false ↦ λ g. has-first os more k n g
    ] h

-- a commit has the name of its object
has-own : (c : Snapshot) (n : Bytes) → same_bytes (snapshot_name c) n ≡ true → has CommitKind (snapshot_object c ∷ []) n ≡ true
unfolding has commit_name
has-own c n e = ap (λ b. b || false) e

has-brought : (cs : List Snapshot) (n : Bytes) → is_among cs n ≡ true → has CommitKind (flat_map commit_objects cs) n ≡ true
has-brought [] n h = absurd (true≢false (sym h))
has-brought (c ∷ cs) n h =
    elim (same_bytes (snapshot_name c) n) as (λ b. same_bytes (snapshot_name c) n ≡ b → (b || is_among cs n) ≡ true → has CommitKind (flat_map commit_objects (c ∷ cs)) n ≡ true) [
      | true ↦ λ e g. has-first (commit_objects c) (flat_map commit_objects cs) CommitKind n (has-above (tree_objects c.tree) (snapshot_object c ∷ []) CommitKind n (has-own c n e))
      | false ↦ λ e g. has-above (commit_objects c) (flat_map commit_objects cs) CommitKind n (has-brought cs n g)
    ] refl h

has-all : (H : List Object) (blobs : List Bytes) (cs : List Snapshot) (n : Bytes) → (is_among cs n || has CommitKind H n) ≡ true → has CommitKind (objects_of blobs cs ++ H) n ≡ true
has-all H blobs cs n h =
    elim (is_among cs n) as (λ b. is_among cs n ≡ b → (b || has CommitKind H n) ≡ true → has CommitKind (objects_of blobs cs ++ H) n ≡ true) [
      | true ↦ λ e g. has-first (objects_of blobs cs) H CommitKind n (has-above (map blob_object blobs) (flat_map commit_objects cs) CommitKind n (has-brought cs n e))
      | false ↦ λ e g. has-above (objects_of blobs cs) H CommitKind n g
    ] refl h

-- ---- tags of such commits

module _ (h : Held) (store : IsStore h.objects) (blobs : List Bytes) (cs : List Snapshot) where
  abbrev beside : List Object
  beside = objects_of blobs cs ++ h.objects

  target-there : (n : Bytes) → is_some (value_at n (map named_tree cs ++ (base_of h).commits)) ≡ true → has CommitKind beside n ≡ true
  target-there n e =
      has-all h.objects blobs cs n
      (ap (λ b. is_among cs n || b) (sym (among-has (repo h).commits n ∙ has-commit n h.objects store)) ∙ sym (value-among n cs (repo h).commits) ∙ e)

  tag-right : (t : Tag) → IsReplayedTag (base_of h) cs t → is_right beside t ≡ true
  tag-right t w = and_both (and_both (and_both w.name (target-there t.target.0 w.target)) w.tagger) (le-leb (length t.message) MESSAGE_BYTES w.message)

  all-right : (ts : List Tag) → Each (IsReplayedTag (base_of h) cs) ts → list_all (is_right beside) ts ≡ true
  all-right [] w = refl
  all-right (t ∷ ts) w = and_both (tag-right t w.0) (all-right ts w.1)

  pub tags-beside : (ts : List Tag) → AreReplayedTags (base_of h) cs ts → are_tags beside None ts ≡ true
  tags-beside ts w = tags-of beside None ts w.order (all-right ts w.each)

-- ---- beside a batch

-- names stand for the same commits
named-same : (S : List Object) (ns : List Name) (cs ds : List Snapshot) → AreNamedIn S ns cs → AreNamedIn S ns ds → cs ≡ ds
named-same S [] [] [] a b = refl
named-same S [] [] (d ∷ ds) a b = absurd b
named-same S [] (c ∷ cs) ds a b = absurd a
named-same S (n ∷ ns) [] ds a b = absurd a
named-same S (n ∷ ns) (c ∷ cs) [] a b = absurd b
named-same S (n ∷ ns) (c ∷ cs) (d ∷ ds) a b = ap₂ (λ x xs. x ∷ xs) (same_Some c d (sym a.0 ∙ b.0)) (named-same S ns cs ds a.2 b.2)

-- The tags of a stream upon what is held may stand beside its batch, whatever else this is a batch of.
pub batch-tags : (h k : Held) (s : Contents) (b : Batch) (bs ds : List Bytes) (cs es : List Snapshot) (ts : List Tag) → IsGround s.basis → IsBatchOf h s b bs cs → IsBatchOf k s b ds es → AreReplayedTags (base_of h) cs ts
    → are_tags (objects_of ds es ++ k.objects) None ts ≡ true
batch-tags h k s b bs ds cs es ts ground w y t =
    let base : base_of h ≡ base_of k = sym (state-base-is h s w.spells ground) ∙ state-base-is k s y.spells ground in
    tags-beside k y.spells.store ds es ts
    (subst (λ (x : Base). AreReplayedTags x es ts) base (subst (λ (xs : List Snapshot). AreReplayedTags (base_of h) xs ts) (named-same s.basis.store b.commits.items cs es w.named y.named) t))
