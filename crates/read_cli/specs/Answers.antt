-- When each outcome is answered, and what has then been written.
use Rattle.std.specs.Prelude.{◌≡◌, ◌≢◌, ◌≤◌, ◌⊎◌, ⊤, ℕ, Bool, true, false, List, [], length, map, replicate, None, Some, Result, Ok, Err, IsOk}
use Rattle.std.specs.List.{last_or}
use Rattle.std.specs.Option.{option_map}
use Rattle.std.specs.Io.KnownBytes.{Appends, Keeps}
use Rattle.git_objects.specs.Lists.{Each}
use Rattle.git_objects.specs.Paths.{Bytes, same_bytes}
use Rattle.git_objects.specs.Snapshots.{Snapshot, snapshot_name, tree_at}
use Rattle.git_objects.specs.Trees.{Flat}
use Rattle.git_objects.specs.declared.limits.TheConstants.{STREAM_BYTES}
use Rattle.git_objects.specs.declared.quantity.Quantity.{Quantity}
use Rattle.object_store.specs.Objects.{Object}
use Rattle.stream_reader.specs.declared.fault.StreamFault.TheVariants.{Limit}
use Rattle.fast_import.specs.Replays.{Base, replay, tagged_replay, value_at}
use Rattle.fast_export.specs.ExportTexts.{is_among}
use Rattle.fast_export.specs.Laws.{has_no_zero}
use Rattle.proj_io.specs.Views.{SinkView}
use Rattle.filter_text.specs.Filters.{Filter}
use Rattle.commit_map.specs.Shown.{Shown}
use Rattle.projection_laws.specs.ProjectionLaws.{AreOfDistinctNames}
use Rattle.projection_laws.specs.Projections.{shown_of}
use Rattle.state_items.specs.Hands.{IsTwice}
use Rattle.state_items.specs.Items.{Held}
use Rattle.state_items.specs.Repos.{repo}
use Rattle.incremental_export.specs.ChangeTexts.{changes_text}
use Rattle.incremental_export.specs.Laws.{IsReadUpon}
use Rattle.incremental_export.specs.TagLaws.{IsTaggedUpon, tagged_changes}
use Rattle.tag_objects.specs.declared.tag.Tag.{Tag}
use Rattle.proj_words.specs.declared.outcome.Outcome.{Outcome}
use Rattle.proj_words.specs.declared.outcome.Outcome.TheVariants.{Done, OutOfMemory, Collision, ReadFault, WriteFault, StoreFault}
use Rattle.proj_commands.specs.Cases.{head_of, loaded}
use Rattle.proj_commands.specs.Export.{tags_beside}
use Rattle.proj_commands.specs.Filters.{projected, sound}
use Rattle.proj_commands.specs.Hands.{IsInHands, own}
use Rattle.proj_commands.specs.Makes.{Fronts}
use Rattle.read_cli.specs.Outputs.{hands, has_tags, new_commits, new_tags, original_commits, output, projected_graph}
use Rattle.read_cli.specs.Readings.{Reading, New, Originals}

-- Which outcome there may be of an output, or of its refusal: it is done; there is no memory, or a device has failed; two objects in hand have
-- one name; or it is the refusal.
abbrev pub IsOutcome : (Object → Type 0) → Outcome → Result Bytes Outcome → Type 0
IsOutcome in_hand Done r = IsOk r
IsOutcome in_hand OutOfMemory r = ⊤
IsOutcome in_hand ReadFault r = ⊥
IsOutcome in_hand StoreFault r = ⊤
IsOutcome in_hand WriteFault r = IsOk r
IsOutcome in_hand (Collision n) r = (r ≡ Err (Collision n)) ⊎ IsTwice in_hand n.0
IsOutcome in_hand outcome r = r ≡ Err outcome

-- nothing is written of a refusal
abbrev pub text_of : Result Bytes Outcome → Bytes
text_of (Ok text) = text
text_of (Err e) = []

-- What was written of a text by each outcome: all of it, a front of it, or nothing.
abbrev pub IsGiven : Bytes → SinkView → SinkView → Outcome → Type 0
IsGiven text before after Done = Appends before.written after.written text
IsGiven text before after WriteFault = Fronts text before after
IsGiven text before after OutOfMemory = Fronts text before after
IsGiven text before after outcome = Keeps before.written after.written

-- ---- what is written is read again

-- the other parents of these commits are there, with the trees that their names stand for; and no parent's name is all zeros
abbrev pub HasOthers : (Bytes → Flat) → Base → List Snapshot → Type 0
HasOthers tree_of base cs =
    Each (λ c. Each (λ p. (is_among p (map snapshot_name cs) ≡ false → value_at p base.commits ≡ Some (tree_of p)) × (same_bytes p (replicate 20 0) ≡ false)) c.parents) cs

-- Upon a base that has the other parents the text of these commits gives just them, in order and under their names, with the ref at the last:
-- where no module has the zero name, the text has at most 2^28 bytes, and reading meets no limit.
abbrev pub IsReadBackUpon : (Bytes → Flat) → List Snapshot → Bytes → Type 0
IsReadBackUpon tree_of cs refname =
    (base : Base) → HasOthers tree_of base cs → has_no_zero cs ≡ true → length (changes_text tree_of cs refname) ≤ STREAM_BYTES
    → ((at : ℕ) (which : Quantity) → replay base (changes_text tree_of cs refname) ≢ Err (Limit at which))
    → IsReadUpon base (changes_text tree_of cs refname) cs refname

-- So is the text with tags behind it, as these commits, ref and tags.
abbrev pub IsTaggedBackUpon : (Bytes → Flat) → List Snapshot → Bytes → List Tag → Type 0
IsTaggedBackUpon tree_of cs refname ts =
    (base : Base) → HasOthers tree_of base cs → has_no_zero cs ≡ true → length (tagged_changes tree_of cs refname ts) ≤ STREAM_BYTES
    → ((at : ℕ) (which : Quantity) → tagged_replay base (tagged_changes tree_of cs refname ts) ≢ Err (Limit at which))
    → IsTaggedUpon base (tagged_changes tree_of cs refname ts) cs refname ts

-- ---- where it ends

-- Where the ref's commit has a projection that isn't there yet, it is the last commit that is written. So it is where no two different
-- commits have one name that are made of the ref's commit and its ancestors.
abbrev pub EndsNew : Held → Filter → Bytes → List Bytes → Type 0
EndsNew h f n haves =
    AreOfDistinctNames (own h.rule f (repo h).commits n)
    → (p : Shown) → projected h f n ≡ Some p → is_among p.commit haves ≡ false
    → option_map shown_of (last_or None (new_commits h f n haves)) ≡ Some p

-- What is said of a projected history that is written, with its tags where they are asked for. Of the tags nothing is said where a tagged
-- commit has the name of zeros alone.
pub record IsNewLawful (tagged : Bool) (h : Held) (f : Filter) (refname n : Bytes) (haves : List Bytes) : Type 0 where
  pub last : EndsNew h f n haves
  pub again : IsReadBackUpon (tree_at (projected_graph h f n)) (new_commits h f n haves) refname
  pub with_tags : Each (λ t. same_bytes t.target.0 (replicate 20 0) ≡ false) (tags_beside tagged h f n)
      → IsTaggedBackUpon (tree_at (projected_graph h f n)) (new_commits h f n haves) refname (new_tags tagged h f n haves)

-- a law of a head's history, where it comes up
abbrev pub OfHead : Result Held Outcome → Bytes → (Held → Bytes → Type 0) → Type 0
OfHead (Err e) r Law = ⊤
OfHead (Ok h) r Law = (n : Bytes) → head_of r h.refs ≡ Ok n → Law h n

-- of what is done
abbrev pub IsLawful : Reading → Result Held Outcome → Type 0
IsLawful (New beside r text haves) loading =
    (f : Filter) → sound text ≡ Ok f → OfHead loading r (λ h n. IsNewLawful (has_tags beside) h f r n haves)
IsLawful (Originals r haves) loading = OfHead loading r (λ h n. IsReadBackUpon (tree_at (repo h).commits) (original_commits h n haves) r)
IsLawful other loading = ⊤

-- ---- the answer

-- for these items
pub record IsReadAnswer (asked : Reading) (items : List Bytes) (before after : SinkView) (outcome : Outcome) : Type 0 where
  pub allowed : IsOutcome (IsInHands (hands asked (loaded items))) outcome (output asked (loaded items))
  pub given : IsGiven (text_of (output asked (loaded items))) before after outcome
  pub lawful : outcome ≡ Done → IsLawful asked (loaded items)
