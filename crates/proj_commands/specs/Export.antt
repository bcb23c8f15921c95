-- The command `export`: the projected history of a ref's commit, as a stream, and behind it the tags of its commits where they are asked
-- for.
use Rattle.std.specs.List.{last_or}
use Rattle.std.specs.Option.{option_map}
use Rattle.std.specs.Prelude.{Result, Ok, Err, Bool, true, false, ℕ, List, [], ◌≡◌, ◌≢◌, ◌≤◌, length, replicate, None}
use Rattle.git_objects.specs.Lists.{Each}
use Rattle.git_objects.specs.Paths.{Bytes, same_bytes}
use Rattle.git_objects.specs.Results.{◌>>=◌}
use Rattle.git_objects.specs.Snapshots.{Snapshot}
use Rattle.git_objects.specs.declared.limits.TheConstants.{STREAM_BYTES}
use Rattle.git_objects.specs.declared.quantity.Quantity.{Quantity}
use Rattle.stream_reader.specs.declared.fault.StreamFault.TheVariants.{Limit}
use Rattle.fast_import.specs.Replays.{TaggedReplayed, empty_base, tagged_replay}
use Rattle.fast_export.specs.ExportTexts.{export_text}
use Rattle.fast_export.specs.Laws.{has_no_zero, head_at_last}
use Rattle.fast_export.specs.TagLaws.{tagged_text}
use Rattle.object_store.specs.Objects.{Object}
use Rattle.filter_text.specs.Filters.{Filter}
use Rattle.projection_laws.specs.ProjectionLaws.{AreOfDistinctNames}
use Rattle.projection_laws.specs.Projections.{shown_of}
use Rattle.projection_ground.specs.declared.ground.Ground.{Ground}
use Rattle.history_ground.specs.Heads.{IsSeenObject}
use Rattle.state_items.specs.Items.{Held}
use Rattle.state_items.specs.Repos.{repo}
use Rattle.tag_objects.specs.declared.tag.Tag.{Tag}
use Rattle.proj_words.specs.declared.outcome.Outcome.{Outcome}
use Rattle.proj_commands.specs.Cases.{head_of, Case, ExportCase, Made, unchanged}
use Rattle.proj_commands.specs.Filters.{history, projected}
use Rattle.proj_commands.specs.Hands.{Hand, history_hand, own, seen_hand}
use Rattle.proj_commands.specs.Tags.{shown_tags}

-- with tags or without
abbrev pub export_case : Bool → Held → Filter → Bytes → Result Case Outcome
export_case tagged h f refname = head_of refname h.refs >>= λ n. Ok (ExportCase tagged h f refname n)

-- the commits that are written
abbrev pub exported : Held → Filter → Bytes → List Snapshot
exported h f n = history h.rule f (repo h).commits n

-- the tags that stand behind them
abbrev pub tags_beside : Bool → Held → Filter → Bytes → List Tag
tags_beside true h f n = shown_tags h f n
tags_beside false h f n = []

-- what is written
abbrev pub export_output : Bool → Held → Filter → Bytes → Bytes → Bytes
export_output true h f refname n = tagged_text (exported h f n) refname (shown_tags h f n)
export_output false h f refname n = export_text (exported h f n) refname

-- what comes of it
abbrev pub export_made : Bool → Held → Filter → Bytes → Bytes → Result Made Outcome
export_made tagged h f refname n = Ok (unchanged h (export_output tagged h f refname n))

-- what it brings together: where tags are asked for, the projections of their commits, too
abbrev pub export_hand : Bool → Held → Filter → Bytes → Hand
export_hand true h f n = seen_hand h f n
export_hand false h f n = history_hand h f n

-- what finding these tags puts into a state's store: what projecting the commit makes, where they are asked for
abbrev pub IsMadeBeside : Bool → Filter → Ground → Bytes → Object → Type 0
IsMadeBeside true f g n o = IsSeenObject f g n o
IsMadeBeside false f g n o = ⊥

-- ---- what is said of one that is done

-- The last commit of the history, to which its text sets the ref, is the projection of the ref's commit; and there is none where that has
-- none. So it is where no two different commits have one name that are made of this commit and its ancestors.
abbrev pub EndsAtProjection : Held → Filter → Bytes → Type 0
EndsAtProjection h f n =
    AreOfDistinctNames (own h.rule f (repo h).commits n)
    → option_map shown_of (last_or None (exported h f n)) ≡ projected h f n

-- A text that is read into nothing, as an import reads it, gives these commits, with their parents and so with their names, the ref at the
-- last, and these tags, whose objects so have their names, too.
pub record IsReadAgain (text : Bytes) (cs : List Snapshot) (refname : Bytes) (ts : List Tag) : Type 0 where
  pub given : TaggedReplayed
  pub read : tagged_replay empty_base text ≡ Ok given
  pub commits : given.replayed.commits ≡ cs
  pub heads : given.replayed.heads ≡ head_at_last refname cs
  pub tags : given.tags ≡ ts

-- So is what is written: where no module and no tagged commit has the name of zeros alone, the text has at most 2^28 bytes, and reading
-- meets no limit.
abbrev pub IsReadBack : Bool → Held → Filter → Bytes → Bytes → Type 0
IsReadBack tagged h f refname n =
    has_no_zero (exported h f n) ≡ true
    → Each (λ t. same_bytes t.target.0 (replicate 20 0) ≡ false) (tags_beside tagged h f n)
    → length (export_output tagged h f refname n) ≤ STREAM_BYTES
    → ((at : ℕ) (which : Quantity) → tagged_replay empty_base (export_output tagged h f refname n) ≢ Err (Limit at which))
    → IsReadAgain (export_output tagged h f refname n) (exported h f n) refname (tags_beside tagged h f n)

pub record IsExportOf (tagged : Bool) (h : Held) (f : Filter) (refname n : Bytes) : Type 0 where
  pub last : EndsAtProjection h f n
  pub again : IsReadBack tagged h f refname n
