-- A stream that is replayed upon a state.
use Rattle.std.specs.Prelude.{◌≡◌, List, map, IfOk, IfErr, IsOkAnd, Result}
use Rattle.std.specs.List.{flat_map}
use Rattle.git_objects.specs.Paths.{Bytes}
use Rattle.object_store.specs.Growth.{IsGrownBy}
use Rattle.fast_import.specs.Replaying.{setting_value}
use Rattle.fast_import.specs.Replays.{tagged_replay}
use Rattle.fast_import.specs.Standing.{IsTaggedReplayedOf}
use Rattle.fast_import.specs.Whole.{IsMadeOfStreamIn, IsStreamErrorIn}
use Rattle.stream_reader.specs.Verdicts.{tagged_start}
use Rattle.fast_import.specs.declared.replayed.Replayed.{Replayed}
use Rattle.fast_import.specs.declared.replayed.TaggedReplay.{TaggedReplay}
use Rattle.fast_import.specs.declared.whole.ReplayError.{ReplayError}
use Rattle.state_items.specs.Items.{Held}
use Rattle.repo_ground.specs.Contents.{Contents}
use Rattle.import_laws.specs.Bases.{base_of}
use Rattle.repo_ground.specs.declared.commit.Batch.{Batch}
use Rattle.proj_words.specs.declared.outcome.Outcome.{Outcome}
use Rattle.proj_commands.specs.Lines.{ref_line}
use Rattle.proj_commands.specs.Makes.{IsStateOf}
use Rattle.proj_commands.specs.Refusals.{replay_outcome}

-- What became of it: what the stream gives is in the state's store, or it is refused; and the state has what was held.
pub record IsReplayedUpon (items : List Bytes) (h : Held) (all : Bytes) (s s' : Contents) (result : Result TaggedReplay Outcome) : Type 0 where
  pub given : IfOk result (λ g. IsOkAnd (tagged_replay (base_of h) all) (IsTaggedReplayedOf s'.basis.store g))
  pub refused : IfErr result (λ e. (f : ReplayError) × (e ≡ replay_outcome f) × IsStreamErrorIn tagged_start (base_of h) s'.basis.store all f)
  pub state : IsStateOf items h s'
  pub grown : IsGrownBy (IsMadeOfStreamIn tagged_start (base_of h) all) s.basis.store s'.basis.store
  pub same : s' ≡ record s { basis = record s.basis { store = s'.basis.store } }

-- what a stream gives, as a report and as what is to be committed
pub record IsPrepared (g : Replayed) (report : Bytes) (b : Batch) : Type 0 where
  pub line : report ≡ flat_map ref_line (map setting_value g.heads.items)
  pub blobs : b.blobs.items ≡ g.blobs.items
  pub commits : b.commits.items ≡ map (λ m. m.name) g.commits.items
  pub refs : b.refs.items ≡ g.heads.items
