-- A stream that is replayed upon nothing, with its commits in the graph of a state.
use Rattle.std.specs.Prelude.{◌≡◌, List, [], map, Ok}
use Rattle.git_objects.specs.Paths.{Bytes}
use Rattle.object_store.specs.Objects.{Object}
use Rattle.fast_import.specs.Replays.{empty_base}
use Rattle.fast_import.specs.Whole.{IsTaggedWhole}
use Rattle.fast_import.specs.declared.replayed.Replayed.{Replayed}
use Rattle.fast_import.specs.declared.replayed.Setting.{Setting}
use Rattle.fast_import.specs.declared.replayed.TaggedReplay.{TaggedReplay}
use Rattle.state_items.specs.Changes.{fresh, objects_of}
use Rattle.state_items.specs.Items.{nothing}
use Rattle.repo_ground.specs.Contents.{Contents}
use Rattle.repo_ground.specs.Loads.{IsEmpty}
use Rattle.repo_ground.specs.Taking.{IsTaken}
use Rattle.repo_ground.specs.declared.commit.Batch.{Batch}
use Rattle.proj_commands.specs.Import.{tagged_ran}

-- what a stream gives as what is taken in, without refs, and its heads
pub record IsUnnamed (g : Replayed) (b : Batch) (heads : List Setting) : Type 0 where
  pub blobs : b.blobs.items ≡ g.blobs.items
  pub commits : b.commits.items ≡ map (λ m. m.name) g.commits.items
  pub refs : b.refs.items ≡ []
  pub settings : heads ≡ g.heads.items

-- The stream has no fault and passes no limit; a state that was empty has its objects and its commits; and these are its heads.
pub record IsGiven (all : Bytes) (s : Contents) (heads : List Setting) : Type 0 where
  pub before : Contents
  pub empty : IsEmpty before
  pub names : TaggedReplay
  pub store : List Object
  pub whole : IsTaggedWhole empty_base before.basis.store store all (Ok names)
  pub taken : IsTaken nothing (fresh [] (objects_of (tagged_ran empty_base all).state.blobs (tagged_ran empty_base all).state.commits))
      (record before { basis = record before.basis { store = store } }) s
  pub settings : heads ≡ names.replayed.heads.items
