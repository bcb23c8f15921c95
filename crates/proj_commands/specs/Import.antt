-- The command `import`: a stream that is replayed upon the state.
use Rattle.std.specs.Prelude.{Option, Some, None, Result, Ok, Err, Bool, true, false, List, [], ◌∷◌, ◌++◌, reverse}
use Rattle.std.specs.List.{flat_map}
use Rattle.git_objects.specs.Paths.{Bytes}
use Rattle.git_objects.specs.Refs.{Refs}
use Rattle.git_objects.specs.Snapshots.{Snapshot}
use Rattle.git_objects.specs.Results.{◌>>=◌}
use Rattle.stream_reader.specs.Verdicts.{tagged_start}
use Rattle.stream_reader.specs.declared.fault.StreamFault.{StreamFault}
use Rattle.tag_objects.specs.TagLists.{first_taken}
use Rattle.tag_objects.specs.declared.tag.Tag.{Tag}
use Rattle.fast_import.specs.Replays.{Base, Replayed, Ran, ran_in}
use Rattle.state_items.specs.Changes.{Plan, objects_of, Room, tagged_plan}
use Rattle.state_items.specs.Items.{Held}
use Rattle.state_items.specs.Repos.{repo}
use Rattle.import_laws.specs.Bases.{base_of}
use Rattle.repo_ground.specs.Moves.{Move, first_backward}
use Rattle.proj_words.specs.declared.outcome.Outcome.TheVariants.{NotForward, TagExists}
use Rattle.proj_words.specs.declared.outcome.Outcome.{Outcome}
use Rattle.proj_commands.specs.Cases.{Made, streamed, within}
use Rattle.proj_commands.specs.Hands.{Hand, hand_of}
use Rattle.proj_commands.specs.Lines.{ref_line}

-- a stream upon what is there, which may have annotated tags
abbrev pub tagged_ran : Base → Bytes → Ran StreamFault
tagged_ran base input = ran_in tagged_start base input

abbrev pub no_backward : Option Move → Result (Unit {0}) Outcome
no_backward None = Ok tt
no_backward (Some m) = Err (NotForward m.refname (record { 0 = m.old }) (record { 0 = m.new }))

-- each ref that is there already is at the new commit or at one before it, or may move anywhere
abbrev pub all_forward : Bool → List Snapshot → Refs → Refs → Result (Unit {0}) Outcome
all_forward true cs refs es = Ok tt
all_forward false cs refs es = no_backward (first_backward cs refs es)

abbrev pub no_taken : Option Bytes → Result (Unit {0}) Outcome
no_taken None = Ok tt
no_taken (Some n) = Err (TagExists n)

-- no tag that is read has the name of another one of the state, or tags may be set anew
abbrev pub all_free : Bool → List Tag → List Tag → Result (Unit {0}) Outcome
all_free true tags ts = Ok tt
all_free false tags ts = no_taken (first_taken tags ts)

-- what a stream adds, with the tags that it has
abbrev pub import_plan : Held → Replayed → List Tag → Plan
import_plan h r ts = tagged_plan h (objects_of r.blobs r.commits) r.heads ts

-- what comes of it, or the first refusal: of the stream, of refs that don't move forward, of tags that are taken, and of the limits of the
-- state
abbrev pub import_made : Room → Bool → Held → Ran StreamFault → Result Made Outcome
import_made room force h x = do
  r ← streamed x
  _ ← all_forward force (reverse r.commits ++ (repo h).commits) h.refs r.heads
  _ ← all_free force h.tags x.state.tags
  within room h (flat_map ref_line r.heads) (import_plan h r x.state.tags)

-- what it brings together
abbrev pub import_hand : Held → Ran StreamFault → Hand
import_hand h x = hand_of h.objects (repo h).commits (base_of h) x []
