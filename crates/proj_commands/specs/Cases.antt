-- What judging a command gives; what a command works with, its case; and what comes of it: what is written, and what is new in the state.
use Rattle.std.specs.FinMap.{find as find_entry}
use Rattle.std.specs.Prelude.{Result, Ok, Err, Bool, true, false, ◌≡◌, List, ℕ, Option, Some, None}
use Rattle.git_objects.specs.Paths.{Bytes, Path}
use Rattle.git_objects.specs.Refs.{Refs, bytes_cmp}
use Rattle.git_objects.specs.Results.{◌>>=◌, refused_by, or_refuse}
use Rattle.git_objects.specs.declared.quantity.Quantity.{Quantity}
use Rattle.stream_reader.specs.declared.fault.StreamFault.{StreamFault}
use Rattle.fast_import.specs.Replays.{Ran, Replayed, outcome_of}
use Rattle.filter_text.specs.Filters.{Filter}
use Rattle.state_items.specs.Changes.{Plan, held_after, NoPlan, Room, passed}
use Rattle.state_items.specs.Fields.{BrokenAt, Clash}
use Rattle.state_items.specs.Items.{Break, Held, read_items, nothing}
use Rattle.push_laws.specs.Pushes.{Pushing}
use Rattle.proj_words.specs.Faults.{stream_outcome}
use Rattle.proj_words.specs.Words.{Command, Import, Project, Push, PushMerges, Export, ExportTags, Name, Rule, Ask, Verify, As, Batch, Trial}
use Rattle.proj_words.specs.declared.outcome.Outcome.TheVariants.{Usage, FilterFault, Overlap, NotKeeping, Collision, Damaged, UnknownRef, Limit}
use Rattle.proj_words.specs.declared.outcome.Outcome.{Outcome}
use Rattle.proj_commands.specs.Filters.{sound}
use Rattle.proj_commands.specs.Queries.{Sight, SoundQuery, sight, sound_query}
use Rattle.proj_commands.specs.declared.lines.Telling.{Telling}
use Rattle.proj_commands.specs.declared.pushing.Manner.{Manner}

-- ---- judging

-- What judging a command gives, before anything is loaded or read: nothing, or the refusal of its words or of its filter. A batch and a
-- trial are made of several commands, and are none in a batch.
abbrev pub verdict : Command → Result (Unit {0}) Outcome
verdict (Project refname text) = sound text >>= λ _. Ok tt
verdict (Push refname text) = sound text >>= λ _. Ok tt
verdict (PushMerges refname text) = sound text >>= λ _. Ok tt
verdict (Export refname text) = sound text >>= λ _. Ok tt
verdict (ExportTags refname text) = sound text >>= λ _. Ok tt
verdict (Name refname text) = sound text >>= λ _. Ok tt
verdict (Ask query) = sound_query query >>= λ _. Ok tt
verdict (Verify digits text path) = sound text >>= λ _. Ok tt
verdict (As user (Project refname text)) = sound text >>= λ _. Ok tt
verdict (As user (Export refname text)) = sound text >>= λ _. Ok tt
verdict (As user (Push refname text)) = sound text >>= λ _. Ok tt
verdict (Import force) = Ok tt
verdict (Rule k) = Ok tt
verdict asked = Err Usage

-- whether a form is one command; a batch and a trial are made of several
abbrev pub is_one : Command → Bool
is_one Batch = false
is_one (Trial n) = false
is_one _ = true

-- whether an outcome is a refusal of words or of a filter
abbrev pub is_verdict : Outcome → Bool
is_verdict Usage = true
is_verdict (FilterFault what) = true
is_verdict (Overlap list first second) = true
is_verdict (NotKeeping piece) = true
is_verdict outcome = false

-- a command has such an outcome only where judging it gives just this refusal
abbrev pub IsJudgedRightly : Command → Outcome → Type 0
IsJudgedRightly asked outcome = is_verdict outcome ≡ true → verdict asked ≡ Err outcome

-- ---- loading

abbrev pub break_outcome : Break → Outcome
break_outcome (item, BrokenAt at) = Damaged item at
break_outcome (item, Clash n) = Collision (record { 0 = n })

-- what the items hold, or their first break
abbrev pub loaded : List Bytes → Result Held Outcome
loaded items = refused_by break_outcome (read_items items)

-- the commit of a ref
abbrev pub head_of : Bytes → Refs → Result Bytes Outcome
head_of refname refs = or_refuse UnknownRef (find_entry bytes_cmp refname refs)

-- ---- cases

-- What a command works with, where nothing before it is refused; the replay of a stream and a push have their refusals in them.
pub data Case : Type 0 where
  -- whether refs may move anywhere, and the stream upon the state
  ImportCase : Bool → Held → Ran StreamFault → Case
  -- of the commit of the ref
  ProjectCase : Held → Filter → Bytes → Case
  -- whether with tags; of the ref and its commit
  ExportCase : Bool → Held → Filter → Bytes → Bytes → Case
  -- and of how commits may stand, and of what is told of each pushed commit
  PushCase : Manner → Telling → Held → Filter → Bytes → Bytes → Pushing → Case
  -- of the ref, and the stream upon nothing
  NameCase : Filter → Bytes → Ran StreamFault → Case
  RuleCase : Held → ℕ → Case
  QueryCase : Held → Sight → Case
  -- of a commit's name, at a path, and a text, which may be a certificate
  VerifyCase : Filter → Bytes → Path → Bytes → Case

-- what is held before it; a stream that is named and a certificate stand upon nothing
abbrev pub held_in : Case → Held
held_in (ImportCase force h x) = h
held_in (ProjectCase h f n) = h
held_in (ExportCase w h f refname n) = h
held_in (PushCase m w h f refname n p) = h
held_in (NameCase f refname x) = nothing
held_in (RuleCase h k) = h
held_in (QueryCase h x) = h
held_in (VerifyCase f n q text) = nothing

-- the case of a query, or the refusal of its ref
abbrev pub query_case : Held → SoundQuery → Result Case Outcome
query_case h q = or_refuse UnknownRef (sight h q) >>= λ x. Ok (QueryCase h x)

-- ---- what comes of a case

-- what is written, what was held, and what is new in the state
pub record Made : Type 0 where
  pub output : Bytes
  pub before : Held
  pub plan : Plan

-- the new state
abbrev pub after : Made → Held
after m = held_after m.before m.plan

abbrev pub unchanged : Held → Bytes → Made
unchanged h output = record { output = output; before = h; plan = NoPlan }

abbrev pub no_limit : Option Quantity → Result (Unit {0}) Outcome
no_limit None = Ok tt
no_limit (Some q) = Err (Limit q None)

-- a plan that passes no limit of the state
abbrev pub within : Room → Held → Bytes → Plan → Result Made Outcome
within room h output p = no_limit (passed h room p) >>= λ _. Ok (record { output = output; before = h; plan = p })

abbrev pub streamed : Ran StreamFault → Result Replayed Outcome
streamed x = refused_by stream_outcome (outcome_of x.state x.fault)
