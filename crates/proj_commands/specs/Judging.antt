-- What judging says of a command: of its words and its filter, before any device is touched.
use Rattle.std.specs.Prelude.{◌≡◌, ◌≢◌, ◌⊎◌, Result, Ok, Err}
use Rattle.git_objects.specs.Paths.{Bytes}
use Rattle.filter_text.specs.Shapes.{shape}
use Rattle.commit_map.specs.Rules.{rule_number}
use Rattle.workspace.specs.Laws.{IsUsable}
use Rattle.proj_gate.specs.Policies.{See, Push as PushAct}
use Rattle.state_items.specs.Items.{Held}
use Rattle.proj_words.specs.Words.{Command, Import, Project, Push, PushMerges, Export, ExportTags, Name, Rule, Query, Ask, Verify, As}
use Rattle.proj_words.specs.declared.outcome.Outcome.{Outcome}
use Rattle.proj_words.specs.declared.outcome.Outcome.TheVariants.{Done, OutOfMemory, ReadFault, WriteFault, StoreFault}
use Rattle.proj_commands.specs.Audit.{path_by}
use Rattle.proj_commands.specs.Cases.{verdict}
use Rattle.proj_commands.specs.Filters.{sound}
use Rattle.proj_commands.specs.Policy.{granted}
use Rattle.proj_commands.specs.Queries.{IsUsableQuery, sound_of, sound_query}
use Rattle.proj_commands.specs.Verify.{name_by}
use Rattle.proj_commands.specs.declared.judging.Claim.{Claim}
use Rattle.proj_commands.specs.declared.judging.Judged.{Judged}
use Rattle.proj_commands.specs.declared.judging.Judged.TheVariants as judged
use Rattle.proj_commands.specs.declared.querying.JudgedQuery.{JudgedQuery}
use Rattle.proj_commands.specs.declared.subjects.Subject.{Subject}

-- ---- a command that may be performed

-- It is of the subject's ref, and of a text of its filter, which is sound.
pub record IsOf (form : Bytes → Bytes → Command) (asked : Command) (s : Subject) : Type 0 where
  pub text : Bytes
  pub asked_is : asked ≡ form s.refname text
  pub sound_is : sound text ≡ Ok (shape s.filter)
  pub usable : IsUsable (shape s.filter)

-- It asks a query, which is judged to be this.
pub record IsAsked (asked : Command) (q : JudgedQuery) : Type 0 where
  pub query : Query
  pub asked_is : asked ≡ Ask query
  pub sound_is : sound_query query ≡ Ok (sound_of q)
  pub usable : IsUsableQuery (sound_of q)

-- It is of the digits of the claim's commit, and of texts of its filter, which is sound, and of its path.
pub record IsClaimed (asked : Command) (c : Claim) : Type 0 where
  pub digits : Bytes
  pub text : Bytes
  pub path : Bytes
  pub asked_is : asked ≡ Verify digits text path
  pub sound_is : sound text ≡ Ok (shape c.filter)
  pub usable : IsUsable (shape c.filter)
  pub name_is : name_by digits ≡ c.commit.0
  pub path_is : path_by path ≡ c.path

-- The command is judged to be this.
abbrev pub IsJudged : Command → Judged → Type 0
IsJudged asked (judged.Import force) = asked ≡ Import force
IsJudged asked (judged.Project s) = IsOf Project asked s
IsJudged asked (judged.Push s) = IsOf Push asked s
IsJudged asked (judged.PushMerges s) = IsOf PushMerges asked s
IsJudged asked (judged.Export s) = IsOf Export asked s
IsJudged asked (judged.ExportTags s) = IsOf ExportTags asked s
IsJudged asked (judged.Name s) = IsOf Name asked s
IsJudged asked (judged.Rule r) = asked ≡ Rule (rule_number r)
IsJudged asked (judged.Ask q) = IsAsked asked q
IsJudged asked (judged.Verify c) = IsClaimed asked c
IsJudged asked (judged.AsProject u s) = IsOf (λ refname text. As u (Project refname text)) asked s
IsJudged asked (judged.AsPush u s) = IsOf (λ refname text. As u (Push refname text)) asked s
IsJudged asked (judged.AsExport u s) = IsOf (λ refname text. As u (Export refname text)) asked s

-- some command is
abbrev pub IsSomeJudged : Judged → Type 0
IsSomeJudged j = (asked : Command) × IsJudged asked j

-- what the policy says of it, where a user asks
abbrev pub permission : Held → Judged → Result (Unit {0}) Outcome
permission h (judged.AsProject user s) = granted h user See s.refname (shape s.filter)
permission h (judged.AsPush user s) = granted h user PushAct s.refname (shape s.filter)
permission h (judged.AsExport user s) = granted h user See s.refname (shape s.filter)
permission h j = Ok tt

-- ---- a refusal

-- no device tells this outcome, and it isn't the last
pub record IsOwn (e : Outcome) : Type 0 where
  pub done : e ≢ Done
  pub read : e ≢ ReadFault
  pub write : e ≢ WriteFault
  pub store : e ≢ StoreFault

-- What is judged is refused so, or there was no memory for it.
pub record IsRefused {A : Type 0} (judges : Result A Outcome) (e : Outcome) : Type 0 where
  pub refused : (e ≡ OutOfMemory) ⊎ (judges ≡ Err e)
  pub own : IsOwn e

-- judging the command gives this refusal, or there was no memory for it
abbrev pub IsUnjudged : Command → Outcome → Type 0
IsUnjudged asked e = IsRefused (verdict asked) e
