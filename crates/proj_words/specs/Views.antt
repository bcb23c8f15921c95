-- Commands, entries and pushes of a trial, as the definitions have them.
use Rattle.std.specs.Prelude.{◌≡◌, ℕ, List, ◌∷◌, Some, Result, Ok, Err}
use Rattle.git_objects.specs.Results.{◌>>=◌}
use Rattle.proj_words.specs.Words.{Command, Import, Project, Push, PushMerges, Export, ExportTags, Name, Batch}
use Rattle.proj_words.specs.Words.{Trial, Rule, Ask, Verify, As, Unknown, Query, Tags, Audit}
use Rattle.proj_words.specs.Entries.{Entry, Spot, TextLine, entries_by}
use Rattle.proj_words.specs.TrialTexts.{TrialPush}
use Rattle.proj_words.specs.declared.words.Command.{Command as ReadCommand}
use Rattle.proj_words.specs.declared.words.Command.TheVariants as forms
use Rattle.proj_words.specs.declared.words.Query.{Query as ReadQuery}
use Rattle.proj_words.specs.declared.words.Query.TheVariants as queries
use Rattle.proj_words.specs.declared.entries.Entry.{Entry as ReadEntry}
use Rattle.proj_words.specs.declared.entries.Spot.{Spot as ReadSpot}
use Rattle.proj_words.specs.declared.entries.TextLine.{TextLine as ReadLine}
use Rattle.proj_words.specs.declared.trial.TrialPush.{TrialPush as MadePush}

abbrev pub query_of : ReadQuery → Query
query_of (queries.Tags refname filter) = Tags refname.now filter.now
query_of (queries.Audit refname filter path) = Audit refname.now filter.now path.now

abbrev pub command_of : ReadCommand → Command
command_of (forms.Import force) = Import force
command_of (forms.Project refname filter) = Project refname.now filter.now
command_of (forms.Push refname filter) = Push refname.now filter.now
command_of (forms.PushMerges refname filter) = PushMerges refname.now filter.now
command_of (forms.Export refname filter) = Export refname.now filter.now
command_of (forms.ExportTags refname filter) = ExportTags refname.now filter.now
command_of (forms.Name refname filter) = Name refname.now filter.now
command_of forms.Batch = Batch
command_of (forms.Trial n) = Trial n
command_of (forms.Rule n) = Rule n
command_of (forms.Ask query) = Ask (query_of query)
command_of (forms.Verify commit filter path) = Verify commit.now filter.now path.now
command_of (forms.AsProject user refname filter) = As user.now (Project refname.now filter.now)
command_of (forms.AsPush user refname filter) = As user.now (Push refname.now filter.now)
command_of (forms.AsExport user refname filter) = As user.now (Export refname.now filter.now)
command_of forms.Unknown = Unknown

abbrev pub entry_value : ReadEntry → Entry
entry_value e = record { words = e.words.now; input = e.input.now }

abbrev pub spot_value : ReadSpot → Spot
spot_value s = record { at = s.at; rest = s.rest.now }

abbrev pub line_value : ReadLine → TextLine
line_value l = record { bytes = l.bytes.now; ended = l.ended; next = spot_value l.next }

-- the entry behind a line of words, and what follows it
abbrev pub GivesEntry : TextLine → Entry → Spot → Type 0
GivesEntry w e s =
    (next : Spot → Result (List Entry) ℕ) → entries_by next (Some w) ≡ (next s >>= λ es. Ok (e ∷ es))

-- no entry is behind a line of words, since the line at that place doesn't fit
abbrev pub IsLineFault : TextLine → ℕ → Type 0
IsLineFault w at = (next : Spot → Result (List Entry) ℕ) → entries_by next (Some w) ≡ Err at

abbrev pub push_value : MadePush → TrialPush
push_value p = record {
  filter = p.filter.now;
  message = p.message.now;
  path = p.path.now;
  content = p.content.now;
}
