-- What the words, the items and the input ask for. Each definition has a line for each command; what the line stands for is said in the
-- command's own file.
use Rattle.std.specs.Option.{option_to_list}
use Rattle.std.specs.Prelude.{List, Result, Ok, Err, [], ◌≡◌, ⊤, true, false, All}
use Rattle.std.specs.Result.{result_ok}
use Rattle.git_objects.specs.Paths.{Bytes}
use Rattle.git_objects.specs.Results.{◌>>=◌}
use Rattle.fast_import.specs.Replays.{empty_base}
use Rattle.state_items.specs.Changes.{room_of, Room, rule_plan, Plan, held_after}
use Rattle.state_items.specs.Items.{Held}
use Rattle.import_laws.specs.Bases.{base_of}
use Rattle.proj_gate.specs.Policies.{See, Push as PushAct}
use Rattle.proj_words.specs.Words.{Command, Import, Project, Push, PushMerges, Export, ExportTags, Name, Rule, Ask, Verify, As}
use Rattle.proj_words.specs.declared.outcome.Outcome.TheVariants.{Usage}
use Rattle.proj_words.specs.declared.outcome.Outcome.{Outcome}
use Rattle.proj_commands.specs.Audit.{path_by}
use Rattle.proj_commands.specs.Cases.{Case, loaded, Made, ImportCase, ProjectCase, ExportCase, PushCase, NameCase, RuleCase, QueryCase, VerifyCase, within, held_in, query_case, unchanged}
use Rattle.proj_commands.specs.Export.{IsExportOf, export_case, export_hand, export_made}
use Rattle.proj_commands.specs.Filters.{sound}
use Rattle.proj_commands.specs.Hands.{Hand, history_hand, still_hand}
use Rattle.proj_commands.specs.Import.{import_made, import_hand, tagged_ran}
use Rattle.proj_commands.specs.Name.{name_hand, name_made}
use Rattle.proj_commands.specs.Policy.{granted}
use Rattle.proj_commands.specs.Project.{IsKeepPlan, HoldsHead, project_case, project_made}
use Rattle.proj_commands.specs.Push.{IsPushed, push_case, push_hand, push_made}
use Rattle.proj_commands.specs.Queries.{IsLawfulSight, answer, hand_through, projects, sound_query}
use Rattle.proj_commands.specs.Rule.{rule_line}
use Rattle.proj_commands.specs.Verify.{IsVerified, name_by, verify_made}
use Rattle.proj_commands.specs.declared.lines.Telling.TheVariants.{Both, PushedAlone}
use Rattle.proj_commands.specs.declared.pushing.Manner.TheVariants.{InLine, Merging}

-- The case of a command for what is loaded and an input, or the first refusal: of the filter, of loading, of the policy where a user asks,
-- and of the ref. A batch and a trial are made of several commands, and are none in a batch.
abbrev pub case : Command → Result Held Outcome → Bytes → Result Case Outcome
case (Import force) loading input = loading >>= λ h. Ok (ImportCase force h (tagged_ran (base_of h) input))
case (Project refname text) loading input = sound text >>= λ f. loading >>= λ h. project_case h f refname
case (Export refname text) loading input = sound text >>= λ f. loading >>= λ h. export_case false h f refname
case (ExportTags refname text) loading input = sound text >>= λ f. loading >>= λ h. export_case true h f refname
case (Push refname text) loading input = sound text >>= λ f. loading >>= λ h. push_case InLine Both h f refname input
case (PushMerges refname text) loading input = sound text >>= λ f. loading >>= λ h. push_case Merging Both h f refname input
case (Name refname text) loading input = sound text >>= λ f. Ok (NameCase f refname (tagged_ran empty_base input))
case (Rule k) loading input = loading >>= λ h. Ok (RuleCase h k)
case (Ask query) loading input = sound_query query >>= λ q. loading >>= λ h. query_case h q
case (Verify digits text path) loading input = sound text >>= λ f. Ok (VerifyCase f (name_by digits) (path_by path) input)
case (As user (Project refname text)) loading input =
    sound text >>= λ f. loading >>= λ h. granted h user See refname f >>= λ _. project_case h f refname
case (As user (Export refname text)) loading input =
    sound text >>= λ f. loading >>= λ h. granted h user See refname f >>= λ _. export_case false h f refname
case (As user (Push refname text)) loading input =
    sound text >>= λ f. loading >>= λ h. granted h user PushAct refname f >>= λ _. push_case InLine PushedAlone h f refname input
case (As user asked) loading input = Err Usage
case Rattle.proj_words.specs.Words.Batch loading input = Err Usage
case (Rattle.proj_words.specs.Words.Trial n) loading input = Err Usage
case Rattle.proj_words.specs.Words.Unknown loading input = Err Usage

-- What comes of a case, or the first refusal: of the stream, of the push, of refs that don't move forward, of tags that are taken,
-- and of the limits of the state; for a name the ref comes last.
abbrev pub made : Room → Case → Result Made Outcome
made room (ImportCase force h x) = import_made room force h x
made room (ProjectCase h f n) = project_made h f n
made room (ExportCase tagged h f refname n) = export_made tagged h f refname n
made room (PushCase m w h f refname n p) = push_made m w room h refname p
made room (NameCase f refname x) = name_made f refname x
made room (RuleCase h k) = within room h (rule_line k) (rule_plan h k)
made room (QueryCase h x) = Ok (unchanged h (answer h x))
made room (VerifyCase f n q text) = verify_made f n q text

-- the cases that come up, which are one or none
abbrev pub cases : Command → List Bytes → Bytes → List Case
cases asked items input = option_to_list (result_ok (case asked (loaded items) input))

-- What the command makes of the items and the input, or its refusal, after which the state is as before and nothing is written.
abbrev pub step : Command → List Bytes → Bytes → Result Made Outcome
step asked items input = case asked (loaded items) input >>= made (room_of items)

-- What each case brings together: where nothing is said, what is held alone.
abbrev pub hand : Case → Hand
hand (ImportCase force h x) = import_hand h x
hand (ProjectCase h f n) = history_hand h f n
hand (ExportCase tagged h f refname n) = export_hand tagged h f n
hand (PushCase m w h f refname n p) = push_hand m h f n p
hand (NameCase f refname x) = name_hand f refname x
hand (QueryCase h x) = hand_through h (projects x)
hand other = still_hand (held_in other).objects [] []

-- What may be appended: for `project` nothing, or projections that are kept; for every other form exactly what the step says.
abbrev pub IsPlanOf : List Bytes → Case → Made → Plan → Type 0
IsPlanOf items (ProjectCase h f n) m p = IsKeepPlan h f items p
IsPlanOf items other m p = p ≡ m.plan

-- of each case that came up
abbrev pub ArePlanned : List Bytes → List Case → Result Made Outcome → Plan → Type 0
ArePlanned items cs (Ok m) p = All (λ c. IsPlanOf items c m p) cs
ArePlanned items cs (Err e) p = ⊤

-- What a command has done that is done, with this in the state then.
abbrev pub IsLawful : List Bytes → Plan → Case → Type 0
IsLawful items plan (PushCase m w h f refname n p) = IsPushed m h (held_after h plan) f refname n p
IsLawful items plan (ProjectCase h f n) = HoldsHead h f n items plan
IsLawful items plan (ExportCase tagged h f refname n) = IsExportOf tagged h f refname n
IsLawful items plan (QueryCase h x) = IsLawfulSight h x
IsLawful items plan (VerifyCase f n q text) = IsVerified f n q text
IsLawful items plan other = ⊤
