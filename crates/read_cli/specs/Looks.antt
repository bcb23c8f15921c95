-- How the code looks into a state.
use Rattle.std.specs.Prelude.{Bool, ◌≡◌, ◌⊎◌, ⊤, true, List, [], ◌∷◌, ◌++◌, codes, map, string_bytes, Contains, IsSome, Result, Ok, Err}
use Rattle.std.specs.Option.{option_to_list}
use Rattle.std.specs.Result.{result_ok}
use Rattle.git_objects.specs.Paths.{Bytes}
use Rattle.git_objects.specs.Results.{◌>>=◌}
use Rattle.path_names.specs.RefNames.{is_ref_name}
use Rattle.filter_text.specs.Shapes.{shape}
use Rattle.git_objects.specs.Parts.{name_bytes}
use Rattle.object_store.specs.Growth.{IsGrownBy}
use Rattle.object_store.specs.Objects.{Object}
use Rattle.git_objects.specs.Snapshots.{Snapshot, snapshot_name, tree_at}
use Rattle.git_objects.specs.Trees.{Flat}
use Rattle.fast_export.specs.Histories.{snapshots_at}
use Rattle.fast_export.specs.TagLaws.{AreTagsOf}
use Rattle.filter_text.specs.Filters.{Filter}
use Rattle.incremental_export.specs.ChangeTexts.{changes_text}
use Rattle.incremental_export.specs.Histories.{AreCommitsIn, tree_in}
use Rattle.state_items.specs.Hands.{IsTwice}
use Rattle.state_items.specs.Items.{Held}
use Rattle.tag_objects.specs.declared.tag.Tag.{Tag}
use Rattle.proj_io.specs.Views.{SinkView}
use Rattle.workspace.specs.Laws.{IsUsable}
use Rattle.proj_words.specs.Outcomes.{text_of as outcome_text}
use Rattle.proj_words.specs.declared.outcome.Outcome.{Outcome}
use Rattle.proj_words.specs.declared.outcome.Outcome.TheVariants.{Collision, Done, OutOfMemory, UnknownRef, Usage, WriteFault}
use Rattle.proj_commands.specs.Cases.{head_of}
use Rattle.repo_ground.specs.Contents.{Contents}
use Rattle.proj_commands.specs.Export.{export_hand}
use Rattle.proj_commands.specs.Filters.{sound}
use Rattle.proj_commands.specs.Makes.{IsStateOf}
use Rattle.proj_commands.specs.Hands.{Hand, IsInHands}
use Rattle.read_cli.specs.Answers.{IsGiven, IsOutcome, IsReadBackUpon, IsTaggedBackUpon, text_of}
use Rattle.read_cli.specs.Outputs.{new_commits, new_tags, projected_graph}
use Rattle.read_cli.specs.Readings.{Reading, Refs, Log, Check, New, Originals, Unknown, names_of, new_of, originals_of, verdict}
use Rattle.read_cli.specs.declared.words.Form.{Form}
use Rattle.read_cli.specs.declared.words.Form.TheVariants as forms
use Rattle.read_cli.specs.declared.judging.Asked.{Asked}
use Rattle.read_cli.specs.declared.judging.Asked.TheVariants as asks
use Rattle.proj_commands.specs.declared.subjects.Subject.{Subject}

-- the reading that a form is
abbrev pub form_reading : Form → Reading
form_reading forms.Refs = Refs
form_reading (forms.Log r f) = Log r.now f.now
form_reading (forms.Check r f) = Check r.now f.now
form_reading (forms.New beside r f ws) = new_of beside r.now f.now (names_of (map (λ word. string_bytes word) ws.now))
form_reading (forms.Originals r ws) = originals_of r.now (names_of (map (λ word. string_bytes word) ws.now))
form_reading forms.Unknown = Unknown

-- its ref is a ref name, and its further words are names
abbrev pub IsFormed : Form → Type 0
IsFormed forms.Refs = Unit
IsFormed (forms.Log r f) = is_ref_name r.now ≡ true
IsFormed (forms.Check r f) = is_ref_name r.now ≡ true
IsFormed (forms.New beside r f ws) = (is_ref_name r.now ≡ true) × IsSome (names_of (map (λ word. string_bytes word) ws.now))
IsFormed (forms.Originals r ws) = (is_ref_name r.now ≡ true) × IsSome (names_of (map (λ word. string_bytes word) ws.now))
IsFormed forms.Unknown = Unit

-- a sound filter of a text, and a ref's name
pub record IsSubject (s : Subject) (r text : Bytes) : Type 0 where
  pub refname : s.refname ≡ r
  pub sound_is : sound text ≡ Ok (shape s.filter)
  pub usable : IsUsable (shape s.filter)

-- what the words were read as
abbrev pub IsAsked : Reading → Asked → Type 0
IsAsked Refs asks.Refs = Unit
IsAsked (Log r text) (asks.Log s) = IsSubject s r text
IsAsked (Check r text) (asks.Check s) = IsSubject s r text
IsAsked (New beside r text ns) (asks.New b s haves) = (b ≡ beside) × IsSubject s r text × (map name_bytes haves.items ≡ ns)
IsAsked (Originals r ns) (asks.Originals n haves) = (n ≡ r) × (map name_bytes haves.items ≡ ns)
IsAsked asked found = ⊥

-- why nothing is asked: there is no memory for it, or it is the refusal of the words or of the filter
abbrev pub IsUnjudged : Reading → Outcome → Type 0
IsUnjudged Unknown e = e ≡ Usage
IsUnjudged asked e = (e ≡ OutOfMemory) ⊎ (verdict asked ≡ Err e)

-- what comes of a ref's commit, or the refusal of the ref
abbrev pub at_head : {A : Type 0} → Bytes → Held → (Bytes → A) → Result A Outcome
at_head refname h next = head_of refname h.refs >>= λ n. Ok (next n)

-- it is in a store, or in hand
abbrev pub IsAtHand : List Object → List Hand → Object → Type 0
IsAtHand S ks o = Contains S o ⊎ IsInHands ks o

-- What was written of an output, by each outcome, upon a state with this store.
pub record IsLooked (S : List Object) (ks : List Hand) (r : Result Bytes Outcome) (before after : SinkView) (outcome : Outcome) : Type 0 where
  pub allowed : IsOutcome (IsAtHand S ks) outcome r
  pub given : IsGiven (text_of r) before after outcome

-- the same with what is in hand where a case comes up
abbrev pub IsLookedFor : List Object → Result Hand Outcome → Result Bytes Outcome → SinkView → SinkView → Outcome → Type 0
IsLookedFor S k r before after outcome = IsLooked S (option_to_list (result_ok k)) r before after outcome

-- a report, or why there is none
abbrev pub IsReport : List Object → Result Hand Outcome → Result Bytes Outcome → Result Bytes Outcome → Type 0
IsReport S k r (Ok report) = r ≡ Ok report
IsReport S k r (Err e) = IsOutcome (IsAtHand S (option_to_list (result_ok k))) e r

-- how writing a text ends
abbrev pub IsWriteOutcome : Outcome → Type 0
IsWriteOutcome Done = ⊤
IsWriteOutcome WriteFault = ⊤
IsWriteOutcome OutOfMemory = ⊤
IsWriteOutcome outcome = ⊥

-- how looking at a state ends
abbrev pub IsEnd : Outcome → Type 0
IsEnd Done = ⊤
IsEnd WriteFault = ⊤
IsEnd OutOfMemory = ⊤
IsEnd UnknownRef = ⊤
IsEnd (Collision n) = ⊤
IsEnd outcome = ⊥

-- why there is no report of a state
abbrev pub IsUnreported : Outcome → Type 0
IsUnreported OutOfMemory = ⊤
IsUnreported UnknownRef = ⊤
IsUnreported (Collision n) = ⊤
IsUnreported outcome = ⊥

-- why nothing is shown: there is no memory, or two objects at hand have one name
abbrev pub IsUnshown : (Object → Type 0) → Outcome → Type 0
IsUnshown at_hand OutOfMemory = ⊤
IsUnshown at_hand (Collision n) = IsTwice at_hand n.0
IsUnshown at_hand outcome = ⊥

-- These names are of commits of a store that may be written; their text is that of these commits by a graph's trees, which is read again, also
-- with tags of these behind it.
pub record AreFresh (S : List Object) (tree_of : Bytes → Flat) (cs : List Snapshot) (names : List Bytes) : Type 0 where
  pub commits : AreCommitsIn S names
  pub named : names ≡ map snapshot_name cs
  pub text : (refname : Bytes) → changes_text (tree_in S) (snapshots_at S names) refname ≡ changes_text tree_of cs refname
  pub lawful : (refname : Bytes) → is_ref_name refname ≡ true → IsReadBackUpon tree_of cs refname
  pub with_tags : (refname : Bytes) → is_ref_name refname ≡ true → (ts : List Tag) → AreTagsOf cs ts → IsTaggedBackUpon tree_of cs refname ts

-- these commits and these tags are what is new beside others
pub record AreNew (tagged : Bool) (h : Held) (f : Filter) (n : Bytes) (haves : List Bytes) (S : List Object) (names : List Bytes) (tags : List Tag) : Type 0 where
  pub fresh : AreFresh S (tree_at (projected_graph h f n)) (new_commits h f n haves) names
  pub same_tags : tags ≡ new_tags tagged h f n haves

-- a state of the same items, whose store has got nothing but what is in hand
pub record IsStill (tagged : Bool) (items : List Bytes) (h : Held) (s : Contents) (f : Filter) (n : Bytes) (t : Contents) : Type 0 where
  pub state : IsStateOf items h t
  pub grown : IsGrownBy (IsInHands (export_hand tagged h f n ∷ [])) s.basis.store t.basis.store

-- the forms of the words
abbrev pub usage : Bytes
usage =
    codes "usage: proj_read STORE (refs | log REF FILTER | check REF FILTER | "
    ++ codes "new [--tags | --names] REF FILTER [HAVE ..] | originals REF [HAVE ..])\n"

-- the line for the error stream
abbrev pub read_text : Outcome → Bytes
read_text Usage = usage
read_text outcome = outcome_text outcome
