-- What the words ask of a store.
use Rattle.std.specs.Prelude.{◌≡◌, true, if◌then◌else◌, List, [], ◌∷◌, codes, Option, Some, None, Result, Ok, Err}
use Rattle.std.specs.Option.{option_and_then, option_map}
use Rattle.git_objects.specs.CommitBodies.{digits_name}
use Rattle.git_objects.specs.Paths.{Bytes, is_nil, same_bytes}
use Rattle.git_objects.specs.Results.{◌>>=◌}
use Rattle.path_names.specs.RefNames.{is_ref_name}
use Rattle.proj_words.specs.declared.outcome.Outcome.{Outcome}
use Rattle.proj_words.specs.declared.outcome.Outcome.TheVariants.{Usage}
use Rattle.proj_commands.specs.Cases.{is_verdict}
use Rattle.proj_commands.specs.Filters.{sound}
use Rattle.read_cli.specs.declared.words.Beside.{Beside}
use Rattle.read_cli.specs.declared.words.Beside.TheVariants.{Names, Nothing, Tags}

pub data Reading : Type 0 where
  -- the refs
  Refs : Reading
  -- of a ref and the text of a filter
  Log : Bytes → Bytes → Reading
  -- of a ref and the text of a filter
  Check : Bytes → Bytes → Reading
  -- what stands beside, of a ref, the text of a filter, and the names of commits that are there
  New : Beside → Bytes → Bytes → List Bytes → Reading
  -- of a ref, and the names of commits that are there
  Originals : Bytes → List Bytes → Reading
  -- no form
  Unknown : Reading

-- the names that words are, each of 40 digits of either case
abbrev pub names_of : List Bytes → Option (List Bytes)
names_of [] = Some []
names_of (w ∷ ws) = option_and_then (λ n. option_map (λ ns. n ∷ ns) (names_of ws)) (digits_name w)

-- a form of a ref and the text of a filter
abbrev pub subject_words : (Bytes → Bytes → Reading) → List Bytes → Reading
subject_words form (r ∷ f ∷ []) = if is_ref_name r then form r f else Unknown
subject_words form _ = Unknown

abbrev pub new_of : Beside → Bytes → Bytes → Option (List Bytes) → Reading
new_of beside r f None = Unknown
new_of beside r f (Some ns) = New beside r f ns

-- of a ref, the text of a filter, and names
abbrev pub new_subject : Beside → List Bytes → Reading
new_subject beside (r ∷ f ∷ ws) = if is_ref_name r then new_of beside r f (names_of ws) else Unknown
new_subject beside _ = Unknown

abbrev pub new_words : List Bytes → Reading
new_words [] = Unknown
new_words (w ∷ ws) =
    if same_bytes w (codes "--tags") then new_subject Tags ws else
    (if same_bytes w (codes "--names") then new_subject Names ws else new_subject Nothing (w ∷ ws))

abbrev pub originals_of : Bytes → Option (List Bytes) → Reading
originals_of r None = Unknown
originals_of r (Some ns) = Originals r ns

abbrev pub originals_words : List Bytes → Reading
originals_words [] = Unknown
originals_words (r ∷ ws) = if is_ref_name r then originals_of r (names_of ws) else Unknown

-- the form of the words; a ref must be a ref name
abbrev pub reading : List Bytes → Reading
reading [] = Unknown
reading (w ∷ ws) =
    if same_bytes w (codes "refs") then (if is_nil ws then Refs else Unknown) else
    (if same_bytes w (codes "log") then subject_words Log ws else
    (if same_bytes w (codes "check") then subject_words Check ws else
    (if same_bytes w (codes "new") then new_words ws else
    (if same_bytes w (codes "originals") then originals_words ws else Unknown))))

-- what is known before anything is loaded: nothing, or the refusal of the words or of the filter
abbrev pub verdict : Reading → Result (Unit {0}) Outcome
verdict Refs = Ok tt
verdict (Log r text) = sound text >>= λ _. Ok tt
verdict (Check r text) = sound text >>= λ _. Ok tt
verdict (New beside r text ns) = sound text >>= λ _. Ok tt
verdict (Originals r ns) = Ok tt
verdict Unknown = Err Usage

-- such a refusal is answered only where it is this one
abbrev pub IsJudgedRightly : Reading → Outcome → Type 0
IsJudgedRightly asked outcome = is_verdict outcome ≡ true → verdict asked ≡ Err outcome
