-- Queries: commands that only look at what is held. Each definition has a line for each query; what the line stands for is said in the
-- query's own file.
use Rattle.std.specs.FinMap.{find}
use Rattle.std.specs.Option.{option_map}
use Rattle.std.specs.Prelude.{⊤, [], Option, Some, None, Result, Ok}
use Rattle.git_objects.specs.Paths.{Bytes, Path}
use Rattle.git_objects.specs.Refs.{bytes_cmp}
use Rattle.git_objects.specs.Results.{◌>>=◌}
use Rattle.filter_text.specs.Filters.{Filter}
use Rattle.filter_text.specs.Shapes.{shape}
use Rattle.workspace.specs.Laws.{IsUsable}
use Rattle.proj_audit.specs.Certificates.{audit}
use Rattle.state_items.specs.Items.{Held}
use Rattle.proj_words.specs.Words.{Query, Tags, Audit}
use Rattle.proj_words.specs.declared.outcome.Outcome.{Outcome}
use Rattle.proj_commands.specs.Audit.{IsAudited, path_by}
use Rattle.proj_commands.specs.Filters.{sound}
use Rattle.proj_commands.specs.Hands.{Hand, seen_hand, still_hand}
use Rattle.proj_commands.specs.Tags.{tags_text}
use Rattle.proj_commands.specs.declared.querying.JudgedQuery.{JudgedQuery}
use Rattle.proj_commands.specs.declared.querying.JudgedQuery.TheVariants as judged

-- ---- judging

-- a query whose filter is sound
pub data SoundQuery : Type 0 where
  -- of the ref
  TagsOf : Filter → Bytes → SoundQuery
  -- of the ref, at a path
  AuditOf : Filter → Bytes → Path → SoundQuery

-- what judging a query gives, or the refusal of its filter
abbrev pub sound_query : Query → Result SoundQuery Outcome
sound_query (Tags refname text) = sound text >>= λ f. Ok (TagsOf f refname)
sound_query (Audit refname text path) = sound text >>= λ f. Ok (AuditOf f refname (path_by path))

abbrev pub sound_of : JudgedQuery → SoundQuery
sound_of (judged.Tags s) = TagsOf (shape s.filter) s.refname
sound_of (judged.Audit s q) = AuditOf (shape s.filter) s.refname q

-- what projecting needs to know of its filter
abbrev pub IsUsableQuery : SoundQuery → Type 0
IsUsableQuery (TagsOf f refname) = IsUsable f
IsUsableQuery (AuditOf f refname q) = IsUsable f

-- ---- what is looked at

-- what a query looks at, beside what is held
pub data Sight : Type 0 where
  -- of the ref's commit
  TagsSight : Filter → Bytes → Sight
  -- of the ref's commit, at a path
  AuditSight : Filter → Bytes → Path → Sight

-- the sight of a query, where its ref is there
abbrev pub sight : Held → SoundQuery → Option Sight
sight h (TagsOf f refname) = option_map (TagsSight f) (find bytes_cmp refname h.refs)
sight h (AuditOf f refname q) = option_map (λ n. AuditSight f n q) (find bytes_cmp refname h.refs)

abbrev pub answer : Held → Sight → Bytes
answer h (TagsSight f n) = tags_text h f n
answer h (AuditSight f n q) = audit h.objects f q n

-- what an answer proves
abbrev pub IsLawfulSight : Held → Sight → Type 0
IsLawfulSight h (AuditSight f n q) = IsAudited h f n q
IsLawfulSight h x = ⊤

-- the filter through which a commit and those before it are projected, where they are
abbrev pub projects : Sight → Option (Filter × Bytes)
projects (TagsSight f n) = Some (f, n)
projects x = None

-- what a query brings together
abbrev pub hand_through : Held → Option (Filter × Bytes) → Hand
hand_through h None = still_hand h.objects [] []
hand_through h (Some e) = seen_hand h e.0 e.1
