-- Items that hold what they should, which commands ask for them, and which may change the state.
use Rattle.std.specs.Prelude.{List, Bool, true, false, ◌≡◌, Ok}
use Rattle.git_objects.specs.Paths.{Bytes}
use Rattle.object_store.specs.Objects.{IsStore}
use Rattle.filter_text.specs.Filters.{Filter}
use Rattle.filter_text.specs.Printing.{printed}
use Rattle.state_items.specs.Items.{Held, read_items}
use Rattle.state_items.specs.Repos.{IsKept, repo}
use Rattle.proj_words.specs.Words.{Command, As, Project, writes}
use Rattle.proj_commands.specs.Filters.{project_by, entries_of, projected, recalled, sound}

-- ---- items that hold what they should

-- the items spell what is held, with nothing beside the state's objects, and what is kept are the projections from scratch
abbrev pub AreKept : List Bytes → Held → Type 0
AreKept items h = IsKept project_by items h

-- whether a form takes what is kept for projections
abbrev pub recalls : Command → Bool
recalls (Project refname text) = true
recalls (As user asked) = recalls asked
recalls asked = false

-- items that hold what they should where a form takes what is kept for projections
abbrev pub HoldWhatTheyShould : Command → List Bytes → Type 0
HoldWhatTheyShould asked items = (h : Held) → recalls asked ≡ true → read_items items ≡ Ok h → AreKept items h

-- On such items a projection that takes what is kept for projections is the one from scratch.
abbrev pub RecallLaw : Type 0
RecallLaw = (items : List Bytes) (h : Held) (f : Filter) (n : Bytes) → AreKept items h → IsStore h.objects → sound (printed f) ≡ Ok f
    → recalled (entries_of h f) h.rule f (repo h).commits n ≡ projected h f n

-- ---- what a form may change

-- whether a form may change the state
abbrev pub changes_state : Command → Bool
changes_state (Project r f) = false
changes_state (As u c) = changes_state c
changes_state asked = writes asked

-- the same state, whatever is kept
pub record IsSameState (h g : Held) : Type 0 where
  pub objects : g.objects ≡ h.objects
  pub refs : g.refs ≡ h.refs
  pub rule : g.rule ≡ h.rule
  pub tags : g.tags ≡ h.tags
