-- What comes of one entry of a batch, upon the state that the entries before it left.
use Rattle.std.specs.Prelude.{◌≡◌, ◌≢◌, ◌⊎◌, ℕ, List, ◌∷◌, take, Contains}
use Rattle.git_objects.specs.Paths.{Bytes}
use Rattle.object_store.specs.Objects.{Object}
use Rattle.proj_io.specs.Counts.{Rose}
use Rattle.repo_ground.specs.Contents.{Contents}
use Rattle.state_items.specs.Items.{Held}
use Rattle.proj_words.specs.Entries.{Entry}
use Rattle.proj_words.specs.declared.outcome.Outcome.{Outcome}
use Rattle.proj_words.specs.declared.outcome.Outcome.TheVariants.{Done, OutOfMemory, WriteFault, StoreFault}
use Rattle.proj_cli.specs.Answers.{Devices, Got, Idle, Wrote}
use Rattle.proj_commands.specs.Hands.{IsInHands}
use Rattle.proj_commands.specs.Makes.{IsStateOf}
use Rattle.proj_cli.specs.Turns.{IsBrokenTurn, IsSafeTurn, IsTurn, Turn, items_after, turn_hands, turn_text}

-- ---- the state between two entries

-- It has what the items behind these turns spell; and in its store is nothing else but what the turns brought together.
pub record IsStateBehind (items : List Bytes) (ts : List Turn) (s : Contents) : Type 0 where
  pub held : Held
  pub state : IsStateOf (items_after items ts) held s
  pub brought : (o : Object) → Contains s.basis.store o → Contains held.objects o ⊎ IsInHands (turn_hands items ts) o

abbrev pub IsBehind : Contents → Type 0
IsBehind s = (items : List Bytes) × (ts : List Turn) × IsStateBehind items ts s

-- ---- a turn

-- It is one, and the store didn't fail in it.
pub record IsTurnOf (items : List Bytes) (ts : List Turn) (t : Turn) : Type 0 where
  pub safe : IsSafeTurn items ts t
  pub in_turn : IsTurn items ts t
  pub whole : t.outcome ≢ StoreFault

-- the store failed in it
pub record IsBrokenOf (items : List Bytes) (ts : List Turn) (t : Turn) : Type 0 where
  pub safe : IsSafeTurn items ts t
  pub broken : IsBrokenTurn (items_after items ts) t
  pub fault : t.outcome ≡ StoreFault

-- the turn of an entry, and what its command appended
pub record HasTurn (Is : Turn → Type 0) (e : Entry) (before after : Devices) : Type 0 where
  pub turn : Turn
  pub entry : turn.entry ≡ e
  pub is : Is turn
  pub got : Got turn.appended before after

-- a front of its reply was written
abbrev pub BeganTurn : Turn → Devices → Devices → Type 0
BeganTurn t before after = (n : ℕ) × Wrote (take n (turn_text t)) before after

-- How an entry ended behind these turns: its reply is written and the batch goes on; or the batch ends, for want of memory, for a fault of
-- the output, or for one of the store, of which the reply tells.
abbrev pub IsEntryAnswered : List Bytes → List Turn → Entry → Contents → Devices → Devices → Outcome → Type 0
IsEntryAnswered items ts e s before after Done =
    (x : HasTurn (IsTurnOf items ts) e before after) × Wrote (turn_text x.turn) before after × IsStateBehind items (x.turn ∷ ts) s
IsEntryAnswered items ts e s before after OutOfMemory =
    Idle before after ⊎ (Rose before.out.refusals after.out.refusals × ((x : HasTurn (IsTurnOf items ts) e before after) × BeganTurn x.turn before after))
IsEntryAnswered items ts e s before after WriteFault = (x : HasTurn (IsTurnOf items ts) e before after) × BeganTurn x.turn before after
IsEntryAnswered items ts e s before after StoreFault =
    (x : HasTurn (IsBrokenOf items ts) e before after) × BeganTurn x.turn before after
    × (¬ Rose before.out.faults after.out.faults → ¬ Rose before.out.refusals after.out.refusals → Wrote (turn_text x.turn) before after)
IsEntryAnswered items ts e s before after outcome = ⊥

-- what a stop leaves while an entry is answered: what was there, or what is there behind its turn
abbrev pub IsTurnStop : List Bytes → List Turn → Entry → List Bytes → Type 0
IsTurnStop items ts e list =
    (list ≡ items_after items ts) ⊎ ((t : Turn) × (t.entry ≡ e) × IsTurnOf items ts t × (list ≡ items_after items (t ∷ ts)))
