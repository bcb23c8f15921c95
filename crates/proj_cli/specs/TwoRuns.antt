-- What a user can't tell of two stores by two calls of `run`.
use Rattle.std.specs.Prelude.{◌≡◌, ◌⊎◌, Bool, true, false, List, Some, Ok}
use Rattle.std.specs.List.{list_all}
use Rattle.git_objects.specs.Paths.{Bytes, is_bytes}
use Rattle.filter_text.specs.Filters.{Filter}
use Rattle.state_items.specs.Items.{Held}
use Rattle.proj_words.specs.Words.{Command, As, Export, Project, Push}
use Rattle.proj_words.specs.declared.outcome.Outcome.{Outcome}
use Rattle.proj_words.specs.declared.outcome.Outcome.TheVariants.{Collision, OutOfMemory}
use Rattle.proj_commands.specs.Alike.{IsAlike, IsAlikeForPush, OfHeads, head, tells_unshown}
use Rattle.proj_cli.specs.Answers.{Devices, NoneFailed, Wrote}
use Rattle.proj_commands.specs.Filters.{sound}
use Rattle.proj_commands.specs.Plans.{AreKept}
use Rattle.proj_commands.specs.Policy.{policy_text}
use Rattle.proj_cli.specs.Runs.{IsAnswer}

-- ---- one call

-- what it had, what it left, and its outcome
pub record Call : Type 0 where
  pub before : Devices
  pub after : Devices
  pub outcome : Outcome

-- Whether an outcome isn't decided by what is asked: want of memory, and two objects of one name.
abbrev pub is_undecided : Outcome → Bool
is_undecided OutOfMemory = true
is_undecided (Collision n) = true
is_undecided outcome = false

-- A call upon a store that tells Kept items, with the answer that `run` gives. No device failed, and it ended neither for want of memory nor
-- for two objects of one name.
pub record IsCall (asked : Command) (items : List Bytes) (h : Held) (call : Call) : Type 0 where
  pub store : call.before.store.items ≡ Some items
  pub kept : AreKept items h
  pub answer : IsAnswer asked call.before call.after call.outcome
  pub whole : NoneFailed call.before call.after
  pub decided : is_undecided call.outcome ≡ false

-- ---- two calls

-- They had one outcome, and both outputs got the same bytes.
pub record AreSame (a b : Call) : Type 0 where
  pub outcome : a.outcome ≡ b.outcome
  pub report : Bytes
  pub first : Wrote report a.before a.after
  pub second : Wrote report b.before b.after

-- Of two calls of one command for a user, upon stores with one policy, where the ref is in neither, or in both with commits of which the
-- filter shows the same: the outcomes are the same, and what is written. So it is of a push with the same input, where the workspace's file
-- is the same too, unless one of both outcomes tells of what isn't shown. With the outcome the line on the error stream is the same.
pub record TwoRunsLaw : Type 0 where
  pub project : (user refname text : Bytes) (f : Filter) (I J : List Bytes) (g h : Held) (a b : Call)
      → IsCall (As user (Project refname text)) I g a → IsCall (As user (Project refname text)) J h b
      → sound text ≡ Ok f → policy_text g ≡ policy_text h → OfHeads (λ m n. IsAlike f g m h n) (head refname g) (head refname h)
      → AreSame a b
  pub export : (user refname text : Bytes) (f : Filter) (I J : List Bytes) (g h : Held) (a b : Call)
      → IsCall (As user (Export refname text)) I g a → IsCall (As user (Export refname text)) J h b
      → sound text ≡ Ok f → policy_text g ≡ policy_text h → OfHeads (λ m n. IsAlike f g m h n) (head refname g) (head refname h)
      → AreSame a b
  pub push : (user refname text : Bytes) (f : Filter) (I J : List Bytes) (g h : Held) (a b : Call) (input : Bytes)
      → IsCall (As user (Push refname text)) I g a → IsCall (As user (Push refname text)) J h b
      → a.before.input.left ≡ Some input → b.before.input.left ≡ Some input → list_all is_bytes I ≡ true → is_bytes input ≡ true
      → sound text ≡ Ok f → policy_text g ≡ policy_text h → OfHeads (λ m n. IsAlikeForPush f g m h n) (head refname g) (head refname h)
      → (tells_unshown a.outcome ≡ true) ⊎ (tells_unshown b.outcome ≡ true) ⊎ AreSame a b
