-- The state behind a plan whose item was appended.
use Rattle.std.proofs.Common.{◌≡◌, ◌+◌, ℕ, List, ◌++◌, length, None, sym, ap, ◌∙◌, length-append}
use Rattle.std.specs.Prelude.{sum_by}
use Rattle.std.proofs.lemmas.List.Sums.{sum_by-append}
use Rattle.git_objects.specs.Paths.{Bytes}
use Rattle.projection_ground.specs.Grounds.{IsGround}
use Rattle.state_items.specs.Appending.{IsAddition}
use Rattle.state_items.specs.Changes.{Plan, Room, held_after, passed, plan_items, room_of}
use Rattle.state_items.specs.Items.{Held}
use Rattle.state_items.proofs.Appended.{append-law}
use Rattle.repo_ground.specs.Changes.{IsAppended}
use Rattle.repo_ground.specs.Contents.{Contents, IsCurrent, room_in}
use Rattle.proj_commands.specs.Makes.{IsStateOf}

-- a state counts the items that it has
pub room-same : (items : List Bytes) (h : Held) (s : Contents) → IsCurrent items h s → room_in s ≡ room_of items
room-same items h s c = λ i. record { number = c.number i; size = c.size i }

-- so a plan passes no limit of the items where it passes none of the state
pub passed-same : (items : List Bytes) (h : Held) (p : Plan) (s : Contents) → IsCurrent items h s → passed h (room_in s) p ≡ None → passed h (room_of items) p ≡ None
passed-same items h p s c e = sym (ap (λ (r : Room). passed h r p) (room-same items h s c)) ∙ e

-- Items with a plan's item behind them are those of the state after it.
pub state-after : (items : List Bytes) (h : Held) (p : Plan) (s after : Contents) → IsStateOf items h s → IsAddition h p → IsAppended h p s after → IsGround after.basis
    → IsStateOf (items ++ plan_items p) (held_after h p) after
state-after items h p s after w a c g = record {
  current = record {
    read = append-law.read_back items h p w.current.read a (passed-same items h p s w.current c.within);
    number = c.number ∙ ap (λ (n : ℕ). n + length (plan_items p)) w.current.number ∙ sym (length-append items (plan_items p));
    size = c.size ∙ ap (λ (n : ℕ). n + sum_by length (plan_items p)) w.current.size ∙ sym (sum_by-append length items (plan_items p));
  };
  spells = c.spells;
  ground = g;
}
