use Rattle.std.proofs.Common.{◌≡◌, ◌-◌, true, None, []}
use Rattle.std.specs.Option.{option_copied}
use Rattle.ref_store.specs.Refs.{AreDistinct}
use Rattle.state_items.specs.Changes.{with_refs}
use Rattle.state_items.specs.Items.{refs_field}
use Rattle.state_items.specs.Steps.{are_heads}
use Rattle.state_items.proofs.ref_fields.set_refs.Given as goal

abbrev pub invariant-loop-i : goal.invariant-loop-i
invariant-loop-i l = record {
  rest : refs_field l.fn.count l.held.objects None (with_refs [] l.initial.refs) l.initial.cursor ≡ refs_field (l.count - l.i) l.held.objects (option_copied l.before) (with_refs [] l.refs) l.cursor;
  heads : are_heads l.held.objects (with_refs [] l.refs) ≡ true;
  distinct : AreDistinct l.refs;
}
