use Rattle.std.proofs.Common.{[], ap, ◌∙◌}
use Rattle.git_objects.specs.Refs.{Refs}
use Rattle.state_items.specs.Changes.{with_refs}
use Rattle.state_items.specs.Steps.{are_heads}
use Rattle.state_items.proofs.HeadsHeld.{are_heads-put}
use Rattle.state_items.proofs.ref_fields.set_ref.Goals as goal

pub returns-clause-heads : goal.returns-clause-heads
returns-clause-heads c =
    ap (λ (t : Refs). are_heads c.args.held.now.objects t) c.in_ok-set.ensures.refs
    ∙ are_heads-put c.args.held.now.objects (with_refs [] c.args.refs.now) c.in_ok-name.name.now c.in_ok-head.head.0 c.requires.heads c.in_ok-head.ensures.head
