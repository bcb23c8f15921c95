use Rattle.std.proofs.Common.{◌≡◌, [], true, sym, subst}
use Rattle.object_store.specs.Places.{Intake}
use Rattle.state_items.specs.Changes.{with_refs}
use Rattle.state_items.specs.Steps.{are_heads}
use Rattle.state_items.proofs.HeadsHeld.{are_heads-more}
use Rattle.state_items.proofs.reading.read_tagged.Goals as goal

pub read_tags-requires-clause-heads : goal.read_tags-requires-clause-heads
read_tags-requires-clause-heads c =
    are_heads-more c.reserve.new.self.incoming.objects c.read.new.self.incoming.objects (with_refs [] c.args.refs.now) c.in_ok-end.ensures.commits
    (subst (λ (i : Intake). are_heads i.objects (with_refs [] c.args.refs.now) ≡ true) (sym c.reserve.ensures.incoming) c.requires.heads)
