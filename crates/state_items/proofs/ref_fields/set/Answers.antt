use Rattle.std.proofs.Common.{[], ap, subst, sym, ◌∙◌}
use Rattle.std.specs.FinMap.{put}
use Rattle.git_objects.specs.Paths.{Bytes}
use Rattle.git_objects.specs.Refs.{bytes_cmp}
use Rattle.ref_store.specs.Refs.{AreDistinct}
use Rattle.ref_store.proofs.Heads.{distinct-set}
use Rattle.state_items.specs.Changes.{with_refs}
use Rattle.state_items.proofs.RefsHeld.{sorted-head}
use Rattle.state_items.proofs.ref_fields.set.Goals as goal

pub returns-in-Ok-set-clause-refs : goal.returns-in-Ok-set-clause-refs
returns-in-Ok-set-clause-refs c =
    ap (with_refs []) c.in-Ok-set.ensures.ok
    ∙ sorted-head c.args.refs.now c.in-Ok.name c.args.head.0 c.requires.distinct
    ∙ ap (λ (n : Bytes). put bytes_cmp n c.args.head.0 (with_refs [] c.args.refs.now)) c.in-Ok.ensures.ok.0

pub returns-in-Ok-set-clause-distinct : goal.returns-in-Ok-set-clause-distinct
returns-in-Ok-set-clause-distinct c =
    subst AreDistinct (sym c.in-Ok-set.ensures.ok) (distinct-set c.args.refs.now c.in-Ok.name c.args.head.0 c.requires.distinct)
