use Rattle.std.proofs.Common.{List, ap, ◌∙◌}
use Rattle.git_objects.specs.Paths.{Bytes}
use Rattle.ref_store.specs.Refs.{with_head}
use Rattle.ref_store.specs.Pairs.{pairs}
use Rattle.ref_store.proofs.Heads.{pairs-insert}
use Rattle.ref_store.proofs.refs.Refs.set.Goals as goal

pub returns-clause-ok : goal.returns-clause-ok
returns-clause-ok c =
    ap pairs c.in_ok-insert.ensures.entries
    ∙ pairs-insert c.args.refname c.args.head c.self.inside.heads.entries
    ∙ ap (λ (refs : List (Bytes × Bytes)). with_head refs c.args.refname c.args.head.0) c.self.view_is
