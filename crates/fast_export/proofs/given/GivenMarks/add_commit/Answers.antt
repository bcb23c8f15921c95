use Rattle.std.proofs.Common.{ap}
use Rattle.fast_export.specs.Given.{Given}
use Rattle.fast_export.proofs.Giving.{entry_added}
use Rattle.fast_export.proofs.given.GivenMarks.add_commit.Goals as goal

pub returns-clause-ok : goal.returns-clause-ok
returns-clause-ok c =
    let blobs = ap (λ (g : Given). g.blobs) c.self.view_is in
    let commits = ap (λ (g : Given). g.commits) c.self.view_is in
    let more = entry_added c.self.inside.commits c.args.self.now.commits _ c.args.name _ _ commits c.requires c.next-number.ensures c.in_ok-insert.ensures.entries in
    let trees = ap (λ (g : Given). g.trees) c.self.view_is in
    λ i. record { blobs = blobs i; commits = more i; trees = trees i }
