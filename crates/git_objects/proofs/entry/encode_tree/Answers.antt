use Rattle.std.proofs.Common.{sym}
use Rattle.git_objects.proofs.TreeReading.{spelled_law}
use Rattle.git_objects.proofs.entry.encode_tree.Goals as goal

pub returns-clause-read_back : goal.returns-clause-read_back
returns-clause-read_back c =
    spelled_law c.in_ok-body.body.items c.args.entries.now
    (record { entries = c.requires; names = c.in_ok-body.ensures.names; spelled = sym c.in_ok-body.ensures.body })
