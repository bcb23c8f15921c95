use Rattle.std.proofs.Common.{arith}
use Rattle.proj_journal.proofs.Keeping.{number_is}
use Rattle.proj_journal.proofs.journal.JournalKeeper.count.Goals as goal

pub returns-clause-number : goal.returns-clause-number
returns-clause-number g c =
    let number = number_is (g.D.Disk.content c.args.self.now.disk) c.args.self.now.end c.args.self.now.places.items c.requires.told in
    omega (arith, number)
