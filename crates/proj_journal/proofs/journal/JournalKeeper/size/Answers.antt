use Rattle.std.proofs.Common.{List, length, ◌∙◌, ap, arith}
use Rattle.proj_journal.specs.declared.place.Place.{Place}
use Rattle.proj_journal.specs.Journals.{place_at}
use Rattle.proj_journal.proofs.Keeping.{number_is, size_known}
use Rattle.proj_journal.proofs.journal.JournalKeeper.size.Goals as goal

pub returns-clause-size : goal.returns-clause-size
returns-clause-size g c =
    size_known (g.D.Disk.content c.args.self.now.disk) c.args.self.now.end c.args.self.now.places.items c.args.item c.find_place.result c.requires.told
    (c.find_place.ensures.place ∙ ap (λ (l : List Place). place_at l c.args.item) c.deref.ensures.value)

pub returns-clause-none : goal.returns-clause-none
returns-clause-none g c past =
    let number = number_is (g.D.Disk.content c.args.self.now.disk) c.args.self.now.end c.args.self.now.places.items c.requires.told in
    let same = ap (λ (l : List Place). length l) c.deref.ensures.value in
    c.find_place.ensures.none (omega (arith, past, number, same))
