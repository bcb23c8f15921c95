use Rattle.std.proofs.Common.{◌≡◌, ◌<◌, ◌-◌, ◌+◌, ℕ, List, length, take, min, ◌∙◌, ap, arith}
use Rattle.std.specs.Prelude.{IfSome}
use Rattle.proj_disk.specs.Disks.{front_at}
use Rattle.proj_journal.specs.declared.place.Place.{Place}
use Rattle.proj_journal.specs.Journals.{place_at}
use Rattle.proj_journal.proofs.Keeping.{number_is, none_read, part_read, if_ok, all_ok}
use Rattle.proj_journal.proofs.journal.JournalKeeper.read.Goals as goal

pub returns-then-count-eq0-clause-bytes : goal.returns-then-count-eq0-clause-bytes
returns-then-count-eq0-clause-bytes g c =
    let spot = c.find_place-place.ensures.place ∙ ap (λ (l : List Place). place_at l c.args.item) c.deref.ensures.value in
    none_read (g.D.Disk.content c.args.self.now.disk) c.args.self.now.end c.args.self.now.places.items c.args.item c.find_place-place.result c.args.from (length c.args.buf.now) c.requires.told spot (omega arith)

pub returns-clause-bytes : goal.returns-clause-bytes
returns-clause-bytes g c =
    let spot = c.find_place-place.ensures.place ∙ ap (λ (l : List Place). place_at l c.args.item) c.deref.ensures.value in
    let some : 0 < c.min-count.result = omega (arith, c.if-count-eq0.false) in
    let counts : c.min-count.result ≡ min (length c.args.buf.now) (c.find_place-place.result.size - c.args.from) = omega arith in
    let o = g.D.Disk.content c.args.self.now.disk in
    if_ok (λ (n : ℕ). IfSome o (λ d. take n c.read_part.new.buf ≡ front_at (c.find_place-place.result.at + c.args.from) c.min-count.result d.bytes)) _ c.read_part.result
    (λ n read. part_read o c.args.self.now.end c.args.self.now.places.items c.args.item c.find_place-place.result c.args.from (length c.args.buf.now) c.min-count.result (take n c.read_part.new.buf)
    c.requires.told (g.met.D.Disk.reads c.args.self.now.disk) spot counts some read) c.read_part.ensures.bytes

pub returns-clause-none : goal.returns-clause-none
returns-clause-none g c =
    let number = number_is (g.D.Disk.content c.args.self.now.disk) c.args.self.now.end c.args.self.now.places.items c.requires.told in
    let same = ap (λ (l : List Place). length l) c.deref.ensures.value in
    let some : 0 < c.find_place-place.result.size = omega (arith, c.if-count-eq0.false) in
    all_ok _ c.read_part.result (λ n past. let none = c.find_place-place.ensures.none (omega (arith, past, number, same)) in absurd (omega (arith, none, some)))
