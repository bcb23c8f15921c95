use Rattle.std.proofs.Common.{◌+◌, length, sym, ◌∙◌, ap, subst, arith, length-append, ◌∷◌, []}
use Rattle.proj_io.specs.Items.{joined}
use Rattle.proj_journal.specs.declared.place.Place.{Place}
use Rattle.proj_journal.specs.Journals.{AllFit}
use Rattle.proj_journal.proofs.Keeping.{number_is, fit-push, record_got, told_sized}
use Rattle.proj_journal.proofs.journal.JournalKeeper.append_parts.Goals as goal

pub returns-in-Ok-add_record-clause-is_open : goal.returns-in-Ok-add_record-clause-is_open
returns-in-Ok-add_record-clause-is_open g c =
    let was = c.requires.is_open in
    let places = c.args.self.now.places.items in
    let place : Place = record { at = c.args.self.now.end + 5; size = c.joined_len-size.result } in
    let total = c.joined_len-size.ensures in
    let number = number_is (g.D.Disk.content c.args.self.now.disk) c.args.self.now.end places was.told in
    let long = ap length c.in-Ok-push.ensures.items ∙ length-append places (place ∷ []) in
    record {
      is_open = was.is_open;
      few = omega (arith, number, long, c.requires.room);
      room = omega (arith, long, was.room, total, c.requires.size);
      fit = subst AllFit (sym c.in-Ok-push.ensures.items) (fit-push places place was.fit (omega (arith, total, c.requires.size)) (omega (arith, was.room, was.few, total, c.requires.size)));
      told = told_sized c.args.self.now.end c.joined_len-size.result (joined c.args.parts.now) _ _ places _ total was.told c.in-Ok-add_record.ensures.added c.in-Ok-push.ensures.items;
    }

pub returns-in-Ok-add_record-clause-bytes : goal.returns-in-Ok-add_record-clause-bytes
returns-in-Ok-add_record-clause-bytes g c =
    record_got _ _ c.args.self.now.end c.args.self.now.places.items (joined c.args.parts.now) c.requires.is_open.told c.in-Ok-add_record.ensures.bytes
