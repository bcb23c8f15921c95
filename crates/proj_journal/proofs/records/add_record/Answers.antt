use Rattle.proj_journal.specs.Rest.{SpellsSame, SpellsOneMore}
use Rattle.proj_io.specs.Items.{joined}
use Rattle.proj_io.specs.Stops.{adds_on, adds_as}
use Rattle.proj_journal.proofs.Adding.{stages_list, stages_staged, added_from, may_from, one_more_back, same_one_more, rest_from}
use Rattle.proj_journal.proofs.RecordBytes.{puts_record}
use Rattle.proj_journal.proofs.Writing.{on_ok, spells_back}
use Rattle.proj_journal.proofs.records.add_record.Goals as goal

pub returns-clause-added : goal.returns-clause-added
returns-clause-added g c =
    let o = g.D.Disk.content c.args.disk.now in
    let p = g.D.Disk.content c.stage.new.disk in
    let stages = c.in_ok-stage.ensures.staged in
    on_ok _ _ c.open_gate.result (λ added. added_from c.args.end (joined c.args.parts.now) o p _ (stages_list c.args.end (joined c.args.parts.now) o p stages) added) (c.open_gate.ensures.opened (joined c.args.parts.now) (stages_staged c.args.end (joined c.args.parts.now) o p stages))

pub returns-clause-memory : goal.returns-clause-memory
returns-clause-memory g c memory = rest_from c.args.end (joined c.args.parts.now) _ (g.D.Disk.content c.stage.new.disk) _ c.in_ok-stage.ensures.staged (c.open_gate.ensures.memory memory)

pub returns-clause-list : goal.returns-clause-list
returns-clause-list g c =
    let o = g.D.Disk.content c.args.disk.now in
    let p = g.D.Disk.content c.stage.new.disk in
    let stages = c.in_ok-stage.ensures.staged in
    may_from c.args.end (joined c.args.parts.now) o p _ (stages_list c.args.end (joined c.args.parts.now) o p stages) (c.open_gate.ensures.list (joined c.args.parts.now) (stages_staged c.args.end (joined c.args.parts.now) o p stages))

pub returns-clause-stops : goal.returns-clause-stops
returns-clause-stops g c =
    let item = (joined c.args.parts.now) in
    let o = g.D.Disk.content c.args.disk.now in
    let p = g.D.Disk.content c.stage.new.disk in
    let stages = c.in_ok-stage.ensures.staged in
    let first = adds_as _ _ _ _ (SpellsSame o) (SpellsOneMore item o) (same_one_more c.args.end item o) c.stage.ensures.stops in
    let second = adds_as _ _ _ _ (SpellsOneMore item p) (SpellsOneMore item o) (one_more_back c.args.end item o p (stages_list c.args.end item o p stages))
    (c.open_gate.ensures.stops item (stages_staged c.args.end item o p stages)) in
    adds_on _ _ _ _ _ _ (SpellsOneMore item o) first second

pub returns-clause-stops_memory : goal.returns-clause-stops_memory
returns-clause-stops_memory g c memory =
    let item = (joined c.args.parts.now) in
    let o = g.D.Disk.content c.args.disk.now in
    let p = g.D.Disk.content c.stage.new.disk in
    let stages = c.in_ok-stage.ensures.staged in
    let second = adds_as _ _ _ _ (SpellsSame p) (SpellsSame o) (spells_back o p (stages_list c.args.end item o p stages))
    (c.open_gate.ensures.stops_memory memory item (stages_staged c.args.end item o p stages)) in
    adds_on _ _ _ _ _ _ (SpellsSame o) c.stage.ensures.stops second

pub returns-clause-bytes : goal.returns-clause-bytes
returns-clause-bytes g c =
    let o = g.D.Disk.content c.args.disk.now in
    let p = g.D.Disk.content c.stage.new.disk in
    on_ok _ _ c.open_gate.result (λ opened. puts_record c.args.end (joined c.args.parts.now) o p _ c.requires.rest (g.met.D.Disk.reads c.args.disk.now) c.in_ok-stage.ensures.bytes opened) c.open_gate.ensures.bytes
