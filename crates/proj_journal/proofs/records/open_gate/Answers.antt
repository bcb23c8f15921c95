use Rattle.std.proofs.Common.{◌≡◌, ◌∷◌, [], refl, subst, arith, inl, inr}
use Rattle.std.specs.declared.option.Option.{Option}
use Rattle.proj_disk.specs.Disks.{DiskView, IsLeftBy}
use Rattle.std.proofs.lemmas.Grind.{common_steps}
use Rattle.proj_journal.specs.Rest.{SpellsSame, SpellsOneMore}
use Rattle.proj_io.specs.Stops.{adds_on}
use Rattle.proj_journal.proofs.GateOpening.{gate_images, gate_known, may_add, may_add_on, gate_done, done_images, staged_same}
use Rattle.proj_journal.proofs.RecordBytes.{puts_synced}
use Rattle.proj_journal.proofs.Writing.{adds, puts}
use Rattle.proj_journal.proofs.records.open_gate.Goals as goal

pub returns-in_err-write_at-clause-list : goal.returns-in_err-write_at-clause-list
returns-in_err-write_at-clause-list g c item staged =
    let e = c.write_at.ensures in
    let p = g.D.Disk.content c.write_at.new.self in
    may_add c.args.end item _ p (gate_known c.args.end item _ p c.write_at.result e.written e.failed e.memory) (g.met.D.Disk.reads c.write_at.new.self)
    (gate_images c.args.end item _ p c.write_at.result staged e.written e.failed e.memory)

pub returns-in_err-write_at-clause-stops : goal.returns-in_err-write_at-clause-stops
returns-in_err-write_at-clause-stops g c item staged =
    let e = c.write_at.ensures in
    adds _ _ _ _ _ (SpellsOneMore item (g.D.Disk.content c.args.disk.now)) e.time (gate_images c.args.end item _ _ c.write_at.result staged e.written e.failed e.memory)

pub returns-in-Ok-clause-opened : goal.returns-in-Ok-clause-opened
returns-in-Ok-clause-opened g c item staged =
    gate_done c.args.end item _ (g.D.Disk.content c.write_at.new.self) _ staged c.in_ok-write_at.ensures.written c.in-Ok.ensures.stable

pub returns-in-Ok-clause-list : goal.returns-in-Ok-clause-list
returns-in-Ok-clause-list g c item staged =
    let e = c.write_at.ensures in
    let p = g.D.Disk.content c.write_at.new.self in
    may_add_on c.args.end item _ p _ (may_add c.args.end item _ p (gate_known c.args.end item _ p c.write_at.result e.written e.failed e.memory) (g.met.D.Disk.reads c.write_at.new.self)
    (gate_images c.args.end item _ p c.write_at.result staged e.written e.failed e.memory)) (inl c.in-Ok.ensures.stable)

pub returns-in-Ok-clause-stops : goal.returns-in-Ok-clause-stops
returns-in-Ok-clause-stops g c item staged =
    let e = c.write_at.ensures in
    let K = SpellsOneMore item (g.D.Disk.content c.args.disk.now) in
    let first = adds _ _ _ _ _ K e.time (gate_images c.args.end item _ _ c.write_at.result staged e.written e.failed e.memory) in
    let done = gate_done c.args.end item _ (g.D.Disk.content c.write_at.new.self) (g.D.Disk.content c.sync.new.self) staged c.in_ok-write_at.ensures.written c.in-Ok.ensures.stable in
    adds_on _ _ _ _ _ _ K first (adds _ _ _ _ _ K c.sync.ensures.time (done_images c.args.end item _ _ done))

pub returns-in-Err-clause-list : goal.returns-in-Err-clause-list
returns-in-Err-clause-list g c item staged =
    let e = c.write_at.ensures in
    let p = g.D.Disk.content c.write_at.new.self in
    may_add_on c.args.end item _ p _ (may_add c.args.end item _ p (gate_known c.args.end item _ p c.write_at.result e.written e.failed e.memory) (g.met.D.Disk.reads c.write_at.new.self)
    (gate_images c.args.end item _ p c.write_at.result staged e.written e.failed e.memory)) (inr (c.in-Err.ensures.failed refl))

pub returns-in-Err-clause-stops : goal.returns-in-Err-clause-stops
returns-in-Err-clause-stops g c item staged =
    let e = c.write_at.ensures in
    let o = g.D.Disk.content c.args.disk.now in
    let K = SpellsOneMore item o in
    let images = gate_images c.args.end item o (g.D.Disk.content c.write_at.new.self) c.write_at.result staged e.written e.failed e.memory in
    let first = adds _ _ _ _ _ K e.time images in
    adds_on _ _ _ _ _ _ K first (adds _ _ _ _ _ K c.sync.ensures.time (λ image left. images image (subst (λ (v : Option DiskView). IsLeftBy v image) (c.in-Err.ensures.failed refl) left)))

pub returns-in_err-write_at-clause-stops_memory : goal.returns-in_err-write_at-clause-stops_memory
returns-in_err-write_at-clause-stops_memory g c memory item staged =
    let same : g.D.Disk.content c.write_at.new.self ≡ g.D.Disk.content c.args.disk.now = grind (arith, common_steps) in
    adds _ _ _ _ _ (SpellsSame (g.D.Disk.content c.args.disk.now)) c.write_at.ensures.time (staged_same c.args.end item _ _ staged same)

pub returns-in-Ok-clause-bytes : goal.returns-in-Ok-clause-bytes
returns-in-Ok-clause-bytes g c =
    let p = g.D.Disk.content c.write_at.new.self in
    puts_synced c.args.end (1 ∷ []) _ p _ (puts c.args.end (1 ∷ []) _ p c.in_ok-write_at.ensures.written) c.in-Ok.ensures.stable
