use Rattle.proj_journal.proofs.Writing.{rest_written, write_list, write_images, puts, adds, on_ok}
use Rattle.proj_journal.proofs.records.write_behind.Goals as goal

pub returns-clause-list : goal.returns-clause-list
returns-clause-list g c =
    let e = c.write_at.ensures in
    write_list c.args.end c.args.at c.args.piece.now _ _ c.write_at.result c.requires.behind c.requires.rest (g.met.D.Disk.reads c.write_at.new.self) e.written e.failed e.memory

pub returns-clause-stops : goal.returns-clause-stops
returns-clause-stops g c =
    let e = c.write_at.ensures in
    adds _ _ _ _ _ _ e.time (write_images c.args.end c.args.at c.args.piece.now _ _ c.write_at.result c.requires.behind c.requires.rest (g.met.D.Disk.reads c.write_at.new.self) e.written e.failed e.memory)

pub returns-clause-rest : goal.returns-clause-rest
returns-clause-rest g c =
    let e = c.write_at.ensures in
    on_ok _ _ c.write_at.result (λ ok. rest_written c.args.end c.args.at c.args.piece.now _ _ c.requires.behind c.requires.rest ok (g.met.D.Disk.reads c.write_at.new.self)) e.written

pub returns-clause-bytes : goal.returns-clause-bytes
returns-clause-bytes g c = on_ok _ _ c.write_at.result (λ ok. puts c.args.at c.args.piece.now _ _ ok) c.write_at.ensures.written
