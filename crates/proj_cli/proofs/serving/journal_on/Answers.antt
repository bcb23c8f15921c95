use Rattle.proj_journal.specs.Journals.{disk_of}
use Rattle.proj_journal.specs.declared.opening.JournalError.TheVariants.{Failed}
use Rattle.proj_cli.proofs.DiskLists.{empty_kept_in, long_begun_in, made_begun_in, new_fresh_in, new_items_in, none_long, open_fresh_in, same_begun, same_kept, unopened_kept_in}
use Rattle.proj_cli.proofs.serving.journal_on.Goals as goal

pub returns-then-count-eq0-clause-items : goal.returns-then-count-eq0-clause-items
returns-then-count-eq0-clause-items g c =
    let before = g.D.Disk.content c.args.disk in
    let then = g.D.Disk.content c.len.new.self in
    new_items_in c.create.result (λ journal. g.D.Disk.content (disk_of journal)) before then
    (none_long before then c.in-Ok.count c.in-Ok.ensures.count c.in-Ok.ensures.same c.if-count-eq0.true) c.in-Ok.ensures.same c.create.ensures.told c.create.ensures.empty

pub returns-then-count-eq0-clause-fresh : goal.returns-then-count-eq0-clause-fresh
returns-then-count-eq0-clause-fresh g c =
    let before = g.D.Disk.content c.args.disk in
    let then = g.D.Disk.content c.len.new.self in
    new_fresh_in c.create.result (λ journal. g.D.Disk.content (disk_of journal)) before then
    (none_long before then c.in-Ok.count c.in-Ok.ensures.count c.in-Ok.ensures.same c.if-count-eq0.true) c.in-Ok.ensures.same c.create.ensures.bytes

pub returns-else-count-eq0-clause-fresh : goal.returns-else-count-eq0-clause-fresh
returns-else-count-eq0-clause-fresh g c =
    open_fresh_in c.open.result (λ journal. g.D.Disk.content (disk_of journal)) (g.D.Disk.content c.args.disk) (g.D.Disk.content c.len.new.self) c.in-Ok.count c.in-Ok.ensures.count c.if-count-eq0.false c.in-Ok.ensures.same
    c.open.ensures.stable

pub returns-in-Err-clause-kept : goal.returns-in-Err-clause-kept
returns-in-Err-clause-kept g c = same_kept (g.D.Disk.content c.args.disk) (g.D.Disk.content c.len.new.self) c.in-Err.ensures.same

pub returns-then-count-eq0-clause-kept : goal.returns-then-count-eq0-clause-kept
returns-then-count-eq0-clause-kept g c =
    let before = g.D.Disk.content c.args.disk in
    let then = g.D.Disk.content c.len.new.self in
    empty_kept_in c.create.result (λ none. g.D.Disk.content none.disk) before then
    (none_long before then c.in-Ok.count c.in-Ok.ensures.count c.in-Ok.ensures.same c.if-count-eq0.true) c.in-Ok.ensures.same

pub returns-else-count-eq0-clause-kept : goal.returns-else-count-eq0-clause-kept
returns-else-count-eq0-clause-kept g c =
    unopened_kept_in c.open.result (λ none. g.D.Disk.content none.disk) (g.D.Disk.content c.args.disk) (g.D.Disk.content c.len.new.self) c.in-Ok.ensures.same c.open.ensures.kept

pub returns-in-Err-clause-begun : goal.returns-in-Err-clause-begun
returns-in-Err-clause-begun g c = same_begun (g.D.Disk.content c.args.disk) (g.D.Disk.content c.len.new.self) Failed c.in-Err.ensures.same

pub returns-then-count-eq0-clause-begun : goal.returns-then-count-eq0-clause-begun
returns-then-count-eq0-clause-begun g c =
    let does = c.create.ensures in
    made_begun_in c.create.result (λ none. g.D.Disk.content none.disk) (λ none. none.error) (g.D.Disk.content c.args.disk) (g.D.Disk.content c.len.new.self) c.in-Ok.ensures.same does.begun does.memory does.not_broken

pub returns-else-count-eq0-clause-begun : goal.returns-else-count-eq0-clause-begun
returns-else-count-eq0-clause-begun g c =
    long_begun_in c.open.result (λ none. g.D.Disk.content none.disk) (λ none. none.error) (g.D.Disk.content c.args.disk) (g.D.Disk.content c.len.new.self) c.in-Ok.count c.in-Ok.ensures.count c.in-Ok.ensures.same c.if-count-eq0.false
