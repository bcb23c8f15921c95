use Rattle.std.proofs.Common.{◌+◌, ◌++◌, ℕ, List, [], length, sym, subst}
use Rattle.proj_journal.specs.Gathering.{IsGathered}
use Rattle.proj_journal.proofs.Gathered.{gathered_all, gathered_on}
use Rattle.proj_journal.proofs.parts.gather.Goals as goal

pub returns-clause-gathered : goal.returns-clause-gathered
returns-clause-gathered g c =
    let at = c.args.at in
    let mid = c.in_ok-next.next in
    let part = c.args.part.now in
    let next = mid + length part in
    let bytes = c.args.buffer.now.items in
    let o = g.D.Disk.content c.args.disk.now in
    let m = g.D.Disk.content c.flush.new.disk in
    let p = g.D.Disk.content c.write_behind.new.disk in
    let last = gathered_all mid part m p c.in_ok-write_behind.ensures.bytes in
    subst (λ (l : List ℕ). IsGathered at next (bytes ++ part) l o p) (sym c.in_ok-next.ensures.empty)
    (gathered_on at mid next bytes part [] [] o m p c.requires.inside c.in_ok-next.ensures.gathered last)
