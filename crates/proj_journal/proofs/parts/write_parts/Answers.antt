use Rattle.std.proofs.Common.{ℕ, List, [], length, take, sym, ap, subst, arith, length-append}
use Rattle.std.proofs.lemmas.List.{take_all}
use Rattle.std.proofs.lemmas.List.Folds.{length-flat_map-take}
use Rattle.std.specs.Borrow.{Bor}
use Rattle.proj_io.specs.Items.{joined}
use Rattle.proj_journal.specs.Gathering.{IsGathered}
use Rattle.proj_journal.specs.Rest.{Puts}
use Rattle.proj_journal.proofs.Gathered.{behind_on, behind_passed, gathered_end, gathered_on, joined_more}
use Rattle.proj_journal.proofs.parts.write_parts.Goals as goal

abbrev no_part : Bor (List ℕ)
no_part = record { ref_ptr = (0, 0); now = [] }

pub gather-requires-clause-small : goal.gather-requires-clause-small
gather-requires-clause-small g c =
    let gathered = c.loop-part.invariant.gathered in
    let short = length-flat_map-take (λ (part : Bor (List ℕ)). part.now) c.args.parts.now c.loop-part.part-index no_part c.loop-part-test.true in
    omega (arith, c.requires.small, gathered.ends, ap length gathered.split, length-append gathered.written c.loop-part.buffer.items, short)

pub loop-part-preserved : goal.loop-part-preserved
loop-part-preserved g c =
    let d = g.D.Disk in
    let i = c.loop-part.part-index in
    let parts = c.args.parts.now in
    let at = c.args.at in
    let mid = c.loop-part.next in
    let next = c.in_ok-next.next in
    let kept = c.loop-part.buffer.items in
    let rest = c.gather.new.buffer.items in
    let o = d.content c.args.disk.now in
    let m = d.content c.loop-part.disk in
    let p = d.content c.gather.new.disk in
    record {
      behind =
          behind_on d.content d.moment d.left_since d.faults c.args.end c.args.disk.now c.loop-part.disk c.gather.new.disk ⊥ c.loop-part.invariant.behind
          (behind_passed d.content d.moment d.left_since d.faults c.args.end c.loop-part.disk c.gather.new.disk _ (λ failed. cc) c.in_ok-next.ensures.behind);
      gathered =
          subst (λ (l : List ℕ). IsGathered at next l rest o p) (sym (joined_more parts i no_part c.loop-part-test.true))
          (gathered_on at mid next (joined (take i parts)) _ kept rest o m p c.requires.inside c.loop-part.invariant.gathered c.in_ok-next.ensures.gathered);
    }

pub returns-clause-bytes : goal.returns-clause-bytes
returns-clause-bytes g c =
    let i = c.loop-part.part-index in
    let parts = c.args.parts.now in
    let at = c.args.at in
    let o = g.D.Disk.content c.args.disk.now in
    let m = g.D.Disk.content c.loop-part.disk in
    let p = g.D.Disk.content c.flush.new.disk in
    subst (λ (l : List (Bor (List ℕ))). Puts at (joined l) o p) (take_all i parts (omega (arith, c.loop-part-test.false)))
    (gathered_end at c.loop-part.next _ (joined (take i parts)) c.loop-part.buffer.items o m p c.requires.inside c.loop-part.invariant.gathered c.in_ok-flush.ensures.gathered)
