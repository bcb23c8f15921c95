use Rattle.std.proofs.Common.{◌≡◌, ◌<◌, length, inr, refl, arith}
use Rattle.std.proofs.lemmas.Bool.{false≢true}
use Rattle.std.proofs.lemmas.Grind.{common_steps}
use Rattle.std.specs.Int.{w32, from_be_bytes}
use Rattle.proj_journal.proofs.GateLemmas.{four, cut_short, not_open, opens}
use Rattle.proj_journal.proofs.gate.read_gate.Goals as goal

pub returns-then-head-lt5-clause-told : goal.returns-then-head-lt5-clause-told
returns-then-head-lt5-clause-told c rest is room =
    let some : 0 < length c.args.head.now = grind (arith, common_steps) in
    inr (cut_short c.args.number c.args.head.now rest is some (omega arith) c.if-head-ne1.false)

pub returns-then-not-may_stand-clause-told : goal.returns-then-not-may_stand-clause-told
returns-then-not-may_stand-clause-told c rest is room =
    let of : c.from_be_bytes-size.result ≡ from_be_bytes w32 (four c.args.head.now) = c.from_be_bytes-size.ensures in
    inr (not_open c.args.number c.args.room c.from_be_bytes-size.result c.args.head.now rest is room c.if-head-lt5.false c.if-head-ne1.false of (λ all. absurd (false≢true (c.if-not-may_stand.ensures.1 all))))

pub returns-clause-told : goal.returns-clause-told
returns-clause-told c rest is room =
    let of : c.from_be_bytes-size.result ≡ from_be_bytes w32 (four c.args.head.now) = c.from_be_bytes-size.ensures in
    opens c.args.number c.args.room c.from_be_bytes-size.result c.args.head.now rest is room c.if-head-lt5.false c.if-head-ne1.false (λ i. omega (arith, c.type_inv.head i)) of (c.if-not-may_stand.ensures.0 refl)
