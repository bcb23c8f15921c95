use Rattle.std.proofs.Common.{◌≡◌, ◌-◌, arith}
use Rattle.std.specs.Prelude.{min}
use Rattle.proj_journal.proofs.WindowLemmas.{head_part}
use Rattle.proj_journal.proofs.window.Window.head.Goals as goal

pub returns : goal.returns
returns c =
    let window = c.args.self.now in
    let n : c.min.result - c.args.skip ≡ min 5 (window.count - c.args.skip) = omega arith in
    rw c.deref.ensures.value (head_part window.bytes.items window.count c.args.skip (c.min.result - c.args.skip) c.requires.within n)
