use Rattle.std.proofs.Common.{arith, rules, ◌<◌, ◌≡◌, ◌++◌, length, drop, take, Ok, sym, subst}
use Rattle.std.specs.Io.KnownBytes.{Consumes, IsAtEnd}
use Rattle.std.proofs.lemmas.Grind.{common_steps}
use Rattle.git_objects.proofs.Basics.{bytes_fit}
use Rattle.proj_io.specs.declared.source.Failed.{Failed}
use Rattle.proj_io.proofs.Known.{held_read}
use Rattle.proj_io.proofs.real.StdSourceSource.read.Goals as goal

pub returns-in-Ok-clause-bytes : goal.returns-in-Ok-clause-bytes
returns-in-Ok-clause-bytes g c =
    let before = g.R.Read.remaining c.args.self.now.inner in
    let after = g.R.Read.remaining c.read.new.self in
    let buf = c.copy_from_slice.new.self ++ drop c.in-Ok.count c.args.buf.now in
    let front : take c.in-Ok.count buf ≡ take c.in-Ok.count c.read.new.buf = grind (arith, common_steps) in
    let read : Consumes before after (take c.in-Ok.count c.read.new.buf) = search rules in
    let end : c.in-Ok.count ≡ 0 → 0 < length buf → IsAtEnd after =
    λ none room. let long : 0 < length c.read.new.buf = grind (arith, common_steps) in c.in-Ok.ensures.bytes.1 none long in
    held_read {E = Failed} before after (Ok c.in-Ok.count) buf (bytes_fit buf c.type_inv.buf) (subst (Consumes before after) (sym front) read, end)
