use Rattle.std.proofs.Common.{List, ℕ, ◌++◌, take, drop, length, min, ap, ◌∙◌}
use Rattle.git_objects.proofs.Basics.{bytes_fit}
use Rattle.memory_devices.proofs.Fronts.{gives_front}
use Rattle.memory_devices.proofs.source.SliceSourceSource.read.Goals as goal

pub returns-clause-bytes : goal.returns-clause-bytes
returns-clause-bytes c =
    let n = c.min-count.result in
    let copied = c.copy_from_slice.new.self in
    let buf = c.args.buf.now in
    let here = c.self.view_is in
    gives_front c.args.self.now c.split_at.result.0.now c.split_at.result.1.now copied buf n
    (bytes_fit (copied ++ drop n buf) c.type_inv.buf) (c.split_at.ensures.front ∙ ap (take n) here)
    (c.split_at.ensures.back ∙ ap (drop n) here) c.copy_from_slice.ensures.after
    (c.min-count.ensures ∙ ap (λ (l : List ℕ). min (length l) (length buf)) here)
