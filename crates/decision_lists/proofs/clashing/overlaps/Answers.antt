use Rattle.std.proofs.Common.{◌&&◌, sym, ap, ◌∙◌, []}
use Rattle.decision_lists.specs.Entries.{cone_of}
use Rattle.decision_lists.specs.Operations.{alive, alive_in, covers, heads}
use Rattle.decision_lists.proofs.Testing.{alive-test}
use Rattle.decision_lists.proofs.clashing.overlaps.Goals as goal

pub returns-then-covers : goal.returns-then-covers
returns-then-covers c =
    let o = c.args.other.now in
    let hs = heads c.args.holes.now [] in
    alive-test c.args.holes.now (cone_of c.other.inside.point c.other.inside.base.items) o.0 c.is_alive.result
    (c.is_alive.ensures ∙ ap (λ b. alive_in c.args.holes.now (cone_of c.other.inside.point b)) c.as_slice-then-covers.ensures.value)
    (ap (λ v. v.0) c.other.view_is)
    ∙ ap (λ b. b && alive hs o.0)
    (sym c.if-covers.true ∙ c.covers.ensures ∙ ap (λ b. covers c.args.entry.now.0 (cone_of c.other.inside.point b)) c.as_slice.ensures.value
    ∙ ap (λ v. covers c.args.entry.now.0 v.0) c.other.view_is)
