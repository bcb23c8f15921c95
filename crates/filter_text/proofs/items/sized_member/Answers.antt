use Rattle.std.proofs.Common.{◌≡◌, Some, arith, subst}
use Rattle.filter_text.specs.Shapes.{shapes}
use Rattle.filter_text.specs.Reading.{pieces_at}
use Rattle.filter_text.specs.Nesting.{LeavesLess, TellsPieces}
use Rattle.filter_text.specs.Views.{filters_read}
use Rattle.filter_text.proofs.Shorter.{less_some, pieces_at_shorter}
use Rattle.filter_text.proofs.Leaving.{sized-long}
use Rattle.filter_text.proofs.items.sized_member.Goals as goal

pub overflow_sub-size : goal.overflow_sub-size
overflow_sub-size c =
    let t = c.args.text.now in
    let read : pieces_at t ≡ Some (shapes c.in-Some.pieces.items, c.in-Some.rest.now) =
    subst (λ r. TellsPieces c.saturating_sub.result (pieces_at t) (filters_read r)) c.in-Some.is c.in_ok-pieces_to.ensures in
    omega (arith, less_some 2 t (pieces_at t) (shapes c.in-Some.pieces.items, c.in-Some.rest.now) (pieces_at_shorter t) read)

pub returns-in-None : goal.returns-in-None
returns-in-None c =
    let t = c.args.text.now in
    let short : LeavesLess c.saturating_sub.result (pieces_at t) =
    subst (λ r. TellsPieces c.saturating_sub.result (pieces_at t) (filters_read r)) c.in-None.is c.in_ok-pieces_to.ensures in
    sized-long c.args.before c.args.target t (subst (λ n. LeavesLess n (pieces_at t)) c.saturating_sub.ensures short)
