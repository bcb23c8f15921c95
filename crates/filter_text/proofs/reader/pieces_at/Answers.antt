use Rattle.std.proofs.Common.{◌≡◌, Option}
use Rattle.std.specs.Prelude.{Result, Ok, Err, IfOk}
use Rattle.std.specs.Borrow.{Bor}
use Rattle.std.specs.Global.{Vec}
use Rattle.std.specs.declared.alloc.AllocError.{AllocError}
use Rattle.git_objects.specs.Paths.{Bytes}
use Rattle.filter_text.specs.Filters.{Filters}
use Rattle.filter_text.specs.Texts.{Read}
use Rattle.filter_text.specs.Reading.{pieces_at}
use Rattle.filter_text.specs.Nesting.{TellsPieces}
use Rattle.filter_text.specs.Views.{filters_read}
use Rattle.filter_text.specs.declared.filter.Filter.{Filter}
use Rattle.filter_text.proofs.Leaving.{told-all}
use Rattle.filter_text.proofs.reader.pieces_at.Goals as goal

told : (whole : Read Filters) (r : Result (Option (Vec Filter × Bor Bytes)) AllocError) →
    IfOk r (λ x. TellsPieces 0 whole (filters_read x)) → IfOk r (λ x. filters_read x ≡ whole)
told whole (Ok x) h = told-all whole (filters_read x) h
told whole (Err e) h = tt

pub returns : goal.returns
returns c = told (pieces_at c.args.text.now) c.pieces_to.result c.pieces_to.ensures
