-- What the owner of a piece's slice leaves in it.
use Rattle.std.specs.Borrow.{Lends, MutBor, Fml, Array, u8}
use Rattle.git_objects.specs.Paths.{Bytes}
use Rattle.state_items.specs.Readings.{Gathered, with_written}
use Rattle.state_items.specs.contracts.reading.Reading.{the_row}

-- the piece is what the slice holds at the end, and all else stays
abbrev pub LendsPiece : MutBor Gathered → MutBor Bytes → Fml
LendsPiece s r = Lends the_row (Array u8 0) s r (with_written s.now)
