-- What the owner of a piece's slice leaves in it.
use Rattle.std.specs.Prelude.{◌++◌, length, take, drop}
use Rattle.std.specs.Borrow.{Lends, MutBor, Fml, Array, u8}
use Rattle.git_objects.specs.Paths.{Bytes}
use Rattle.object_store.specs.Places.{Intake}
use Rattle.object_store.specs.contracts.incoming.Incoming.{the_row}

-- a piece over whose front these bytes are written
abbrev pub written : Bytes → Bytes → Bytes
written piece bytes = take (length piece) (bytes ++ drop (length bytes) piece)

abbrev pub with_piece : Intake → Bytes → Intake
with_piece s bytes = record s { piece = written s.piece bytes }

-- the piece is what the slice holds at the end, and all else stays
abbrev pub LendsPiece : MutBor Intake → MutBor Bytes → Fml
LendsPiece s r = Lends the_row (Array u8 0) s r (with_piece s.now)
