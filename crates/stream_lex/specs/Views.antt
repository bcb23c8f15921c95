-- What functions over borrowed bytes tell.
use Rattle.std.specs.Prelude.{◌≡◌, ℕ, List, Bool, false, length, Option, Some, None, Result, Ok, Err}
use Rattle.std.specs.Borrow.{Bor}
use Rattle.stream_lex.specs.declared.stop.Stop.{Stop}
use Rattle.stream_lex.specs.declared.stop.LimitFault.{LimitFault}
use Rattle.stream_lex.specs.declared.stop.Stop.TheVariants.{More, Fault}
use Rattle.stream_lex.specs.declared.cursor.Cursor.{Cursor}
use Rattle.stream_lex.specs.declared.cursor.LineView.{LineView}
use Rattle.git_objects.specs.Paths.{Bytes}
use Rattle.stream_lex.specs.Lines.{Input, Line, HasNone}

-- what a function returned, seen by view, is what reading gives
abbrev pub Tells : {X Y : Type 0} → (X → Y) → Result X (Stop LimitFault) → Result Y (Stop LimitFault) → Type 0
Tells view (Ok x) read = read ≡ Ok (view x)
Tells view (Err e) read = read ≡ Err e

abbrev pub input : Cursor → Input
input i = record { at = i.at; rest = i.rest.now }

abbrev pub line : LineView → Line
line l = record { place = l.at; bytes = l.bytes.now }

abbrev pub maybe_line : Option LineView → Option Line
maybe_line None = None
maybe_line (Some l) = Some (line l)

abbrev pub read_line : Option LineView × Cursor → Option Line × Input
read_line x = (maybe_line x.0, input x.1)

abbrev pub maybe_bytes : Option (Bor (List ℕ)) → Option Bytes
maybe_bytes None = None
maybe_bytes (Some b) = Some b.now

abbrev pub read_block : Option (Bor (List ℕ)) × Cursor → Option Bytes × Input
read_block x = (maybe_bytes x.0, input x.1)

-- where it waits for more, no byte of what has come is LF
abbrev pub WaitsClear : {X : Type 0} → Result X (Stop LimitFault) → Bool → Bytes → Type 0
WaitsClear (Ok x) ended rest = Unit {0}
WaitsClear (Err (More w)) ended rest = (ended ≡ false) × HasNone rest (length rest)
WaitsClear (Err (Fault f)) ended rest = Unit {0}
