-- Blocks of data.
use Rattle.std.specs.Prelude.{ℕ, cond, nat_eq, nat_le, codes, Option, Some, None, Ok}
use Rattle.std.specs.Option.{option_and_then}
use Rattle.std.specs.List.{starts_with}
use Rattle.git_objects.specs.declared.limits.TheConstants.{BLOB_BYTES, MESSAGE_BYTES}
use Rattle.git_objects.specs.declared.quantity.Quantity.{Quantity}
use Rattle.git_objects.specs.declared.quantity.Quantity.TheVariants as limits
use Rattle.git_objects.specs.Paths.{Bytes}
use Rattle.git_objects.specs.CommitBodies.{strip}
use Rattle.stream_lex.specs.Lines.{Input, Line, block_at}
use Rattle.stream_reader.specs.declared.fault.Feature.TheVariants.{Delimiter, Encoding, Signature}
use Rattle.stream_reader.specs.declared.fault.StreamFault.TheVariants.{Syntax, Unsupported, Limit}
use Rattle.path_names.specs.Words.{number}
use Rattle.git_objects.specs.Results.{◌>>=◌}
use Rattle.stream_lex.specs.Cutting.{◌then◌, judged, refuse}
use Rattle.stream_reader.specs.Reading.{Reader, Read, lifted, fault, or_fault, need_line}

-- how many bytes a line `data N` says
abbrev pub count : Bytes → Option ℕ
count t = option_and_then number (strip (codes "data ") t)

-- a block that is too short is a fault of its `data` line
abbrev pub block_in : ℕ → Option Bytes × Input → Read Bytes
block_in at (None, i) = fault (Syntax at)
block_in at (Some b, i) = Ok (b, i)

-- the next n bytes, and one LF behind them where it is there
abbrev pub whole_block : ℕ → ℕ → Reader Bytes
whole_block at n ended i = lifted (block_at n ended i) >>= block_in at

abbrev pub sized_block : Quantity → ℕ → ℕ → ℕ → Reader Bytes
sized_block which most at n = cond (nat_le n most) (whole_block at n) (refuse (Limit at which))

-- what stands behind a line `data N`
unfoldable pub data_behind : Quantity → ℕ → Line → Reader Bytes
data_behind which most l =
    cond (starts_with nat_eq l.bytes (codes "data <<")) (refuse (Unsupported l.place Delimiter))
    (judged (or_fault (Syntax l.place) (count l.bytes)) then sized_block which most l.place)

-- A blob's data, within its limit.
unfoldable pub blob_data : Reader Bytes
blob_data = need_line then data_behind limits.Blob BLOB_BYTES

abbrev pub message_behind : Line → Reader Bytes
message_behind l =
    cond (starts_with nat_eq l.bytes (codes "encoding ")) (refuse (Unsupported l.place Encoding))
    (cond (starts_with nat_eq l.bytes (codes "gpgsig ")) (refuse (Unsupported l.place Signature))
    (data_behind limits.Message MESSAGE_BYTES l))

-- A commit's message, within its limit.
unfoldable pub message_data : Reader Bytes
message_data = need_line then message_behind

-- A tag's message. No line `encoding` or `gpgsig` is looked for.
unfoldable pub tag_data : Reader Bytes
tag_data = need_line then data_behind limits.Message MESSAGE_BYTES
