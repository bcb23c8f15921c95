-- Worked examples: up to which place a pushed stream is read.
use Rattle.std.specs.Prelude.{◌≡◌, refl, [], codes, None}
use Rattle.git_objects.specs.Paths.{Bytes}
use Rattle.path_names.specs.RefNames.{is_ref_name}
use Rattle.path_names.specs.Words.{number}
use Rattle.stream_lex.specs.Lines.{any_line, line_at, block_at}
use Rattle.stream_reader.specs.Words.{first_word, mark}
use Rattle.stream_reader.specs.Reading.{option_line, need_line}
use Rattle.stream_reader.specs.Names.{target}
use Rattle.stream_reader.specs.Blocks.{data_behind, blob_data}
use Rattle.stream_reader.specs.Heads.{mark_lines, blob, ref_line, reset}
use Rattle.stream_reader.specs.Commands.{command_line, turn, read_command}
use Rattle.fast_import.specs.Waited.{waited_from}
use Rattle.push_back.specs.Waited.{push_waited}

abbrev main : Bytes
main = codes "refs/heads/main"

-- of a reset of another ref: to the line behind it that is no comment
pub read_behind_a_refusal : push_waited main None [] (codes "reset refs/heads/side\n# a comment\nblob\ndata 1\na\n") ≡ 34
unfolding any_line line_at block_at option_line need_line first_word number mark target data_behind blob_data is_ref_name mark_lines blob ref_line reset command_line turn read_command waited_from
read_behind_a_refusal = refl

-- of the ref that is pushed to: to the end, without `done`
pub read_to_the_end : push_waited main None [] (codes "reset refs/heads/main\n# a comment\nblob\ndata 1\na\n") ≡ 48
unfolding any_line line_at block_at option_line need_line first_word number mark target data_behind blob_data is_ref_name mark_lines blob ref_line reset command_line turn read_command waited_from
read_to_the_end = refl

-- and behind the line `done`
pub read_to_done : push_waited main None [] (codes "reset refs/heads/main\ndone\nblob\n") ≡ 27
unfolding any_line line_at block_at option_line need_line first_word number mark target data_behind blob_data is_ref_name mark_lines blob ref_line reset command_line turn read_command waited_from
read_to_done = refl
