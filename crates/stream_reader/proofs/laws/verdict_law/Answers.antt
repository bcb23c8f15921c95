use Rattle.stream_reader.proofs.Composed.{blob-reader, head-reader, reset-reader, tag-reader, change-reader}
use Rattle.stream_reader.proofs.Turning.{turn-reader}
use Rattle.stream_reader.proofs.Commanding.{command-reader}
use Rattle.stream_reader.proofs.Iterating.{verdict-is, pieces_same}
use Rattle.stream_reader.proofs.laws.verdict_law.Goals as goal

pub returns : goal.returns
returns c = record {
  blob_is = blob-reader;
  head_is = head-reader;
  reset_is = reset-reader;
  tag_is = tag-reader;
  change_is = change-reader;
  turn_is = turn-reader;
  command_is = command-reader;
  one_by_one = verdict-is;
  pieces = pieces_same;
}
