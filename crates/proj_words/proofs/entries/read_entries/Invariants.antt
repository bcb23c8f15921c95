use Rattle.std.proofs.Common.{◌≡◌, ◌+◌, length, map}
use Rattle.proj_words.specs.Views.{entry_value, spot_value}
use Rattle.proj_words.proofs.Reading.{IsRead}
use Rattle.proj_words.proofs.entries.read_entries.Given as goal

abbrev pub invariant-entries : goal.invariant-entries
invariant-entries l = record {
  within : l.spot.at + length l.spot.rest.now ≡ length l.fn.input;
  read : IsRead l.fn.input (map entry_value l.found.items) (spot_value l.spot);
}

abbrev pub decreases-entries : goal.decreases-entries
decreases-entries l = length l.spot.rest.now
