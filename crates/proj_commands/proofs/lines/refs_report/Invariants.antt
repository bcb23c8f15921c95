use Rattle.std.proofs.Common.{◌≡◌, map, take}
use Rattle.std.specs.List.{flat_map}
use Rattle.fast_import.specs.Replaying.{setting_value}
use Rattle.proj_commands.specs.Lines.{ref_line}
use Rattle.proj_commands.proofs.lines.refs_report.Given as goal

abbrev pub invariant-loop-set : goal.invariant-loop-set
invariant-loop-set l = l.report.items ≡ flat_map ref_line (map setting_value (take l.set-index l.refs))
