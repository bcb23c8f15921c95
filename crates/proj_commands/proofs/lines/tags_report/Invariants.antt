use Rattle.std.proofs.Common.{◌≡◌, take}
use Rattle.std.specs.List.{flat_map}
use Rattle.proj_commands.specs.Lines.{tag_line}
use Rattle.proj_commands.proofs.lines.tags_report.Given as goal

abbrev pub invariant-loop-tag : goal.invariant-loop-tag
invariant-loop-tag l = l.report.items ≡ flat_map tag_line (take l.tag-index l.tags)
