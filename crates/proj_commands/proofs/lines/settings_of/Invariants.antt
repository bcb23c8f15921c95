use Rattle.std.proofs.Common.{◌≡◌, ◌++◌, [], map, take}
use Rattle.fast_import.specs.Replaying.{head_values, setting_value}
use Rattle.state_items.specs.Changes.{with_refs}
use Rattle.proj_commands.proofs.lines.settings_of.Given as goal

abbrev pub invariant-loop-i : goal.invariant-loop-i
invariant-loop-i l = head_values l.heads.entries ≡ with_refs [] (take l.i l.refs)

abbrev pub invariant-loop-refname : goal.invariant-loop-refname
invariant-loop-refname l = map setting_value l.settings.items ++ head_values l.refname-iterator ≡ with_refs [] l.refs
