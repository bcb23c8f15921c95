use Rattle.std.proofs.Common.{◌≡◌, map, take, None}
use Rattle.std.specs.FinMap.{find}
use Rattle.git_objects.specs.Refs.{bytes_cmp}
use Rattle.fast_import.specs.Replaying.{setting_value}
use Rattle.proj_commands.proofs.naming.head_among.Given as goal

abbrev pub invariant-loop-set : goal.invariant-loop-set
invariant-loop-set l = find bytes_cmp l.refname (map setting_value (take l.set-index l.heads)) ≡ None
