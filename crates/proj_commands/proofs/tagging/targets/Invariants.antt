use Rattle.std.proofs.Common.{◌≡◌, map, take}
use Rattle.tag_objects.specs.declared.tag.Tag.{Tag}
use Rattle.proj_commands.proofs.tagging.targets.Given as goal

abbrev pub invariant-loop-tag : goal.invariant-loop-tag
invariant-loop-tag l = l.names.items ≡ map (λ (t : Tag). t.target) (take l.tag-index l.tags)
