use Rattle.std.proofs.Common.{◌≡◌, ◌++◌, length, List}
use Rattle.git_objects.specs.Paths.{Bytes}
use Rattle.git_objects.specs.Entries.{body_text}
use Rattle.git_objects.specs.declared.entry.Entry.{Entry}
use Rattle.stage_nodes.specs.Expanding.{AreChildren, IsFilling}
use Rattle.stage_nodes.proofs.Starting.{MayBeLast}
use Rattle.stage_nodes.proofs.nodes.Nodes.fill_parts.Given as goal

abbrev pub invariant-entries : goal.invariant-entries
invariant-entries l = record {
  done : List Entry;
  whole : done ++ l.entries ≡ l.initial.entries;
  filling : IsFilling l.initial.self l.self l.directory done;
  front : Bytes;
  left : l.self.names.items ≡ front ++ body_text l.entries;
  children : AreChildren l.self l.directory l.children.items;
  last : MayBeLast l.self done l.children.items l.last_len;
}

abbrev pub decreases-entries : goal.decreases-entries
decreases-entries l = length l.entries
