-- The parts of a commit, as the definitions have them.
use Rattle.std.specs.Prelude.{map}
use Rattle.git_objects.specs.Paths.{Bytes}
use Rattle.git_objects.specs.Commits.{Commit}
use Rattle.git_objects.specs.declared.name.Name.{Name}
use Rattle.git_objects.specs.declared.commit.CommitParts.{CommitParts}

abbrev pub name_bytes : Name → Bytes
name_bytes n = n.0

abbrev pub commit_of : CommitParts → Commit
commit_of parts = record {
  tree = parts.tree.0;
  parents = map name_bytes parts.parents.items;
  letter = record { author = parts.author; committer = parts.committer; message = parts.message };
}
