-- What a tree shares with a held tree beside it.
use Rattle.std.specs.Prelude.{◌≡◌, ⊤, List, [], ◌∷◌, ◌++◌}
use Rattle.git_objects.specs.declared.entry.Entry.{Entry}
use Rattle.object_store.specs.Objects.{Object, HasChildren}
use Rattle.repo_ground.specs.declared.walk.Frame.{Frame}

-- what the trees beside these list is held
abbrev pub AreBeside : List Object → List Frame → Type 0
AreBeside H [] = ⊤
AreBeside H (d ∷ ds) = HasChildren H d.beside × AreBeside H ds

-- Some entries that both trees list are passed by, and then some of the tree beside.
pub record IsPassed (before after : Frame) : Type 0 where
  pub same : List Entry
  pub gone : List Entry
  pub entries : before.entries ≡ same ++ after.entries
  pub beside : before.beside ≡ same ++ (gone ++ after.beside)
  pub name : before.name ≡ after.name
