-- The objects of a stored tree, as a walk over the store comes to them.
use Rattle.std.specs.Prelude.{◌≡◌, ⊤, ℕ, true, if◌then◌else◌, List, [], ◌∷◌, ◌++◌, length, Option, Some, None}
use Rattle.std.specs.List.{flat_map}
use Rattle.std.specs.Option.{unwrap_or}
use Rattle.git_objects.specs.Paths.{Bytes}
use Rattle.git_objects.specs.Bodies.{tree_entries}
use Rattle.git_objects.specs.declared.entry.Entry.{Entry}
use Rattle.git_objects.specs.declared.kind.Kind.TheVariants.{Blob, Tree}
use Rattle.git_objects.specs.declared.mode.Mode.{Mode}
use Rattle.git_objects.specs.declared.mode.Mode.TheVariants.{File, Exec, Link, Module, Dir}
use Rattle.object_store.specs.Objects.{Object, is_named, has, body_of, HasChildren}
use Rattle.repo_ground.specs.declared.walk.Child.{Child}
use Rattle.repo_ground.specs.declared.walk.Child.TheVariants.{BlobChild, TreeChild}
use Rattle.repo_ground.specs.declared.walk.Frame.{Frame}

abbrev pub blob_at : List Object → Bytes → Object
blob_at S n = record { kind = Blob; body = body_of Blob S n }

abbrev pub tree_at : List Object → Bytes → Object
tree_at S n = record { kind = Tree; body = body_of Tree S n }

-- What a walk has to do: f says what it does at an object, and mark what it does before it goes down into a directory.
module _ {A : Type 0} (f : Object → A) (mark : List A) where
  -- at a child of that mode and name, by the bodies of blobs and what is done at trees; a module has no object
  abbrev pub child_steps : (Bytes → Bytes) → (Bytes → List A) → Mode → Bytes → List A
  child_steps blob tree File n = f (record { kind = Blob; body = blob n }) ∷ []
  child_steps blob tree Exec n = f (record { kind = Blob; body = blob n }) ∷ []
  child_steps blob tree Link n = f (record { kind = Blob; body = blob n }) ∷ []
  child_steps blob tree Module n = []
  child_steps blob tree Dir n = mark ++ tree n

  abbrev pub listed_steps : (Bytes → Bytes) → (Bytes → List A) → List Entry → List A
  listed_steps blob tree es = flat_map (λ e. child_steps blob tree e.mode e.name.0) es

  -- at each child of a stored tree, and then at the tree
  unfoldable pub tree_steps : List Object → Bytes → List A
  tree_steps [] n = []
  tree_steps (o ∷ older) n =
      if is_named Tree o n
      then listed_steps (body_of Blob older) (tree_steps older) (unwrap_or (tree_entries o.body) []) ++ f (record { kind = Tree; body = o.body }) ∷ []
      else tree_steps older n

  -- at these entries' children
  abbrev pub entries_steps : List Object → List Entry → List A
  entries_steps S es = listed_steps (body_of Blob S) (tree_steps S) es

  abbrev pub next_steps : List Object → Option Child → List A
  next_steps S None = []
  next_steps S (Some (BlobChild n)) = f (blob_at S n.0) ∷ []
  next_steps S (Some (TreeChild n)) = mark ++ tree_steps S n.0

  -- at a directory's entries that are left, and then at its tree
  abbrev pub frame_steps : List Object → Frame → List A
  frame_steps S d = entries_steps S d.entries ++ f (tree_at S d.name.0) ∷ []

  -- the last frame first
  abbrev pub frames_steps : List Object → List Frame → List A
  frames_steps S [] = []
  frames_steps S (d ∷ ds) = frames_steps S ds ++ frame_steps S d

-- ---- the objects

abbrev pub itself : Object → Object
itself o = o

abbrev pub stored_objects : List Object → Bytes → List Object
stored_objects S n = tree_steps itself [] S n

-- ---- how many steps there are

abbrev pub counted : Object → Unit {0}
counted o = tt

abbrev pub work_of_frame : List Object → Frame → ℕ
work_of_frame S d = length (frame_steps counted (tt ∷ []) S d)

abbrev pub work_of_frames : List Object → List Frame → ℕ
work_of_frames S ds = length (frames_steps counted (tt ∷ []) S ds)

-- ---- what is in the store

abbrev pub HasNext : List Object → Option Child → Type 0
HasNext S None = ⊤
HasNext S (Some (BlobChild n)) = has Blob S n.0 ≡ true
HasNext S (Some (TreeChild n)) = has Tree S n.0 ≡ true

pub record IsOpen (S : List Object) (d : Frame) : Type 0 where
  pub tree : has Tree S d.name.0 ≡ true
  pub children : HasChildren S d.entries

abbrev pub AreOpen : List Object → List Frame → Type 0
AreOpen S [] = ⊤
AreOpen S (d ∷ ds) = IsOpen S d × AreOpen S ds
