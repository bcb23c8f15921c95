-- How the code keeps a replay: by names of objects that a store has.
use Rattle.std.specs.Prelude.{◌≡◌, ◌⊎◌, ◌≤◌, ℕ, Bool, true, cond, List, [], ◌∷◌, map, length, vec_capacity, Option, Some, None, Result, Ok, Err}
use Rattle.std.specs.FinMap.{put}
use Rattle.std.specs.List.{last_or, list_any}
use Rattle.std.specs.Map.{lookup, remove_entry}
use Rattle.std.specs.Option.{option_map_or}
use Rattle.std.specs.Ordering.{is_eq, is_lt}
use Rattle.std.specs.Global.{Vec}
use Rattle.git_objects.specs.Paths.{Bytes, same_bytes}
use Rattle.git_objects.specs.Refs.{Refs, bytes_cmp}
use Rattle.git_objects.specs.declared.limits.TheConstants.{STREAM_BYTES}
use Rattle.git_objects.specs.declared.name.Name.{Name}
use Rattle.path_trees.specs.declared.found.TreeFault.{TreeFault}
use Rattle.path_trees.specs.declared.found.TreeFault.TheVariants as trees
use Rattle.git_objects.specs.declared.quantity.Quantity.TheVariants.{Files, PathBytes, PathDepth}
use Rattle.tag_objects.specs.declared.tag.Tag.{Tag}
use Rattle.stage_tree.specs.declared.fault.StageFault.{StageFault}
use Rattle.stage_tree.specs.declared.fault.StageFault.TheVariants as edits
use Rattle.fast_import.specs.declared.draft.Draft.{Draft}
use Rattle.stream_reader.specs.declared.fault.StreamFault.{StreamFault}
use Rattle.stream_reader.specs.declared.fault.StreamFault.TheVariants.{Collision, Limit, NoSource, OutOfMemory}
use Rattle.fast_import.specs.declared.marks.Marked.{Marked}
use Rattle.fast_import.specs.declared.replayed.Made.{Made}
use Rattle.fast_import.specs.declared.replayed.Setting.{Setting}

abbrev pub is_named : Name → Name → Bool
is_named n m = same_bytes n.0 m.0

-- the tree of the first commit of that name
abbrev pub tree_made : Name → List Made → Option Name
tree_made n [] = None
tree_made n (m ∷ ms) = cond (is_named n m.name) (Some m.tree) (tree_made n ms)

-- a set has the names of a list
abbrev pub HasSame : List Name → List Name → Type 0
HasSame read names = (n : Name) → list_any (is_named n) read ≡ list_any (is_named n) names

-- a map has the trees of commits
abbrev pub HasTrees : List (Name × Name) → List Made → Type 0
HasTrees trees made = (n : Name) → lookup (is_named n) trees ≡ tree_made n made

-- and there are not more of them than a stream may have bytes
pub record AreKept (trees : List (Name × Name)) (made : List Made) : Type 0 where
  pub found : HasTrees trees made
  pub few : length made ≤ STREAM_BYTES

-- whether a name is above that of the last of these tags, where there is one
abbrev pub is_behind : Bytes → List Tag → Bool
is_behind n ts = option_map_or (λ t. is_lt (bytes_cmp t.name n)) (last_or None ts) true

abbrev pub setting_value : Setting → Bytes × Bytes
setting_value s = (s.refname, s.head.0)

abbrev pub head_values : List (Bytes × Name) → Refs
head_values es = map (λ e. (e.0, e.1.0)) es

-- refs without one of them
abbrev pub without_ref : Bytes → Refs → Refs
without_ref n refs = remove_entry (λ k. is_eq (bytes_cmp n k)) refs

-- refs in which one names this commit, or is unset
abbrev pub with_head : Bytes → Option Name → Refs → Refs
with_head n None refs = without_ref n refs
with_head n (Some c) refs = put bytes_cmp n c.0 refs

-- no setting, and room for as many as there are branches
abbrev pub HasRoom : List (Bytes × Name) → Vec Setting → Type 0
HasRoom heads room = (room.items ≡ []) × (length heads ≤ vec_capacity room)

-- a replay by names
pub record Replaying : Type 0 where
  pub blobs : List Name
  pub commits : List Made
  pub branches : Refs
  pub marks : List (ℕ × Marked)
  pub draft : Option Draft
  pub tags : List Tag

-- an answer by names tells what the definition gives
abbrev pub Answers : {A B : Type 0} → (A → B) → Result A StreamFault → Result B StreamFault → Type 0
Answers value (Ok x) left = left ≡ Ok (value x)
Answers value (Err f) left = left ≡ Err f

-- the same, where there is memory
abbrev pub AnswersIfRoom : {A B : Type 0} → (A → B) → Result A StreamFault → Result B StreamFault → Type 0
AnswersIfRoom value (Ok x) left = left ≡ Ok (value x)
AnswersIfRoom value (Err f) left = (left ≡ Err f) ⊎ (f ≡ OutOfMemory)

-- a fault of a tree, as one of the stream
abbrev pub tree_fault : TreeFault → StreamFault
tree_fault (trees.Collision n) = Collision n
tree_fault trees.OutOfMemory = OutOfMemory

-- a fault of an edit, as one of the line that stands there
abbrev pub fault_at : ℕ → StageFault → StreamFault
fault_at at edits.NoSource = NoSource at
fault_at at edits.TooDeep = Limit at PathDepth
fault_at at edits.TooLong = Limit at PathBytes
fault_at at edits.TooMany = Limit at Files
fault_at at edits.OutOfMemory = OutOfMemory
