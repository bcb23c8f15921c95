-- What is written is read again, upon what was there.
use Rattle.std.specs.Prelude.{◌≡◌, ◌≢◌, ◌≤◌, ℕ, true, false, List, [], ◌∷◌, ◌++◌, length, map, replicate, Some, Ok, Err}
use Rattle.git_objects.specs.Bodies.{is_name}
use Rattle.git_objects.specs.Idents.{is_ident}
use Rattle.git_objects.specs.Lists.{Each}
use Rattle.git_objects.specs.Paths.{Bytes, same_bytes}
use Rattle.git_objects.specs.Snapshots.{Snapshot}
use Rattle.git_objects.specs.Trees.{Flat, IsTree}
use Rattle.git_objects.specs.declared.limits.TheConstants.{STREAM_BYTES}
use Rattle.git_objects.specs.declared.quantity.Quantity.{Quantity}
use Rattle.path_names.specs.RefNames.{is_ref_name}
use Rattle.stream_reader.specs.declared.fault.StreamFault.TheVariants.{Limit}
use Rattle.fast_import.specs.Replays.{Base, Replayed, named_tree, replay, value_at}
use Rattle.fast_export.specs.Laws.{has_no_zero, head_at_last}
use Rattle.incremental_export.specs.ChangeTexts.{changes_text}

-- A commit's parent stands before it, or is there, with the tree that its name stands for; its name is one, and isn't all zeros.
pub record IsParent (tree_of : Bytes → Flat) (base : Base) (before : List Snapshot) (p : Bytes) : Type 0 where
  pub there : value_at p (map named_tree before ++ base.commits) ≡ Some (tree_of p)
  pub tree : IsTree (tree_of p)
  pub name : is_name p ≡ true
  pub some : same_bytes p (replicate 20 0) ≡ false

-- Commits that come behind these and what is there: trees and people are such, and each parent stands before.
abbrev pub AreNewUpon : (Bytes → Flat) → Base → List Snapshot → List Snapshot → Type 0
AreNewUpon tree_of base before [] = Unit
AreNewUpon tree_of base before (c ∷ cs) =
    IsTree c.tree × (is_ident c.letter.author ≡ true) × (is_ident c.letter.committer ≡ true)
    × Each (IsParent tree_of base before) c.parents × AreNewUpon tree_of base (before ++ c ∷ []) cs

-- these commits, with their parents and so with their names, and the ref at the last
pub record IsReadUpon (base : Base) (text : Bytes) (cs : List Snapshot) (refname : Bytes) : Type 0 where
  pub replayed : Replayed
  pub read : replay base text ≡ Ok replayed
  pub commits : replayed.commits ≡ cs
  pub heads : replayed.heads ≡ head_at_last refname cs

-- What is written of commits is read again upon what was there, as these very commits, in order and under the same names, with the ref at
-- the last: where no module has the zero name, the text has at most 2^28 bytes, and reading meets no limit.
abbrev pub ReadUponLaw : Type 0
ReadUponLaw =
    (tree_of : Bytes → Flat) (base : Base) (cs : List Snapshot) (refname : Bytes) → AreNewUpon tree_of base [] cs → is_ref_name refname ≡ true
    → has_no_zero cs ≡ true → length (changes_text tree_of cs refname) ≤ STREAM_BYTES
    → ((at : ℕ) (which : Quantity) → replay base (changes_text tree_of cs refname) ≢ Err (Limit at which))
    → IsReadUpon base (changes_text tree_of cs refname) cs refname
