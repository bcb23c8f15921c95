-- What is exported is read again.
use Rattle.std.specs.Prelude.{◌≡◌, ◌≢◌, ◌≤◌, ℕ, Bool, true, false, not, List, [], ◌∷◌, length, replicate, None, Ok, Err}
use Rattle.std.specs.Option.{option_map, option_to_list}
use Rattle.std.specs.List.{list_all, last_or}
use Rattle.git_objects.specs.Paths.{Bytes, same_bytes}
use Rattle.git_objects.specs.Trees.{Leaf, ModuleLeaf, IsTree}
use Rattle.git_objects.specs.Idents.{is_ident}
use Rattle.git_objects.specs.Refs.{Refs}
use Rattle.git_objects.specs.Snapshots.{Snapshot, snapshot_name}
use Rattle.git_objects.specs.declared.limits.TheConstants.{STREAM_BYTES}
use Rattle.git_objects.specs.declared.quantity.Quantity.{Quantity}
use Rattle.path_names.specs.RefNames.{is_ref_name}
use Rattle.stream_reader.specs.declared.fault.StreamFault.TheVariants.{Limit}
use Rattle.fast_import.specs.Replays.{Replayed, replay, empty_base}
use Rattle.fast_export.specs.ExportTexts.{is_among, export_text}

-- trees and people are such, and the parents stand before
abbrev pub IsHistory : List Bytes → List Snapshot → Type 0
IsHistory before [] = Unit
IsHistory before (c ∷ cs) =
    IsTree c.tree × (is_ident c.letter.author ≡ true) × (is_ident c.letter.committer ≡ true)
    × (list_all (λ p. is_among p before) c.parents ≡ true) × IsHistory (snapshot_name c ∷ before) cs

abbrev pub is_zero_module : Leaf → Bool
is_zero_module (ModuleLeaf n) = same_bytes n (replicate 20 0)
is_zero_module x = false

-- no module of these trees has the name of zeros alone
abbrev pub has_no_zero : List Snapshot → Bool
has_no_zero cs = list_all (λ c. list_all (λ e. not (is_zero_module e.1)) c.tree) cs

-- the ref at the last commit
abbrev pub head_at_last : Bytes → List Snapshot → Refs
head_at_last refname cs = option_to_list (option_map (λ c. (refname, snapshot_name c)) (last_or None cs))

-- these commits, with their parents and so with their names, and the ref at the last
pub record IsReadAgain (cs : List Snapshot) (refname : Bytes) : Type 0 where
  pub replayed : Replayed
  pub read : replay empty_base (export_text cs refname) ≡ Ok replayed
  pub commits : replayed.commits ≡ cs
  pub heads : replayed.heads ≡ head_at_last refname cs

-- What is exported is read again as the same commits, in order and under the same names, with the ref at the last: where no module
-- has the zero name, the text has at most 2^28 bytes, and reading meets no limit.
abbrev pub ReadingAgainLaw : Type 0
ReadingAgainLaw =
    (cs : List Snapshot) (refname : Bytes) → IsHistory [] cs → is_ref_name refname ≡ true → has_no_zero cs ≡ true
    → length (export_text cs refname) ≤ STREAM_BYTES
    → ((at : ℕ) (which : Quantity) → replay empty_base (export_text cs refname) ≢ Err (Limit at which))
    → IsReadAgain cs refname
