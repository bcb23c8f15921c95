-- Bodies of trees: which bytes are one, and what it lists.
use Rattle.std.specs.Prelude.{◌≡◌, ℕ, zero, suc, Bool, true, not, cond, ◌&&◌, ◌==◌, nat_le, List, [], ◌∷◌, length, take, drop, Option, Some, None}
use Rattle.std.specs.Option.{option_map, option_and_then}
use Rattle.std.specs.List.{list_all}
use Rattle.std.specs.Ordering.{is_lt}
use Rattle.git_objects.specs.Paths.{Bytes, is_bytes, is_component, same_bytes}
use Rattle.git_objects.specs.Names.{mode_text}
use Rattle.git_objects.specs.Idents.{cut_at}
use Rattle.git_objects.specs.Entries.{AreEntries, body_text, git_cmp, entry_component, entry_dir}
use Rattle.git_objects.specs.declared.entry.Entry.{Entry}
use Rattle.git_objects.specs.declared.mode.Mode.{Mode}
use Rattle.git_objects.specs.declared.mode.Mode.TheVariants.{File, Exec, Link, Module, Dir}

-- the 20 bytes of a name
abbrev pub is_name : Bytes → Bool
is_name n = is_bytes n && length n == 20

-- These bytes are the body of a tree with these entries: valid components, in Git's order, each once.
pub record IsTreeBody (es : List Entry) (b : Bytes) : Type 0 where
  pub entries : AreEntries es
  pub names : list_all (λ e. is_name e.name.0) es ≡ true
  pub spelled : body_text es ≡ b

-- ---- reading

abbrev pub mode_from : Bytes → Option Mode
mode_from t =
    cond (same_bytes t (mode_text File)) (Some File)
    (cond (same_bytes t (mode_text Exec)) (Some Exec)
    (cond (same_bytes t (mode_text Link)) (Some Link)
    (cond (same_bytes t (mode_text Module)) (Some Module)
    (cond (same_bytes t (mode_text Dir)) (Some Dir) None))))

-- the mode in front of the first space, and what follows the space
abbrev pub first_mode : Bytes → Option (Mode × Bytes)
first_mode b = option_and_then (λ s. option_map (λ m. (m, s.1)) (mode_from s.0)) (cut_at 32 b)

-- an entry of that mode, from its component and what follows the zero byte behind it
abbrev pub target_from : Mode → Bytes × Bytes → Option (Entry × Bytes)
target_from m r = cond (nat_le 20 (length r.1)) (Some (record { mode = m; component = r.0; name = record { 0 = take 20 r.1 } }, drop 20 r.1)) None

-- the first entry, and what follows it
abbrev pub entry_from : Bytes → Option (Entry × Bytes)
entry_from b = option_and_then (λ s. option_and_then (λ m. option_and_then (target_from m) (cut_at 0 s.1)) (mode_from s.0)) (cut_at 32 b)

-- at most n entries
abbrev pub entries_within : ℕ → Bytes → Option (List Entry)
entries_within n [] = Some []
entries_within zero (x ∷ b) = None
entries_within (suc n) (x ∷ b) = option_and_then (λ r. option_map (λ es. r.0 ∷ es) (entries_within n r.1)) (entry_from (x ∷ b))

-- whether an entry stands before each of the others, and none has its component
abbrev pub is_first : Entry → List Entry → Bool
is_first a [] = true
is_first a (b ∷ bs) = is_lt (git_cmp entry_component entry_dir a b) && not (same_bytes a.component b.component) && is_first a bs

abbrev pub is_listing : List Entry → Bool
is_listing [] = true
is_listing (a ∷ es) = is_component a.component && is_first a es && is_listing es

abbrev pub if_listed : List Entry → Option (List Entry)
if_listed es = cond (is_listing es) (Some es) None

-- what a tree's body lists; None where the bytes are none
unfoldable pub tree_entries : Bytes → Option (List Entry)
tree_entries b = option_and_then if_listed (entries_within (length b) b)
