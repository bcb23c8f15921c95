-- Workspace files: lists of items.
use Rattle.std.specs.Prelude.{ℕ, zero, suc, ◌+◌, ◌-◌, Bool, true, not, cond, ◌&&◌, ◌||◌, nat_le, List, [], ◌∷◌, length, Option, None, Some, option_map, ◌<◌, ◌≡◌}
use Rattle.std.specs.Option.{option_and_then}
use Rattle.git_objects.specs.Paths.{Bytes, Path, is_nil, is_path}
use Rattle.git_objects.specs.declared.limits.TheConstants.{FILTER_BYTES, FILTER_COMPONENTS, FILTER_PIECES, WORKSPACE_BYTES}
use Rattle.filter_text.specs.Filters.{Filter, nop, sub, onto, dir, file, exclude, join, chain, workspace, is_filter, has_paths, has_workspace, pieces, components}
use Rattle.filter_text.specs.Texts.{Read, gap, target_at}
use Rattle.filter_text.specs.Reading.{pieces_at, made}
use Rattle.filter_text.specs.Limits.{too_deep}

-- a member of a file's list: its target, its filter with the target in it, and the bytes of its text
pub record Member : Type 0 where
  pub target : Option Path
  pub filter : Filter
  pub size : ℕ

abbrev pub sized_member : ℕ → Option Path × Bytes → Read Member
sized_member before x =
    option_map (λ y. (record { target = x.0; filter = made x.0 y.0; size = before - length y.1 }, y.1)) (pieces_at x.1)

-- the member at the front of a text
abbrev pub member_at : Bytes → Read Member
member_at t = option_and_then (sized_member (length t)) (target_at t)

-- what reading a member gives, or nothing where its text is too long
abbrev pub IsLong : Read Member → Type 0
IsLong None = Unit {0}
IsLong (Some x) = FILTER_BYTES < x.0.size

abbrev pub TellsMember : Read Member → Read Member → Type 0
TellsMember whole None = IsLong whole
TellsMember whole (Some x) = whole ≡ Some x

-- behind a member: a break, or the end of the file
abbrev pub ends_member : Bytes → Bool
ends_member t = (gap t).0 || is_nil (gap t).1

abbrev pub later_members : (Bytes → Option (List Member)) → Member × Bytes → Option (List Member)
later_members members x = cond (ends_member x.1) (option_map (λ ms. x.0 ∷ ms) (members x.1)) None

-- behind a gap: the end of the file, or a member
abbrev pub members_of : (Bytes → Option (List Member)) → Bytes → Option (List Member)
members_of members t = cond (is_nil t) (Some []) (option_and_then (later_members members) (member_at t))

-- the members of a list that a whole text is; the number bounds how far the reading goes
abbrev pub members_within : ℕ → Bytes → Option (List Member)
members_within zero t = None
members_within (suc n) t = members_of (members_within n) (gap t).1

unfoldable pub members : Bytes → Option (List Member)
members t = members_within (length t + 1) t

-- the target, or without one the path of a filter that is one piece `::a` or `::a/`
abbrev pub kept_place : Filter → Option Path
kept_place nop = None
kept_place (sub p) = None
kept_place (onto p) = None
kept_place (dir p) = Some p
kept_place (file p) = Some p
kept_place (exclude f) = None
kept_place (join fs) = None
kept_place (chain fs) = None
kept_place (workspace p) = None

abbrev pub place : Member → Option Path
place m = elim m.target as (λ t. Option Path) [ None ↦ kept_place m.filter | Some p ↦ Some p ]

-- a filter that other calls may be given, without a workspace
abbrev pub is_item_filter : Filter → Bool
is_item_filter f = is_filter f && not (has_workspace f)

-- an item: its place and its filter
abbrev pub Item : Type 0
Item = Path × Filter

-- the place of an item is a path, and its filter is made of paths
abbrev pub IsMadeOfPaths : Item → Type 0
IsMadeOfPaths i = (is_path i.0 ≡ true) × (has_paths i.1 ≡ true)

-- a member that is short enough, has few enough components and no workspace
abbrev pub is_fit : Member → Bool
is_fit m = nat_le m.size FILTER_BYTES && nat_le (components m.filter) FILTER_COMPONENTS && not (has_workspace m.filter)

-- the member as an item, where it is one
abbrev pub item_of : Member → Option Item
item_of m = cond (is_fit m) (option_map (λ p. (p, m.filter)) (place m)) None

-- the member as an item, where there is room for so many pieces, and the room that is left
abbrev pub roomy_item : ℕ → Member → Option (Item × ℕ)
roomy_item room m =
    cond (nat_le (pieces m.filter) room) (option_map (λ i. (i, room - pieces m.filter)) (item_of m)) None

-- the members as items, where each is one and they have together at most so many pieces
abbrev pub items_of : ℕ → List Member → Option (List Item)
items_of room [] = Some []
items_of room (m ∷ ms) =
    option_and_then (λ x. option_map (λ is. x.0 ∷ is) (items_of x.1 ms)) (roomy_item room m)

-- the items from here on, where a member or the end of the file comes
abbrev pub items_from : ℕ → Bytes → Option (List Item)
items_from room t = option_and_then (items_of room) (members_of members t)

-- an item, the room for pieces behind it, and the text behind it and a gap
abbrev pub Next : Type 0
Next = Item × ℕ × Bytes

-- the items from an item on, where one was read
abbrev pub with_item : Option Next → Option (List Item)
with_item None = None
with_item (Some n) = option_map (λ is. n.0 ∷ is) (items_from n.1 n.2)

-- the items of a file, or none where it is unreadable
unfoldable pub items : Bytes → Option (List Item)
items t = cond (nat_le (length t) WORKSPACE_BYTES && not (too_deep t)) (option_and_then (items_of FILTER_PIECES) (members t)) None
