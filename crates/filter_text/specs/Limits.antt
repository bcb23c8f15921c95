-- What a filter text is read as, and why another isn't.
use Rattle.std.specs.Prelude.{ℕ, ◌+◌, ◌-◌, Bool, cond, ◌&&◌, ◌||◌, ◌==◌, nat_le, [], ◌∷◌, length, Option, None, Some, Result, Ok, Err}
use Rattle.git_objects.specs.Paths.{Bytes}
use Rattle.git_objects.specs.declared.limits.TheConstants.{FILTER_BYTES, FILTER_COMPONENTS, FILTER_NESTING, FILTER_PIECES}
use Rattle.filter_text.specs.Filters.{Filter, is_placed, pieces, components}
use Rattle.filter_text.specs.Reading.{filter_of}
use Rattle.filter_text.specs.declared.filter.FilterFault.{FilterFault}
use Rattle.filter_text.specs.declared.filter.FilterFault.TheVariants.{TooLong, TooDeep, Syntax, WorkspacePlace, TooMany}

abbrev pub one_if : Bool → ℕ
one_if b = cond b 1 0

-- At some place the bytes `[` (91) before it are more than FILTER_NESTING more than the bytes `]` (93), where so many were
-- opened and closed before the text. Every byte counts, also in quotes and in comments.
abbrev pub is_deep : ℕ → ℕ → Bytes → Bool
is_deep opened closed [] = nat_le (FILTER_NESTING + 1 + closed) opened
is_deep opened closed (x ∷ t) =
    nat_le (FILTER_NESTING + 1 + closed) opened || is_deep (opened + one_if (x == 91)) (closed + one_if (x == 93)) t

abbrev pub too_deep : Bytes → Bool
too_deep t = is_deep 0 0 t

-- what is left of a room for so many when n of them are taken, or none where they are too many
abbrev pub without : ℕ → ℕ → Option ℕ
without room n = cond (nat_le n room) (Some (room - n)) None

-- few enough pieces, and few enough components over all paths
abbrev pub is_small : Filter → Bool
is_small f = nat_le (pieces f) FILTER_PIECES && nat_le (components f) FILTER_COMPONENTS

abbrev pub judged : Option Filter → Result Filter FilterFault
judged None = Err Syntax
judged (Some f) = cond (is_placed f) (cond (is_small f) (Ok f) (Err TooMany)) (Err WorkspacePlace)

-- the filter, or the first fault
unfoldable pub read : Bytes → Result Filter FilterFault
read t = cond (nat_le (length t) FILTER_BYTES) (cond (too_deep t) (Err TooDeep) (judged (filter_of t))) (Err TooLong)
