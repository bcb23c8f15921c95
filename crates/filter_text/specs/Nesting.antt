-- What reading gives while brackets are open.
use Rattle.std.specs.Prelude.{◌≡◌, ℕ, ◌+◌, ◌*◌, reverse, List, [], ◌∷◌, length, Some, None, option_map, ◌<◌}
use Rattle.std.specs.Option.{option_and_then}
use Rattle.git_objects.specs.Paths.{Bytes}
use Rattle.filter_text.specs.Filters.{Filter, Filters, nop, sub, onto, workspace, exclude, join, append, only}
use Rattle.filter_text.specs.Shapes.{shapes}
use Rattle.filter_text.specs.Texts.{Read, kept_name_at}
use Rattle.filter_text.specs.Reading.{inside, made, kept, with_path, bracketed, more_pieces, more_members, pieces_at, list_at}
use Rattle.filter_text.specs.declared.word.Word.{Word}
use Rattle.filter_text.specs.declared.word.Word.TheVariants as words
use Rattle.filter_text.specs.declared.frame.Bracket.{Bracket}
use Rattle.filter_text.specs.declared.frame.Bracket.TheVariants as brackets
use Rattle.filter_text.specs.declared.frame.Frame.{Frame}
use Rattle.filter_text.specs.declared.frame.At.{At}
use Rattle.filter_text.specs.declared.frame.At.TheVariants as places

abbrev pub enclosed : Bracket → Filters → Filter
enclosed brackets.Exclude fs = exclude (inside fs)
enclosed brackets.Join fs = join fs

-- a piece without brackets, behind its word
abbrev pub leaf_of : Word → Bytes → Read Filter
leaf_of words.Nop t = Some (nop, t)
leaf_of words.Sub t = with_path sub t
leaf_of words.Prefix t = with_path onto t
leaf_of words.Kept t = option_map kept (kept_name_at t)
leaf_of words.Exclude t = None
leaf_of words.Join t = None
leaf_of words.Workspace t = with_path workspace t

-- with filters that were read before
abbrev pub with_front : Filters → Read Filters → Read Filters
with_front fs rest = option_map (λ x. (append fs x.0, x.1)) rest

-- the rest of a list, where the pieces of the member that is being read are these
abbrev pub after_member : Frame → Read Filters → Read Filters
after_member f chain = option_and_then (more_members list_at) (option_map (λ x. (made f.target x.0, x.1)) chain)

-- the pieces of the chain in which a bracket stands, where the rest of its list is this
abbrev pub after_list : Frame → Read Filters → Read Filters
after_list f list =
    with_front (shapes f.before.items)
    (option_and_then (more_pieces pieces_at) (bracketed (enclosed f.bracket) (with_front (shapes f.members.items) list)))

-- the innermost bracket first
unfoldable pub nested : List Frame → List Frame
nested open_ones = reverse open_ones

-- new is old with a member of this chain, and with no target
pub record HasMember (old : Frame) (chain : Filters) (new : Frame) : Type 0 where
  pub bracket : new.bracket ≡ old.bracket
  pub before : shapes new.before.items ≡ shapes old.before.items
  pub members : shapes new.members.items ≡ append (shapes old.members.items) (only (made old.target chain))

-- the pieces of the outermost chain, where those of the innermost are these; the innermost bracket comes first
abbrev pub resumed : List Frame → Read Filters → Read Filters
resumed [] chain = chain
resumed (f ∷ outer) chain = resumed outer (after_list f (after_member f chain))

-- what the reading gives, by where it stands in the text: at a piece of a chain whose pieces so far are these, or in the
-- innermost bracket's list
abbrev pub answer : List Frame → Filters → At → Bytes → Read Filters
answer frames chain places.Piece t = resumed frames (with_front chain (pieces_at t))
answer [] chain places.Inside t = None
answer (f ∷ outer) chain places.Inside t = resumed outer (after_list f (list_at t))
answer frames chain places.Ended t = Some (chain, t)
answer frames chain places.Refused t = None

-- how far the reading may still go
abbrev pub left : At → Bytes → ℕ
left places.Piece t = 2 * length t + 1
left places.Inside t = 2 * length t + 2
left places.Ended t = 0
left places.Refused t = 0

-- what reading gives, or nothing where that leaves fewer bytes than so many
abbrev pub LeavesLess : ℕ → Read Filters → Type 0
LeavesLess least None = Unit {0}
LeavesLess least (Some x) = length x.1 < least

abbrev pub TellsPieces : ℕ → Read Filters → Read Filters → Type 0
TellsPieces least whole None = LeavesLess least whole
TellsPieces least whole (Some x) = whole ≡ Some x
