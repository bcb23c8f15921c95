-- The filter at the front of a text.
use Rattle.std.specs.Prelude.{ℕ, zero, suc, ◌+◌, Bool, cond, ◌||◌, List, [], ◌∷◌, length, drop, codes, Option, Some, None, option_map}
use Rattle.std.specs.Option.{option_and_then}
use Rattle.git_objects.specs.Paths.{Bytes, Path}
use Rattle.filter_text.specs.Filters.{Filter, Filters, nop, sub, onto, dir, file, exclude, join, chain, workspace, no_more, more, append, only}
use Rattle.git_objects.specs.CommitBodies.{strip}
use Rattle.filter_text.specs.Texts.{Read, begins, gap, name_at, kept_name_at, target_at}
use Rattle.filter_text.specs.declared.word.Word.{Word}
use Rattle.filter_text.specs.declared.word.Word.TheVariants as words

-- ---- pieces

abbrev pub or_word : Option Bytes → Word → Read Word → Read Word
or_word None word others = others
or_word (Some t) word others = Some (word, t)

-- how pieces begin; none of these texts begins another
abbrev pub spellings : List (Bytes × Word)
spellings =
    (codes ":nop", words.Nop)
    ∷ (codes ":/", words.Sub)
    ∷ (codes ":prefix=", words.Prefix)
    ∷ (codes "::", words.Kept)
    ∷ (codes ":exclude[", words.Exclude)
    ∷ (codes ":[", words.Join)
    ∷ (codes ":workspace=", words.Workspace)
    ∷ []

abbrev pub word_among : List (Bytes × Word) → Bytes → Read Word
word_among [] t = None
word_among (w ∷ ws) t = or_word (strip w.0 t) w.1 (word_among ws t)

-- the word that a piece begins with
unfoldable pub word_at : Bytes → Read Word
word_at t = word_among spellings t

-- a directory where a slash stands directly behind the path, else a file
abbrev pub kept : Path × Bytes → Filter × Bytes
kept x = cond (begins 47 x.1) (dir x.0, drop 1 x.1) (file x.0, x.1)

abbrev pub with_path : (Path → Filter) → Bytes → Read Filter
with_path make t = option_map (λ x. (make x.0, x.1)) (name_at t)

-- an exclude of exactly one member holds that member, any other one the list of its members
abbrev pub inside : Filters → Filter
inside no_more = join no_more
inside (more f no_more) = f
inside (more f (more g fs)) = join (more f (more g fs))

abbrev pub bracketed : (Filters → Filter) → Read Filters → Read Filter
bracketed make members = option_map (λ x. (make x.0, x.1)) members

-- the piece behind its word, by a way to read the list behind an open bracket
abbrev pub piece_of : (Bytes → Read Filters) → Word × Bytes → Read Filter
piece_of list (words.Nop, t) = Some (nop, t)
piece_of list (words.Sub, t) = with_path sub t
piece_of list (words.Prefix, t) = with_path onto t
piece_of list (words.Kept, t) = option_map kept (kept_name_at t)
piece_of list (words.Exclude, t) = bracketed (λ fs. exclude (inside fs)) (list t)
piece_of list (words.Join, t) = bracketed join (list t)
piece_of list (words.Workspace, t) = with_path workspace t

-- ---- chains and members

abbrev pub with_first : Filter → Read Filters → Read Filters
with_first f rest = option_map (λ x. (more f x.0, x.1)) rest

-- behind a piece: the further pieces of its chain, where one begins
abbrev pub more_pieces : (Bytes → Read Filters) → Filter × Bytes → Read Filters
more_pieces pieces x = cond (begins 58 x.1) (with_first x.0 (pieces x.1)) (Some (only x.0, x.1))

-- one piece is itself, several are a chain
abbrev pub linked : Filters → Filter
linked no_more = chain no_more
linked (more f no_more) = f
linked (more f (more g fs)) = chain (more f (more g fs))

-- a target is a last piece `:prefix=` of its member
abbrev pub with_target : Option Path → Filters → Filters
with_target None fs = fs
with_target (Some p) fs = append fs (only (onto p))

abbrev pub made : Option Path → Filters → Filter
made target fs = linked (with_target target fs)

abbrev pub member_of : (Bytes → Read Filters) → Option Path × Bytes → Read Filter
member_of pieces x = option_map (λ y. (made x.0 y.0, y.1)) (pieces x.1)

-- behind a member: a break, or the closing bracket
abbrev pub goes_on : Bytes → Bool
goes_on t = (gap t).0 || begins 93 (gap t).1

abbrev pub more_members : (Bytes → Read Filters) → Filter × Bytes → Read Filters
more_members list x = cond (goes_on x.1) (with_first x.0 (list x.1)) None

-- behind a gap: the closing bracket, or a member
abbrev pub list_of : (Bytes → Read Filters) → (Bytes → Read Filters) → Bytes → Read Filters
list_of pieces list t =
    cond (begins 93 t) (Some (no_more, drop 1 t))
    (option_and_then (more_members list) (option_and_then (member_of pieces) (target_at t)))

-- The pieces at the front of a text, one or more and as many as there are; and the members of a list behind its open
-- bracket, up to and with the closing one. The number bounds how far the reading goes: it is enough where it passes
-- the text's length.
abbrev mutual
  pub pieces_within : ℕ → Bytes → Read Filters
  pieces_within zero t = None
  pieces_within (suc n) t =
      option_and_then (more_pieces (pieces_within n)) (option_and_then (piece_of (list_within n)) (word_at t))

  pub list_within : ℕ → Bytes → Read Filters
  list_within zero t = None
  list_within (suc n) t = list_of (pieces_within n) (list_within n) (gap t).1

unfoldable pub pieces_at : Bytes → Read Filters
pieces_at t = pieces_within (length t + 1) t

unfoldable pub list_at : Bytes → Read Filters
list_at t = list_within (length t + 2) t

-- the filter that a whole text is
abbrev pub whole : Read Filters → Option Filter
whole None = None
whole (Some (fs, [])) = Some (linked fs)
whole (Some (fs, x ∷ t)) = None

abbrev pub filter_of : Bytes → Option Filter
filter_of t = whole (pieces_at t)
