-- How filters are spelled: the grammar by cases.
use Rattle.std.specs.Prelude.{◌≡◌, ℕ, Bool, true, false, not, ◌==◌, List, [], ◌∷◌, ◌++◌, length, codes, Option, Some, None, Ok}
use Rattle.std.specs.List.{list_all, list_any}
use Rattle.git_objects.specs.Paths.{Bytes, Path}
use Rattle.path_names.specs.PathTexts.{path_of}
use Rattle.path_names.specs.Quoting.{unquote}
use Rattle.filter_text.specs.Filters.{Filter, Filters, nop, sub, onto, dir, file, exclude, join, workspace, no_more, more, only}
use Rattle.filter_text.specs.Texts.{is_blank, is_break, ends_bare}
use Rattle.filter_text.specs.Reading.{inside, linked, made}
use Rattle.filter_text.specs.Items.{Member}

-- a path, bare or between quotes
pub data SpellsName : Bytes → Path → Type 0 where
  bare : (w : Bytes) (p : Path) → list_any ends_bare w ≡ false → path_of w ≡ Ok p → SpellsName w p
  quoted : (w u : Bytes) (p : Path) → unquote w ≡ Some (u, length w) → path_of u ≡ Ok p → SpellsName w p

abbrev pub AreBlanks : Bytes → Type 0
AreBlanks w = list_all is_blank w ≡ true

abbrev pub no_lf : Bytes → Bool
no_lf w = list_all (λ x. not (x == 10)) w

-- blanks, breaks and comments, and whether there is a break; a comment ends at an LF
pub data IsGap : Bytes → Bool → Type 0 where
  nothing : IsGap [] false
  blank : (x : ℕ) (t : Bytes) (b : Bool) → is_blank x ≡ true → IsGap t b → IsGap (x ∷ t) b
  separator : (x : ℕ) (t : Bytes) (b : Bool) → is_break x ≡ true → IsGap t b → IsGap (x ∷ t) true
  comment : (w t : Bytes) (b : Bool) → no_lf w ≡ true → IsGap t b → IsGap (35 ∷ w ++ 10 ∷ t) true

-- at the end of a file a comment may end without an LF
pub data IsLastGap : Bytes → Type 0 where
  closed : (t : Bytes) (b : Bool) → IsGap t b → IsLastGap t
  open_comment : (t w : Bytes) (b : Bool) → IsGap t b → no_lf w ≡ true → IsLastGap (t ++ 35 ∷ w)

-- nothing, or a path and `=` with blanks before and behind it
pub data SpellsTarget : Bytes → Option Path → Type 0 where
  without : SpellsTarget [] None
  target : (w u v : Bytes) (p : Path) → SpellsName w p → AreBlanks u → AreBlanks v →
      SpellsTarget (w ++ u ++ 61 ∷ v) (Some p)

mutual
  pub data SpellsPiece : Bytes → Filter → Type 0 where
    a_nop : SpellsPiece (codes ":nop") nop
    a_sub : (w : Bytes) (p : Path) → SpellsName w p → SpellsPiece (codes ":/" ++ w) (sub p)
    a_prefix : (w : Bytes) (p : Path) → SpellsName w p → SpellsPiece (codes ":prefix=" ++ w) (onto p)
    a_dir : (w : Bytes) (p : Path) → SpellsName w p → SpellsPiece (codes "::" ++ (w ++ 47 ∷ [])) (dir p)
    a_file : (w : Bytes) (p : Path) → SpellsName w p → SpellsPiece (codes "::" ++ w) (file p)
    an_exclude : (w : Bytes) (fs : Filters) → SpellsList w fs →
        SpellsPiece (codes ":exclude[" ++ (w ++ 93 ∷ [])) (exclude (inside fs))
    a_list : (w : Bytes) (fs : Filters) → SpellsList w fs → SpellsPiece (codes ":[" ++ (w ++ 93 ∷ [])) (join fs)
    a_workspace : (w : Bytes) (p : Path) → SpellsName w p → SpellsPiece (codes ":workspace=" ++ w) (workspace p)

  -- one piece or more
  pub data SpellsPieces : Bytes → Filters → Type 0 where
    a_piece : (w : Bytes) (f : Filter) → SpellsPiece w f → SpellsPieces w (only f)
    pieces : (w v : Bytes) (f : Filter) (fs : Filters) → SpellsPiece w f → SpellsPieces v fs →
        SpellsPieces (w ++ v) (more f fs)

  -- a target or none, and pieces
  pub data SpellsMember : Bytes → Filter → Type 0 where
    member : (w v : Bytes) (t : Option Path) (fs : Filters) → SpellsTarget w t → SpellsPieces v fs →
        SpellsMember (w ++ v) (made t fs)

  -- one member or more, with breaks between them
  pub data SpellsMembers : Bytes → Filters → Type 0 where
    a_member : (w : Bytes) (f : Filter) → SpellsMember w f → SpellsMembers w (only f)
    members : (w g v : Bytes) (f : Filter) (fs : Filters) → SpellsMember w f → IsGap g true → SpellsMembers v fs →
        SpellsMembers (w ++ (g ++ v)) (more f fs)

  -- members between gaps, or a gap alone
  pub data SpellsList : Bytes → Filters → Type 0 where
    no_members : (g : Bytes) (b : Bool) → IsGap g b → SpellsList g no_more
    some_members : (g w h : Bytes) (b c : Bool) (fs : Filters) → IsGap g b → SpellsMembers w fs → IsGap h c →
        SpellsList (g ++ (w ++ h)) fs

-- one piece is itself, several are a chain
abbrev pub SpellsFilter : Bytes → Filter → Type 0
SpellsFilter t f = (fs : Filters) × SpellsPieces t fs × (linked fs ≡ f)

-- ---- files

-- a member of a file, with the bytes of its text
pub data SpellsEntry : Bytes → Member → Type 0 where
  entry : (w v : Bytes) (t : Option Path) (fs : Filters) → SpellsTarget w t → SpellsPieces v fs →
      SpellsEntry (w ++ v) (record { target = t; filter = made t fs; size = length (w ++ v) })

pub data SpellsEntries : Bytes → List Member → Type 0 where
  an_entry : (w : Bytes) (m : Member) → SpellsEntry w m → SpellsEntries w (m ∷ [])
  entries : (w g v : Bytes) (m : Member) (ms : List Member) → SpellsEntry w m → IsGap g true → SpellsEntries v ms →
      SpellsEntries (w ++ (g ++ v)) (m ∷ ms)

pub data SpellsFile : Bytes → List Member → Type 0 where
  no_entries : (g : Bytes) → IsLastGap g → SpellsFile g []
  some_entries : (g w h : Bytes) (b : Bool) (ms : List Member) → IsGap g b → SpellsEntries w ms → IsLastGap h →
      SpellsFile (g ++ (w ++ h)) ms
