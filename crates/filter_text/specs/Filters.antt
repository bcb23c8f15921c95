-- Filters as plain data, and what each filter of the language keeps to.
use Rattle.std.specs.Prelude.{ℕ, ◌+◌, Bool, true, false, not, cond, ◌&&◌, ◌||◌, length}
use Rattle.git_objects.specs.Paths.{Path, is_path, same_path}

-- the filters `:nop`, `:/a`, `:prefix=a`, `::a/`, `::a`, `:exclude[f]`, `:[fs]`, the chain of fs, and `:workspace=a`
mutual
  pub data Filter : Type 0 where
    nop : Filter
    sub : Path → Filter
    onto : Path → Filter
    dir : Path → Filter
    file : Path → Filter
    exclude : Filter → Filter
    join : Filters → Filter
    chain : Filters → Filter
    workspace : Path → Filter

  pub data Filters : Type 0 where
    no_more : Filters
    more : Filter → Filters → Filters

abbrev pub append : Filters → Filters → Filters
append no_more gs = gs
append (more f fs) gs = more f (append fs gs)

abbrev pub only : Filter → Filters
only f = more f no_more

abbrev pub is_several : Filters → Bool
is_several no_more = false
is_several (more f no_more) = false
is_several (more f (more g fs)) = true

abbrev pub is_chain : Filter → Bool
is_chain nop = false
is_chain (sub p) = false
is_chain (onto p) = false
is_chain (dir p) = false
is_chain (file p) = false
is_chain (exclude f) = false
is_chain (join fs) = false
is_chain (chain fs) = true
is_chain (workspace p) = false

abbrev pub is_workspace : Filter → Bool
is_workspace nop = false
is_workspace (sub p) = false
is_workspace (onto p) = false
is_workspace (dir p) = false
is_workspace (file p) = false
is_workspace (exclude f) = false
is_workspace (join fs) = false
is_workspace (chain fs) = false
is_workspace (workspace p) = true

-- no member is a chain
abbrev pub are_pieces : Filters → Bool
are_pieces no_more = true
are_pieces (more f fs) = not (is_chain f) && are_pieces fs

-- every chain has at least two members, and none of them is a chain
abbrev mutual
  pub is_linked : Filter → Bool
  is_linked nop = true
  is_linked (sub p) = true
  is_linked (onto p) = true
  is_linked (dir p) = true
  is_linked (file p) = true
  is_linked (exclude f) = is_linked f
  is_linked (join fs) = are_linked fs
  is_linked (chain fs) = is_several fs && are_pieces fs && are_linked fs
  is_linked (workspace p) = true

  pub are_linked : Filters → Bool
  are_linked no_more = true
  are_linked (more f fs) = is_linked f && are_linked fs

-- a workspace stands somewhere in the filter
abbrev mutual
  pub has_workspace : Filter → Bool
  has_workspace nop = false
  has_workspace (sub p) = false
  has_workspace (onto p) = false
  has_workspace (dir p) = false
  has_workspace (file p) = false
  has_workspace (exclude f) = has_workspace f
  has_workspace (join fs) = some_have_workspace fs
  has_workspace (chain fs) = some_have_workspace fs
  has_workspace (workspace p) = true

  pub some_have_workspace : Filters → Bool
  some_have_workspace no_more = false
  some_have_workspace (more f fs) = has_workspace f || some_have_workspace fs

-- of these pieces at most one is a workspace, none where one was before, and none has one inside its brackets
abbrev pub has_one_place : Bool → Filters → Bool
has_one_place before no_more = true
has_one_place before (more f fs) =
    cond (is_workspace f) (not before) (not (has_workspace f)) && has_one_place (before || is_workspace f) fs

-- the pieces of the outermost chain
abbrev pub outermost : Filter → Filters
outermost nop = only nop
outermost (sub p) = only (sub p)
outermost (onto p) = only (onto p)
outermost (dir p) = only (dir p)
outermost (file p) = only (file p)
outermost (exclude f) = only (exclude f)
outermost (join fs) = only (join fs)
outermost (chain fs) = fs
outermost (workspace p) = only (workspace p)

-- a workspace stands at most once, as the whole filter or as a member of its outermost chain
abbrev pub is_placed : Filter → Bool
is_placed f = has_one_place false (outermost f)

-- what every filter that is given away keeps to
abbrev pub is_filter : Filter → Bool
is_filter f = is_linked f && is_placed f

-- the nodes of a filter other than chains
abbrev mutual
  pub pieces : Filter → ℕ
  pieces nop = 1
  pieces (sub p) = 1
  pieces (onto p) = 1
  pieces (dir p) = 1
  pieces (file p) = 1
  pieces (exclude f) = 1 + pieces f
  pieces (join fs) = 1 + pieces_in fs
  pieces (chain fs) = pieces_in fs
  pieces (workspace p) = 1

  pub pieces_in : Filters → ℕ
  pieces_in no_more = 0
  pieces_in (more f fs) = pieces f + pieces_in fs

-- the components of all paths of a filter
abbrev mutual
  pub components : Filter → ℕ
  components nop = 0
  components (sub p) = length p
  components (onto p) = length p
  components (dir p) = length p
  components (file p) = length p
  components (exclude f) = components f
  components (join fs) = components_in fs
  components (chain fs) = components_in fs
  components (workspace p) = length p

  pub components_in : Filters → ℕ
  components_in no_more = 0
  components_in (more f fs) = components f + components_in fs

-- whether each path of a filter is a path
abbrev mutual
  pub has_paths : Filter → Bool
  has_paths nop = true
  has_paths (sub p) = is_path p
  has_paths (onto p) = is_path p
  has_paths (dir p) = is_path p
  has_paths (file p) = is_path p
  has_paths (exclude f) = has_paths f
  has_paths (join fs) = have_paths fs
  has_paths (chain fs) = have_paths fs
  has_paths (workspace p) = is_path p

  pub have_paths : Filters → Bool
  have_paths no_more = true
  have_paths (more f fs) = has_paths f && have_paths fs

-- whether two filters are the same
abbrev mutual
  pub same_filter : Filter → Filter → Bool
  same_filter nop nop = true
  same_filter (sub p) (sub q) = same_path p q
  same_filter (onto p) (onto q) = same_path p q
  same_filter (dir p) (dir q) = same_path p q
  same_filter (file p) (file q) = same_path p q
  same_filter (exclude f) (exclude g) = same_filter f g
  same_filter (join fs) (join gs) = same_filters fs gs
  same_filter (chain fs) (chain gs) = same_filters fs gs
  same_filter (workspace p) (workspace q) = same_path p q
  same_filter f g = false

  pub same_filters : Filters → Filters → Bool
  same_filters no_more no_more = true
  same_filters (more f fs) (more g gs) = same_filter f g && same_filters fs gs
  same_filters fs gs = false
