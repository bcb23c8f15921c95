-- Worked examples.
use Rattle.std.specs.Prelude.{◌≡◌, refl, [], ◌∷◌, ◌++◌, replicate, codes, false, Ok, Err, Some, None}
use Rattle.git_objects.specs.Paths.{Bytes, Path, text}
use Rattle.path_names.specs.PathTexts.{path_of}
use Rattle.path_names.specs.Quoting.{unquote, quoted_byte}
use Rattle.filter_text.specs.Filters.{Filter, Filters, nop, sub, onto, dir, file, exclude, join, chain, workspace, no_more, more, only}
use Rattle.filter_text.specs.Texts.{name_at, kept_name_at, target_at}
use Rattle.filter_text.specs.Reading.{word_at, pieces_at, list_at}
use Rattle.filter_text.specs.Limits.{read, too_deep}
use Rattle.filter_text.specs.Items.{items, members}
use Rattle.filter_text.specs.Printing.{printed}
use Rattle.filter_text.specs.declared.filter.FilterFault.TheVariants.{TooLong, TooDeep, Syntax, WorkspacePlace, TooMany}

abbrev a : Path
a = codes "a" ∷ []

abbrev b : Path
b = codes "b" ∷ []

abbrev c : Path
c = codes "c" ∷ []

abbrev x : Path
x = codes "x" ∷ []

abbrev y : Path
y = codes "y" ∷ []

abbrev two : Filter → Filter → Filters
two f g = more f (only g)

-- `:[:/a:prefix=x,:/c:prefix=y]`
abbrev moved : Filter
moved = join (two (chain (two (sub a) (onto x))) (chain (two (sub c) (onto y))))

-- ---- pieces and chains

pub one_piece : read (codes ":/a") ≡ Ok (sub a)
unfolding read pieces_at list_at target_at name_at kept_name_at word_at path_of unquote
one_piece = refl

pub every_piece : read (codes ":nop:/a/b:prefix=a::a/::b:exclude[:nop]:[:nop]:workspace=a")
    ≡ Ok (chain (more nop (more (sub (codes "a" ∷ codes "b" ∷ [])) (more (onto a) (more (dir a) (more (file b)
    (more (exclude nop) (more (join (only nop)) (only (workspace a))))))))))
unfolding read pieces_at list_at target_at name_at kept_name_at word_at path_of unquote
every_piece = refl

pub nothing_is_no_filter : read [] ≡ Err Syntax
unfolding read pieces_at list_at target_at name_at kept_name_at word_at path_of unquote
nothing_is_no_filter = refl

pub no_blank_at_the_end : read (codes ":/a ") ≡ Err Syntax
unfolding read pieces_at list_at target_at name_at kept_name_at word_at path_of unquote
no_blank_at_the_end = refl

pub no_blank_in_a_chain : read (codes ":/a :/b") ≡ Err Syntax
unfolding read pieces_at list_at target_at name_at kept_name_at word_at path_of unquote
no_blank_in_a_chain = refl

pub no_slash_behind_a_directory : read (codes ":/a/") ≡ Err Syntax
unfolding read pieces_at list_at target_at name_at kept_name_at word_at path_of unquote
no_slash_behind_a_directory = refl

pub two_slashes : read (codes "::a//") ≡ Err Syntax
unfolding read pieces_at list_at target_at name_at kept_name_at word_at path_of unquote
two_slashes = refl

pub a_slash_alone : read (codes "::/") ≡ Err Syntax
unfolding read pieces_at list_at target_at name_at kept_name_at word_at path_of unquote
a_slash_alone = refl

pub no_pattern : read (codes "::*.md") ≡ Err Syntax
unfolding read pieces_at list_at target_at name_at kept_name_at word_at path_of unquote
no_pattern = refl

-- ---- quotes

-- `:/"a b"`
pub a_blank_in_quotes : read (58 ∷ 47 ∷ 34 ∷ 97 ∷ 32 ∷ 98 ∷ 34 ∷ []) ≡ Ok (sub (codes "a b" ∷ []))
unfolding read pieces_at list_at target_at name_at kept_name_at word_at path_of unquote
a_blank_in_quotes = refl

-- `:/"a"`
pub quotes_without_need : read (58 ∷ 47 ∷ 34 ∷ 97 ∷ 34 ∷ []) ≡ Ok (sub a)
unfolding read pieces_at list_at target_at name_at kept_name_at word_at path_of unquote
quotes_without_need = refl

-- `::"a b"/`
pub a_quoted_directory : read (58 ∷ 58 ∷ 34 ∷ 97 ∷ 32 ∷ 98 ∷ 34 ∷ 47 ∷ []) ≡ Ok (dir (codes "a b" ∷ []))
unfolding read pieces_at list_at target_at name_at kept_name_at word_at path_of unquote
a_quoted_directory = refl

-- `::"a/"`
pub a_slash_in_quotes : read (58 ∷ 58 ∷ 34 ∷ 97 ∷ 47 ∷ 34 ∷ []) ≡ Err Syntax
unfolding read pieces_at list_at target_at name_at kept_name_at word_at path_of unquote
a_slash_in_quotes = refl

-- `:/"\a\b\t\n\v\f\r\"\\\001\377#"`
pub each_escape : read (codes ":/" ++ 34 ∷ 92 ∷ 97 ∷ 92 ∷ 98 ∷ 92 ∷ 116 ∷ 92 ∷ 110 ∷ 92 ∷ 118 ∷ 92 ∷ 102 ∷ 92 ∷ 114
    ∷ 92 ∷ 34 ∷ 92 ∷ 92 ∷ 92 ∷ 48 ∷ 48 ∷ 49 ∷ 92 ∷ 51 ∷ 55 ∷ 55 ∷ 35 ∷ 34 ∷ [])
    ≡ Ok (sub ((7 ∷ 8 ∷ 9 ∷ 10 ∷ 11 ∷ 12 ∷ 13 ∷ 34 ∷ 92 ∷ 1 ∷ 255 ∷ 35 ∷ []) ∷ []))
unfolding read pieces_at list_at target_at name_at kept_name_at word_at path_of unquote
each_escape = refl

-- `:/"\q"`
pub no_such_escape : read (58 ∷ 47 ∷ 34 ∷ 92 ∷ 113 ∷ 34 ∷ []) ≡ Err Syntax
unfolding read pieces_at list_at target_at name_at kept_name_at word_at path_of unquote
no_such_escape = refl

-- ---- lists

pub blanks_around_members : read (codes ":[ x = :/a , y = :/c ]") ≡ Ok moved
unfolding read pieces_at list_at target_at name_at kept_name_at word_at path_of unquote
blanks_around_members = refl

-- a tab, a carriage return, an LF and a comment with a comma and brackets
pub a_comment_between_members :
    read (codes ":[:/a" ++ 9 ∷ 13 ∷ codes "# b, [c]" ++ 10 ∷ codes ":/b]") ≡ Ok (join (two (sub a) (sub b)))
unfolding read pieces_at list_at target_at name_at kept_name_at word_at path_of unquote
a_comment_between_members = refl

pub no_break_between_members : read (codes ":[:/a :/b]") ≡ Err Syntax
unfolding read pieces_at list_at target_at name_at kept_name_at word_at path_of unquote
no_break_between_members = refl

pub a_comment_to_the_end : read (codes ":[:/a # ]") ≡ Err Syntax
unfolding read pieces_at list_at target_at name_at kept_name_at word_at path_of unquote
a_comment_to_the_end = refl

pub an_empty_list : read (codes ":[]") ≡ Ok (join no_more)
unfolding read pieces_at list_at target_at name_at kept_name_at word_at path_of unquote
an_empty_list = refl

pub breaks_alone : read (codes ":[,, ,]") ≡ Ok (join no_more)
unfolding read pieces_at list_at target_at name_at kept_name_at word_at path_of unquote
breaks_alone = refl

pub many_breaks : read (codes ":[,:/a,,:/b,]") ≡ Ok (join (two (sub a) (sub b)))
unfolding read pieces_at list_at target_at name_at kept_name_at word_at path_of unquote
many_breaks = refl

pub an_exclude_of_several : read (codes ":exclude[::a/,::b]") ≡ Ok (exclude (join (two (dir a) (file b))))
unfolding read pieces_at list_at target_at name_at kept_name_at word_at path_of unquote
an_exclude_of_several = refl

pub an_exclude_of_one : read (codes ":exclude[::a]") ≡ Ok (exclude (file a))
unfolding read pieces_at list_at target_at name_at kept_name_at word_at path_of unquote
an_exclude_of_one = refl

pub an_exclude_of_a_list : read (codes ":exclude[:[::a]]") ≡ Ok (exclude (join (only (file a))))
unfolding read pieces_at list_at target_at name_at kept_name_at word_at path_of unquote
an_exclude_of_a_list = refl

pub an_exclude_of_nothing : read (codes ":exclude[]") ≡ Ok (exclude (join no_more))
unfolding read pieces_at list_at target_at name_at kept_name_at word_at path_of unquote
an_exclude_of_nothing = refl

-- `:["x y"=:/a]`
pub a_quoted_target : read (codes ":[" ++ 34 ∷ 120 ∷ 32 ∷ 121 ∷ 34 ∷ codes "=:/a]")
    ≡ Ok (join (only (chain (two (sub a) (onto (codes "x y" ∷ []))))))
unfolding read pieces_at list_at target_at name_at kept_name_at word_at path_of unquote
a_quoted_target = refl

pub a_target_of_a_chain : read (codes ":[x=:/a:/b]") ≡ Ok (join (only (chain (more (sub a) (two (sub b) (onto x))))))
unfolding read pieces_at list_at target_at name_at kept_name_at word_at path_of unquote
a_target_of_a_chain = refl

pub no_equals_behind_a_target : read (codes ":[x:/a]") ≡ Err Syntax
unfolding read pieces_at list_at target_at name_at kept_name_at word_at path_of unquote
no_equals_behind_a_target = refl

pub no_filter_behind_equals : read (codes ":[x=]") ≡ Err Syntax
unfolding read pieces_at list_at target_at name_at kept_name_at word_at path_of unquote
no_filter_behind_equals = refl

pub no_target_outside : read (codes "x=:/a") ≡ Err Syntax
unfolding read pieces_at list_at target_at name_at kept_name_at word_at path_of unquote
no_target_outside = refl

-- ---- faults in their order

abbrev sixteen_lists : Bytes
sixteen_lists = codes ":[:[:[:[:[:[:[:[:[:[:[:[:[:[:[:["

pub sixteen_are_read : read (sixteen_lists ++ replicate 16 93)
    ≡ Ok (join (only (join (only (join (only (join (only (join (only (join (only (join (only (join (only
    (join (only (join (only (join (only (join (only (join (only (join (only (join (only (join no_more)))))))))))))))))))))))))))))))
unfolding read pieces_at list_at target_at name_at kept_name_at word_at path_of unquote
sixteen_are_read = refl

pub seventeen_are_too_deep : read (sixteen_lists ++ codes ":[" ++ replicate 17 93) ≡ Err TooDeep
unfolding read pieces_at list_at target_at name_at kept_name_at word_at path_of unquote
seventeen_are_too_deep = refl

abbrev seventeen : Bytes
seventeen = replicate 17 91

-- `:/"` and 17 brackets and `"`, before anything is parsed
pub brackets_in_quotes : read (58 ∷ 47 ∷ 34 ∷ seventeen ++ 34 ∷ []) ≡ Err TooDeep
unfolding read pieces_at list_at target_at name_at kept_name_at word_at path_of unquote
brackets_in_quotes = refl

pub deep_before_syntax : read seventeen ≡ Err TooDeep
unfolding read pieces_at list_at target_at name_at kept_name_at word_at path_of unquote
deep_before_syntax = refl

pub sixteen_brackets : read (58 ∷ 47 ∷ 34 ∷ replicate 16 91 ++ 34 ∷ []) ≡ Ok (sub (replicate 16 91 ∷ []))
unfolding read pieces_at list_at target_at name_at kept_name_at word_at path_of unquote
sixteen_brackets = refl

-- a bracket that closes, in a comment, makes room for one that opens
pub closed_brackets_count : read (codes ":[#" ++ 93 ∷ 10 ∷ codes "::" ++ 34 ∷ replicate 16 91 ++ 34 ∷ 93 ∷ [])
    ≡ Ok (join (only (file (replicate 16 91 ∷ []))))
unfolding read pieces_at list_at target_at name_at kept_name_at word_at path_of unquote
closed_brackets_count = refl

pub closed_before_opened : too_deep (93 ∷ seventeen) ≡ false
closed_before_opened = refl

pub two_workspaces : read (codes ":workspace=a:workspace=b") ≡ Err WorkspacePlace
unfolding read pieces_at list_at target_at name_at kept_name_at word_at path_of unquote
two_workspaces = refl

pub a_workspace_in_brackets : read (codes ":[:workspace=a]") ≡ Err WorkspacePlace
unfolding read pieces_at list_at target_at name_at kept_name_at word_at path_of unquote
a_workspace_in_brackets = refl

pub a_workspace_in_a_comment : read (codes ":[# :workspace=a" ++ 10 ∷ 93 ∷ []) ≡ Ok (join no_more)
unfolding read pieces_at list_at target_at name_at kept_name_at word_at path_of unquote
a_workspace_in_a_comment = refl

pub a_workspace_in_a_chain : read (codes ":/a:workspace=b:prefix=c") ≡ Ok (chain (more (sub a) (two (workspace b) (onto c))))
unfolding read pieces_at list_at target_at name_at kept_name_at word_at path_of unquote
a_workspace_in_a_chain = refl

-- one path of 4,094 bytes, its text of 4,096
abbrev part : Bytes
part = 47 ∷ replicate 255 97

abbrev parts_15 : Bytes
parts_15 = part ++ part ++ part ++ part ++ part ++ part ++ part ++ part ++ part ++ part ++ part ++ part ++ part ++ part ++ part

pub too_long : read (58 ∷ parts_15 ++ part) ≡ Err TooLong
unfolding read pieces_at list_at target_at name_at kept_name_at word_at path_of unquote
too_long = refl

-- two paths of 128 components, and one of one
abbrev deepest : Bytes
deepest = codes ":/" ++ text (replicate 128 (codes "a"))

pub many_components : read (deepest ++ deepest) ≡ Ok (chain (two (sub (replicate 128 (codes "a"))) (sub (replicate 128 (codes "a")))))
unfolding read pieces_at list_at target_at name_at kept_name_at word_at path_of unquote
many_components = refl

pub too_many_components : read (deepest ++ deepest ++ codes ":/a") ≡ Err TooMany
unfolding read pieces_at list_at target_at name_at kept_name_at word_at path_of unquote
too_many_components = refl

-- ---- canonical texts

pub targets_are_pieces : printed moved ≡ codes ":[:/a:prefix=x,:/c:prefix=y]"
targets_are_pieces = refl

-- `:/"a b"`
pub quotes_where_needed : printed (sub (codes "a b" ∷ [])) ≡ 58 ∷ 47 ∷ 34 ∷ 97 ∷ 32 ∷ 98 ∷ 34 ∷ []
unfolding quoted_byte
quotes_where_needed = refl

pub no_quotes_elsewhere : printed (sub a) ≡ codes ":/a"
no_quotes_elsewhere = refl

pub several_in_an_exclude : printed (exclude (join (two (dir a) (file b)))) ≡ codes ":exclude[::a/,::b]"
several_in_an_exclude = refl

pub a_list_of_one_in_an_exclude : printed (exclude (join (only (file a)))) ≡ codes ":exclude[:[::a]]"
a_list_of_one_in_an_exclude = refl

pub nothing_in_a_list : printed (join no_more) ≡ codes ":[]"
nothing_in_a_list = refl

-- ---- workspace files

pub an_item : items (codes "deps = :/modules:[::tools/,::lib/]" ++ 10 ∷ [])
    ≡ Some ((codes "deps" ∷ [], chain (more (sub (codes "modules" ∷ [])) (two (join (two (dir (codes "tools" ∷ [])) (dir (codes "lib" ∷ [])))) (onto (codes "deps" ∷ []))))) ∷ [])
unfolding items members pieces_at list_at target_at name_at kept_name_at word_at path_of unquote
an_item = refl

pub no_items : items [] ≡ Some []
unfolding items members pieces_at list_at target_at name_at kept_name_at word_at path_of unquote
no_items = refl

pub kept_items : items (codes "::a/" ++ 10 ∷ codes "::b # last") ≡ Some ((a, dir a) ∷ (b, file b) ∷ [])
unfolding items members pieces_at list_at target_at name_at kept_name_at word_at path_of unquote
kept_items = refl

pub an_open_bracket : items (codes "deps = [" ++ 10 ∷ []) ≡ None
unfolding items members pieces_at list_at target_at name_at kept_name_at word_at path_of unquote
an_open_bracket = refl

pub no_place : items (codes ":/a") ≡ None
unfolding items members pieces_at list_at target_at name_at kept_name_at word_at path_of unquote
no_place = refl

pub no_workspace_in_a_file : items (codes "x = :workspace=a") ≡ None
unfolding items members pieces_at list_at target_at name_at kept_name_at word_at path_of unquote
no_workspace_in_a_file = refl
