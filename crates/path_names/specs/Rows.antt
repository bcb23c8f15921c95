-- Worked examples.
use Rattle.std.specs.Prelude.{◌≡◌, refl, [], ◌∷◌, ◌++◌, replicate, codes, true, false, Ok, Err, Some, None}
use Rattle.git_objects.specs.Paths.{text, comparable, before}
use Rattle.path_names.specs.Words.{number}
use Rattle.path_names.specs.PathTexts.{path_of}
use Rattle.path_names.specs.RefNames.{is_ref_name}
use Rattle.path_names.specs.Quoting.{quote, quoted_byte, unquote}
use Rattle.path_names.specs.declared.path.PathFault.TheVariants.{Empty, BadComponent, LongComponent, TooDeep, TooLong}

pub zeros_in_front : number (codes "007") ≡ Some 7
unfolding number
zeros_in_front = refl

pub no_digits : number [] ≡ None
unfolding number
no_digits = refl

pub a_sign_is_no_digit : number (codes "-1") ≡ None
unfolding number
a_sign_is_no_digit = refl

pub greatest_number : number (replicate 18 57) ≡ Some 999999999999999999
unfolding number
greatest_number = refl

pub nineteen_digits : number (replicate 19 48) ≡ None
unfolding number
nineteen_digits = refl

pub two_components : path_of (codes "a/b") ≡ Ok (codes "a" ∷ codes "b" ∷ [])
unfolding path_of
two_components = refl

pub empty_text : path_of [] ≡ Err Empty
unfolding path_of
empty_text = refl

pub two_slashes : path_of (codes "a//b") ≡ Err BadComponent
unfolding path_of
two_slashes = refl

pub slash_in_front : path_of (codes "/a") ≡ Err BadComponent
unfolding path_of
slash_in_front = refl

pub slash_behind : path_of (codes "a/") ≡ Err BadComponent
unfolding path_of
slash_behind = refl

pub git_directory : path_of (codes ".git") ≡ Err BadComponent
unfolding path_of
git_directory = refl

pub longest_component : path_of (replicate 255 97) ≡ Ok (replicate 255 97 ∷ [])
unfolding path_of
longest_component = refl

pub long_component : path_of (replicate 256 97) ≡ Err LongComponent
unfolding path_of
long_component = refl

pub bad_before_long : path_of (replicate 256 97 ++ codes "/..") ≡ Err BadComponent
unfolding path_of
bad_before_long = refl

pub deepest : path_of (text (replicate 128 (codes "a"))) ≡ Ok (replicate 128 (codes "a"))
unfolding path_of
deepest = refl

pub too_deep : path_of (text (replicate 129 (codes "a"))) ≡ Err TooDeep
unfolding path_of
too_deep = refl

-- 17 components of 240 bytes with 16 slashes are 4,096 bytes
pub longest_text : path_of (text (replicate 17 (replicate 240 97))) ≡ Ok (replicate 17 (replicate 240 97))
unfolding path_of
longest_text = refl

pub too_long : path_of (97 ∷ text (replicate 17 (replicate 240 97))) ≡ Err TooLong
unfolding path_of
too_long = refl

pub path_and_its_child : comparable (codes "a" ∷ []) (codes "a" ∷ codes "b" ∷ []) ≡ true
path_and_its_child = refl

pub path_and_a_longer_name : comparable (codes "a" ∷ []) (codes "a.txt" ∷ []) ≡ false
path_and_a_longer_name = refl

-- the point is byte 46, the slash 47, and the zero 48
pub point_before_slash : before (codes "a.txt" ∷ []) (codes "a" ∷ codes "x" ∷ []) ≡ true
point_before_slash = refl

pub slash_before_zero : before (codes "a" ∷ codes "x" ∷ []) (codes "a0" ∷ []) ≡ true
slash_before_zero = refl

pub path_before_its_child : before (codes "a" ∷ []) (codes "a" ∷ codes "x" ∷ []) ≡ true
path_before_its_child = refl

pub none_before_itself : before (codes "a" ∷ codes "x" ∷ []) (codes "a" ∷ codes "x" ∷ []) ≡ false
none_before_itself = refl

pub main_branch : is_ref_name (codes "refs/heads/main") ≡ true
unfolding is_ref_name
main_branch = refl

pub two_dots : is_ref_name (codes "refs/heads/a..b") ≡ false
unfolding is_ref_name
two_dots = refl

pub lock_in_the_middle : is_ref_name (codes "refs/a.lock/b") ≡ false
unfolding is_ref_name
lock_in_the_middle = refl

pub prefix_alone : is_ref_name (codes "refs/") ≡ false
unfolding is_ref_name
prefix_alone = refl

pub shortest : is_ref_name (codes "refs/a") ≡ true
unfolding is_ref_name
shortest = refl

pub hidden_part : is_ref_name (codes "refs/.a") ≡ false
unfolding is_ref_name
hidden_part = refl

pub lock_at_the_end : is_ref_name (codes "refs/a.lock") ≡ false
unfolding is_ref_name
lock_at_the_end = refl

pub lock_as_a_name : is_ref_name (codes "refs/lock") ≡ true
unfolding is_ref_name
lock_as_a_name = refl

pub at_and_brace : is_ref_name (codes "refs/a@{b") ≡ false
unfolding is_ref_name
at_and_brace = refl

pub at_alone : is_ref_name (codes "refs/@") ≡ true
unfolding is_ref_name
at_alone = refl

pub ends_in_a_slash : is_ref_name (codes "refs/heads/") ≡ false
unfolding is_ref_name
ends_in_a_slash = refl

pub ends_in_a_point : is_ref_name (codes "refs/a.") ≡ false
unfolding is_ref_name
ends_in_a_point = refl

pub holds_a_space : is_ref_name (codes "refs/a b") ≡ false
unfolding is_ref_name
holds_a_space = refl

pub other_prefix : is_ref_name (codes "heads/main") ≡ false
unfolding is_ref_name
other_prefix = refl

pub longest_ref : is_ref_name (codes "refs/" ++ replicate 1019 97) ≡ true
unfolding is_ref_name
longest_ref = refl

pub too_long_ref : is_ref_name (codes "refs/" ++ replicate 1020 97) ≡ false
unfolding is_ref_name
too_long_ref = refl

-- ---- texts between quotes

pub a_space_needs_no_quotes : quote (codes "a b") ≡ codes "a b"
unfolding quote
a_space_needs_no_quotes = refl

pub a_tab_is_a_letter : quote (97 ∷ 9 ∷ 98 ∷ []) ≡ 34 ∷ 97 ∷ 92 ∷ 116 ∷ 98 ∷ 34 ∷ []
unfolding quote quoted_byte
a_tab_is_a_letter = refl

pub other_bytes_are_octal : quote (127 ∷ 1 ∷ 195 ∷ []) ≡ 34 ∷ 92 ∷ 49 ∷ 55 ∷ 55 ∷ 92 ∷ 48 ∷ 48 ∷ 49 ∷ 195 ∷ 34 ∷ []
unfolding quote quoted_byte
other_bytes_are_octal = refl

pub quotes_are_quoted : quote (34 ∷ 92 ∷ []) ≡ 34 ∷ 92 ∷ 34 ∷ 92 ∷ 92 ∷ 34 ∷ []
unfolding quote quoted_byte
quotes_are_quoted = refl

-- `"\303\251" x`
pub two_octal_bytes : unquote (34 ∷ 92 ∷ 51 ∷ 48 ∷ 51 ∷ 92 ∷ 50 ∷ 53 ∷ 49 ∷ 34 ∷ 32 ∷ 120 ∷ []) ≡ Some (195 ∷ 169 ∷ [], 10)
unfolding unquote
two_octal_bytes = refl

pub greatest_octal : unquote (34 ∷ 92 ∷ 51 ∷ 55 ∷ 55 ∷ 34 ∷ []) ≡ Some (255 ∷ [], 6)
unfolding unquote
greatest_octal = refl

-- `"\a\b\t\n\v\f\r\"\\"`
pub nine_letters : unquote (34 ∷ 92 ∷ 97 ∷ 92 ∷ 98 ∷ 92 ∷ 116 ∷ 92 ∷ 110 ∷ 92 ∷ 118 ∷ 92 ∷ 102 ∷ 92 ∷ 114 ∷ 92 ∷ 34 ∷ 92 ∷ 92 ∷ 34 ∷ [])
    ≡ Some (7 ∷ 8 ∷ 9 ∷ 10 ∷ 11 ∷ 12 ∷ 13 ∷ 34 ∷ 92 ∷ [], 20)
unfolding unquote
nine_letters = refl

pub nothing_between_quotes : unquote (34 ∷ 34 ∷ 97 ∷ []) ≡ Some ([], 2)
unfolding unquote
nothing_between_quotes = refl

-- `"\q"`
pub no_such_letter : unquote (34 ∷ 92 ∷ 113 ∷ 34 ∷ []) ≡ None
unfolding unquote
no_such_letter = refl

-- `"\400"`
pub past_the_greatest_octal : unquote (34 ∷ 92 ∷ 52 ∷ 48 ∷ 48 ∷ 34 ∷ []) ≡ None
unfolding unquote
past_the_greatest_octal = refl

-- `"\7"` and `"\18a"`
pub one_octal_digit : unquote (34 ∷ 92 ∷ 55 ∷ 34 ∷ []) ≡ None
unfolding unquote
one_octal_digit = refl

pub no_octal_digit : unquote (34 ∷ 92 ∷ 49 ∷ 56 ∷ 97 ∷ 34 ∷ []) ≡ None
unfolding unquote
no_octal_digit = refl

pub no_closing_quote : unquote (34 ∷ 97 ∷ []) ≡ None
unfolding unquote
no_closing_quote = refl

pub a_line_end_inside : unquote (34 ∷ 97 ∷ 10 ∷ 34 ∷ []) ≡ None
unfolding unquote
a_line_end_inside = refl

pub no_opening_quote : unquote (97 ∷ 34 ∷ 34 ∷ []) ≡ None
unfolding unquote
no_opening_quote = refl
