-- Worked examples: policies, and what they decide.
use Rattle.std.specs.Prelude.{◌≡◌, refl, ◌+◌, ℕ, [], ◌∷◌, ◌++◌, codes, replicate, Option, None, Result, Ok, Err}
use Rattle.git_objects.specs.Paths.{Bytes, Path}
use Rattle.git_objects.specs.Results.{◌>>=◌}
use Rattle.git_objects.specs.declared.limits.TheConstants.{POLICY_BYTES}
use Rattle.path_names.specs.PathTexts.{path_of}
use Rattle.path_names.specs.Quoting.{unquote}
use Rattle.path_names.specs.RefNames.{is_ref_name}
use Rattle.filter_text.specs.Filters.{sub}
use Rattle.filter_text.specs.Limits.{read}
use Rattle.filter_text.specs.Reading.{word_at, pieces_at, list_at}
use Rattle.filter_text.specs.Texts.{name_at, kept_name_at, target_at}
use Rattle.proj_gate.specs.Policies.{Act, See, Push, Verdict, Allowed, Denied, rules, decide}

-- what a theorem about policies unfolds, so that it computes
unfoldable ruling : Option Path
unfolding rules decide read is_ref_name pieces_at list_at target_at name_at kept_name_at word_at path_of unquote
ruling = None

abbrev main : Bytes
main = codes "refs/heads/main"

abbrev policy : Bytes
policy =
    codes "allow ann push refs/heads/main :/a\n"
    ++ codes "allow * see refs/heads/* :/b\n"
    ++ codes "deny * see refs/heads/main :/a\n"

-- what a policy decides of a user's act on `refs/heads/main` with the filter of one directory
abbrev decided : Bytes → Bytes → Act → Bytes → Result Verdict ℕ
decided t user act at = do
  rs ← rules t
  Ok (decide rs user act main (sub (at ∷ [])))

abbrev ann : Bytes
ann = codes "ann"

abbrev bob : Bytes
bob = codes "bob"

abbrev a : Bytes
a = codes "a"

abbrev b : Bytes
b = codes "b"

pub pushes : decided policy ann Push a ≡ Ok (Allowed 1)
unfolding ruling
pushes = refl

-- the second rule speaks of another filter
pub sees_not : decided policy bob See a ≡ Ok (Denied 3)
unfolding ruling
sees_not = refl

pub sees : decided policy bob See b ≡ Ok (Allowed 2)
unfolding ruling
sees = refl

pub no_rule : decided policy bob Push b ≡ Ok (Denied 0)
unfolding ruling
no_rule = refl

pub no_policy : decided [] ann See a ≡ Ok (Denied 0)
unfolding ruling
no_policy = refl

pub the_first_rule_decides :
    decided (codes "deny ann see refs/* :/a\nallow * see refs/heads/main :/a\n") ann See a ≡ Ok (Denied 1)
unfolding ruling
the_first_rule_decides = refl

-- ---- filters

-- a filter is compared as it is printed
pub another_spelling : decided (codes "allow ann push refs/* :/\"a\"\n") ann Push a ≡ Ok (Allowed 1)
unfolding ruling
another_spelling = refl

pub an_unsound_filter : rules (codes "allow ann push refs/* :[:/a,:/b]\n") ≡ Err 1
unfolding ruling
an_unsound_filter = refl

-- a carriage return is a part of the filter, and no filter ends in one
pub a_carriage_return : rules (codes "allow ann push refs/* :/a\r\n") ≡ Err 1
unfolding ruling
a_carriage_return = refl

pub two_spaces_before_a_filter : rules (codes "allow ann push refs/*  :/a\n") ≡ Err 1
unfolding ruling
two_spaces_before_a_filter = refl

-- ---- refs

-- a slash stands behind the front of a name
pub refs_below_a_ref : decided (codes "allow ann push refs/heads/main/* :/a\n") ann Push a ≡ Ok (Denied 0)
unfolding ruling
refs_below_a_ref = refl

pub all_refs : decided (codes "allow ann push refs/* :/a\n") ann Push a ≡ Ok (Allowed 1)
unfolding ruling
all_refs = refl

pub a_star_without_a_slash : rules (codes "allow ann push refs/heads/m* :/a\n") ≡ Err 1
unfolding ruling
a_star_without_a_slash = refl

-- ---- lines

pub an_unknown_act : rules (
    codes "allow ann push refs/heads/main :/a\n"
    ++ codes "allow * look refs/heads/* :/b\n"
    ++ codes "deny * see refs/heads/main :/a\n"
    ) ≡ Err 2
unfolding ruling
an_unknown_act = refl

-- idle lines are counted, and the last line may lack its LF
pub idle_lines : decided (codes "\n# who pushes\n\nallow ann push refs/heads/main :/a") ann Push a ≡ Ok (Allowed 4)
unfolding ruling
idle_lines = refl

pub a_line_of_a_space : rules (codes "allow ann push refs/* :/a\n \n") ≡ Err 2
unfolding ruling
a_line_of_a_space = refl

pub a_text_of_the_greatest_length : rules (replicate POLICY_BYTES 10) ≡ Ok []
unfolding ruling
a_text_of_the_greatest_length = refl

pub a_longer_text : rules (replicate (POLICY_BYTES + 1) 10) ≡ Err 0
unfolding ruling
a_longer_text = refl
