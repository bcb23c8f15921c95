-- Policies: who may see and push what.
use Rattle.std.specs.Prelude.{ℕ, ◌+◌, ◌-◌, Bool, true, false, ◌&&◌, ◌||◌, ◌==◌, nat_eq, nat_le, if◌then◌else◌}
use Rattle.std.specs.Prelude.{List, [], ◌∷◌, ◌++◌, length, take, codes, find, Option, Some, None, Result, Ok}
use Rattle.std.specs.List.{list_all, slice_split, starts_with, ends_with}
use Rattle.std.specs.Option.{option_map, option_and_then}
use Rattle.std.specs.Result.{result_ok}
use Rattle.git_objects.specs.Idents.{cut_at}
use Rattle.git_objects.specs.Paths.{Bytes, same_bytes, is_nil}
use Rattle.git_objects.specs.Results.{◌>>=◌, or_refuse, must}
use Rattle.git_objects.specs.declared.limits.TheConstants.{POLICY_BYTES}
use Rattle.path_names.specs.RefNames.{is_ref_name}
use Rattle.path_names.specs.UserNames.{is_user}
use Rattle.filter_text.specs.Filters.{Filter}
use Rattle.filter_text.specs.Limits.{read}
use Rattle.filter_text.specs.Printing.{printed}
use Rattle.filter_routes.specs.SoundTests.{is_sound}

-- what a command does: it shows, or it pushes
pub data Act : Type 0 where
  See : Act
  Push : Act

-- every user, or one
pub data User : Type 0 where
  Anybody : User
  OneUser : Bytes → User

-- one ref, or each ref whose name begins with these bytes
pub data Pattern : Type 0 where
  OneRef : Bytes → Pattern
  RefsBelow : Bytes → Pattern

-- a rule, with the number of its line
pub record Rule : Type 0 where
  pub line : ℕ
  pub allows : Bool
  pub user : User
  pub act : Act
  pub refs : Pattern
  pub filter : Filter

-- ---- reading

abbrev pub user_from : Bytes → Option User
user_from t = if same_bytes t (codes "*") then Some Anybody else if is_user t then Some (OneUser t) else None

abbrev pub effect_from : Bytes → Option Bool
effect_from t =
    if same_bytes t (codes "allow") then Some true
    else if same_bytes t (codes "deny") then Some false else None

abbrev pub act_from : Bytes → Option Act
act_from t = if same_bytes t (codes "see") then Some See else if same_bytes t (codes "push") then Some Push else None

-- a text that begins with `refs/`, has no byte below 33 and ends in `/*`
abbrev pub is_star : Bytes → Bool
is_star t = starts_with nat_eq t (codes "refs/") && list_all (λ x. nat_le 33 x) t && ends_with nat_eq t (codes "/*")

-- A ref name, or a text that ends in `/*`: the refs' names begin with it, without its star.
abbrev pub pattern_from : Bytes → Option Pattern
pattern_from t =
    if is_ref_name t then Some (OneRef t)
    else if is_star t then Some (RefsBelow (take (length t - 1) t)) else None

-- the filter of a text, where it can be read and is sound
abbrev pub filter_from : Bytes → Option Filter
filter_from t = option_and_then (λ f. if is_sound f then Some f else None) (result_ok (read t))

-- the five texts of a rule
pub record Words : Type 0 where
  pub effect : Bytes
  pub user : Bytes
  pub act : Bytes
  pub refs : Bytes
  pub filter : Bytes

-- The texts of a line, with a space between two. The first four have no space in them, and the filter goes up to the
-- line's end.
abbrev pub words : Bytes → Option Words
words t =
    option_and_then (λ w. option_and_then (λ u. option_and_then (λ a. option_map (λ p.
    record { effect = w.0; user = u.0; act = a.0; refs = p.0; filter = p.1 })
    (cut_at 32 a.1)) (cut_at 32 u.1)) (cut_at 32 w.1)) (cut_at 32 t)

-- the rule of five texts, where each of them has a meaning
abbrev pub rule_of : ℕ → Words → Option Rule
rule_of n w =
    option_and_then (λ e. option_and_then (λ u. option_and_then (λ a. option_and_then (λ p. option_map (λ f.
    record { line = n; allows = e; user = u; act = a; refs = p; filter = f })
    (filter_from w.filter)) (pattern_from w.refs)) (act_from w.act)) (user_from w.user)) (effect_from w.effect)

-- the rule of a line, which has the number n
abbrev pub rule_from : ℕ → Bytes → Option Rule
rule_from n t = option_and_then (rule_of n) (words t)

-- a line that is empty or begins with `#`
abbrev pub is_idle : Bytes → Bool
is_idle t = is_nil t || starts_with nat_eq t (codes "#")

-- the rules of a line that has the number n: none of an idle line, else one
abbrev pub line_rules : ℕ → Bytes → Option (List Rule)
line_rules n t = if is_idle t then Some [] else option_map (λ r. r ∷ []) (rule_from n t)

-- The texts between LFs. Behind a last LF stands an empty one, which has no rule.
abbrev pub lines : Bytes → List Bytes
lines t = slice_split (λ x. x == 10) t

-- the rules of lines that are numbered from n on, or the number of the first line that is neither idle nor a rule
abbrev pub rules_from : ℕ → List Bytes → Result (List Rule) ℕ
rules_from n [] = Ok []
rules_from n (t ∷ ts) = do
  r ← or_refuse n (line_rules n t)
  rs ← rules_from (n + 1) ts
  Ok (r ++ rs)

-- The rules of a policy's text, or the number of its first bad line, which is 0 where the text is too long.
unfoldable pub rules : Bytes → Result (List Rule) ℕ
rules t = do
  _ ← must 0 (nat_le (length t) POLICY_BYTES)
  rules_from 1 (lines t)

-- ---- deciding

-- what is decided, with the number of the line whose rule decides, and 0 where none does
pub data Verdict : Type 0 where
  Allowed : ℕ → Verdict
  Denied : ℕ → Verdict

-- whether a rule speaks of a user
abbrev pub is_for : User → Bytes → Bool
is_for Anybody u = true
is_for (OneUser v) u = same_bytes v u

-- whether a rule speaks of an act
abbrev pub same_act : Act → Act → Bool
same_act See See = true
same_act Push Push = true
same_act _ _ = false

-- whether a rule speaks of a ref
abbrev pub is_in : Pattern → Bytes → Bool
is_in (OneRef r) refname = same_bytes r refname
is_in (RefsBelow t) refname = starts_with nat_eq refname t

-- whether a rule speaks of a user's act on a ref with a filter; filters are compared by their canonical texts
abbrev pub applies : Bytes → Act → Bytes → Filter → Rule → Bool
applies user act refname f r =
    is_for r.user user
    && same_act r.act act
    && is_in r.refs refname
    && same_bytes (printed r.filter) (printed f)

abbrev pub verdict_of : Option Rule → Verdict
verdict_of None = Denied 0
verdict_of (Some r) = if r.allows then Allowed r.line else Denied r.line

-- the verdict of the first rule that speaks of a user's act on a ref with a filter
unfoldable pub decide : List Rule → Bytes → Act → Bytes → Filter → Verdict
decide rs user act refname f = verdict_of (find (applies user act refname f) rs)
