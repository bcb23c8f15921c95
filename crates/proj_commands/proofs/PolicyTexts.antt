-- The policy's text, and what it says.
use Rattle.std.proofs.Common.{◌≡◌, [], Option, None, Some, Result, Ok, Err, refl, sym, ap, ◌∙◌}
use Rattle.std.specs.FinMap.{find}
use Rattle.std.specs.Option.{option_and_then}
use Rattle.std.specs.Prelude.{List, ℕ, true, unwrap_or}
use Rattle.git_objects.specs.Paths.{Bytes}
use Rattle.git_objects.specs.Refs.{bytes_cmp}
use Rattle.git_objects.specs.Results.{◌>>=◌, refused_by}
use Rattle.git_objects.specs.Snapshots.{tree_at}
use Rattle.git_objects.specs.Trees.{Flat, Leaf, at}
use Rattle.path_names.specs.RefNames.{is_ref_name}
use Rattle.filter_text.specs.Filters.{Filter}
use Rattle.workspace.specs.Workspaces.{text_of}
use Rattle.proj_gate.specs.Policies.{Act, Rule, Verdict, decide, rules}
use Rattle.state_items.specs.Items.{Held}
use Rattle.state_items.specs.Repos.{repo}
use Rattle.proj_words.specs.declared.outcome.Outcome.{Outcome}
use Rattle.proj_words.specs.declared.outcome.Outcome.TheVariants.{BadPolicy}
use Rattle.proj_commands.specs.Policy.{allowed, granted, policy_place, policy_ref, policy_text}

-- ---- its text

pub policy-named : is_ref_name policy_ref ≡ true
unfolding is_ref_name
policy-named = refl

-- of the commit of its ref, if it has one
abbrev text_at : Held → Option Bytes → Bytes
text_at h o = unwrap_or (option_and_then text_of (option_and_then (λ n. at (tree_at (repo h).commits n) policy_place) o)) []

pub no-policy : (h : Held) → find bytes_cmp policy_ref h.refs ≡ None → [] ≡ policy_text h
no-policy h e = sym (ap (text_at h) e)

pub policy-at : (h : Held) (n : Bytes) → find bytes_cmp policy_ref h.refs ≡ Some n → (t : Flat) → t ≡ tree_at (repo h).commits n → (x : Option Leaf) → x ≡ at t policy_place
    → unwrap_or (option_and_then text_of x) [] ≡ policy_text h
policy-at h n e t is x there =
    ap (λ (y : Option Leaf). unwrap_or (option_and_then text_of y) []) (there ∙ ap (λ (u : Flat). at u policy_place) is) ∙ sym (ap (text_at h) e)

-- ---- what it says

pub granted-by : (h : Held) (user : Bytes) (act : Act) (refname : Bytes) (f : Filter) (rs : List Rule) → rules (policy_text h) ≡ Ok rs → (v : Verdict) → v ≡ decide rs user act refname f
    → granted h user act refname f ≡ allowed v
granted-by h user act refname f rs read v decided =
    ap (λ (r : Result (List Rule) ℕ). refused_by BadPolicy r >>= λ x. allowed (decide x user act refname f)) read ∙ ap allowed (sym decided)

pub granted-none : (h : Held) (user : Bytes) (act : Act) (refname : Bytes) (f : Filter) (e : Outcome) → refused_by BadPolicy (rules (policy_text h)) ≡ Err e → granted h user act refname f ≡ Err e
granted-none h user act refname f e bad = ap (λ (r : Result (List Rule) Outcome). r >>= λ rs. allowed (decide rs user act refname f)) bad
