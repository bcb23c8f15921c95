-- Commands of users: what the policy lets a user do, which the store has in its own history.
use Rattle.std.specs.FinMap.{find as find_entry}
use Rattle.std.specs.Option.{option_and_then}
use Rattle.std.specs.Prelude.{Result, Ok, Err, [], ◌∷◌, codes, unwrap_or}
use Rattle.git_objects.specs.Paths.{Bytes, Path}
use Rattle.git_objects.specs.Refs.{bytes_cmp}
use Rattle.git_objects.specs.Results.{◌>>=◌, refused_by}
use Rattle.git_objects.specs.Snapshots.{tree_at}
use Rattle.git_objects.specs.Trees.{at}
use Rattle.filter_text.specs.Filters.{Filter}
use Rattle.workspace.specs.Workspaces.{text_of}
use Rattle.proj_gate.specs.Policies.{Act, Verdict, Allowed, Denied, decide, rules}
use Rattle.state_items.specs.Items.{Held}
use Rattle.state_items.specs.Repos.{repo}
use Rattle.proj_words.specs.declared.outcome.Outcome.{Outcome}
use Rattle.proj_words.specs.declared.outcome.Outcome.TheVariants as outcomes

-- the ref whose commit has the policy
abbrev pub policy_ref : Bytes
policy_ref = codes "refs/proj/policy"

-- where the policy stands in the tree of this commit
abbrev pub policy_place : Path
policy_place = codes "access" ∷ []

-- The policy's text: the content of the file or executable there, in the tree as it is held, which no filter shows. It is empty where there
-- is no such ref, or nothing there, or a link or a module.
abbrev pub policy_text : Held → Bytes
policy_text h =
    unwrap_or (option_and_then text_of (option_and_then (λ n. at (tree_at (repo h).commits n) policy_place)
    (find_entry bytes_cmp policy_ref h.refs))) []

abbrev pub allowed : Verdict → Result (Unit {0}) Outcome
allowed (Allowed line) = Ok tt
allowed (Denied line) = Err (outcomes.Denied line)

-- Whether the policy lets a user do this with a ref and a filter: its first bad line, or the rule that denies it, with the number of its
-- line, and 0 where no rule speaks of it.
abbrev pub granted : Held → Bytes → Act → Bytes → Filter → Result (Unit {0}) Outcome
granted h user act refname f = do
  rs ← refused_by outcomes.BadPolicy (rules (policy_text h))
  allowed (decide rs user act refname f)
