-- What a user can't tell of two stores by what a step tells him.
use Rattle.std.specs.Prelude.{◌≡◌, ⊤, ◌⊎◌, Bool, true, false, List, Option, Some, None, Result, Ok, Err}
use Rattle.std.specs.FinMap.{find as find_entry}
use Rattle.std.specs.List.{list_all}
use Rattle.git_objects.specs.Paths.{Bytes, is_bytes}
use Rattle.git_objects.specs.Refs.{bytes_cmp}
use Rattle.git_objects.specs.Snapshots.{tree_at}
use Rattle.filter_text.specs.Filters.{Filter}
use Rattle.workspace.specs.Workspaces.{shown}
use Rattle.push_laws.specs.Alike.{HaveOneFile}
use Rattle.state_items.specs.Items.{Held, read_items}
use Rattle.state_items.specs.Repos.{repo}
use Rattle.proj_words.specs.Words.{As, Export, Project, Push}
use Rattle.proj_words.specs.declared.outcome.Outcome.{Outcome}
use Rattle.proj_words.specs.declared.outcome.Outcome.TheVariants.{Blocked, Limit, Unseen}
use Rattle.proj_commands.specs.Cases.{Made}
use Rattle.proj_commands.specs.Filters.{history, projected, sound}
use Rattle.proj_commands.specs.Policy.{policy_text}
use Rattle.proj_commands.specs.Steps.{step}

-- ---- what is told

-- what is told of a step: its output, or its refusal
abbrev pub told : Result Made Outcome → Result Bytes Outcome
told (Ok m) = Ok m.output
told (Err e) = Err e

-- Whether an outcome tells of what isn't shown: it names a path of the tree as it is held, or a limit that this tree or the state has passed.
abbrev pub tells_unshown : Outcome → Bool
tells_unshown (Blocked n p q) = true
tells_unshown (Unseen n p) = true
tells_unshown (Limit q None) = true
tells_unshown outcome = false

abbrev pub is_of_unshown : Result Bytes Outcome → Bool
is_of_unshown (Ok output) = false
is_of_unshown (Err e) = tells_unshown e

-- The same is told, or one of both tells of what isn't shown.
abbrev pub SameUnlessUnshown : Result Bytes Outcome → Result Bytes Outcome → Type 0
SameUnlessUnshown a b = (is_of_unshown a ≡ true) ⊎ (is_of_unshown b ≡ true) ⊎ (a ≡ b)

-- ---- what two states have in common

-- Of the commit m in one state and the commit n in another a filter shows the same: one projection, one tree, and one history, which is a
-- list of commits with their trees.
pub record IsAlike (f : Filter) (g : Held) (m : Bytes) (h : Held) (n : Bytes) : Type 0 where
  pub projection : projected g f m ≡ projected h f n
  pub tree : shown f (tree_at (repo g).commits m) ≡ shown f (tree_at (repo h).commits n)
  pub history : history g.rule f (repo g).commits m ≡ history h.rule f (repo h).commits n

-- Moreover their trees have one leaf at the workspace place, or neither has one there, or there is no such place.
pub record IsAlikeForPush (f : Filter) (g : Held) (m : Bytes) (h : Held) (n : Bytes) : Type 0 where
  pub seen : IsAlike f g m h n
  pub file : HaveOneFile f (tree_at (repo g).commits m) (tree_at (repo h).commits n)

-- the commit of a ref
abbrev pub head : Bytes → Held → Option Bytes
head refname h = find_entry bytes_cmp refname h.refs

-- It is so of both commits, or there is neither.
abbrev pub OfHeads : (Bytes → Bytes → Type 0) → Option Bytes → Option Bytes → Type 0
OfHeads P None None = ⊤
OfHeads P (Some m) (Some n) = P m n
OfHeads P a b = ⊥

-- ---- the law

-- Items that spell two states with one policy. Where a ref is in neither, or in both with commits of which the filter shows the same, a
-- user is told the same of a step, whatever else is held; of a push, where the workspace's file is the same too, and unless one of both is
-- refused by what isn't shown. The items needn't be Kept, since a step is of what is projected from scratch.
pub record AlikeLaw : Type 0 where
  pub project : (user refname text : Bytes) (I J : List Bytes) (g h : Held) (f : Filter) (a b : Bytes)
      → read_items I ≡ Ok g → read_items J ≡ Ok h → sound text ≡ Ok f → policy_text g ≡ policy_text h
      → OfHeads (λ m n. IsAlike f g m h n) (head refname g) (head refname h)
      → told (step (As user (Project refname text)) I a) ≡ told (step (As user (Project refname text)) J b)
  pub export : (user refname text : Bytes) (I J : List Bytes) (g h : Held) (f : Filter) (a b : Bytes)
      → read_items I ≡ Ok g → read_items J ≡ Ok h → sound text ≡ Ok f → policy_text g ≡ policy_text h
      → OfHeads (λ m n. IsAlike f g m h n) (head refname g) (head refname h)
      → told (step (As user (Export refname text)) I a) ≡ told (step (As user (Export refname text)) J b)
  pub push : (user refname text : Bytes) (I J : List Bytes) (g h : Held) (f : Filter) (input : Bytes)
      → read_items I ≡ Ok g → read_items J ≡ Ok h → sound text ≡ Ok f → policy_text g ≡ policy_text h
      → list_all is_bytes I ≡ true → is_bytes input ≡ true
      → OfHeads (λ m n. IsAlikeForPush f g m h n) (head refname g) (head refname h)
      → SameUnlessUnshown (told (step (As user (Push refname text)) I input)) (told (step (As user (Push refname text)) J input))
