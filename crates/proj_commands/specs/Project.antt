-- The command `project`: the projection of a ref's commit, which may be kept.
use Rattle.std.specs.List.{list_any}
use Rattle.std.specs.Prelude.{Result, Ok, [], ◌∷◌, Option, None, Bool, true, false, if◌then◌else◌, List, ◌≡◌, ℕ, map, reverse, All, ⊤, ◌+◌, ◌*◌, ◌^◌, ◌<◌, ◌≤◌, length, sum_by}
use Rattle.git_objects.specs.Paths.{Bytes, same_bytes}
use Rattle.git_objects.specs.Results.{◌>>=◌}
use Rattle.git_objects.specs.Snapshots.{snapshot_name}
use Rattle.filter_text.specs.Filters.{Filter}
use Rattle.filter_text.specs.Printing.{printed}
use Rattle.commit_map.specs.Shown.{Shown}
use Rattle.state_items.specs.Changes.{KeepPlan, passed, room_of, Plan, NoPlan, ChangePlan, RulePlan, TagPlan, held_after}
use Rattle.state_items.specs.Items.{Held, is_of, is_canonical}
use Rattle.state_items.specs.Repos.{repo}
use Rattle.proj_words.specs.declared.outcome.Outcome.{Outcome}
use Rattle.proj_commands.specs.Cases.{head_of, Case, ProjectCase, Made, unchanged}
use Rattle.proj_commands.specs.Filters.{projected}
use Rattle.proj_commands.specs.Lines.{name_line}

-- the cases of a ref's commit, or that there is no such ref
abbrev pub project_case : Held → Filter → Bytes → Result Case Outcome
project_case h f refname = head_of refname h.refs >>= λ n. Ok (ProjectCase h f n)

-- what comes of it; what is kept beside it is told below
abbrev pub project_made : Held → Filter → Bytes → Result Made Outcome
project_made h f n = Ok (unchanged h (name_line (projected h f n)))

-- ---- what is kept

-- whether names stand in a list in this order, each once
abbrev pub in_order_of : List Bytes → List Bytes → Bool
in_order_of [] all = true
in_order_of (n ∷ ns) [] = false
in_order_of (n ∷ ns) (m ∷ all) = if same_bytes n m then in_order_of ns all else in_order_of (n ∷ ns) all

-- Projections that are kept for a filter under the state's rule: originals of the graph in its order, none of which is kept already;
-- each with its projection, from scratch; and no limit is passed.
pub record IsKeep (h : Held) (f : Filter) (items : List Bytes) (k : ℕ) (text : Bytes) (es : List (Bytes × Option Shown)) : Type 0 where
  pub current : k ≡ h.rule
  pub canonical : text ≡ printed f
  pub some : (es ≡ []) → ⊥
  pub order : in_order_of (map (λ e. e.0) es) (map snapshot_name (reverse (repo h).commits)) ≡ true
  pub fresh : list_any (λ e. list_any (is_of text k e.0) h.kept) es ≡ false
  pub true_ones : All (λ e. e.1 ≡ projected h f e.0) es
  pub fits : passed h (room_of items) (KeepPlan k text es) ≡ None

abbrev pub IsKeepPlan : Held → Filter → List Bytes → Plan → Type 0
IsKeepPlan h f items NoPlan = ⊤
IsKeepPlan h f items (KeepPlan k text es) = IsKeep h f items k text es
IsKeepPlan h f items (ChangePlan objects refs) = ⊥
IsKeepPlan h f items (RulePlan k) = ⊥
IsKeepPlan h f items (TagPlan objects refs tags) = ⊥

-- Behind a `project` that is done an entry of the ref's commit is held, where the filter's canonical text is read, there were fewer than
-- 2^20 items, and their bytes with 61 for each commit and 8,192 more are at most 2^31.
abbrev pub HoldsHead : Held → Filter → Bytes → List Bytes → Plan → Type 0
HoldsHead h f n items p =
    is_canonical (printed f) ≡ true → length items < 2 ^ 20 → sum_by length items + 61 * length (repo h).commits + 8192 ≤ 2 ^ 31
    → list_any (is_of (printed f) h.rule n) (held_after h p).kept ≡ true
