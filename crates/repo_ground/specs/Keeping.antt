-- The entries of a filter that are to be kept.
use Rattle.std.specs.Prelude.{◌≡◌, ◌≢◌, ◌≤◌, ℕ, Bool, true, ◌&&◌, not, if◌then◌else◌, List, [], ◌∷◌, drop, filter_map, IfSome, IsSome, Option, None, Some}
use Rattle.std.specs.Global.{Vec}
use Rattle.std.specs.List.{list_all}
use Rattle.std.specs.Option.{is_none, is_some, option_map}
use Rattle.git_objects.specs.Lists.{Each}
use Rattle.commit_graph.specs.Graphs.{Row, place_of}
use Rattle.commit_map.specs.Rules.{rule_number}
use Rattle.commit_map.specs.Shown.{Entries, Shown, kept_at}
use Rattle.git_objects.specs.Paths.{Bytes, is_nil}
use Rattle.state_items.specs.Appending.{is_result}
use Rattle.state_items.specs.Items.{Held, is_canonical}
use Rattle.state_items.specs.Changes.{Plan, NoPlan, KeepPlan, passed, plan_items}
use Rattle.proj_io.specs.declared.keeper.KeepError.{KeepError}
use Rattle.proj_io.specs.declared.keeper.KeepError.TheVariants.{Failed, OutOfMemory}
use Rattle.repo_ground.specs.Contents.{Contents, SpellsSomething, room_in}

-- the entries of the selected map that no item holds, in order of arrival
abbrev pub unheld : Contents → Entries
unheld s = drop s.kept s.basis.map

-- what the selected map has of a commit, where no item holds it
abbrev pub new_entry : Contents → Row → Option (Bytes × Option Shown)
new_entry s r = if is_some (kept_at r.name (unheld s)) then option_map (λ v. (r.name, v)) (kept_at r.name s.basis.map) else None

-- the entries of the selected map that no item holds, in the graph's order
abbrev pub new_entries : Contents → Entries
new_entries s = filter_map (new_entry s) s.basis.graph

abbrev pub news : Held → Contents → Bytes → Plan
news h s text = KeepPlan h.rule text (new_entries s)

-- each projection of these is by names
abbrev pub AreNamed : Entries → Type 0
AreNamed es = list_all (λ e. is_result e.1) es ≡ true

-- each entry of the map that no item holds is of a commit of the graph
abbrev pub AreOfGraph : Contents → Type 0
AreOfGraph s = Each (λ e. IsSome (place_of e.0 s.basis.graph)) (unheld s)

-- Some items spell what is held, each entry of the map that no item holds is of a commit of the graph, and the map is
-- that of the filter of this text under the state's rule.
pub record IsKeepable (s : Contents) (text : Bytes) : Type 0 where
  pub spells : SpellsSomething s
  pub originals : AreOfGraph s
  pub selected : s.selected ≡ Some (text, rule_number s.basis.rule)

-- no commit of these entries stands before that place of the graph
abbrev pub AreFrom : List Row → ℕ → Entries → Type 0
AreFrom rows low es = Each (λ e. IfSome (place_of e.0 rows) (λ p. low ≤ p)) es

-- whether there are any, the text is canonical, and no limit is passed
abbrev pub may_keep : Held → Contents → Bytes → Bool
may_keep h s text = not (is_nil (new_entries s)) && is_canonical text && is_none (passed h (room_in s) (news h s text))

abbrev pub keep_plan : Held → Contents → Bytes → Plan
keep_plan h s text = if may_keep h s text then news h s text else NoPlan

-- why nothing is kept: a fault of the keeper, after which the state is of no more use, or want of memory
abbrev pub IsKeepRefused : Plan → Contents → Contents → KeepError → Type 0
IsKeepRefused p before after Failed = plan_items p ≢ []
IsKeepRefused p before after OutOfMemory = after ≡ before

-- The plan's item, if it has one: then it passes no limit.
abbrev pub IsItemOf : Held → Contents → Plan → Option (Vec ℕ) → Type 0
IsItemOf h s p None = p ≡ NoPlan
IsItemOf h s p (Some item) = (plan_items p ≡ item.items ∷ []) × (passed h (room_in s) p ≡ None)
