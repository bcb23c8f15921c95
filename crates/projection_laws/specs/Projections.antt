-- Projections of commits: what a filter shows of their trees, in commits of their own.
use Rattle.std.specs.Prelude.{Bool, false, ◌&&◌, if◌then◌else◌, List, [], ◌∷◌, ◌++◌, map, reverse, find, unwrap_or, Option, Some, None}
use Rattle.std.specs.Option.{option_map_or, option_to_list}
use Rattle.std.specs.List.{filter_map, list_all, list_any}
use Rattle.git_objects.specs.Paths.{Bytes, is_nil, same_bytes}
use Rattle.git_objects.specs.Trees.{Flat}
use Rattle.git_objects.specs.Names.{tree_name}
use Rattle.git_objects.specs.Commits.{Letter}
use Rattle.commit_map.specs.Shown.{Shown, Entries, kept_at}
use Rattle.commit_map.specs.declared.rule.Rule.{Rule}
use Rattle.commit_map.specs.declared.rule.Rule.TheVariants.{One, Two}
use Rattle.git_objects.specs.Snapshots.{Snapshot, Graph, snapshot_name, is_wanted, wanted_below, ancestors, add_all}

-- the names of a commit and of its tree
abbrev pub shown_of : Snapshot → Shown
shown_of c = record { commit = snapshot_name c; tree = tree_name c.tree }

-- whether two projections are of one name
abbrev pub is_same : Shown → Shown → Bool
is_same a b = same_bytes a.commit b.commit

-- the first of those with one name
abbrev pub add_shown : List Shown → Shown → List Shown
add_shown before p = if list_any (is_same p) before then before else before ++ p ∷ []

-- behind others, each that isn't among them yet
abbrev pub distinct_from : List Shown → List Shown → List Shown
distinct_from before [] = before
distinct_from before (p ∷ ps) = distinct_from (add_shown before p) ps

-- each once, in the order of the first ones
abbrev pub distinct : List Shown → List Shown
distinct ps = distinct_from [] ps

-- ---- what is known of commits

-- a commit's projection, as far as it is known
abbrev pub known_at : Entries → Bytes → Option Shown
known_at ks n = unwrap_or (kept_at n ks) None

-- whether a commit's projection has the name of m
abbrev pub is_shown_as : Entries → Shown → Bytes → Bool
is_shown_as ks m n = option_map_or (is_same m) (known_at ks n) false

-- the projections of the parents, none left out, the first of equal ones kept
abbrev pub members : Entries → List Bytes → List Shown
members ks parents = distinct (filter_map (known_at ks) parents)

-- ---- merges

-- whether m is the projection of p or of an ancestor of p
abbrev pub is_reached : Graph → Entries → Bytes → Shown → Bool
is_reached older ks p m = list_any (λ c. is_shown_as ks m (snapshot_name c)) (ancestors older p)

-- whether the first parent that is projected to m descends from commits that are projected to each of the members
abbrev pub leads : Graph → Entries → List Bytes → Shown → Bool
leads older ks parents m =
    option_map_or (λ p. list_all (is_reached older ks p) (members ks parents)) (find (is_shown_as ks m) parents) false

-- ---- one commit

-- nothing, the projection of a parent, or a commit of its own
pub data Choice : Type 0 where
  Nothing : Choice
  Member : Shown → Choice
  New : Snapshot → Choice

-- the commit of its own that a commit becomes: what is shown, upon these members, with its letter
abbrev pub own : Flat → Letter → List Shown → Snapshot
own t letter ms = record { tree = t; parents = map (λ m. m.commit) ms; letter = letter }

-- a member if there is one, else the commit
abbrev pub member_or : Option Shown → Snapshot → Choice
member_or None c = New c
member_or (Some m) c = Member m

-- whether a projection has this tree's name
abbrev pub has_tree : Flat → Shown → Bool
has_tree t m = same_bytes m.tree (tree_name t)

-- What becomes of a commit of which this tree is shown, upon these members; the test says of a member whether it leads the
-- others. Without members an empty tree gives nothing. An only member that has the tree is taken, and by the second rule
-- also one of several that has it and leads the others.
abbrev pub chosen : Rule → (Shown → Bool) → Flat → Letter → List Shown → Choice
chosen k leading t letter [] = if is_nil t then Nothing else New (own t letter [])
chosen k leading t letter (m ∷ []) = if has_tree t m then Member m else New (own t letter (m ∷ []))
chosen One leading t letter (m ∷ l ∷ ms) = New (own t letter (m ∷ l ∷ ms))
chosen Two leading t letter (m ∷ l ∷ ms) =
    member_or (find (λ x. has_tree t x && leading x) (m ∷ l ∷ ms)) (own t letter (m ∷ l ∷ ms))

-- the projection that was chosen
abbrev pub projected : Choice → Option Shown
projected Nothing = None
projected (Member m) = Some m
projected (New c) = Some (shown_of c)

-- the commit that was made, if one was
abbrev pub own_commit : Choice → Option Snapshot
own_commit Nothing = None
own_commit (Member m) = None
own_commit (New c) = Some c

-- by a rule, and by what a filter shows of each tree
module _ (k : Rule) (shown : Flat → Flat) where
  -- what becomes of a commit, whose parents are among the older ones and known
  abbrev pub choice_of : Graph → Entries → Snapshot → Choice
  choice_of older ks c = chosen k (leads older ks c.parents) (shown c.tree) c.letter (members ks c.parents)

  -- each commit of the graph with what it gives; a commit that is kept gives what is kept
  abbrev pub projections : Entries → Graph → Entries
  projections kept [] = []
  projections kept (c ∷ older) =
      let ks : Entries = projections kept older in
      (snapshot_name c, unwrap_or (kept_at (snapshot_name c) kept) (projected (choice_of older ks c))) ∷ ks

  -- the projection of the commit of that name, with these kept
  abbrev pub projection_by : Entries → Graph → Bytes → Option Shown
  projection_by kept g n = known_at (projections kept g) n

  -- the same from scratch
  abbrev pub projection : Graph → Bytes → Option Shown
  projection g n = projection_by [] g n

  -- ---- histories, from scratch

  -- the projections of that commit and its ancestors in order of arrival, without none and without later ones of a name
  abbrev pub history : Graph → Bytes → List Shown
  history g h =
      let ks : Entries = projections [] g in
      distinct (filter_map (λ c. known_at ks (snapshot_name c)) (reverse (ancestors g h)))

  -- the commits of their own that projecting these commits and their ancestors makes, in order of arrival
  abbrev pub own_commits : Graph → List Bytes → List Snapshot
  own_commits [] wanted = []
  own_commits (c ∷ older) wanted =
      own_commits older (wanted_below wanted c)
      ++ (if is_wanted wanted c then option_to_list (own_commit (choice_of older (projections [] older) c)) else [])

  -- the same history as a graph, with the flat trees of its commits
  abbrev pub history_graph : Graph → Bytes → Graph
  history_graph g h = add_all [] (own_commits g (h ∷ []))
