-- Names of commits that are left of a graph.
use Rattle.std.proofs.Common.{◌≡◌, ◌≤◌, ℕ, zero, suc, true, List, [], ◌∷◌, map, length, reverse, Result, Ok, Err, IfOk, refl, sym, ap, subst, ◌∙◌, arith}
use Rattle.std.specs.List.{list_all}
use Rattle.git_objects.specs.Lists.{Each}
use Rattle.git_objects.specs.Paths.{Bytes}
use Rattle.git_objects.specs.Snapshots.{Graph, is_graph, snapshot_name, tree_at}
use Rattle.object_store.specs.Objects.{IsStore, Object}
use Rattle.fast_export.specs.Histories.{snapshots_at}
use Rattle.incremental_export.specs.Histories.{StoredNewLaw}
use Rattle.incremental_export.specs.Laws.{ReadUponLaw}
use Rattle.incremental_export.specs.TagLaws.{TaggedUponLaw}
use Rattle.incremental_export.specs.Unreached.{StoredUnreachedLaw, unreached, unreached_in}
use Rattle.commit_graph.specs.Graphs.{Row}
use Rattle.git_objects.specs.Snapshots.{ancestors}
use Rattle.git_objects.specs.declared.kind.Kind.TheVariants.{Commit}
use Rattle.object_store.specs.Objects.{has}
use Rattle.projection_laws.specs.Histories.{AreMade}
use Rattle.projection_laws.specs.StoredGraphs.{IsGraphIn, graph_of, snapshot_named}
use Rattle.projection_laws.proofs.StoredGraphs.{at-row, older, older-all, older-suc, row-at, whole-graph}
use Rattle.read_cli.specs.Looks.{AreFresh}
use Rattle.incremental_export.proofs.StoredUnreached.{IsFound}
use Rattle.read_cli.proofs.FoundCommits.{found-of, snapshots-of}
use Rattle.read_cli.proofs.GraphParts.{IsPart, held-names, names, part-each, part-of-part, reached-part, unreached-part}
use Rattle.read_cli.proofs.WrittenCommits.{commits-in, read-back, tagged-back, text-is}

module _ (read : ReadUponLaw) (tagged : TaggedUponLaw) (stored : StoredNewLaw) (S : List Object) (store : IsStore S) where
  -- commits of a graph that a store has
  pub fresh-of : (g : Graph) → is_graph g ≡ true → Each (IsFound S) g → (cs : Graph) → IsPart cs g → (ns : List Bytes) → ns ≡ names cs → AreFresh S (tree_at g) (reverse cs) ns
  fresh-of g graph found cs part ns e = subst (AreFresh S (tree_at g) (reverse cs)) (sym e) (record {
    commits = commits-in S store g graph found cs part;
    named = refl;
    text = text-is S store g graph found cs part;
    lawful = read-back S store g graph found cs part read stored;
    with_tags = tagged-back S store g graph found cs part tagged stored;
  })

  -- of a history that is made
  pub fresh-made : StoredUnreachedLaw → (g : Graph) → is_graph g ≡ true → (ms : List Bytes) → AreMade S g ms → (haves ns : List Bytes) → ns ≡ unreached_in S haves ms → AreFresh S (tree_at g) (reverse (unreached g haves)) ns
  fresh-made law g graph ms made haves ns e =
      let held : snapshots_at S (map snapshot_name (reverse g)) ≡ reverse g = ap (snapshots_at S) (sym made.names) ∙ made.snapshots in
      fresh-of g graph (found-of S g held) (unreached g haves) (unreached-part g haves) ns (e ∙ ap (unreached_in S haves) made.names ∙ (law S g haves held).0)

-- ---- of the commits themselves

module _ (S : List Object) (rows : List Row) (g : IsGraphIn S rows) where
  older-found : (k : ℕ) → k ≤ length rows → Each (IsFound S) (older S rows g k)
  unfolding graph_of
  older-found zero l = tt
  older-found (suc k) l =
      let w = row-at S rows g k (omega (arith, l)) in
      let a = at-row S rows g k w.0 w.1 in
      subst (Each (IsFound S)) (sym (older-suc S rows g k w.0 a.0 w.1 a.1)) (ap (snapshot_named S) a.1.name ∙ a.1.found, older-found k (omega (arith, l)))

  all-found : Each (IsFound S) (graph_of S rows)
  all-found = subst (Each (IsFound S)) (older-all S rows g) (older-found (length rows) (omega arith))

  ancestors-found : (n : Bytes) → Each (IsFound S) (ancestors (graph_of S rows) n)
  ancestors-found n = part-each (IsFound S) (graph_of S rows) (ancestors (graph_of S rows) n) (reached-part (graph_of S rows) (n ∷ [])) all-found

  pub ancestors-held : (n : Bytes) (ms : List Bytes) → ms ≡ map snapshot_name (reverse (ancestors (graph_of S rows) n)) → list_all (has Commit S) ms ≡ true
  ancestors-held n ms e = ap (list_all (has Commit S)) e ∙ held-names S (ancestors (graph_of S rows) n) (ancestors-found n)

  pub fresh-among : ReadUponLaw → TaggedUponLaw → StoredNewLaw → StoredUnreachedLaw → (n : Bytes) (ms : List Bytes) → ms ≡ map snapshot_name (reverse (ancestors (graph_of S rows) n)) → (haves ns : List Bytes) → ns ≡ unreached_in S haves ms
      → AreFresh S (tree_at (graph_of S rows)) (reverse (unreached (ancestors (graph_of S rows) n) haves)) ns
  fresh-among read tagged stored law n ms e haves ns q =
      let A : Graph = ancestors (graph_of S rows) n in
      let held : snapshots_at S (map snapshot_name (reverse A)) ≡ reverse A = snapshots-of S A (ancestors-found n) in
      fresh-of read tagged stored S g.store (graph_of S rows) (whole-graph S rows g) all-found (unreached A haves)
      (part-of-part (graph_of S rows) (unreached A haves) A (unreached-part A haves) (reached-part (graph_of S rows) (n ∷ [])))
      ns (q ∙ ap (unreached_in S haves) e ∙ (law S A haves held).0)

pub ok-as : {T E : Type 0} (P Q : T → Type 0) → ((x : T) → P x → Q x) → (r : Result T E) → IfOk r P → IfOk r Q
ok-as P Q f (Ok x) h = f x h
ok-as P Q f (Err e) h = tt
