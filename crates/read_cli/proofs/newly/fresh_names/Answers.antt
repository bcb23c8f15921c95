-- Proves what src/newly.rt needs of `fresh_names`.
use Rattle.std.proofs.Common.{List, map, sym, subst}
use Rattle.filter_text.specs.Shapes.{shape}
use Rattle.git_objects.specs.Parts.{name_bytes}
use Rattle.git_objects.specs.declared.name.Name.{Name}
use Rattle.projection_ground.specs.Grounds.{commits_of}
use Rattle.projection_laws.specs.Histories.{AreMade}
use Rattle.projection_laws.specs.Projections.{history_graph}
use Rattle.projection_laws.proofs.StoredGraphs.{whole-graph}
use Rattle.workspace.specs.Workspaces.{shown}
use Rattle.read_cli.proofs.FreshNames.{fresh-made}
use Rattle.read_cli.proofs.newly.fresh_names.Goals as goal

pub returns-clause-ok : goal.returns-clause-ok
returns-clause-ok c =
    let g = c.args.ground.now in
    let S = c.history.new.ground.store in
    let f = shape c.args.filter.now in
    let n = c.args.head.now.0 in
    let made = history_graph g.rule (shown f) (commits_of g) n in
    fresh-made c.read_upon_law.ensures c.tagged_upon_law.ensures c.stored_new_law.ensures S c.in_ok-names.ensures.same.store.store c.stored_unreached_law.ensures made
    (c.history_law.ensures.graph g.rule (shown f) (commits_of g) n (whole-graph g.store g.graph c.requires.ground.graph))
    (map name_bytes c.deref.result.now) (subst (λ (ns : List Name). AreMade S made (map name_bytes ns)) (sym c.deref.ensures.value) c.in_ok-names.ensures.ok)
    (map name_bytes c.args.haves.now) (map name_bytes c.in_ok-left.left.items) c.in_ok-left.ensures
