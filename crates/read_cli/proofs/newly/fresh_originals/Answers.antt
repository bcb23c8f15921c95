-- Proves what src/newly.rt needs of `fresh_originals`.
use Rattle.std.proofs.Common.{◌≡◌, true, List, ap, map, reverse, sym, subst, ◌∙◌}
use Rattle.std.specs.List.{list_all}
use Rattle.git_objects.specs.Parts.{name_bytes}
use Rattle.git_objects.specs.Snapshots.{ancestors, tree_at}
use Rattle.git_objects.specs.declared.kind.Kind.TheVariants.{Commit}
use Rattle.git_objects.specs.declared.name.Name.{Name}
use Rattle.std.specs.Global.{Vec}
use Rattle.object_store.specs.Objects.{has}
use Rattle.incremental_export.specs.Unreached.{unreached, unreached_in}
use Rattle.projection_ground.specs.Grounds.{commits_of}
use Rattle.read_cli.specs.Looks.{AreFresh}
use Rattle.read_cli.proofs.FreshNames.{ancestors-held, fresh-among, ok-as}
use Rattle.read_cli.proofs.newly.fresh_originals.Goals as goal

pub unreached-requires : goal.unreached-requires
unreached-requires c =
    let g = c.args.ground.now in
    subst (λ (ns : List Name). list_all (has Commit g.store) (map name_bytes ns) ≡ true) (sym c.deref.ensures.value)
    (ancestors-held g.store g.graph c.requires.ground.graph c.args.head.now.0 (map name_bytes c.in_ok-names.names.items) c.in_ok-names.ensures)

pub returns : goal.returns
returns c =
    let g = c.args.ground.now in
    let n = c.args.head.now.0 in
    let haves = map name_bytes c.args.haves.now in
    let ms = map name_bytes c.deref.result.now in
    ok-as (λ (v : Vec Name). map name_bytes v.items ≡ unreached_in g.store haves ms) (λ (v : Vec Name). AreFresh g.store (tree_at (commits_of g)) (reverse (unreached (ancestors (commits_of g) n) haves)) (map name_bytes v.items))
    (λ v e. fresh-among g.store g.graph c.requires.ground.graph c.read_upon_law.ensures c.tagged_upon_law.ensures c.stored_new_law.ensures c.stored_unreached_law.ensures n ms (ap (λ (ns : List Name). map name_bytes ns) c.deref.ensures.value ∙ c.in_ok-names.ensures) haves (map name_bytes v.items) e)
    c.unreached.result c.unreached.ensures
