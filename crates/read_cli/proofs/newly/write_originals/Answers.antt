-- Proves what src/newly.rt needs of `write_originals`.
use Rattle.std.proofs.Common.{List, [], Ok, IsSome, map, reverse, sym, subst}
use Rattle.git_objects.specs.Parts.{name_bytes}
use Rattle.git_objects.specs.Paths.{Bytes}
use Rattle.git_objects.specs.Snapshots.{ancestors, tree_at}
use Rattle.git_objects.specs.declared.name.Name.{Name}
use Rattle.commit_graph.specs.Graphs.{place_of}
use Rattle.incremental_export.specs.Unreached.{unreached}
use Rattle.projection_ground.specs.Grounds.{commits_of}
use Rattle.proj_io.specs.Views.{sink_view}
use Rattle.repo_ground.specs.Contents.{Contents}
use Rattle.repo_ground.specs.contracts.state.State.{the_view}
use Rattle.proj_commands.specs.Hands.{still_hand}
use Rattle.proj_commands.specs.Makes.{IsStateOf}
use Rattle.proj_commands.proofs.StatesShown.{head-placed}
use Rattle.read_cli.specs.Looks.{AreFresh, IsLookedFor, at_head}
use Rattle.read_cli.specs.Outputs.{originals_output}
use Rattle.read_cli.proofs.Writing.{originals-lawful, originals-looked}
use Rattle.read_cli.proofs.newly.write_originals.Goals as goal

pub fresh_originals-requires-clause-head : goal.fresh_originals-requires-clause-head
fresh_originals-requires-clause-head g c =
    let q = c.requires.state in
    subst (λ (x : Contents). IsSome (place_of c.in-Some.head.0 x.basis.graph)) (sym c.state.view_is)
    (head-placed q.1 c.args.state.now c.args.refname.now c.in-Some.head.0 q.2.spells (sym (c.in-Some.ensures.held q.1 q.2.spells)))

pub returns-in-Ok-clause-looked : goal.returns-in-Ok-clause-looked
returns-in-Ok-clause-looked g c = λ items h w.
    let v : Contents = the_view c.state.inside in
    let n : Bytes = c.in-Some.head.0 in
    let r : Bytes = c.args.refname.now in
    let haves : List Bytes = map name_bytes c.args.haves.now in
    let ns : List Bytes = map name_bytes c.deref.result.now in
    let e = sym (c.in-Some.ensures.held h w.spells) in
    let u : IsStateOf items h v = subst (IsStateOf items h) (sym c.state.view_is) w in
    let fresh : AreFresh v.basis.store (tree_at (commits_of v.basis)) (reverse (unreached (ancestors (commits_of v.basis) n) haves)) ns =
    subst (λ (xs : List Name). AreFresh v.basis.store (tree_at (commits_of v.basis)) (reverse (unreached (ancestors (commits_of v.basis) n) haves)) (map name_bytes xs)) (sym c.deref.ensures.value) c.in-Ok.ensures in
    let seen = sink_view g.O.Sink.written g.O.Sink.faults g.O.Sink.refusals in
    subst (λ (x : Contents). IsLookedFor x.basis.store (Ok (still_hand h.objects [] [])) (at_head r h (λ m. originals_output h r m haves)) (seen c.args.out.now) (seen c.write_new.new.out) c.write_new.result) c.state.view_is
    (originals-looked items h v u r n e haves ns fresh (seen c.args.out.now) (seen c.write_new.new.out) c.write_new.result c.write_new.ensures.outcome c.write_new.ensures.given)

pub returns-in-Ok-clause-lawful : goal.returns-in-Ok-clause-lawful
returns-in-Ok-clause-lawful g c = λ items h w done.
    let v : Contents = the_view c.state.inside in
    let n : Bytes = c.in-Some.head.0 in
    let r : Bytes = c.args.refname.now in
    let haves : List Bytes = map name_bytes c.args.haves.now in
    let ns : List Bytes = map name_bytes c.deref.result.now in
    let e = sym (c.in-Some.ensures.held h w.spells) in
    let u : IsStateOf items h v = subst (IsStateOf items h) (sym c.state.view_is) w in
    let fresh : AreFresh v.basis.store (tree_at (commits_of v.basis)) (reverse (unreached (ancestors (commits_of v.basis) n) haves)) ns =
    subst (λ (xs : List Name). AreFresh v.basis.store (tree_at (commits_of v.basis)) (reverse (unreached (ancestors (commits_of v.basis) n) haves)) (map name_bytes xs)) (sym c.deref.ensures.value) c.in-Ok.ensures in
    originals-lawful items h v u r n e haves ns fresh
