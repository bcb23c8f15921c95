use Rattle.std.proofs.Common.{◌≡◌, ◌-◌, ℕ, length, refl, subst, arith, take}
use Rattle.path_trees.proofs.Lookups.{read_at, path_long}
use Rattle.stage_nodes.specs.Ways.{IsDirOf}
use Rattle.stage_nodes.proofs.OnWay.{at_root, dir_link, dir_walk}
use Rattle.stage_nodes.proofs.Walking.{here_at, stop_last, stop_closed, goes_on, number_inside}
use Rattle.stage_nodes.proofs.nodes.Nodes.walk.Goals as goal

pub loop-level-init : goal.loop-level-init
loop-level-init c = λ h. at_root h.objects c.args.self.now h.directory h.sound

pub spot-spot-requires-clause-link : goal.spot-spot-requires-clause-link
spot-spot-requires-clause-link c = let h = c.requires.nodes in dir_link h.objects c.args.self.now (take c.loop-level.level c.args.components.now) c.loop-level.directory h.directory (c.loop-level.invariant h)

pub spot-spot-requires-clause-walk : goal.spot-spot-requires-clause-walk
spot-spot-requires-clause-walk c = let h = c.requires.nodes in dir_walk h.objects c.args.self.now (take c.loop-level.level c.args.components.now) c.loop-level.directory h.directory (c.loop-level.invariant h)

pub if_open-requires : goal.if_open-requires
if_open-requires c =
    let h = c.requires.nodes in
    let p = c.args.components.now in
    let own = read_at p p c.loop-level.level c.index-components-level.result c.bytes.result.now refl c.bytes.ensures.bytes c.index-components-level.is in
    number_inside h.objects c.args.self.now (take c.loop-level.level p) c.bytes.result.now c.spot-spot.result.link c.spot-spot.result.child
    (here_at h.objects c.args.self.now h.directory p c.loop-level.level c.loop-level.directory (c.loop-level.invariant h) c.bytes.result.now (omega arith) own c.spot-spot.result.link c.spot-spot.result.child c.spot-spot.ensures.link c.spot-spot.ensures.child)

pub returns-in-None : goal.returns-in-None
returns-in-None c = λ h clear.
    let p = c.args.components.now in
    let own = read_at p p c.loop-level.level c.index-components-level.result c.bytes.result.now refl c.bytes.ensures.bytes c.index-components-level.is in
    stop_closed h.objects c.args.self.now h.directory p c.loop-level.level c.loop-level.directory (c.loop-level.invariant h) c.bytes.result.now (omega arith) own c.spot-spot.result.link c.spot-spot.result.child c.spot-spot.ensures.link c.spot-spot.ensures.child
    clear c.in-None.ensures

pub loop-level-preserved : goal.loop-level-preserved
loop-level-preserved c = λ h.
    let p = c.args.components.now in
    let own = read_at p p c.loop-level.level c.index-components-level.result c.bytes.result.now refl c.bytes.ensures.bytes c.index-components-level.is in
    goes_on h.objects c.args.self.now h.directory p c.loop-level.level c.loop-level.directory (c.loop-level.invariant h) c.bytes.result.now (omega arith) own c.spot-spot.result.link c.spot-spot.result.child c.spot-spot.ensures.link c.spot-spot.ensures.child
    c.in-Some.number c.in-Some.ensures

pub spot-spot-requires-2-clause-link : goal.spot-spot-requires-2-clause-link
spot-spot-requires-2-clause-link c = let h = c.requires.nodes in dir_link h.objects c.args.self.now (take c.loop-level.level c.args.components.now) c.loop-level.directory h.directory (c.loop-level.invariant h)

pub spot-spot-requires-2-clause-walk : goal.spot-spot-requires-2-clause-walk
spot-spot-requires-2-clause-walk c = let h = c.requires.nodes in dir_walk h.objects c.args.self.now (take c.loop-level.level c.args.components.now) c.loop-level.directory h.directory (c.loop-level.invariant h)

pub returns : goal.returns
returns c = λ h clear.
    let p = c.args.components.now in
    let long = path_long p c.requires.path in
    let same : c.loop-level.level ≡ length p - 1 = omega arith in
    let dir : IsDirOf h.objects c.args.self.now (take (length p - 1) p) c.loop-level.directory = subst (λ (k : ℕ). IsDirOf h.objects c.args.self.now (take k p) c.loop-level.directory) same (c.loop-level.invariant h) in
    let own = read_at p p (length p - 1) c.index-components-last.result c.bytes-2.result.now refl c.bytes-2.ensures.bytes c.index-components-last.is in
    stop_last h.objects c.args.self.now h.directory p (length p - 1) c.loop-level.directory dir c.bytes-2.result.now (omega arith) own c.spot-spot-2.result.link c.spot-spot-2.result.child c.spot-spot-2.ensures.link c.spot-spot-2.ensures.child (omega arith)
