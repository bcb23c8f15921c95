use Rattle.std.proofs.Common.{◌≡◌, ℕ, ◌-◌, length, take, refl, ap, subst, arith}
use Rattle.std.proofs.lemmas.List.{take_all}
use Rattle.path_trees.proofs.Lookups.{path_long}
use Rattle.git_objects.specs.Paths.{Path}
use Rattle.git_objects.specs.Trees.{Flat, at, remove}
use Rattle.stage_nodes.specs.Branches.{Stands}
use Rattle.stage_nodes.proofs.Removing.{front_path, level_less, nothing_removed, child_link, can_cut, can_cut_root, cut_removed, cut_removed_root, directory_goes}
use Rattle.stage_nodes.proofs.Pruning.{still_now, walk_now, way_now}
use Rattle.stage_nodes.proofs.nodes.Nodes.prune.Goals as goal

pub levels-init : goal.levels-init
levels-init c =
    let p = c.args.components.now in
    record {
      low = omega (arith, path_long p c.requires.path);
      within = omega arith;
      stays = refl;
      same = λ h f st y. ap (λ (q : Path). at (remove f q) y) (take_all (length p) p (omega arith));
    }

pub walk-way-requires-clause-nodes : goal.walk-way-requires-clause-nodes
walk-way-requires-clause-nodes c = walk_now c.args.self.now c.levels.self c.args.components.now c.levels.invariant.stays c.requires.clear

pub walk-way-requires-clause-path : goal.walk-way-requires-clause-path
walk-way-requires-clause-path c = front_path c.args.components.now c.levels.level (omega arith) c.requires.path

pub reached-requires : goal.reached-requires
reached-requires c =
    let h = c.requires.clear in
    let s0 = c.args.self.now in let s = c.levels.self in let p = c.args.components.now in let i = c.levels.invariant in
    let w = c.walk-way.result in
    let way = way_now s0 s p i.stays h c.levels.level w.level w.spot.link w.spot.child c.walk-way.ensures in
    level_less h.objects s0 s s p c.levels.level i.within (still_now s0 s p i.stays h) (i.same h) w way

pub returns-in_default : goal.returns-in_default
returns-in_default c = λ h.
    let s0 = c.args.self.now in let s = c.levels.self in let p = c.args.components.now in let i = c.levels.invariant in
    let w = c.walk-way.result in
    let way = way_now s0 s p i.stays h c.levels.level w.level w.spot.link w.spot.child c.walk-way.ensures in
    nothing_removed h.objects s0 s s p c.levels.level i.within (still_now s0 s p i.stays h) (i.same h) w way c.in_default.ensures

pub is_alone-requires : goal.is_alone-requires
is_alone-requires c =
    let h = c.requires.clear in
    let s0 = c.args.self.now in let s = c.levels.self in let p = c.args.components.now in let i = c.levels.invariant in
    let w = c.walk-way.result in
    let way = way_now s0 s p i.stays h c.levels.level w.level w.spot.link w.spot.child c.walk-way.ensures in
    child_link h.objects s0 s s p c.levels.level i.within (still_now s0 s p i.stays h) (i.same h) w way c.in-Some.child c.in-Some.ensures

pub cut-requires : goal.cut-requires
cut-requires c =
    let h = c.requires.clear in
    let s0 = c.args.self.now in let s = c.levels.self in let p = c.args.components.now in let i = c.levels.invariant in
    let w = c.walk-way.result in
    let way = way_now s0 s p i.stays h c.levels.level w.level w.spot.link w.spot.child c.walk-way.ensures in
    can_cut h.objects s0 s s p c.levels.level i.within (still_now s0 s p i.stays h) (i.same h) w way c.in-Some.child c.in-Some.ensures (cc)

pub returns-then-not-is_alone : goal.returns-then-not-is_alone
returns-then-not-is_alone c = λ h.
    let s0 = c.args.self.now in let s = c.levels.self in let p = c.args.components.now in let i = c.levels.invariant in
    let w = c.walk-way.result in
    let way = way_now s0 s p i.stays h c.levels.level w.level w.spot.link w.spot.child c.walk-way.ensures in
    cut_removed h.objects s0 s s p c.levels.level i.within (still_now s0 s p i.stays h) (i.same h) w way c.in-Some.child c.in-Some.ensures c.cut.new.self (cc) c.cut.ensures

pub levels-preserved : goal.levels-preserved
levels-preserved c = record {
  low = omega arith;
  within = omega (arith, c.levels.invariant.within);
  stays = c.levels.invariant.stays;
  same = λ h.
      let s0 = c.args.self.now in let s = c.levels.self in let p = c.args.components.now in let i = c.levels.invariant in
      let w = c.walk-way.result in
      let way = way_now s0 s p i.stays h c.levels.level w.level w.spot.link w.spot.child c.walk-way.ensures in
      directory_goes h.objects s0 s s p c.levels.level i.within (still_now s0 s p i.stays h) (i.same h) w way c.in-Some.child c.in-Some.ensures (cc) (c.levels.level - 1) (omega arith);
}

pub walk-way-requires-2-clause-nodes : goal.walk-way-requires-2-clause-nodes
walk-way-requires-2-clause-nodes c = walk_now c.args.self.now c.levels.self c.args.components.now c.levels.invariant.stays c.requires.clear

pub reached-requires-2 : goal.reached-requires-2
reached-requires-2 c =
    let h = c.requires.clear in
    let s0 = c.args.self.now in let s = c.levels.self in let p = c.args.components.now in let i = c.levels.invariant in
    let one : c.levels.level ≡ 1 = omega (arith, i.low) in
    let w = c.walk-way-2.result in
    let way = way_now s0 s p i.stays h 1 w.level w.spot.link w.spot.child c.walk-way-2.ensures in
    level_less h.objects s0 s s p 1 (omega (arith, i.within)) (still_now s0 s p i.stays h) (subst (λ (k : ℕ). (f : Flat) → Stands h.objects s0 f → (y : Path) → at (remove f (take k p)) y ≡ at (remove f p) y) one (i.same h)) w way

pub cut-requires-in-Some-reached : goal.cut-requires-in-Some-reached
cut-requires-in-Some-reached c =
    let h = c.requires.clear in
    let s0 = c.args.self.now in let s = c.levels.self in let p = c.args.components.now in let i = c.levels.invariant in
    let one : c.levels.level ≡ 1 = omega (arith, i.low) in
    let w = c.walk-way-2.result in
    let way = way_now s0 s p i.stays h 1 w.level w.spot.link w.spot.child c.walk-way-2.ensures in
    can_cut_root h.objects s0 s s p 1 (omega (arith, i.within)) (still_now s0 s p i.stays h) (subst (λ (k : ℕ). (f : Flat) → Stands h.objects s0 f → (y : Path) → at (remove f (take k p)) y ≡ at (remove f p) y) one (i.same h)) w way c.in-Some-reached.child c.in-Some-reached.ensures refl

pub returns-in-Some-reached : goal.returns-in-Some-reached
returns-in-Some-reached c = λ h.
    let s0 = c.args.self.now in let s = c.levels.self in let p = c.args.components.now in let i = c.levels.invariant in
    let one : c.levels.level ≡ 1 = omega (arith, i.low) in
    let w = c.walk-way-2.result in
    let way = way_now s0 s p i.stays h 1 w.level w.spot.link w.spot.child c.walk-way-2.ensures in
    cut_removed_root h.objects s0 s s p 1 (omega (arith, i.within)) (still_now s0 s p i.stays h) (subst (λ (k : ℕ). (f : Flat) → Stands h.objects s0 f → (y : Path) → at (remove f (take k p)) y ≡ at (remove f p) y) one (i.same h)) w way c.in-Some-reached.child c.in-Some-reached.ensures c.cut-in-Some-reached.new.self refl c.cut-in-Some-reached.ensures

pub returns-in_default-reached : goal.returns-in_default-reached
returns-in_default-reached c = λ h.
    let s0 = c.args.self.now in let s = c.levels.self in let p = c.args.components.now in let i = c.levels.invariant in
    let one : c.levels.level ≡ 1 = omega (arith, i.low) in
    let w = c.walk-way-2.result in
    let way = way_now s0 s p i.stays h 1 w.level w.spot.link w.spot.child c.walk-way-2.ensures in
    nothing_removed h.objects s0 s s p 1 (omega (arith, i.within)) (still_now s0 s p i.stays h) (subst (λ (k : ℕ). (f : Flat) → Stands h.objects s0 f → (y : Path) → at (remove f (take k p)) y ≡ at (remove f p) y) one (i.same h)) w way c.in_default-reached.ensures
