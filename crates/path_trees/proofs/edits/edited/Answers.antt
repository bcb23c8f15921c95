use Rattle.std.proofs.Common.{◌≡◌, ℕ, ◌+◌, ◌-◌, length, List, ap, sym, subst, ◌∙◌, arith}
use Rattle.object_store.specs.Objects.{Object}
use Rattle.object_store.specs.Unfolding.{flat}
use Rattle.object_store.proofs.Unfolding.{flat_good}
use Rattle.std.proofs.lemmas.Result.{err_from_is_err_and}
use Rattle.path_trees.specs.Made.{IsOnWay, IsTreeFault}
use Rattle.path_trees.proofs.Climbs.{IsClimb, first_turn, level_up, result_of, whole, finish_ok, finish_err, finish_store}
use Rattle.path_trees.proofs.Lookups.{path_long}
use Rattle.path_trees.proofs.edits.edited.Goals as goal

pub levels-init : goal.levels-init
levels-init c =
    let S0 = c.args.store.now in
    let n : length c.components-components.result.now ≡ length c.args.path.now = ap length c.components-components.ensures.components in
    let long = path_long c.args.path.now c.components-components.ensures.path in
    let all : length c.args.path.now ≡ length c.components-components.result.now - 1 + 1 = omega arith in
    record {
      within = omega arith;
      climb = subst (λ (k : ℕ). IsClimb S0 c.args.path.now (result_of S0 c.directories.ensures.store c.args.root.0 c.requires.root c.args.path.now c.components-components.ensures.path c.args.change c.requires.held c.requires.clear) k S0 c.args.change) all
          (first_turn S0 c.directories.ensures.store (flat S0 c.args.root.0) (flat_good S0 c.directories.ensures.store c.args.root.0 c.requires.root).tree c.args.path.now c.components-components.ensures.path c.args.change c.requires.held);
    }

pub above-requires-clause-body : goal.above-requires-clause-body
above-requires-clause-body c =
    let S0 = c.args.store.now in
    let n : length c.components-components.result.now ≡ length c.args.path.now = ap length c.components-components.ensures.components in
    let level = level_up S0 c.directories.ensures.store c.args.root.0 c.requires.root c.args.path.now c.components-components.ensures.path c.args.change c.requires.held c.requires.clear c.in-Ok.directories.items c.in-Ok.ensures.names c.levels.level (omega (arith, path_long c.args.path.now c.components-components.ensures.path)) c.levels.store c.levels.change c.levels.invariant.climb
    c.components-components.result.now c.components-components.ensures.components c.index-components-level.result c.bytes.result.now c.bytes.ensures.bytes (c.index-components-level.is) c.bytes.ensures.component
    c.deref.result.now c.deref.ensures.value c.nth.result c.nth.ensures c.deref-in-levels.result.now (c.deref-in-levels.ensures.value ∙ c.in_ok-body.ensures.body) in
    level.fitting

pub returns-in_err-change-clause-err : goal.returns-in_err-change-clause-err
returns-in_err-change-clause-err c =
    let S0 = c.args.store.now in
    let n : length c.components-components.result.now ≡ length c.args.path.now = ap length c.components-components.ensures.components in
    let level = level_up S0 c.directories.ensures.store c.args.root.0 c.requires.root c.args.path.now c.components-components.ensures.path c.args.change c.requires.held c.requires.clear c.in-Ok.directories.items c.in-Ok.ensures.names c.levels.level (omega (arith, path_long c.args.path.now c.components-components.ensures.path)) c.levels.store c.levels.change c.levels.invariant.climb
    c.components-components.result.now c.components-components.ensures.components c.index-components-level.result c.bytes.result.now c.bytes.ensures.bytes (c.index-components-level.is) c.bytes.ensures.component
    c.deref.result.now c.deref.ensures.value c.nth.result c.nth.ensures c.deref-in-levels.result.now (c.deref-in-levels.ensures.value ∙ c.in_ok-body.ensures.body) in
    let p = err_from_is_err_and c.from_residual-in_err-change.result c.from_residual-in_err-change.ensures.1 in
    let fact : IsTreeFault (IsOnWay (result_of S0 c.directories.ensures.store c.args.root.0 c.requires.root c.args.path.now c.components-components.ensures.path c.args.change c.requires.held c.requires.clear) c.args.path.now) c.above.new.store c.in_err-change.field-0.0 =
    subst (λ (R : List Object). IsTreeFault (IsOnWay (result_of S0 c.directories.ensures.store c.args.root.0 c.requires.root c.args.path.now c.components-components.ensures.path c.args.change c.requires.held c.requires.clear) c.args.path.now) R c.in_err-change.field-0.0) (sym c.in_err-change.ensures.err.0) (level.refusing c.in_err-change.field-0.0 c.in_err-change.ensures.err.1) in
    rw (p.1, p.2) fact

pub levels-preserved : goal.levels-preserved
levels-preserved c =
    let S0 = c.args.store.now in
    let n : length c.components-components.result.now ≡ length c.args.path.now = ap length c.components-components.ensures.components in
    let level = level_up S0 c.directories.ensures.store c.args.root.0 c.requires.root c.args.path.now c.components-components.ensures.path c.args.change c.requires.held c.requires.clear c.in-Ok.directories.items c.in-Ok.ensures.names c.levels.level (omega (arith, path_long c.args.path.now c.components-components.ensures.path)) c.levels.store c.levels.change c.levels.invariant.climb
    c.components-components.result.now c.components-components.ensures.components c.index-components-level.result c.bytes.result.now c.bytes.ensures.bytes (c.index-components-level.is) c.bytes.ensures.component
    c.deref.result.now c.deref.ensures.value c.nth.result c.nth.ensures c.deref-in-levels.result.now (c.deref-in-levels.ensures.value ∙ c.in_ok-body.ensures.body) in
    let next : c.levels.level ≡ c.levels.level - 1 + 1 = omega arith in
    record {
      within = omega arith;
      climb = subst (λ (k : ℕ). IsClimb S0 c.args.path.now (result_of S0 c.directories.ensures.store c.args.root.0 c.requires.root c.args.path.now c.components-components.ensures.path c.args.change c.requires.held c.requires.clear) k c.above.new.store c.in_ok-change.change) next
          (level.climbing c.above.new.store c.in_ok-change.change c.above.ensures.store c.in_ok-change.ensures.ok);
    }

pub taken_in-requires : goal.taken_in-requires
taken_in-requires c =
    let S0 = c.args.store.now in
    let end : c.levels.level + 1 ≡ 0 + 1 = omega arith in
    let n : length c.components-components.result.now ≡ length c.args.path.now = ap length c.components-components.ensures.components in
    let level = level_up S0 c.directories.ensures.store c.args.root.0 c.requires.root c.args.path.now c.components-components.ensures.path c.args.change c.requires.held c.requires.clear c.in-Ok.directories.items c.in-Ok.ensures.names 0 (omega (arith, path_long c.args.path.now c.components-components.ensures.path)) c.levels.store c.levels.change (subst (λ (k : ℕ). IsClimb S0 c.args.path.now (result_of S0 c.directories.ensures.store c.args.root.0 c.requires.root c.args.path.now c.components-components.ensures.path c.args.change c.requires.held c.requires.clear) k c.levels.store c.levels.change) end c.levels.invariant.climb)
    c.components-components.result.now c.components-components.ensures.components c.index-components-0.result c.bytes-2.result.now c.bytes-2.ensures.bytes (c.index-components-0.is) c.bytes-2.ensures.component
    c.deref-2.result.now c.deref-2.ensures.value c.nth-2.result c.nth-2.ensures c.deref-3.result.now (c.deref-3.ensures.value ∙ c.in_ok-body-2.ensures.body) in
    level.fitting

pub returns-clause-ok : goal.returns-clause-ok
returns-clause-ok c =
    let S0 = c.args.store.now in
    let end : c.levels.level + 1 ≡ 0 + 1 = omega arith in
    let n : length c.components-components.result.now ≡ length c.args.path.now = ap length c.components-components.ensures.components in
    let level = level_up S0 c.directories.ensures.store c.args.root.0 c.requires.root c.args.path.now c.components-components.ensures.path c.args.change c.requires.held c.requires.clear c.in-Ok.directories.items c.in-Ok.ensures.names 0 (omega (arith, path_long c.args.path.now c.components-components.ensures.path)) c.levels.store c.levels.change (subst (λ (k : ℕ). IsClimb S0 c.args.path.now (result_of S0 c.directories.ensures.store c.args.root.0 c.requires.root c.args.path.now c.components-components.ensures.path c.args.change c.requires.held c.requires.clear) k c.levels.store c.levels.change) end c.levels.invariant.climb)
    c.components-components.result.now c.components-components.ensures.components c.index-components-0.result c.bytes-2.result.now c.bytes-2.ensures.bytes (c.index-components-0.is) c.bytes-2.ensures.component
    c.deref-2.result.now c.deref-2.ensures.value c.nth-2.result c.nth-2.ensures c.deref-3.result.now (c.deref-3.ensures.value ∙ c.in_ok-body-2.ensures.body) in
    finish_ok S0 c.args.path.now (result_of S0 c.directories.ensures.store c.args.root.0 c.requires.root c.args.path.now c.components-components.ensures.path c.args.change c.requires.held c.requires.clear) c.taken_in.new.store c.levels.store c.deref-3.result.now level c.taken_in.result (whole S0 c.directories.ensures.store c.args.root.0 c.requires.root c.args.path.now c.components-components.ensures.path c.args.change c.requires.held c.requires.clear) c.taken_in.ensures.ok

pub returns-clause-err : goal.returns-clause-err
returns-clause-err c =
    let S0 = c.args.store.now in
    let end : c.levels.level + 1 ≡ 0 + 1 = omega arith in
    let n : length c.components-components.result.now ≡ length c.args.path.now = ap length c.components-components.ensures.components in
    let level = level_up S0 c.directories.ensures.store c.args.root.0 c.requires.root c.args.path.now c.components-components.ensures.path c.args.change c.requires.held c.requires.clear c.in-Ok.directories.items c.in-Ok.ensures.names 0 (omega (arith, path_long c.args.path.now c.components-components.ensures.path)) c.levels.store c.levels.change (subst (λ (k : ℕ). IsClimb S0 c.args.path.now (result_of S0 c.directories.ensures.store c.args.root.0 c.requires.root c.args.path.now c.components-components.ensures.path c.args.change c.requires.held c.requires.clear) k c.levels.store c.levels.change) end c.levels.invariant.climb)
    c.components-components.result.now c.components-components.ensures.components c.index-components-0.result c.bytes-2.result.now c.bytes-2.ensures.bytes (c.index-components-0.is) c.bytes-2.ensures.component
    c.deref-2.result.now c.deref-2.ensures.value c.nth-2.result c.nth-2.ensures c.deref-3.result.now (c.deref-3.ensures.value ∙ c.in_ok-body-2.ensures.body) in
    finish_err S0 c.args.path.now (result_of S0 c.directories.ensures.store c.args.root.0 c.requires.root c.args.path.now c.components-components.ensures.path c.args.change c.requires.held c.requires.clear) c.taken_in.new.store c.levels.store c.deref-3.result.now level c.taken_in.result c.taken_in.ensures.err

pub returns-clause-store : goal.returns-clause-store
returns-clause-store c =
    let S0 = c.args.store.now in
    let end : c.levels.level + 1 ≡ 0 + 1 = omega arith in
    let n : length c.components-components.result.now ≡ length c.args.path.now = ap length c.components-components.ensures.components in
    let level = level_up S0 c.directories.ensures.store c.args.root.0 c.requires.root c.args.path.now c.components-components.ensures.path c.args.change c.requires.held c.requires.clear c.in-Ok.directories.items c.in-Ok.ensures.names 0 (omega (arith, path_long c.args.path.now c.components-components.ensures.path)) c.levels.store c.levels.change (subst (λ (k : ℕ). IsClimb S0 c.args.path.now (result_of S0 c.directories.ensures.store c.args.root.0 c.requires.root c.args.path.now c.components-components.ensures.path c.args.change c.requires.held c.requires.clear) k c.levels.store c.levels.change) end c.levels.invariant.climb)
    c.components-components.result.now c.components-components.ensures.components c.index-components-0.result c.bytes-2.result.now c.bytes-2.ensures.bytes (c.index-components-0.is) c.bytes-2.ensures.component
    c.deref-2.result.now c.deref-2.ensures.value c.nth-2.result c.nth-2.ensures c.deref-3.result.now (c.deref-3.ensures.value ∙ c.in_ok-body-2.ensures.body) in
    finish_store S0 c.args.path.now (result_of S0 c.directories.ensures.store c.args.root.0 c.requires.root c.args.path.now c.components-components.ensures.path c.args.change c.requires.held c.requires.clear) c.taken_in.new.store c.levels.store c.deref-3.result.now level c.taken_in.result c.levels.invariant.climb.grown c.taken_in.ensures.store c.taken_in.ensures.ok c.taken_in.ensures.err
