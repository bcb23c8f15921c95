use Rattle.std.proofs.Common.{◌≡◌, ◌∙◌, ap, subst, refl, true, false, inl, inr, ◌⊎◌, Bool, ℕ, [], ◌∷◌, true≢false, arith, length, ◌-◌}
use Rattle.git_objects.specs.Trees.{rests}
use Rattle.git_objects.specs.Entries.{is_dir}
use Rattle.git_objects.specs.Paths.{Path, is_nil, is_component}
use Rattle.filter_apply.specs.Faults.{IsApplyFault, fault_of}
use Rattle.filter_apply.specs.Hands.{IsPlacedObject}
use Rattle.filter_apply.proofs.Handing.{err_told}
use Rattle.path_trees.specs.Standing.{node}
use Rattle.path_trees.proofs.Lookups.{read_at}
use Rattle.filter_apply.proofs.Placements.{IsPlacing, first_placing, line_fits, line_placed, line_refused, line_kept, all_placed}
use Rattle.filter_apply.proofs.placing.placed.Goals as goal

start : (d n : Bool) (l : ℕ) → (d ≡ true) ⊎ (n ≡ false) → (d ≡ true) ⊎ ((n ≡ false) × (l ≡ l))
start d n l (inl k) = inl k
start d n l (inr k) = inr (k, refl)

pub levels-init : goal.levels-init
levels-init c = record {
  within = omega arith;
  placing = first_placing c.args.store.now c.args.target.now c.args.found c.store_law.ensures.store c.requires.held c.name_bytes_law.ensures.name;
  kind = start (is_dir c.args.found.mode) (is_nil c.args.target.now) (length c.args.target.now) c.requires.tree;
}

pub taken_in-requires : goal.taken_in-requires
taken_in-requires c =
    let S0 = c.args.store.now in
    let t = rests (node S0 c.args.found) in
    let within = c.levels.invariant.within in
    let positive = c.levels-test.true in
    line_fits S0 c.args.target.now t c.levels.level c.levels.store c.levels.found c.levels.invariant.placing (c.levels.level - 1) (omega arith) (omega arith) c.bytes.result.now (ap is_component c.bytes.ensures.bytes ∙ c.bytes.ensures.component)
    (read_at c.args.target.now c.args.target.now (c.levels.level - 1) c.index-target-level.result c.bytes.result.now refl c.bytes.ensures.bytes c.index-target-level.is)
    c.deref.result.now (c.deref.ensures.value ∙ c.in_ok-body.ensures)

pub returns-in_err-name-clause-err : goal.returns-in_err-name-clause-err
returns-in_err-name-clause-err c =
    let S0 = c.args.store.now in
    let t = rests (node S0 c.args.found) in
    let within = c.levels.invariant.within in
    let positive = c.levels-test.true in
    err_told (IsApplyFault (IsPlacedObject c.args.target.now t) c.taken_in.new.store) c.from_residual-in_err-name.result (fault_of c.in_err-name.field-0.0) c.from_residual-in_err-name.ensures.1
    (line_refused S0 c.args.target.now t c.levels.level c.levels.store c.levels.found c.levels.invariant.placing (c.levels.level - 1) (omega arith) (omega arith) c.bytes.result.now (ap is_component c.bytes.ensures.bytes ∙ c.bytes.ensures.component)
    (read_at c.args.target.now c.args.target.now (c.levels.level - 1) c.index-target-level.result c.bytes.result.now refl c.bytes.ensures.bytes c.index-target-level.is)
    c.deref.result.now (c.deref.ensures.value ∙ c.in_ok-body.ensures) c.taken_in.new.store c.in_err-name.field-0.0 c.in_err-name.ensures.err.0 c.in_err-name.ensures.err.1)

pub returns-in_err-name-clause-store : goal.returns-in_err-name-clause-store
returns-in_err-name-clause-store c =
    let S0 = c.args.store.now in
    let t = rests (node S0 c.args.found) in
    let within = c.levels.invariant.within in
    let positive = c.levels-test.true in
    line_kept S0 c.args.target.now t c.levels.level c.levels.store c.levels.found c.levels.invariant.placing (c.levels.level - 1) (omega arith) (omega arith) c.bytes.result.now (ap is_component c.bytes.ensures.bytes ∙ c.bytes.ensures.component)
    (read_at c.args.target.now c.args.target.now (c.levels.level - 1) c.index-target-level.result c.bytes.result.now refl c.bytes.ensures.bytes c.index-target-level.is)
    c.deref.result.now (c.deref.ensures.value ∙ c.in_ok-body.ensures) c.taken_in.new.store c.in_err-name.ensures.err.0

pub levels-preserved : goal.levels-preserved
levels-preserved c =
    let S0 = c.args.store.now in
    let t = rests (node S0 c.args.found) in
    let within = c.levels.invariant.within in
    let positive = c.levels-test.true in
    record {
      within = omega arith;
      placing = line_placed S0 c.args.target.now t c.levels.level c.levels.store c.levels.found c.levels.invariant.placing (c.levels.level - 1) (omega arith) (omega arith) c.bytes.result.now (ap is_component c.bytes.ensures.bytes ∙ c.bytes.ensures.component)
          (read_at c.args.target.now c.args.target.now (c.levels.level - 1) c.index-target-level.result c.bytes.result.now refl c.bytes.ensures.bytes c.index-target-level.is)
          c.deref.result.now (c.deref.ensures.value ∙ c.in_ok-body.ensures) c.taken_in.new.store c.taken_in.ensures.store c.in_ok-name.ensures.ok.1 c.in_ok-name.name c.in_ok-name.ensures.ok.0;
      kind = inl refl;
    }

pub returns-clause-ok : goal.returns-clause-ok
returns-clause-ok c =
    let none = c.levels-test.false in
    let zero_is : c.levels.level ≡ 0 = omega arith in
    all_placed c.args.store.now c.args.target.now (rests (node c.args.store.now c.args.found)) c.levels.store c.levels.found
    (subst (λ (k : ℕ). IsPlacing c.args.store.now c.args.target.now (rests (node c.args.store.now c.args.found)) k c.levels.store c.levels.found) zero_is c.levels.invariant.placing)
    (ends c.args.target.now c.levels.level (is_dir c.levels.found.mode) zero_is c.levels.invariant.kind)
  where
    ends : (p : Path) (l : ℕ) (d : Bool) → l ≡ 0 → (d ≡ true) ⊎ ((is_nil p ≡ false) × (l ≡ length p)) → d ≡ true
    ends p l d z (inl k) = k
    ends [] l d z (inr (n, e)) = absurd (true≢false n)
    ends (x ∷ p) l d z (inr (n, e)) = absurd (omega arith)
