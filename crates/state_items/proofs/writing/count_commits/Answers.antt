use Rattle.std.proofs.Common.{◌≡◌, ℕ, ◌<◌, ◌+◌, Bool, true, false, cond, List, [], ◌∷◌, length, filter, map, drop, get_or, sym, ap, ◌∙◌, arith, add-one}
use Rattle.std.proofs.Math.Seq.{drop-cons}
use Rattle.git_objects.specs.declared.kind.Kind.TheVariants.{Blob}
use Rattle.object_store.specs.declared.store.ObjectRef.{ObjectRef}
use Rattle.object_store.specs.Errors.{object_value}
use Rattle.object_store.specs.Fits.{is_commit}
use Rattle.object_store.specs.Objects.{Object}
use Rattle.state_items.proofs.writing.count_commits.Goals as goal
use Rattle.state_items.proofs.writing.count_commits.Goals.{then-is_commit, else-is_commit}

counted-next : (os : List ObjectRef) (k : ℕ) (o : ObjectRef) (b : Bool) → b ≡ is_commit (object_value (get_or os k o)) → k < length os
    → length (filter is_commit (map object_value (drop k os))) ≡ cond b 1 0 + length (filter is_commit (map object_value (drop (k + 1) os)))
counted-next os k o b e l =
    let x : Object = object_value (get_or os k o) in
    let rest : List Object = filter is_commit (map object_value (drop (k + 1) os)) in
    ap (λ (xs : List ObjectRef). length (filter is_commit (map object_value xs))) (drop-cons os k o l ∙ (λ i. get_or os k o ∷ drop (sym (add-one k) i) os))
    ∙ ap (λ (t : Bool). length (cond t (x ∷ rest) rest)) (sym e)
    ∙ elim b as (λ (t : Bool). length (cond t (x ∷ rest) rest) ≡ cond t 1 0 + length rest) [ true ↦ omega arith | false ↦ omega arith ]

pub loop-object-preserved : goal.loop-object-preserved
loop-object-preserved c =
    let os = c.args.objects.now in
    let k = c.loop-object.object-index in
    let none : ObjectRef = record { kind = Blob; body = record { ref_ptr = (0, 0); now = [] } } in
    let so = c.loop-object.invariant in
    elim c.if-is_commit.branch [
      | then-is_commit w ↦
          let one = counted-next os k none true w.if-is_commit.ensures c.loop-object-test.true in
          record { bound = omega (arith, so.bound, w.count-is); rest = omega (arith, so.rest, w.count-is, one) }
      | else-is_commit w ↦
          let one = counted-next os k none false w.if-is_commit.ensures c.loop-object-test.true in
          record { bound = omega (arith, so.bound, w.count-is); rest = omega (arith, so.rest, w.count-is, one) }
    ]
