use Rattle.std.proofs.Common.{◌++◌, [], ◌∷◌, List, ℕ, map, sym, ap, ◌∙◌, arith}
use Rattle.std.proofs.lemmas.List.{append-nil}
use Rattle.std.proofs.lemmas.List.Concat.{flat_map-append}
use Rattle.std.specs.Borrow.{Bor}
use Rattle.std.specs.List.{flat_map}
use Rattle.git_objects.specs.Paths.{Bytes}
use Rattle.object_store.specs.Errors.{object_value}
use Rattle.object_store.specs.declared.store.ObjectRef.{ObjectRef}
use Rattle.state_items.proofs.Weaving.{none_left, woven, woven-item}
use Rattle.state_items.proofs.writing.change_parts.Goals as goal

abbrev joined : List (Bor (List ℕ)) → Bytes
joined parts = flat_map (λ part. part.now) parts

pub returns : goal.returns
returns c = λ refs tags is.
    let objects = c.args.objects.now in
    let parts = c.loop-object.parts.items in
    let rest = c.loop-object.rest in
    let behind = none_left objects c.loop-object.object-index (omega (arith, c.loop-object-test.false)) in
    ap joined c.in_ok-push-4.ensures.items
    ∙ flat_map-append (λ (part : Bor (List ℕ)). part.now) parts (rest ∷ [])
    ∙ ap (λ (t : Bytes). joined parts ++ t) (append-nil rest.now)
    ∙ sym (ap (λ (os : List ObjectRef). joined parts ++ woven (map object_value os) rest.now) behind)
    ∙ c.loop-object.invariant.whole
    ∙ woven-item (map object_value objects) refs tags c.args.heads.now is
