use Rattle.std.proofs.Common.{refl, ◌≡◌, ◌++◌, ◌∷◌, take, drop, arith, add-one, ap, sym, subst, ◌∙◌}
use Rattle.git_objects.specs.Refs.{bytes_cmp}
use Rattle.tag_objects.specs.TagLists.{put_tag}
use Rattle.tag_objects.specs.declared.tag.Tag.{Tag}
use Rattle.state_items.specs.TagPlaces.{AreLower, IsHighest}
use Rattle.state_items.proofs.TagPlaces.{first-within, highest-put, highest-set, one-lower, put-before, put-last, put-same}
use Rattle.state_items.proofs.tag_places.put_behind.Goals as goal
use Rattle.state_items.proofs.tag_places.put_behind.Goals.{else-places-test, then-places-test+in-Less}

pub places-init : goal.places-init
places-init c =
    let lower : AreLower c.args.tag.name c.first_place-at.result c.args.tags.now.items =
    subst (AreLower c.args.tag.name c.first_place-at.result) c.deref.ensures.value c.first_place-at.ensures in
    record { within = first-within c.args.tag.name c.args.tags.now.items c.first_place-at.result lower; lower = lower; same = refl; same_tag = refl }

pub returns-in-Equal-clause-tags : goal.returns-in-Equal-clause-tags
returns-in-Equal-clause-tags c =
    let u = c.index.result.now in
    put-same c.args.tag c.places.tags.items c.places.at u c.places.invariant.lower (omega (arith, c.places-test.true, c.len.ensures))
    (ap (λ (x : Tag). bytes_cmp c.args.tag.name x.name) (sym c.index.ensures) ∙ sym c.cmp.ensures ∙ c.in-Equal.is)
    ∙ ap (λ v. put_tag c.args.tag v.items) c.places.invariant.same

pub returns-in-Equal-clause-place : goal.returns-in-Equal-clause-place
returns-in-Equal-clause-place c =
    highest-set c.args.tag c.places.tags.items c.places.at (omega (arith, c.places-test.true, c.len.ensures)) c.places.invariant.lower

pub places-preserved : goal.places-preserved
places-preserved c =
    let u = c.index.result.now in record {
      within = omega (arith, c.places-test.true, c.len.ensures);
      lower = subst (λ i. AreLower c.args.tag.name i c.places.tags.items) (sym (add-one c.places.at))
          (one-lower c.args.tag.name c.places.tags.items c.places.at u c.places.invariant.lower (omega (arith, c.places-test.true, c.len.ensures))
          (ap (λ (x : Tag). bytes_cmp c.args.tag.name x.name) (sym c.index.ensures) ∙ sym c.cmp.ensures ∙ c.in-Greater.is));
      same = c.places.invariant.same;
      same_tag = c.places.invariant.same_tag;
    }

pub returns-clause-tags : goal.returns-clause-tags
returns-clause-tags c =
    let us = c.places.tags.items in
    let there : take c.places.at us ++ c.args.tag ∷ drop c.places.at us ≡ put_tag c.args.tag us = elim c.places-test.branch [
      | else-places-test w ↦ put-last c.args.tag us c.places.at c.places.invariant.lower (omega (arith, c.len.ensures, w.places-test.false))
      | then-places-test+in-Less w ↦ put-before c.args.tag us c.places.at w.index.result.now c.places.invariant.lower (omega (arith, w.places-test.true, c.len.ensures))
          (ap (λ (x : Tag). bytes_cmp c.args.tag.name x.name) (sym w.index.ensures) ∙ sym w.cmp.ensures ∙ w.in-Less.is)
    ] in
    c.in_ok-insert.ensures.items ∙ there ∙ ap (λ v. put_tag c.args.tag v.items) c.places.invariant.same

pub returns-clause-place : goal.returns-clause-place
returns-clause-place c =
    subst (IsHighest c.places.at) (sym c.in_ok-insert.ensures.items)
    (highest-put c.args.tag c.places.tags.items c.places.at c.places.invariant.within c.places.invariant.lower)
