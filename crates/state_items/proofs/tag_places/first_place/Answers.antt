use Rattle.std.proofs.Common.{◌≡◌, ℕ, true, IfSome, Option, sym, subst, ap, ◌∙◌, add-one}
use Rattle.std.specs.Ordering.{is_lt}
use Rattle.git_objects.specs.Refs.{bytes_cmp}
use Rattle.tag_objects.proofs.TagLists.{less}
use Rattle.tag_objects.specs.declared.tag.Tag.{Tag}
use Rattle.state_items.specs.TagPlaces.{AreLower, IsHighest}
use Rattle.state_items.proofs.TagPlaces.{behind-lower}
use Rattle.state_items.proofs.tag_places.first_place.Goals as goal

pub returns-then-is_lt : goal.returns-then-is_lt
returns-then-is_lt c =
    let u : Tag = c.index-tags-at.result in
    let n = c.args.name.now in
    let us = c.args.tags.now in
    let at = c.in-Some.at in
    let h : IsHighest at us = subst (λ (o : Option ℕ). IfSome o (λ i. IsHighest i us)) c.in-Some.is c.requires in
    let low : is_lt (bytes_cmp u.name n) ≡ true =
    ap (λ (x : Tag). is_lt (bytes_cmp x.name n)) c.index-tags-at.is ∙ ap is_lt (sym c.cmp.ensures) ∙ sym c.is_lt.ensures ∙ c.if-is_lt.true in
    subst (λ (i : ℕ). AreLower n i us) (sym (add-one at)) (behind-lower n us at u h (sym c.index-tags-at.is) (less (bytes_cmp u.name n) low))
