-- Proves what src/filter_maps.rt needs of `select`.
use Rattle.std.proofs.Common.{◌≡◌, ℕ, [], Some, take, sym, ap, subst, subst₂, ◌∙◌}
use Rattle.commit_map.specs.Rules.{rule_number}
use Rattle.commit_map.specs.Shown.{Entries, kept_at}
use Rattle.git_objects.specs.Paths.{Bytes}
use Rattle.state_items.specs.KeptMaps.{RuleMaps, entries_at, map_of, maps_by, with_map_by}
use Rattle.state_items.proofs.MapsKept.{map-there}
use Rattle.repo_ground.specs.Choices.{HasMap, HasPlace, entries_beside, maps_in, rested, with_place}
use Rattle.repo_ground.specs.declared.filter_maps.Choice.{Choice}
use Rattle.repo_ground.proofs.MapFronts.{rule-known}
use Rattle.repo_ground.proofs.Selections.{has-place, place-stays, place-there, rested-place, selected-entries}
use Rattle.repo_ground.proofs.filter_maps.FilterMaps.select.Goals as goal

pub put_back-requires-clause-place : goal.put_back-requires-clause-place
put_back-requires-clause-place c =
    let maps = c.self.inside.kept in
    let j : ℕ = rule_number c.args.rule in
    let t : Bytes = c.args.text.items in
    let old : Entries = c.replace-old.result in
    let made : c.add_place.new.maps ≡ with_place j t maps = c.in_ok-add_place.ensures.ok ∙ ap (λ (x : Bytes). with_place j x maps) c.deref.ensures.value in
    let last : c.rest.result ≡ rested c.self.inside.choice old c.args.kept = c.rest.ensures ∙ ap (λ (x : Choice). rested x old c.args.kept) c.replace-last.ensures.value in
    subst₂ (λ (ms : RuleMaps) (x : Choice). HasPlace ms x) (sym made) (sym last)
    (rested-place c.self.inside.choice (with_place j t maps) old c.args.kept (has-place c.self.inside.choice maps (with_place j t maps) (place-stays j t maps) c.self.invariant))

pub exchange-requires : goal.exchange-requires
exchange-requires c =
    let maps = c.self.inside.kept in
    let j : ℕ = rule_number c.args.rule in
    let t : Bytes = c.args.text.items in
    let made : c.add_place.new.maps ≡ with_place j t maps = c.in_ok-add_place.ensures.ok ∙ ap (λ (x : Bytes). with_place j x maps) c.deref.ensures.value in
    subst (λ (x : Bytes). HasMap j x c.put_back.new.maps) (sym c.deref-2.ensures.value)
    (c.put_back.ensures.places t j (subst (λ (ms : RuleMaps). HasMap j t ms) (sym made) (place-there j t maps)))

pub invariant_of-self-2 : goal.invariant_of-self-2
invariant_of-self-2 c =
    let j : ℕ = rule_number c.args.rule in
    let t : Bytes = c.args.text.items in
    subst (λ (ms : RuleMaps). HasMap j t ms) (sym (c.exchange.ensures.new ∙ ap (λ (x : Bytes). with_map_by j c.put_back.new.maps x c.new-2.result) c.deref-2.ensures.value))
    (map-there j t c.put_back.new.maps c.new-2.result)

pub returns-clause-entries : goal.returns-clause-entries
returns-clause-entries c = λ m k n g.
    let maps = c.self.inside.kept in
    let after : RuleMaps = c.put_back.new.maps in
    let choice : Choice = c.self.inside.choice in
    let j : ℕ = rule_number c.args.rule in
    let t : Bytes = c.args.text.items in
    let old : Entries = c.replace-old.result in
    let made : c.add_place.new.maps ≡ with_place j t maps = c.in_ok-add_place.ensures.ok ∙ ap (λ (x : Bytes). with_place j x maps) c.deref.ensures.value in
    let last : c.rest.result ≡ rested choice old c.args.kept = c.rest.ensures ∙ ap (λ (x : Choice). rested x old c.args.kept) c.replace-last.ensures.value in
    let taken : c.exchange.new.self ≡ with_map_by j after t [] = c.exchange.ensures.new ∙ (λ i. with_map_by j after (c.deref-2.ensures.value i) (c.new-2.ensures i)) in
    ap (λ (ms : RuleMaps). kept_at n (entries_beside (record { maps = ms; selected = Some (t, j) }) c.exchange.result m k)) taken
    ∙ selected-entries choice maps after old c.exchange.result c.args.kept t j (rule-known c.args.rule)
    (c.exchange.ensures.old ∙ ap (λ (x : Bytes). map_of x (maps_by j after)) c.deref-2.ensures.value)
    (λ text i q h. c.put_back.ensures.entries text i q h ∙ (λ d. kept_at q (entries_at i text (maps_in (made d) (last d)))))
    m k n g
    ∙ (λ i. kept_at n (entries_beside (c.self.view_is i) (take c.args.kept (c.replace-old.ensures.value i)) m k))
