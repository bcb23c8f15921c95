-- Proves what src/filter_maps.rt needs of `put_back`.
use Rattle.std.proofs.Common.{ℕ, take, sym, ap, subst, ◌∙◌}
use Rattle.commit_map.specs.Rules.{rule_number}
use Rattle.commit_map.specs.Shown.{Entries, kept_at}
use Rattle.git_objects.specs.Paths.{Bytes}
use Rattle.state_items.specs.KeptMaps.{RuleMaps, entries_at, with_map_by}
use Rattle.state_items.proofs.MapsKept.{map-stays}
use Rattle.repo_ground.specs.Choices.{HasMap, IsSpare, maps_in}
use Rattle.repo_ground.specs.declared.filter_maps.Choice.{Choice}
use Rattle.repo_ground.proofs.MapFronts.{rule-known}
use Rattle.repo_ground.proofs.Selections.{put-back}
use Rattle.repo_ground.proofs.filter_maps.put_back.Goals as goal

pub returns-in-Resting-clause-entries : goal.returns-in-Resting-clause-entries
returns-in-Resting-clause-entries c = λ text rule n h.
    let maps = c.args.maps.now in
    let last = c.in-Resting.last in
    let i : ℕ = rule_number last.filter.rule in
    let m : Bytes = last.filter.text.items in
    let back : Entries = c.unwrap_or-map.result in
    let own : Entries = take last.kept last.map in
    let spare = subst (λ (x : Choice). IsSpare x c.args.spare) c.in-Resting.is c.requires.spare in
    ap (λ (ms : RuleMaps). kept_at n (entries_at rule text ms)) (c.exchange.ensures.new ∙ ap (λ (t : Bytes). with_map_by i maps t back) c.deref.ensures.value)
    ∙ put-back maps i m back own (rule-known last.filter.rule) (λ q. ap (kept_at q) c.unwrap_or-map.ensures ∙ spare q) text rule n h
    ∙ ap (λ (x : Choice). kept_at n (entries_at rule text (maps_in maps x))) (sym c.in-Resting.is)

pub returns-in-Resting-clause-places : goal.returns-in-Resting-clause-places
returns-in-Resting-clause-places c = λ text rule h.
    let last = c.in-Resting.last in
    subst (λ (ms : RuleMaps). HasMap rule text ms) (sym c.exchange.ensures.new)
    (map-stays (rule_number last.filter.rule) rule c.deref.result.now text c.args.maps.now c.unwrap_or-map.result h)
