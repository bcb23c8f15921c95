-- Proves what src/kept.rt needs of `exchange`.
use Rattle.std.proofs.Common.{Some, is_some, option_map, sym, ap, ◌∙◌, true≢false}
use Rattle.state_items.specs.KeptMaps.{text_maps, with_map}
use Rattle.state_items.proofs.MapsKept.{map-lookup, maps-exchange}
use Rattle.state_items.proofs.kept.exchange.Goals as goal

-- src/kept.rt:54:17
pub unreachable-requires : goal.unreachable-requires
unreachable-requires c =
    true≢false (sym c.requires ∙ ap is_some (sym (map-lookup (λ t. t.items) c.args.text.now c.args.maps.now.entries) ∙ sym c.get_mut.ensures.value) ∙ ap (λ o. is_some (option_map (λ m. m.now) o)) c.in-None.is)

-- src/kept.rt:47:1
pub returns-clause-old : goal.returns-clause-old
returns-clause-old c =
    ap Some c.replace.ensures.value ∙ c.in-Some.ensures.value ∙ map-lookup (λ t. t.items) c.args.text.now c.args.maps.now.entries

-- src/kept.rt:47:1
pub returns-clause-new : goal.returns-clause-new
returns-clause-new c =
    ap (text_maps (λ t. t.items)) (c.get_mut.follows.holds c.replace.new.dest).0
    ∙ maps-exchange (λ t. t.items) c.args.text.now c.replace.new.dest c.args.maps.now.entries c.requires
    ∙ ap (with_map (text_maps (λ t. t.items) c.args.maps.now.entries) c.args.text.now) c.replace.ensures.after
