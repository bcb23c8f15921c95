use Rattle.std.proofs.Common.{ap, ◌∙◌}
use Rattle.git_objects.specs.Paths.{Bytes}
use Rattle.state_items.specs.KeptMaps.{map_of, text_maps, with_map}
use Rattle.state_items.proofs.MapsKept.{map-lookup, maps-insert}
use Rattle.state_items.proofs.kept.put.Goals as goal

pub returns-clause-old : goal.returns-clause-old
returns-clause-old c =
    c.in_ok-old.ensures.old
    ∙ map-lookup (λ t. t.items) c.in_ok-key.key.items c.args.maps.now.entries
    ∙ ap (λ (t : Bytes). map_of t (text_maps (λ t. t.items) c.args.maps.now.entries)) (c.in_ok-key.ensures.items_if_clones_equal (λ x y e. e))

pub returns-clause-ok : goal.returns-clause-ok
returns-clause-ok c =
    ap (text_maps (λ t. t.items)) c.in_ok-old.ensures.entries
    ∙ maps-insert (λ t. t.items) c.in_ok-key.key c.args.map c.args.maps.now.entries
    ∙ ap (λ (t : Bytes). with_map (text_maps (λ t. t.items) c.args.maps.now.entries) t c.args.map) (c.in_ok-key.ensures.items_if_clones_equal (λ x y e. e))
