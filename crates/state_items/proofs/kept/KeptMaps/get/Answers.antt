use Rattle.std.proofs.Common.{ap, sym, ◌∙◌}
use Rattle.commit_map.specs.Rules.{rule_number}
use Rattle.commit_map.specs.declared.rule.Rule.{Rule}
use Rattle.state_items.specs.KeptMaps.{RuleMaps, map_of, maps_by}
use Rattle.state_items.proofs.MapsKept.{map-lookup}
use Rattle.state_items.proofs.kept.KeptMaps.get.Goals as goal

pub returns-in-One : goal.returns-in-One
returns-in-One c =
    c.get.ensures.value
    ∙ map-lookup (λ t. t.items) c.args.text.now c.self.inside.first.entries
    ∙ ap (λ (m : RuleMaps). map_of c.args.text.now m.first) c.self.view_is
    ∙ ap (λ (r : Rule). map_of c.args.text.now (maps_by (rule_number r) c.args.self.now)) (sym c.in-One.is)

pub returns-in-Two : goal.returns-in-Two
returns-in-Two c =
    c.get-in-Two.ensures.value
    ∙ map-lookup (λ t. t.items) c.args.text.now c.self.inside.second.entries
    ∙ ap (λ (m : RuleMaps). map_of c.args.text.now m.second) c.self.view_is
    ∙ ap (λ (r : Rule). map_of c.args.text.now (maps_by (rule_number r) c.args.self.now)) (sym c.in-Two.is)
