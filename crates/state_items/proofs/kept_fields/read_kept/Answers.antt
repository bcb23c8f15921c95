use Rattle.std.proofs.Common.{◌∙◌, [], Ok, sym, ap}
use Rattle.commit_map.specs.Rules.{rule_number}
use Rattle.state_items.specs.KeptMaps.{RuleMaps, with_map_by}
use Rattle.state_items.proofs.KeptRead.{kept-read}
use Rattle.state_items.proofs.MapsKept.{map-twice}
use Rattle.state_items.proofs.kept_fields.read_kept.Goals as goal

pub returns : goal.returns
returns c =
    let rule = rule_number c.args.rule in
    let maps = c.args.kept.now in
    let text = c.in_ok-text.text.now in
    let es = c.read_entries.new.map in
    kept-read c.args.held.now.objects rule maps c.args.cursor.now c.text_field.new.cursor c.four_bytes.new.self c.read_entries.new.cursor text c.in_ok-count.count c.in_ok-map.map es
    c.in_ok-text.ensures c.in_ok-count.ensures c.in_ok-map.ensures.map c.in_ok-read_entries.ensures c.in_ok-ended.ensures
    ∙ ap (λ (m : RuleMaps). Ok m) (sym (c.in_ok-set.ensures.ok ∙ ap (λ (m : RuleMaps). with_map_by rule m text es) c.in_ok-map.ensures.kept ∙ map-twice rule maps text es []))
