use Rattle.std.proofs.Common.{◌-◌, ◌∙◌}
use Rattle.std.specs.Option.{option_copied}
use Rattle.state_items.specs.Items.{tags_field}
use Rattle.state_items.proofs.Stopping.{stop-along}
use Rattle.state_items.proofs.TagRuns.{tags-more, tags-stop}
use Rattle.state_items.proofs.tag_fields.set_tags.Goals as goal

pub loop-i-preserved : goal.loop-i-preserved
loop-i-preserved c = record {
  put = c.loop-i.invariant.put
      ∙ tags-more c.args.held.now.objects (option_copied c.loop-i.before) c.loop-i.tags.items c.loop-i.cursor c.args.count c.loop-i.i c.in-Ok.name.now c.set_tag.new.tags.items c.set_tag.new.cursor c.loop-i-test.true c.in-Ok.ensures.tags;
  place = c.in-Ok.ensures.place;
}

pub returns-in-Err : goal.returns-in-Err
returns-in-Err c =
    stop-along c.in-Err.fault _ (tags_field (c.args.count - c.loop-i.i) c.args.held.now.objects (option_copied c.loop-i.before) c.loop-i.tags.items c.loop-i.cursor) c.loop-i.invariant.put
    (tags-stop c.args.held.now.objects (option_copied c.loop-i.before) c.loop-i.tags.items c.loop-i.cursor c.args.count c.loop-i.i c.in-Err.fault c.loop-i-test.true c.in-Err.ensures.tags)
