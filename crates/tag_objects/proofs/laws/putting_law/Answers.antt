use Rattle.tag_objects.proofs.TagLists.{found_put, put_rises, with_rises}
use Rattle.tag_objects.proofs.TagOrder.{put_in_order}
use Rattle.tag_objects.proofs.laws.putting_law.Goals as goal

pub returns : goal.returns
returns c = record { rises = put_rises; all_rise = with_rises; named = found_put; in_order = put_in_order }
