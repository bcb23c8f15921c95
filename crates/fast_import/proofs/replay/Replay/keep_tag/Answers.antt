use Rattle.std.proofs.Common.{◌≡◌, List, ap, ◌∙◌}
use Rattle.fast_import.specs.Replays.{tag_of}
use Rattle.fast_import.specs.Replaying.{Replaying}
use Rattle.fast_import.specs.contracts.replay.Replay.{the_view}
use Rattle.tag_objects.specs.TagLists.{put_tag}
use Rattle.tag_objects.specs.declared.tag.Tag.{Tag}
use Rattle.fast_import.proofs.Stepping.{tag_kept}
use Rattle.fast_import.proofs.replay.Replay.keep_tag.Goals as goal

pub returns : goal.returns
returns c =
    let t : Tag = tag_of c.args.head c.args.target.0 in
    let before : Replaying = c.args.self.now in
    let after : Replaying = the_view record { alloc = c.self.inside.alloc; blobs = c.self.inside.blobs; commits = c.self.inside.commits; branches = c.self.inside.branches; marks = c.self.inside.marks; draft = c.self.inside.draft; tags = c.put.new.self } in
    let put : after ≡ record before { tags = put_tag t before.tags } =
    ap (λ (ts : List Tag). record (the_view c.self.inside) { tags = ts }) c.in-Ok.ensures.ok ∙ ap (λ (u : Replaying). record u { tags = put_tag t u.tags }) c.self.view_is in
    λ S r h. tag_kept S before after c.mark.new.self r c.args.head c.args.target.0 h put c.mark.result c.mark.ensures.ok c.mark.ensures.err
