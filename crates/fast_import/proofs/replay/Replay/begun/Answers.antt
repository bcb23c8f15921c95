use Rattle.std.proofs.Common.{List, sym, ap, ◌∙◌}
use Rattle.std.specs.Option.{option_map, option_to_list}
use Rattle.git_objects.specs.Parts.{name_bytes}
use Rattle.fast_import.specs.Bases.{base_in}
use Rattle.fast_import.specs.Replays.{with_merges}
use Rattle.stream_reader.specs.declared.commit_ref.CommitRef.{CommitRef}
use Rattle.fast_import.proofs.Committing.{commit_begun}
use Rattle.fast_import.proofs.replay.Replay.begun.Goals as goal

pub returns-in-Ok-stage_upon : goal.returns-in-Ok-stage_upon
returns-in-Ok-stage_upon g c = λ at r h.
    let base = base_in c.args.store.now (g.B.Base.commits c.args.base.now) (g.B.Base.refs c.args.base.now) (g.B.Base.blobs c.args.base.now) in
    commit_begun c.args.store.now c.args.self.now r h (g.B.Base.commits c.args.base.now) (g.B.Base.refs c.args.base.now) (g.B.Base.blobs c.args.base.now) c.requires.base at c.args.head.now c.in-Ok.first (c.in-Ok.ensures c.args.store.now r h)
    (record { parents = c.in-Ok-with_merges.parents; stage = c.in-Ok-stage_upon.stage })
    (ap (λ (ms : List CommitRef). with_merges base r (option_to_list (option_map name_bytes c.in-Ok.first)) ms) (sym c.refs.ensures) ∙ c.in-Ok-with_merges.ensures c.args.store.now r h)
    (c.in-Ok-stage_upon.ensures r h)
