use Rattle.std.proofs.Common.{ap, ◌∙◌}
use Rattle.std.specs.List.{list_any}
use Rattle.git_objects.specs.Paths.{same_bytes}
use Rattle.push_back.specs.Grounds.{Ground, blobs_of}
use Rattle.push_back.proofs.Grounding.{any-named}
use Rattle.push_back.proofs.base.PushBaseBase.knows_blob.Goals as goal

pub returns : goal.returns
returns c = c.has.ensures ∙ any-named c.args.blob.now c.self.inside.blobs ∙ ap (λ (g : Ground). list_any (same_bytes c.args.blob.now.0) (blobs_of g)) c.self.view_is
