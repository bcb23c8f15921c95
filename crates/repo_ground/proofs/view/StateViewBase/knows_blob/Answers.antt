use Rattle.std.proofs.Common.{◌∙◌, sym, ap}
use Rattle.std.specs.List.{list_any}
use Rattle.git_objects.specs.Parts.{name_bytes}
use Rattle.git_objects.specs.Paths.{same_bytes}
use Rattle.repo_ground.specs.Laws.{Named}
use Rattle.repo_ground.proofs.Members.{known-back}
use Rattle.repo_ground.proofs.view.StateViewBase.knows_blob.Goals as goal

pub returns : goal.returns
returns c =
    c.contains.ensures ∙ sym (known-back (same_bytes c.args.blob.now.0) name_bytes c.self.inside.blobs.now.keys)
    ∙ ap (λ (v : Named). list_any (same_bytes c.args.blob.now.0) v.blobs) c.self.view_is
