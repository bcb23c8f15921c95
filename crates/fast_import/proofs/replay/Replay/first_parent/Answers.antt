use Rattle.std.proofs.Common.{Ok, Option, ap, sym, ◌∙◌}
use Rattle.std.specs.FinMap.{find}
use Rattle.git_objects.specs.Refs.{bytes_cmp}
use Rattle.git_objects.specs.Paths.{Bytes}
use Rattle.std.specs.Option.{option_map}
use Rattle.git_objects.specs.Parts.{name_bytes}
use Rattle.git_objects.specs.declared.name.Name.{Name}
use Rattle.fast_import.specs.Bases.{base_in}
use Rattle.fast_import.specs.Replaying.{Replaying}
use Rattle.fast_import.proofs.Resolving.{branch-is, upon_branch}
use Rattle.fast_import.proofs.replay.Replay.first_parent.Goals as goal

pub returns-in-Ok-None : goal.returns-in-Ok-None
returns-in-Ok-None g c = λ S r h.
    upon_branch (base_in S (g.B.Base.commits c.args.base.now) (g.B.Base.refs c.args.base.now) (g.B.Base.blobs c.args.base.now)) r c.args.head.now
    (c.in-Ok-None.ensures S r h ∙ ap (λ (o : Option Name). Ok (option_map name_bytes o)) c.in-Ok-None.field-0-is)
    ∙ ap (λ (o : Option Bytes). Ok o) (sym (c.get.ensures ∙ ap (λ (v : Replaying). find bytes_cmp c.args.head.now.refname v.branches) c.self.view_is ∙ branch-is S c.args.self.now r h c.args.head.now.refname))
