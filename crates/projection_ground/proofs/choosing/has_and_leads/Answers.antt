use Rattle.std.proofs.Common.{◌&&◌}
use Rattle.std.proofs.lemmas.Result.{IfOk-weaker}
use Rattle.git_objects.specs.Paths.{same_bytes}
use Rattle.commit_map.specs.Shown.{shown_value}
use Rattle.projection_ground.specs.Choosing.{leads_upon}
use Rattle.projection_ground.proofs.Chosen.{and-same, test-as}
use Rattle.projection_ground.proofs.choosing.has_and_leads.Goals as goal

pub returns : goal.returns
returns c = λ place b.
    let g = c.args.ground.now in
    let ps = c.args.parents.now in
    let m = shown_value c.args.m.now in
    IfOk-weaker c.leads.result _ _
    (test-as g place ps (λ ks. leads_upon g place ps ks m) (λ ks. same_bytes m.tree c.args.tree.now.0 && leads_upon g place ps ks m)
    (λ ks. and-same (same_bytes m.tree c.args.tree.now.0) c.if-ne.ensures (leads_upon g place ps ks m))) (c.leads.ensures place b)
