-- Proves what src/commit.rt needs of `cut_back`.
use Rattle.std.proofs.Common.{◌≡◌, map, ap, subst, ◌∙◌}
use Rattle.git_objects.specs.Parts.{name_bytes}
use Rattle.repo_ground.specs.Contents.{Contents}
use Rattle.repo_ground.specs.Drafting.{cut_to}
use Rattle.repo_ground.specs.contracts.state.State.{the_view}
use Rattle.repo_ground.proofs.Cuts.{map-take}
use Rattle.repo_ground.proofs.state.State.cut_back.Goals as goal

-- src/commit.rt:129:5
pub returns : goal.returns
returns c =
    let v : Contents = the_view c.self.inside in
    let m = c.args.mark in
    let names = ap (map name_bytes) c.truncate.ensures.keys ∙ map-take name_bytes m.names c.self.inside.held.keys in
    let blobs = ap (map name_bytes) c.truncate-2.ensures.keys ∙ map-take name_bytes m.blobs c.self.inside.blobs.keys in
    subst (λ (x : Contents). record v { basis = record v.basis { graph = c.truncate-3.new.self }; blobs = map name_bytes c.truncate-2.new.self.keys; names = map name_bytes c.truncate.new.self.keys } ≡ cut_to m.names m.blobs m.commits x) c.self.view_is
    (λ i. record v { basis = record v.basis { graph = c.truncate-3.ensures i }; blobs = blobs i; names = names i })
