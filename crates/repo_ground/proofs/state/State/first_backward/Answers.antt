use Rattle.std.proofs.Common.{◌≡◌, List, sym, ap, subst, ◌∙◌}
use Rattle.commit_graph.specs.Graphs.{Row}
use Rattle.projection_ground.specs.Grounds.{IsGround}
use Rattle.state_items.specs.Repos.{repo}
use Rattle.repo_ground.specs.Changes.{IsBatchOf}
use Rattle.repo_ground.specs.Contents.{Contents}
use Rattle.repo_ground.specs.contracts.state.State.{the_view}
use Rattle.repo_ground.proofs.Cuts.{front-back, front-long}
use Rattle.repo_ground.proofs.TestedMoves.{may-move}
use Rattle.repo_ground.proofs.state.State.first_backward.Goals as goal

pub backward_in-found-requires : goal.backward_in-found-requires
backward_in-found-requires c =
    let q = c.requires.batch in
    let v : Contents = the_view c.self.inside in
    let w = subst (λ (x : Contents). IsBatchOf q.0 x c.args.batch.now q.1 q.2) (sym c.self.view_is) q.3 in
    let g : IsGround v.basis = subst (λ (x : Contents). IsGround x.basis) (sym c.self.view_is) c.requires.ground in
    record { may = ((repo q.0).commits, q.0.refs, q.2, may-move q.0 v c.args.batch.now q.1 q.2 w g) }

pub truncate-requires : goal.truncate-requires
truncate-requires c = front-long c.len-commits.result c.self.inside.ground.graph c.backward_in-found.new.graph c.len-commits.ensures.len c.backward_in-found.ensures.front

pub returns-clause-first : goal.returns-clause-first
returns-clause-first c = λ h blobs cs u.
    let v : Contents = the_view c.self.inside in
    let w = subst (λ (x : Contents). IsBatchOf h x c.args.batch.now blobs cs) (sym c.self.view_is) u in
    let g : IsGround v.basis = subst (λ (x : Contents). IsGround x.basis) (sym c.self.view_is) c.requires.ground in
    c.backward_in-found.ensures.first (repo h).commits h.refs cs (may-move h v c.args.batch.now blobs cs w g)

pub returns-clause-same : goal.returns-clause-same
returns-clause-same c =
    let v : Contents = the_view c.self.inside in
    let rows : c.truncate.new.self ≡ c.self.inside.ground.graph = c.truncate.ensures ∙ front-back c.len-commits.result c.self.inside.ground.graph c.backward_in-found.new.graph c.len-commits.ensures.len c.backward_in-found.ensures.front in
    ap (λ (rs : List Row). record v { basis = record v.basis { graph = rs } }) rows ∙ c.self.view_is
