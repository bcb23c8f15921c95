-- Proves what src/taking.rt needs of `take`.
use Rattle.std.proofs.Common.{◌≡◌, ◌+◌, ℕ, List, [], ◌++◌, drop, filter, length, map, reverse, None, refl, sym, ap, subst, ◌∙◌}
use Rattle.git_objects.specs.Parts.{name_bytes}
use Rattle.projection_ground.specs.Grounds.{IsGround}
use Rattle.object_store.specs.Errors.{object_value}
use Rattle.object_store.specs.Fits.{is_commit}
use Rattle.object_store.specs.Objects.{Object}
use Rattle.state_items.specs.Changes.{fresh, objects_of, passed_by_objects}
use Rattle.state_items.specs.Writings.{found}
use Rattle.repo_ground.specs.Changes.{IsBatchOf}
use Rattle.repo_ground.specs.Contents.{Contents}
use Rattle.repo_ground.specs.Taking.{IsTaken}
use Rattle.repo_ground.specs.contracts.state.State.{the_view}
use Rattle.repo_ground.proofs.Prepared.{commits-there, held-before, held-with, news-of, room-with}
use Rattle.repo_ground.proofs.Taken.{taken-is}
use Rattle.repo_ground.proofs.state.State.take.Goals as goal

pub hold_batch-requires : goal.hold_batch-requires
hold_batch-requires c =
    let q = c.requires.batch in
    let w = subst (λ (x : Contents). IsBatchOf q.0 x c.args.batch.now q.1 q.2) (sym c.self.view_is) q.3 in
    commits-there c.self.inside.ground.store c.args.batch.now.commits.items q.2 w.named

pub enter-requires : goal.enter-requires
enter-requires c =
    let h = c.requires.batch.0 in
    let blobs = c.requires.batch.1 in
    let cs = c.requires.batch.2 in
    let u = c.requires.batch.3 in
    let v : Contents = the_view c.self.inside in
    let b = c.args.batch.now in
    let w : IsBatchOf h v b blobs cs = subst (λ (x : Contents). IsBatchOf h x b blobs cs) (sym c.self.view_is) u in
    let g : IsGround v.basis = subst (λ (x : Contents). IsGround x.basis) (sym c.self.view_is) c.requires.ground in
    let old = c.self.inside.held.keys in
    let new = c.hold_batch.new.held.keys in
    let names = c.names_from-names.result.now in
    let en : names ≡ drop (length old) new = c.names_from-names.ensures ∙ ap (λ (n : ℕ). drop n new) c.len-before.ensures.len in
    let step = c.in_ok-hold_batch.ensures.step blobs cs w.known w.named in
    let ext = c.in_ok-hold_batch.ensures.extends in
    let n = news-of h v b blobs cs w g.graph.store old new names refl step ext en in
    let all : List Object = reverse (fresh h.objects (objects_of blobs cs)) ++ h.objects in
    let read : map object_value c.deref.result.now ≡ found v.basis.store names = ap (map object_value) c.deref.ensures.value ∙ c.in_ok-objects.ensures in
    let counted : c.len.result + c.count_commits.result ≡ length (filter is_commit all) =
    ap (λ (k : ℕ). c.len.result + k) c.count_commits.ensures.number ∙ (λ i. c.len.ensures.len i + length (filter is_commit (read i))) ∙ n.commits in
    let passed = c.first_passed.ensures.first all [] counted (c.len-2.ensures.len ∙ n.objects) refl in
    let fits : passed_by_objects all None ≡ None = sym passed ∙ c.in_default.is in
    record {
      new = (
        v.basis.store,
        h.objects,
        old,
        held-before h v b blobs cs w g.graph.store old c.self.inside.blobs.keys refl refl,
        n.fresh.new (room-with h v b blobs cs w g.graph.store 0 0 [] fits),
        ap (map object_value) c.deref-2.ensures.value ∙ c.in_ok-objects.ensures,
      );
    }

pub returns-in-Some : goal.returns-in-Some
returns-in-Some c = λ h blobs cs u.
    let v : Contents = the_view c.self.inside in
    let b = c.args.batch.now in
    let w : IsBatchOf h v b blobs cs = subst (λ (x : Contents). IsBatchOf h x b blobs cs) (sym c.self.view_is) u in
    let g : IsGround v.basis = subst (λ (x : Contents). IsGround x.basis) (sym c.self.view_is) c.requires.ground in
    let old = c.self.inside.held.keys in
    let new = c.hold_batch.new.held.keys in
    let names = c.names_from-names.result.now in
    let en : names ≡ drop (length old) new = c.names_from-names.ensures ∙ ap (λ (n : ℕ). drop n new) c.len-before.ensures.len in
    let step = c.in_ok-hold_batch.ensures.step blobs cs w.known w.named in
    let ext = c.in_ok-hold_batch.ensures.extends in
    let n = news-of h v b blobs cs w g.graph.store old new names refl step ext en in
    let all : List Object = reverse (fresh h.objects (objects_of blobs cs)) ++ h.objects in
    let read : map object_value c.deref.result.now ≡ found v.basis.store names = ap (map object_value) c.deref.ensures.value ∙ c.in_ok-objects.ensures in
    let counted : c.len.result + c.count_commits.result ≡ length (filter is_commit all) =
    ap (λ (k : ℕ). c.len.result + k) c.count_commits.ensures.number ∙ (λ i. c.len.ensures.len i + length (filter is_commit (read i))) ∙ n.commits in
    let passed = c.first_passed.ensures.first all [] counted (c.len-2.ensures.len ∙ n.objects) refl in
    sym passed ∙ c.in-Some.is

pub returns : goal.returns
returns c = λ h blobs cs u.
    let v : Contents = the_view c.self.inside in
    let b = c.args.batch.now in
    let w : IsBatchOf h v b blobs cs = subst (λ (x : Contents). IsBatchOf h x b blobs cs) (sym c.self.view_is) u in
    let g : IsGround v.basis = subst (λ (x : Contents). IsGround x.basis) (sym c.self.view_is) c.requires.ground in
    let old = c.self.inside.held.keys in
    let new = c.hold_batch.new.held.keys in
    let names = c.names_from-names.result.now in
    let en : names ≡ drop (length old) new = c.names_from-names.ensures ∙ ap (λ (n : ℕ). drop n new) c.len-before.ensures.len in
    let step = c.in_ok-hold_batch.ensures.step blobs cs w.known w.named in
    let ext = c.in_ok-hold_batch.ensures.extends in
    let n = news-of h v b blobs cs w g.graph.store old new names refl step ext en in
    let all : List Object = reverse (fresh h.objects (objects_of blobs cs)) ++ h.objects in
    let read : map object_value c.deref.result.now ≡ found v.basis.store names = ap (map object_value) c.deref.ensures.value ∙ c.in_ok-objects.ensures in
    let counted : c.len.result + c.count_commits.result ≡ length (filter is_commit all) =
    ap (λ (k : ℕ). c.len.result + k) c.count_commits.ensures.number ∙ (λ i. c.len.ensures.len i + length (filter is_commit (read i))) ∙ n.commits in
    let passed = c.first_passed.ensures.first all [] counted (c.len-2.ensures.len ∙ n.objects) refl in
    let fits : passed_by_objects all None ≡ None = sym passed ∙ c.in_default.is in
    let before = held-before h v b blobs cs w g.graph.store old c.self.inside.blobs.keys refl refl in
    let objects : map object_value c.deref-2.result.now ≡ found v.basis.store names = ap (map object_value) c.deref-2.ensures.value ∙ c.in_ok-objects.ensures in
    let entered = c.in_ok-enter.ensures.entered v.basis.store h.objects old before (n.fresh.new (room-with h v b blobs cs w g.graph.store 0 0 [] fits)) objects in
    let held = held-with h v b blobs cs w g.graph.store old new names refl step ext en c.enter.new.blobs.keys c.enter.new.graph entered in
    subst (λ (x : Contents). IsTaken h (fresh h.objects (objects_of blobs cs)) x (record v { basis = record v.basis { graph = c.enter.new.graph }; blobs = map name_bytes c.enter.new.blobs.keys; names = map name_bytes new })) c.self.view_is
    (taken-is h v b blobs cs w g.graph.store names new c.enter.new.blobs.keys c.enter.new.graph g n held fits)
