-- Proves what src/commit.rt needs of `append_batch`.
use Rattle.std.proofs.Common.{◌≡◌, ◌+◌, ◌<◌, ℕ, ◌&&◌, false, List, ◌++◌, drop, filter, length, map, reverse, None, Option, Result, Ok, Err, refl, sym, ap, subst, ◌∙◌}
use Rattle.git_objects.specs.Paths.{Bytes, is_nil}
use Rattle.git_objects.specs.Refs.{Refs}
use Rattle.git_objects.specs.declared.limits.TheConstants.{ITEMS}
use Rattle.proj_io.specs.Stops.{adds_as}
use Rattle.fast_import.specs.Replaying.{setting_value}
use Rattle.fast_import.specs.declared.replayed.Setting.{Setting}
use Rattle.projection_ground.specs.Grounds.{IsGround}
use Rattle.object_store.specs.Errors.{object_value}
use Rattle.object_store.specs.Fits.{is_commit}
use Rattle.object_store.specs.Objects.{Object}
use Rattle.ref_store.specs.Pairs.{pairs}
use Rattle.state_items.specs.Changes.{Plan, fresh, objects_of, plan_items}
use Rattle.state_items.specs.Items.{text_with}
use Rattle.tag_objects.specs.TagLists.{changed, with_tags}
use Rattle.tag_objects.specs.declared.tag.Tag.{Tag}
use Rattle.state_items.specs.Writings.{found}
use Rattle.repo_ground.specs.Drafting.{IsDraft, IsNoDraft, IsSizeOf, outcome, passed_with, tags_in}
use Rattle.repo_ground.specs.declared.commit.CommitError.TheVariants.{Limit, StoreFault}
use Rattle.std.specs.Result.{IsErrOf}
use Rattle.proj_io.specs.Uses.{IsUsed}
use Rattle.repo_ground.specs.declared.draft.Draft.{Draft}
use Rattle.repo_ground.specs.Moving.{moves_in}
use Rattle.git_objects.specs.Parts.{name_bytes}
use Rattle.git_objects.specs.declared.name.Name.{Name}
use Rattle.proj_io.specs.Views.{KeeperView, keeper_view}
use Rattle.repo_ground.proofs.Stopping.{adds_none}
use Rattle.repo_ground.specs.Changes.{Appends, GetsItems, IsBatchOf, IsRefusal, settings_of, tagged_batch_plan}
use Rattle.repo_ground.specs.declared.commit.CommitError.{CommitError}
use Rattle.repo_ground.specs.Contents.{Contents}
use Rattle.repo_ground.specs.contracts.state.State.{the_view}
use Rattle.repo_ground.proofs.Cuts.{appends-is, fault-is, kept-fault, keeps-same, memory-fault, memory-is, no-memory, refusal-memory, stop-is, told-fault, unused, used-as}
use Rattle.state_items.proofs.HeldTags.{rise-of}
use Rattle.repo_ground.proofs.Entered.{front-none}
use Rattle.repo_ground.proofs.Prepared.{IsItem, behind-old, commits-there, draft-is, front-map, has-more, held-before, held-with, item-of, news-of, no-draft-is, nothing-new, room-with}
use Rattle.repo_ground.proofs.state.State.append_batch.Goals as goal

pub hold_batch-requires : goal.hold_batch-requires
hold_batch-requires g c =
    let q = c.requires.batch in
    let w = subst (λ (x : Contents). IsBatchOf q.0 x c.args.batch.now q.1 q.2) (sym c.self.view_is) q.3 in
    commits-there c.self.inside.ground.store c.args.batch.now.commits.items q.2 w.named

pub changed_tags-requires-clause-tags : goal.changed_tags-requires-clause-tags
changed_tags-requires-clause-tags g c =
    let q = c.requires.batch in rise-of (objects_of q.1 q.2 ++ q.0.objects) None c.args.tags.items (c.requires.tags q.0 q.1 q.2 q.3)

pub returns-then-is_nothing-clause-more : goal.returns-then-is_nothing-clause-more
returns-then-is_nothing-clause-more g c =
    has-more (the_view c.self.inside) c.args.self.now (map name_bytes c.hold_batch.new.held.keys) (map name_bytes c.self.inside.blobs.keys) c.self.inside.ground.graph c.self.view_is
    (front-map name_bytes c.self.inside.held.keys c.hold_batch.new.held.keys c.in_ok-hold_batch.ensures.extends)
    (front-none (map name_bytes c.self.inside.blobs.keys)) (front-none c.self.inside.ground.graph)

pub returns-in_err-hold_batch-clause-more : goal.returns-in_err-hold_batch-clause-more
returns-in_err-hold_batch-clause-more g c =
    has-more (the_view c.self.inside) c.args.self.now (map name_bytes c.hold_batch.new.held.keys) (map name_bytes c.self.inside.blobs.keys) c.self.inside.ground.graph c.self.view_is
    (front-map name_bytes c.self.inside.held.keys c.hold_batch.new.held.keys c.in_err-hold_batch.ensures.extends)
    (front-none (map name_bytes c.self.inside.blobs.keys)) (front-none c.self.inside.ground.graph)

pub returns-in_err-moved-clause-more : goal.returns-in_err-moved-clause-more
returns-in_err-moved-clause-more g c =
    has-more (the_view c.self.inside) c.args.self.now (map name_bytes c.hold_batch.new.held.keys) (map name_bytes c.self.inside.blobs.keys) c.self.inside.ground.graph c.self.view_is
    (front-map name_bytes c.self.inside.held.keys c.hold_batch.new.held.keys c.in_ok-hold_batch.ensures.extends)
    (front-none (map name_bytes c.self.inside.blobs.keys)) (front-none c.self.inside.ground.graph)

pub returns-in_err-news-clause-more : goal.returns-in_err-news-clause-more
returns-in_err-news-clause-more g c =
    has-more (the_view c.self.inside) c.args.self.now (map name_bytes c.hold_batch.new.held.keys) (map name_bytes c.self.inside.blobs.keys) c.self.inside.ground.graph c.self.view_is
    (front-map name_bytes c.self.inside.held.keys c.hold_batch.new.held.keys c.in_ok-hold_batch.ensures.extends)
    (front-none (map name_bytes c.self.inside.blobs.keys)) (front-none c.self.inside.ground.graph)

pub returns-in_err-objects-clause-more : goal.returns-in_err-objects-clause-more
returns-in_err-objects-clause-more g c =
    has-more (the_view c.self.inside) c.args.self.now (map name_bytes c.hold_batch.new.held.keys) (map name_bytes c.self.inside.blobs.keys) c.self.inside.ground.graph c.self.view_is
    (front-map name_bytes c.self.inside.held.keys c.hold_batch.new.held.keys c.in_ok-hold_batch.ensures.extends)
    (front-none (map name_bytes c.self.inside.blobs.keys)) (front-none c.self.inside.ground.graph)

pub returns-in-Err-clause-more : goal.returns-in-Err-clause-more
returns-in-Err-clause-more g c =
    has-more (the_view c.self.inside) c.args.self.now (map name_bytes c.hold_batch.new.held.keys) (map name_bytes c.self.inside.blobs.keys) c.self.inside.ground.graph c.self.view_is
    (front-map name_bytes c.self.inside.held.keys c.hold_batch.new.held.keys c.in_ok-hold_batch.ensures.extends)
    (front-none (map name_bytes c.self.inside.blobs.keys)) (front-none c.self.inside.ground.graph)

pub returns-in_err-refs-clause-more : goal.returns-in_err-refs-clause-more
returns-in_err-refs-clause-more g c =
    has-more (the_view c.self.inside) c.args.self.now (map name_bytes c.hold_batch.new.held.keys) (map name_bytes c.self.inside.blobs.keys) c.self.inside.ground.graph c.self.view_is
    (front-map name_bytes c.self.inside.held.keys c.hold_batch.new.held.keys c.in_ok-hold_batch.ensures.extends)
    (front-none (map name_bytes c.self.inside.blobs.keys)) (front-none c.self.inside.ground.graph)

pub returns-in_err-tags-clause-more : goal.returns-in_err-tags-clause-more
returns-in_err-tags-clause-more g c =
    has-more (the_view c.self.inside) c.args.self.now (map name_bytes c.hold_batch.new.held.keys) (map name_bytes c.self.inside.blobs.keys) c.self.inside.ground.graph c.self.view_is
    (front-map name_bytes c.self.inside.held.keys c.hold_batch.new.held.keys c.in_ok-hold_batch.ensures.extends)
    (front-none (map name_bytes c.self.inside.blobs.keys)) (front-none c.self.inside.ground.graph)

pub returns-in_err-enter-clause-more : goal.returns-in_err-enter-clause-more
returns-in_err-enter-clause-more g c =
    has-more (the_view c.self.inside) c.args.self.now (map name_bytes c.hold_batch.new.held.keys) (map name_bytes c.enter.new.blobs.keys) c.enter.new.graph c.self.view_is
    (front-map name_bytes c.self.inside.held.keys c.hold_batch.new.held.keys c.in_ok-hold_batch.ensures.extends)
    (front-map name_bytes c.self.inside.blobs.keys c.enter.new.blobs.keys c.in_err-enter.ensures.front.1) c.in_err-enter.ensures.front.0

pub returns-in-Err-append_change-clause-more : goal.returns-in-Err-append_change-clause-more
returns-in-Err-append_change-clause-more g c =
    has-more (the_view c.self.inside) c.args.self.now (map name_bytes c.hold_batch.new.held.keys) (map name_bytes c.enter.new.blobs.keys) c.enter.new.graph c.self.view_is
    (front-map name_bytes c.self.inside.held.keys c.hold_batch.new.held.keys c.in_ok-hold_batch.ensures.extends)
    (front-map name_bytes c.self.inside.blobs.keys c.enter.new.blobs.keys c.in_ok-enter.ensures.front.1) c.in_ok-enter.ensures.front.0

pub returns-clause-more : goal.returns-clause-more
returns-clause-more g c =
    has-more (the_view c.self.inside) c.args.self.now (map name_bytes c.hold_batch.new.held.keys) (map name_bytes c.enter.new.blobs.keys) c.enter.new.graph c.self.view_is
    (front-map name_bytes c.self.inside.held.keys c.hold_batch.new.held.keys c.in_ok-hold_batch.ensures.extends)
    (front-map name_bytes c.self.inside.blobs.keys c.enter.new.blobs.keys c.in_ok-enter.ensures.front.1) c.in_ok-enter.ensures.front.0

pub returns-then-is_nothing-clause-prepared : goal.returns-then-is_nothing-clause-prepared
returns-then-is_nothing-clause-prepared g c = λ h blobs cs u.
    let v : Contents = the_view c.self.inside in
    let b = c.args.batch.now in
    let w : IsBatchOf h v b blobs cs = subst (λ (x : Contents). IsBatchOf h x b blobs cs) (sym c.self.view_is) u in
    let g : IsGround v.basis = subst (λ (x : Contents). IsGround x.basis) (sym c.self.view_is) c.requires.ground in
    let old = c.self.inside.held.keys in
    let new = c.hold_batch.new.held.keys in
    let names = c.names_from-names.result.now in
    let en : names ≡ drop (length old) new = c.names_from-names.ensures ∙ ap (λ (n : ℕ). drop n new) c.len-before.ensures.len in
    let step = c.in_ok-hold_batch.ensures.step blobs cs w.known w.named in
    let ext = c.in_ok-hold_batch.ensures.extends in
    let n = news-of h v b blobs cs w g.graph.store old new names refl step ext en in
    let ts = c.args.tags.items in
    let ns : List Tag = c.deref-4.result.now in
    let ne : ns ≡ changed v.tags ts = c.deref-4.ensures.value ∙ c.in_ok-news.ensures ∙ ap (λ (us : List Tag). changed us ts) c.deref-2.ensures.value in
    let rs : Refs = pairs c.deref-3.result.now in
    let re : rs ≡ filter (moves_in v.refs) (settings_of b) = ap pairs c.deref-3.ensures.value ∙ c.in_ok-moved.ensures ∙ ap (λ (xs : List Setting). filter (moves_in v.refs) (map setting_value xs)) c.deref.ensures.value in
    let e = nothing-new h v b blobs cs w g.graph.store ts names new n rs re ns ne old (behind-old h v b blobs cs w g.graph.store old new names refl step ext en) (sym c.is_nothing.ensures ∙ c.if-is_nothing.true) in
    (e.0, ap (λ (ns : List Name). record v { names = map name_bytes ns }) e.1 ∙ c.self.view_is)

pub returns-then-is_nothing-clause-items : goal.returns-then-is_nothing-clause-items
returns-then-is_nothing-clause-items g c = λ h blobs cs u.
    let v : Contents = the_view c.self.inside in
    let b = c.args.batch.now in
    let w : IsBatchOf h v b blobs cs = subst (λ (x : Contents). IsBatchOf h x b blobs cs) (sym c.self.view_is) u in
    let ground : IsGround v.basis = subst (λ (x : Contents). IsGround x.basis) (sym c.self.view_is) c.requires.ground in
    let old = c.self.inside.held.keys in
    let new = c.hold_batch.new.held.keys in
    let names = c.names_from-names.result.now in
    let en : names ≡ drop (length old) new = c.names_from-names.ensures ∙ ap (λ (n : ℕ). drop n new) c.len-before.ensures.len in
    let step = c.in_ok-hold_batch.ensures.step blobs cs w.known w.named in
    let ext = c.in_ok-hold_batch.ensures.extends in
    let n = news-of h v b blobs cs w ground.graph.store old new names refl step ext en in
    let ts = c.args.tags.items in
    let ns : List Tag = c.deref-4.result.now in
    let ne : ns ≡ changed v.tags ts = c.deref-4.ensures.value ∙ c.in_ok-news.ensures ∙ ap (λ (us : List Tag). changed us ts) c.deref-2.ensures.value in
    let rs : Refs = pairs c.deref-3.result.now in
    let re : rs ≡ filter (moves_in v.refs) (settings_of b) = ap pairs c.deref-3.ensures.value ∙ c.in_ok-moved.ensures ∙ ap (λ (xs : List Setting). filter (moves_in v.refs) (map setting_value xs)) c.deref.ensures.value in
    let e = nothing-new h v b blobs cs w ground.graph.store ts names new n rs re ns ne old (behind-old h v b blobs cs w ground.graph.store old new names refl step ext en) (sym c.is_nothing.ensures ∙ c.if-is_nothing.true) in
    let same : KeeperView = keeper_view g.K.Keeper.items g.K.Keeper.number g.K.Keeper.faults c.args.keeper.now in
    (subst (λ (p : Plan). GetsItems (plan_items p) same same) (sym e.0) (keeps-same same), adds_none _ _ _)

pub enter-requires : goal.enter-requires
enter-requires g c =
    let h = c.requires.batch.0 in
    let blobs = c.requires.batch.1 in
    let cs = c.requires.batch.2 in
    let u = c.requires.batch.3 in
    let v : Contents = the_view c.self.inside in
    let b = c.args.batch.now in
    let w : IsBatchOf h v b blobs cs = subst (λ (x : Contents). IsBatchOf h x b blobs cs) (sym c.self.view_is) u in
    let g : IsGround v.basis = subst (λ (x : Contents). IsGround x.basis) (sym c.self.view_is) c.requires.ground in
    let old = c.self.inside.held.keys in
    let new = c.hold_batch.new.held.keys in
    let names = c.names_from-names.result.now in
    let en : names ≡ drop (length old) new = c.names_from-names.ensures ∙ ap (λ (n : ℕ). drop n new) c.len-before.ensures.len in
    let step = c.in_ok-hold_batch.ensures.step blobs cs w.known w.named in
    let ext = c.in_ok-hold_batch.ensures.extends in
    let n = news-of h v b blobs cs w g.graph.store old new names refl step ext en in
    let all : List Object = reverse (fresh h.objects (objects_of blobs cs)) ++ h.objects in
    let read : map object_value c.deref-5.result.now ≡ found v.basis.store names = ap (map object_value) c.deref-5.ensures.value ∙ c.in_ok-objects.ensures in
    let counted : c.len.result + length (filter is_commit (map object_value c.deref-5.result.now)) ≡ length (filter is_commit all) =
    (λ i. c.len.ensures.len i + length (filter is_commit (read i))) ∙ n.commits in
    let made = c.in-Ok.ensures all counted (c.len-2.ensures.len ∙ n.objects) in
    record {
      new = (
        v.basis.store,
        h.objects,
        old,
        held-before h v b blobs cs w g.graph.store old c.self.inside.blobs.keys refl refl,
        n.fresh.new (room-with h v b blobs cs w g.graph.store c.self.inside.number c.self.inside.size (text_with (map object_value c.deref-5.result.now) (pairs c.deref-6.result.now) c.deref-7.result.now) made.0),
        read,
      );
    }

pub returns-clause-prepared : goal.returns-clause-prepared
returns-clause-prepared g c = λ h blobs cs u.
    let v : Contents = the_view c.self.inside in
    let b = c.args.batch.now in
    let w : IsBatchOf h v b blobs cs = subst (λ (x : Contents). IsBatchOf h x b blobs cs) (sym c.self.view_is) u in
    let g : IsGround v.basis = subst (λ (x : Contents). IsGround x.basis) (sym c.self.view_is) c.requires.ground in
    let old = c.self.inside.held.keys in
    let new = c.hold_batch.new.held.keys in
    let names = c.names_from-names.result.now in
    let en : names ≡ drop (length old) new = c.names_from-names.ensures ∙ ap (λ (n : ℕ). drop n new) c.len-before.ensures.len in
    let step = c.in_ok-hold_batch.ensures.step blobs cs w.known w.named in
    let ext = c.in_ok-hold_batch.ensures.extends in
    let n = news-of h v b blobs cs w g.graph.store old new names refl step ext en in
    let ts = c.args.tags.items in
    let ns : List Tag = c.deref-7.result.now in
    let ne : ns ≡ changed v.tags ts = c.deref-7.ensures.value ∙ c.in_ok-news.ensures ∙ ap (λ (us : List Tag). changed us ts) c.deref-2.ensures.value in
    let rs : Refs = pairs c.deref-6.result.now in
    let re : rs ≡ filter (moves_in v.refs) (settings_of b) = ap pairs c.deref-6.ensures.value ∙ c.in_ok-moved.ensures ∙ ap (λ (xs : List Setting). filter (moves_in v.refs) (map setting_value xs)) c.deref.ensures.value in
    let all : List Object = reverse (fresh h.objects (objects_of blobs cs)) ++ h.objects in
    let read : map object_value c.deref-5.result.now ≡ found v.basis.store names = ap (map object_value) c.deref-5.ensures.value ∙ c.in_ok-objects.ensures in
    let counted : c.len.result + length (filter is_commit (map object_value c.deref-5.result.now)) ≡ length (filter is_commit all) =
    (λ i. c.len.ensures.len i + length (filter is_commit (read i))) ∙ n.commits in
    let made : IsSizeOf (passed_with all v.number v.size (text_with (found v.basis.store names) rs ns)) (text_with (found v.basis.store names) rs ns) (Ok c.in-Ok.size) =
    subst (λ (os : List Object). IsSizeOf (passed_with all v.number v.size (text_with os rs ns)) (text_with os rs ns) (Ok c.in-Ok.size)) read
    (c.in-Ok.ensures all counted (c.len-2.ensures.len ∙ n.objects)) in
    let before = held-before h v b blobs cs w g.graph.store old c.self.inside.blobs.keys refl refl in
    let room = room-with h v b blobs cs w g.graph.store c.self.inside.number c.self.inside.size (text_with (found v.basis.store names) rs ns) made.0 in
    let d : Draft = record { size = c.in-Ok.size; refs = c.in_ok-refs.refs; tags = c.in_ok-tags.tags } in
    let held = held-with h v b blobs cs w g.graph.store old new names refl step ext en c.enter.new.blobs.keys c.enter.new.graph (c.in_ok-enter.ensures.entered v.basis.store h.objects old before (n.fresh.new room) read) in
    let some : (is_nil names && is_nil rs && is_nil ns) ≡ false =
    sym (c.is_nothing.ensures ∙ (λ i. is_nil names && is_nil (pairs ((c.deref-3.ensures.value ∙ sym c.deref-6.ensures.value) i)) && is_nil ((c.deref-4.ensures.value ∙ sym c.deref-7.ensures.value) i))) ∙ c.if-is_nothing.false in
    subst (λ (x : Contents). IsDraft h (tagged_batch_plan h b blobs cs c.args.tags.items) x (record v { basis = record v.basis { graph = c.enter.new.graph }; blobs = map name_bytes c.enter.new.blobs.keys; names = map name_bytes new }) d) c.self.view_is
    (draft-is h v b blobs cs w g.graph.store ts names new n rs re ns ne some c.enter.new.blobs.keys c.enter.new.graph d g held made.0 made.1 c.in_ok-refs.ensures
    (ap (λ (us : List Tag). tags_in us d.tags) (sym c.deref-8.ensures.value) ∙ c.in_ok-tags.ensures ∙ ap (λ (us : List Tag). with_tags us ns) c.deref-8.ensures.value))

pub returns-in-Err-clause-prepared : goal.returns-in-Err-clause-prepared
returns-in-Err-clause-prepared g c = λ h blobs cs u.
    let v : Contents = the_view c.self.inside in
    let b = c.args.batch.now in
    let w : IsBatchOf h v b blobs cs = subst (λ (x : Contents). IsBatchOf h x b blobs cs) (sym c.self.view_is) u in
    let g : IsGround v.basis = subst (λ (x : Contents). IsGround x.basis) (sym c.self.view_is) c.requires.ground in
    let old = c.self.inside.held.keys in
    let new = c.hold_batch.new.held.keys in
    let names = c.names_from-names.result.now in
    let en : names ≡ drop (length old) new = c.names_from-names.ensures ∙ ap (λ (n : ℕ). drop n new) c.len-before.ensures.len in
    let step = c.in_ok-hold_batch.ensures.step blobs cs w.known w.named in
    let ext = c.in_ok-hold_batch.ensures.extends in
    let n = news-of h v b blobs cs w g.graph.store old new names refl step ext en in
    let ts = c.args.tags.items in
    let ns : List Tag = c.deref-7.result.now in
    let ne : ns ≡ changed v.tags ts = c.deref-7.ensures.value ∙ c.in_ok-news.ensures ∙ ap (λ (us : List Tag). changed us ts) c.deref-2.ensures.value in
    let rs : Refs = pairs c.deref-6.result.now in
    let re : rs ≡ filter (moves_in v.refs) (settings_of b) = ap pairs c.deref-6.ensures.value ∙ c.in_ok-moved.ensures ∙ ap (λ (xs : List Setting). filter (moves_in v.refs) (map setting_value xs)) c.deref.ensures.value in
    let all : List Object = reverse (fresh h.objects (objects_of blobs cs)) ++ h.objects in
    let read : map object_value c.deref-5.result.now ≡ found v.basis.store names = ap (map object_value) c.deref-5.ensures.value ∙ c.in_ok-objects.ensures in
    let counted : c.len.result + length (filter is_commit (map object_value c.deref-5.result.now)) ≡ length (filter is_commit all) =
    (λ i. c.len.ensures.len i + length (filter is_commit (read i))) ∙ n.commits in
    let made : IsSizeOf (passed_with all v.number v.size (text_with (found v.basis.store names) rs ns)) (text_with (found v.basis.store names) rs ns) (Err c.in-Err.which) =
    subst (λ (os : List Object). IsSizeOf (passed_with all v.number v.size (text_with os rs ns)) (text_with os rs ns) (Err c.in-Err.which)) read
    (c.in-Err.ensures all counted (c.len-2.ensures.len ∙ n.objects)) in
    let some : (is_nil names && is_nil rs && is_nil ns) ≡ false =
    sym (c.is_nothing.ensures ∙ (λ i. is_nil names && is_nil (pairs ((c.deref-3.ensures.value ∙ sym c.deref-6.ensures.value) i)) && is_nil ((c.deref-4.ensures.value ∙ sym c.deref-7.ensures.value) i))) ∙ c.if-is_nothing.false in
    subst (λ (x : Contents). IsNoDraft h (tagged_batch_plan h b blobs cs c.args.tags.items) x (Limit c.in-Err.which)) c.self.view_is
    (no-draft-is h v b blobs cs w g.graph.store ts names new n rs re ns ne some c.in-Err.which made)

pub append_change-requires-clause-size : goal.append_change-requires-clause-size
append_change-requires-clause-size g c =
    let h = c.requires.batch.0 in
    let blobs = c.requires.batch.1 in
    let cs = c.requires.batch.2 in
    let u = c.requires.batch.3 in
    let v : Contents = the_view c.self.inside in
    let b = c.args.batch.now in
    let w : IsBatchOf h v b blobs cs = subst (λ (x : Contents). IsBatchOf h x b blobs cs) (sym c.self.view_is) u in
    let ground : IsGround v.basis = subst (λ (x : Contents). IsGround x.basis) (sym c.self.view_is) c.requires.ground in
    let old = c.self.inside.held.keys in
    let new = c.hold_batch.new.held.keys in
    let names = c.names_from-names.result.now in
    let en : names ≡ drop (length old) new = c.names_from-names.ensures ∙ ap (λ (n : ℕ). drop n new) c.len-before.ensures.len in
    let read : List Object = map object_value c.deref-5.result.now in
    let ts = c.args.tags.items in
    let ns : List Tag = c.deref-7.result.now in
    let ne : ns ≡ changed v.tags ts = c.deref-7.ensures.value ∙ c.in_ok-news.ensures ∙ ap (λ (us : List Tag). changed us ts) c.deref-2.ensures.value in
    let rs : Refs = pairs c.deref-6.result.now in
    let re : read ≡ found v.basis.store names = ap (map object_value) c.deref-5.ensures.value ∙ c.in_ok-objects.ensures in
    let me : rs ≡ filter (moves_in v.refs) (settings_of b) = ap pairs c.deref-6.ensures.value ∙ c.in_ok-moved.ensures ∙ ap (λ (xs : List Setting). filter (moves_in v.refs) (map setting_value xs)) c.deref.ensures.value in
    let some : (is_nil names && is_nil rs && is_nil ns) ≡ false =
    sym (c.is_nothing.ensures ∙ (λ i. is_nil names && is_nil (pairs ((c.deref-3.ensures.value ∙ sym c.deref-6.ensures.value) i)) && is_nil ((c.deref-4.ensures.value ∙ sym c.deref-7.ensures.value) i))) ∙ c.if-is_nothing.false in
    let text : Bytes = text_with read rs ns in
    let made : IsItem h v b blobs cs ts text =
    item-of h v b blobs cs w ground.graph.store old new names ts refl (c.in_ok-hold_batch.ensures.step blobs cs w.known w.named) c.in_ok-hold_batch.ensures.extends en read rs ns c.in-Ok.size re me ne some
    (λ all counted many. c.in-Ok.ensures all (ap (λ (k : ℕ). k + length (filter is_commit read)) c.len.ensures.len ∙ counted) (c.len-2.ensures.len ∙ many)) in
    let here : IsItem h c.args.self.now b blobs cs ts text = subst (λ (x : Contents). IsItem h x b blobs cs ts text) c.self.view_is made in
    (here.some, here.may.item)

pub append_change-requires-clause-room : goal.append_change-requires-clause-room
append_change-requires-clause-room g c =
    let h = c.requires.batch.0 in
    let blobs = c.requires.batch.1 in
    let cs = c.requires.batch.2 in
    let u = c.requires.batch.3 in
    let v : Contents = the_view c.self.inside in
    let b = c.args.batch.now in
    let w : IsBatchOf h v b blobs cs = subst (λ (x : Contents). IsBatchOf h x b blobs cs) (sym c.self.view_is) u in
    let ground : IsGround v.basis = subst (λ (x : Contents). IsGround x.basis) (sym c.self.view_is) c.requires.ground in
    let old = c.self.inside.held.keys in
    let new = c.hold_batch.new.held.keys in
    let names = c.names_from-names.result.now in
    let en : names ≡ drop (length old) new = c.names_from-names.ensures ∙ ap (λ (n : ℕ). drop n new) c.len-before.ensures.len in
    let read : List Object = map object_value c.deref-5.result.now in
    let ts = c.args.tags.items in
    let ns : List Tag = c.deref-7.result.now in
    let ne : ns ≡ changed v.tags ts = c.deref-7.ensures.value ∙ c.in_ok-news.ensures ∙ ap (λ (us : List Tag). changed us ts) c.deref-2.ensures.value in
    let rs : Refs = pairs c.deref-6.result.now in
    let re : read ≡ found v.basis.store names = ap (map object_value) c.deref-5.ensures.value ∙ c.in_ok-objects.ensures in
    let me : rs ≡ filter (moves_in v.refs) (settings_of b) = ap pairs c.deref-6.ensures.value ∙ c.in_ok-moved.ensures ∙ ap (λ (xs : List Setting). filter (moves_in v.refs) (map setting_value xs)) c.deref.ensures.value in
    let some : (is_nil names && is_nil rs && is_nil ns) ≡ false =
    sym (c.is_nothing.ensures ∙ (λ i. is_nil names && is_nil (pairs ((c.deref-3.ensures.value ∙ sym c.deref-6.ensures.value) i)) && is_nil ((c.deref-4.ensures.value ∙ sym c.deref-7.ensures.value) i))) ∙ c.if-is_nothing.false in
    let text : Bytes = text_with read rs ns in
    let made : IsItem h v b blobs cs ts text =
    item-of h v b blobs cs w ground.graph.store old new names ts refl (c.in_ok-hold_batch.ensures.step blobs cs w.known w.named) c.in_ok-hold_batch.ensures.extends en read rs ns c.in-Ok.size re me ne some
    (λ all counted many. c.in-Ok.ensures all (ap (λ (k : ℕ). k + length (filter is_commit read)) c.len.ensures.len ∙ counted) (c.len-2.ensures.len ∙ many)) in
    let here : IsItem h c.args.self.now b blobs cs ts text = subst (λ (x : Contents). IsItem h x b blobs cs ts text) c.self.view_is made in
    subst (λ (n : ℕ). n < ITEMS) c.requires.open.1 here.may.items

pub returns-in-Err-append_change-clause-prepared : goal.returns-in-Err-append_change-clause-prepared
returns-in-Err-append_change-clause-prepared g c = λ h blobs cs u.
    let v : Contents = the_view c.self.inside in
    let b = c.args.batch.now in
    let w : IsBatchOf h v b blobs cs = subst (λ (x : Contents). IsBatchOf h x b blobs cs) (sym c.self.view_is) u in
    let ground : IsGround v.basis = subst (λ (x : Contents). IsGround x.basis) (sym c.self.view_is) c.requires.ground in
    let old = c.self.inside.held.keys in
    let new = c.hold_batch.new.held.keys in
    let names = c.names_from-names.result.now in
    let en : names ≡ drop (length old) new = c.names_from-names.ensures ∙ ap (λ (n : ℕ). drop n new) c.len-before.ensures.len in
    let read : List Object = map object_value c.deref-5.result.now in
    let ts = c.args.tags.items in
    let ns : List Tag = c.deref-7.result.now in
    let ne : ns ≡ changed v.tags ts = c.deref-7.ensures.value ∙ c.in_ok-news.ensures ∙ ap (λ (us : List Tag). changed us ts) c.deref-2.ensures.value in
    let rs : Refs = pairs c.deref-6.result.now in
    let re : read ≡ found v.basis.store names = ap (map object_value) c.deref-5.ensures.value ∙ c.in_ok-objects.ensures in
    let me : rs ≡ filter (moves_in v.refs) (settings_of b) = ap pairs c.deref-6.ensures.value ∙ c.in_ok-moved.ensures ∙ ap (λ (xs : List Setting). filter (moves_in v.refs) (map setting_value xs)) c.deref.ensures.value in
    let some : (is_nil names && is_nil rs && is_nil ns) ≡ false =
    sym (c.is_nothing.ensures ∙ (λ i. is_nil names && is_nil (pairs ((c.deref-3.ensures.value ∙ sym c.deref-6.ensures.value) i)) && is_nil ((c.deref-4.ensures.value ∙ sym c.deref-7.ensures.value) i))) ∙ c.if-is_nothing.false in
    let text : Bytes = text_with read rs ns in
    let made : IsItem h v b blobs cs ts text =
    item-of h v b blobs cs w ground.graph.store old new names ts refl (c.in_ok-hold_batch.ensures.step blobs cs w.known w.named) c.in_ok-hold_batch.ensures.extends en read rs ns c.in-Ok.size re me ne some
    (λ all counted many. c.in-Ok.ensures all (ap (λ (k : ℕ). k + length (filter is_commit read)) c.len.ensures.len ∙ counted) (c.len-2.ensures.len ∙ many)) in
    let here : IsItem h c.args.self.now b blobs cs ts text = subst (λ (x : Contents). IsItem h x b blobs cs ts text) c.self.view_is made in
    subst (λ (e : CommitError). IsNoDraft h (tagged_batch_plan h b blobs cs c.args.tags.items) c.args.self.now e) (sym c.keep_error.ensures)
    (fault-is h c.args.self.now (tagged_batch_plan h b blobs cs c.args.tags.items) text c.in-Err-append_change.error here.fits here.item)

pub returns-in-Err-append_change-clause-items : goal.returns-in-Err-append_change-clause-items
returns-in-Err-append_change-clause-items g c = λ h blobs cs u.
    let v : Contents = the_view c.self.inside in
    let b = c.args.batch.now in
    let w : IsBatchOf h v b blobs cs = subst (λ (x : Contents). IsBatchOf h x b blobs cs) (sym c.self.view_is) u in
    let ground : IsGround v.basis = subst (λ (x : Contents). IsGround x.basis) (sym c.self.view_is) c.requires.ground in
    let old = c.self.inside.held.keys in
    let new = c.hold_batch.new.held.keys in
    let names = c.names_from-names.result.now in
    let en : names ≡ drop (length old) new = c.names_from-names.ensures ∙ ap (λ (n : ℕ). drop n new) c.len-before.ensures.len in
    let read : List Object = map object_value c.deref-5.result.now in
    let ts = c.args.tags.items in
    let ns : List Tag = c.deref-7.result.now in
    let ne : ns ≡ changed v.tags ts = c.deref-7.ensures.value ∙ c.in_ok-news.ensures ∙ ap (λ (us : List Tag). changed us ts) c.deref-2.ensures.value in
    let rs : Refs = pairs c.deref-6.result.now in
    let re : read ≡ found v.basis.store names = ap (map object_value) c.deref-5.ensures.value ∙ c.in_ok-objects.ensures in
    let me : rs ≡ filter (moves_in v.refs) (settings_of b) = ap pairs c.deref-6.ensures.value ∙ c.in_ok-moved.ensures ∙ ap (λ (xs : List Setting). filter (moves_in v.refs) (map setting_value xs)) c.deref.ensures.value in
    let some : (is_nil names && is_nil rs && is_nil ns) ≡ false =
    sym (c.is_nothing.ensures ∙ (λ i. is_nil names && is_nil (pairs ((c.deref-3.ensures.value ∙ sym c.deref-6.ensures.value) i)) && is_nil ((c.deref-4.ensures.value ∙ sym c.deref-7.ensures.value) i))) ∙ c.if-is_nothing.false in
    let text : Bytes = text_with read rs ns in
    let made : IsItem h v b blobs cs ts text =
    item-of h v b blobs cs w ground.graph.store old new names ts refl (c.in_ok-hold_batch.ensures.step blobs cs w.known w.named) c.in_ok-hold_batch.ensures.extends en read rs ns c.in-Ok.size re me ne some
    (λ all counted many. c.in-Ok.ensures all (ap (λ (k : ℕ). k + length (filter is_commit read)) c.len.ensures.len ∙ counted) (c.len-2.ensures.len ∙ many)) in
    let here : IsItem h c.args.self.now b blobs cs ts text = subst (λ (x : Contents). IsItem h x b blobs cs ts text) c.self.view_is made in
    let before : KeeperView = keeper_view g.K.Keeper.items g.K.Keeper.number g.K.Keeper.faults c.args.keeper.now in
    let after : KeeperView = keeper_view g.K.Keeper.items g.K.Keeper.number g.K.Keeper.faults c.append_change.new.keeper in
    let p : Plan = tagged_batch_plan h b blobs cs c.args.tags.items in (
      subst (λ (e : CommitError). Appends p before after (Err e)) (sym c.keep_error.ensures) (appends-is p text before after (Err c.in-Err-append_change.error) here.item c.in-Err-append_change.ensures.items),
      adds_as _ _ _ _ _ _ (λ left. stop-is h c.args.self.now p text (g.K.Keeper.items c.args.keeper.now) left here.fits here.item) c.in-Err-append_change.ensures.stops.0,
    )

pub returns-in-Err-append_change-clause-refused : goal.returns-in-Err-append_change-clause-refused
returns-in-Err-append_change-clause-refused g c = λ q.
    c.in-Err-append_change.ensures.stops.1 (ap Err (refusal-memory c.in-Err-append_change.error (subst (λ (e : CommitError). IsRefusal (Err e)) c.keep_error.ensures q)))

pub returns-clause-items : goal.returns-clause-items
returns-clause-items g c = λ h blobs cs u.
    let v : Contents = the_view c.self.inside in
    let b = c.args.batch.now in
    let w : IsBatchOf h v b blobs cs = subst (λ (x : Contents). IsBatchOf h x b blobs cs) (sym c.self.view_is) u in
    let ground : IsGround v.basis = subst (λ (x : Contents). IsGround x.basis) (sym c.self.view_is) c.requires.ground in
    let old = c.self.inside.held.keys in
    let new = c.hold_batch.new.held.keys in
    let names = c.names_from-names.result.now in
    let en : names ≡ drop (length old) new = c.names_from-names.ensures ∙ ap (λ (n : ℕ). drop n new) c.len-before.ensures.len in
    let read : List Object = map object_value c.deref-5.result.now in
    let ts = c.args.tags.items in
    let ns : List Tag = c.deref-7.result.now in
    let ne : ns ≡ changed v.tags ts = c.deref-7.ensures.value ∙ c.in_ok-news.ensures ∙ ap (λ (us : List Tag). changed us ts) c.deref-2.ensures.value in
    let rs : Refs = pairs c.deref-6.result.now in
    let re : read ≡ found v.basis.store names = ap (map object_value) c.deref-5.ensures.value ∙ c.in_ok-objects.ensures in
    let me : rs ≡ filter (moves_in v.refs) (settings_of b) = ap pairs c.deref-6.ensures.value ∙ c.in_ok-moved.ensures ∙ ap (λ (xs : List Setting). filter (moves_in v.refs) (map setting_value xs)) c.deref.ensures.value in
    let some : (is_nil names && is_nil rs && is_nil ns) ≡ false =
    sym (c.is_nothing.ensures ∙ (λ i. is_nil names && is_nil (pairs ((c.deref-3.ensures.value ∙ sym c.deref-6.ensures.value) i)) && is_nil ((c.deref-4.ensures.value ∙ sym c.deref-7.ensures.value) i))) ∙ c.if-is_nothing.false in
    let text : Bytes = text_with read rs ns in
    let made : IsItem h v b blobs cs ts text =
    item-of h v b blobs cs w ground.graph.store old new names ts refl (c.in_ok-hold_batch.ensures.step blobs cs w.known w.named) c.in_ok-hold_batch.ensures.extends en read rs ns c.in-Ok.size re me ne some
    (λ all counted many. c.in-Ok.ensures all (ap (λ (k : ℕ). k + length (filter is_commit read)) c.len.ensures.len ∙ counted) (c.len-2.ensures.len ∙ many)) in
    let here : IsItem h c.args.self.now b blobs cs ts text = subst (λ (x : Contents). IsItem h x b blobs cs ts text) c.self.view_is made in
    let p : Plan = tagged_batch_plan h b blobs cs c.args.tags.items in (
      appends-is p text _ _ (Ok tt) here.item c.in-Ok-append_change.ensures.items,
      adds_as _ _ _ _ _ _ (λ left. stop-is h c.args.self.now p text (g.K.Keeper.items c.args.keeper.now) left here.fits here.item) c.in-Ok-append_change.ensures.stops.0,
    )

pub returns-in_err-tags-clause-prepared : goal.returns-in_err-tags-clause-prepared
returns-in_err-tags-clause-prepared g c = λ h blobs cs u.
    memory-is c.from_residual-in_err-tags.result _ _ (no-memory c.from_residual-in_err-tags.result c.from_residual-in_err-tags.ensures.1) tt

pub returns-in_err-tags-clause-items : goal.returns-in_err-tags-clause-items
returns-in_err-tags-clause-items g c = λ h blobs cs u.
    let same : KeeperView = keeper_view g.K.Keeper.items g.K.Keeper.number g.K.Keeper.faults c.args.keeper.now in (
      subst (λ (r : Result (Option Draft) CommitError). Appends (tagged_batch_plan h c.args.batch.now blobs cs c.args.tags.items) same same (outcome r))
          (sym (no-memory c.from_residual-in_err-tags.result c.from_residual-in_err-tags.ensures.1)) (keeps-same same),
      adds_none _ _ _,
    )

pub returns-in_err-tags-clause-used : goal.returns-in_err-tags-clause-used
returns-in_err-tags-clause-used g c =
    unused _ _ _ _ _ c.requires.open.0 (memory-fault c.from_residual-in_err-tags.result (no-memory c.from_residual-in_err-tags.result c.from_residual-in_err-tags.ensures.1))

pub returns-in_err-enter-clause-prepared : goal.returns-in_err-enter-clause-prepared
returns-in_err-enter-clause-prepared g c = λ h blobs cs u.
    memory-is c.from_residual-in_err-enter.result _ _ (no-memory c.from_residual-in_err-enter.result c.from_residual-in_err-enter.ensures.1) tt

pub returns-in_err-enter-clause-items : goal.returns-in_err-enter-clause-items
returns-in_err-enter-clause-items g c = λ h blobs cs u.
    let same : KeeperView = keeper_view g.K.Keeper.items g.K.Keeper.number g.K.Keeper.faults c.args.keeper.now in (
      subst (λ (r : Result (Option Draft) CommitError). Appends (tagged_batch_plan h c.args.batch.now blobs cs c.args.tags.items) same same (outcome r))
          (sym (no-memory c.from_residual-in_err-enter.result c.from_residual-in_err-enter.ensures.1)) (keeps-same same),
      adds_none _ _ _,
    )

pub returns-in_err-enter-clause-used : goal.returns-in_err-enter-clause-used
returns-in_err-enter-clause-used g c =
    unused _ _ _ _ _ c.requires.open.0 (memory-fault c.from_residual-in_err-enter.result (no-memory c.from_residual-in_err-enter.result c.from_residual-in_err-enter.ensures.1))

pub returns-in-Err-append_change-clause-used : goal.returns-in-Err-append_change-clause-used
returns-in-Err-append_change-clause-used g c =
    let Used : Type 0 → Type 0 = IsUsed g.K.Keeper.faults g.K.Keeper.is_open g.K.Keeper.tells c.args.keeper.now c.append_change.new.keeper in
    subst (λ (x : CommitError). Used (IsErrOf {T = Option Draft} (Err x) StoreFault)) (sym c.keep_error.ensures)
    (used-as g.K.Keeper.faults g.K.Keeper.is_open g.K.Keeper.tells c.args.keeper.now c.append_change.new.keeper _ _ (told-fault c.in-Err-append_change.error) (kept-fault c.in-Err-append_change.error)
    c.in-Err-append_change.ensures.used)
