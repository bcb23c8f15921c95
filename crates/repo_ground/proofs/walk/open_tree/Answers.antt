use Rattle.std.proofs.Common.{List, [], ◌∷◌, ◌++◌, length, None, Some, sym, ap, subst, ◌∙◌, arith, length-append}
use Rattle.std.proofs.lemmas.Bool.{not-true}
use Rattle.std.specs.Option.{unwrap_or}
use Rattle.git_objects.specs.Bodies.{tree_entries}
use Rattle.git_objects.specs.declared.entry.Entry.{Entry}
use Rattle.git_objects.specs.declared.kind.Kind.TheVariants.{Tree}
use Rattle.git_objects.proofs.SharedFronts.{listed}
use Rattle.object_store.specs.Errors.{object_value}
use Rattle.object_store.proofs.Finding.{has-found, kind_test}
use Rattle.repo_ground.specs.Growing.{held_of}
use Rattle.repo_ground.specs.StoredObjects.{AreOpen, counted, frames_steps, itself, stored_objects, tree_steps}
use Rattle.object_store.specs.Objects.{HasChildren}
use Rattle.repo_ground.specs.declared.walk.Frame.{Frame}
use Rattle.state_items.proofs.Naming.{name-known}
use Rattle.repo_ground.specs.Beside.{AreBeside}
use Rattle.repo_ground.proofs.Passing.{beside-push, some-read}
use Rattle.repo_ground.proofs.Walks.{absent-step, frames-open, open-push, same-step, skip-step}
use Rattle.object_store.proofs.Children.{tree-children, tree-found, tree-read}
use Rattle.repo_ground.proofs.walk.open_tree.Goals as goal

pub returns-then-contains-clause-step : goal.returns-then-contains-clause-step
returns-then-contains-clause-step c = λ r.
    let S = c.args.store.now in
    let names = c.args.held.now.keys in
    skip-step S names c.args.name.0 (frames_steps itself [] S c.args.frames.now.items)
    (sym (name-known (held_of S names) names c.args.name r.holds.named) ∙ sym c.contains.ensures ∙ c.if-contains.true) r

pub returns-in-None-clause-step : goal.returns-in-None-clause-step
returns-in-None-clause-step c = λ r.
    let S = c.args.store.now in
    absent-step S c.args.held.now.keys c.args.name.0 (frames_steps itself [] S c.args.frames.now.items)
    (sym (has-found Tree S c.args.name.0 None c.in-None.ensures.store c.in-None.ensures.object)) r

pub returns-then-ne-clause-step : goal.returns-then-ne-clause-step
returns-then-ne-clause-step c = λ r.
    let S = c.args.store.now in
    absent-step S c.args.held.now.keys c.args.name.0 (frames_steps itself [] S c.args.frames.now.items)
    (sym (has-found Tree S c.args.name.0 (Some (object_value c.in-Some.object)) c.in-Some.ensures.store c.in-Some.ensures.object)
    ∙ sym (kind_test c.in-Some.object.kind Tree) ∙ not-true _ (sym c.ne.ensures ∙ c.if-ne.true)) r

pub of_canonical-entries-requires : goal.of_canonical-entries-requires
of_canonical-entries-requires c =
    let S = c.args.store.now in
    let t = tree-found S c.args.name.0 (object_value c.in-Some.object) c.in-Some.ensures.store c.in-Some.ensures.object (sym c.ne.ensures ∙ c.if-ne.false) in
    some-read (tree_entries c.in-Some.object.body.now) (λ q. tree-read S c.args.name.0 c.in-Some.ensures.store t.0 (ap tree_entries t.1 ∙ q))

pub returns-in_ok-push-in-Some-clause-step : goal.returns-in_ok-push-in-Some-clause-step
returns-in_ok-push-in-Some-clause-step c = λ r.
    let S = c.args.store.now in
    let t = tree-found S c.args.name.0 (object_value c.in-Some.object) c.in-Some.ensures.store c.in-Some.ensures.object (sym c.ne.ensures ∙ c.if-ne.false) in
    same-step S c.args.held.now.keys (stored_objects S c.args.name.0 ++ frames_steps itself [] S c.args.frames.now.items) (frames_steps itself [] S c.push.new.self.items)
    (frames-open itself [] S c.args.frames.now.items c.args.name c.of_canonical-entries.result c.beside_of-beside.result c.in-Some.ensures.store t.0
    (ap listed t.1 ∙ ap (λ o. unwrap_or o []) (sym c.of_canonical-entries.ensures)) ∙ ap (frames_steps itself [] S) (sym c.in_ok-push-in-Some.ensures.items)) r

pub returns-in_ok-push-in-Some-clause-work : goal.returns-in_ok-push-in-Some-clause-work
returns-in_ok-push-in-Some-clause-work c =
    let S = c.args.store.now in
    let t = tree-found S c.args.name.0 (object_value c.in-Some.object) c.in-Some.ensures.store c.in-Some.ensures.object (sym c.ne.ensures ∙ c.if-ne.false) in
    let e = ap length
    (frames-open counted (tt ∷ []) S c.args.frames.now.items c.args.name c.of_canonical-entries.result c.beside_of-beside.result c.in-Some.ensures.store t.0
    (ap listed t.1 ∙ ap (λ o. unwrap_or o []) (sym c.of_canonical-entries.ensures)) ∙ ap (frames_steps counted (tt ∷ []) S) (sym c.in_ok-push-in-Some.ensures.items)) in
    omega (arith, e, length-append (tree_steps counted (tt ∷ []) S c.args.name.0) (frames_steps counted (tt ∷ []) S c.args.frames.now.items))

pub returns-in_ok-push-in-Some-clause-opened : goal.returns-in_ok-push-in-Some-clause-opened
returns-in_ok-push-in-Some-clause-opened c =
    let S = c.args.store.now in
    let t = tree-found S c.args.name.0 (object_value c.in-Some.object) c.in-Some.ensures.store c.in-Some.ensures.object (sym c.ne.ensures ∙ c.if-ne.false) in
    subst (λ (ds : List Frame). AreOpen S ds) (sym c.in_ok-push-in-Some.ensures.items)
    (open-push S c.args.frames.now.items (record { name = c.args.name; entries = c.of_canonical-entries.result; beside = c.beside_of-beside.result }) c.requires (record {
      tree = t.0;
      children = subst (λ (es : List Entry). HasChildren S es) (ap listed t.1 ∙ ap (λ o. unwrap_or o []) (sym c.of_canonical-entries.ensures)) (tree-children S c.args.name.0 c.in-Some.ensures.store t.0);
    }))

pub returns-in_ok-push-in-Some-clause-beside : goal.returns-in_ok-push-in-Some-clause-beside
returns-in_ok-push-in-Some-clause-beside c = λ holds h.
    let H = held_of c.args.store.now c.args.held.now.keys in
    subst (λ (ds : List Frame). AreBeside H ds) (sym c.in_ok-push-in-Some.ensures.items)
    (beside-push H c.args.frames.now.items (record { name = c.args.name; entries = c.of_canonical-entries.result; beside = c.beside_of-beside.result }) h (c.beside_of-beside.ensures holds))
