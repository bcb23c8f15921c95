use Rattle.std.proofs.Common.{◌<◌, List, All, length, ℕ, Err, sym, ap, subst, ◌∙◌}
use Rattle.std.specs.Prelude.{Result}
use Rattle.std.proofs.lemmas.Result.{err_from_is_err_and}
use Rattle.filter_text.specs.Shapes.{shape}
use Rattle.fast_import.specs.declared.replayed.Made.{Made}
use Rattle.push_back.specs.declared.refusal.TreeRefusal.{TreeRefusal}
use Rattle.merge_laws.specs.MergeVerdicts.{original}
use Rattle.merge_push.specs.Originals.{IsOriginal}
use Rattle.merge_push.specs.Progressing.{IsAddedTo}
use Rattle.merge_push.proofs.Tied.{places-in}
use Rattle.merge_push.proofs.Widening.{added, as-original, below, half, lacks, no-room, now, refused, row-tree}
use Rattle.merge_push.proofs.commits.add_original.Goals as goal

pub original-requires-clause-parents : goal.original-requires-clause-parents
original-requires-clause-parents c =
    let x = c.requires.next in
    let g = c.args.ground.now in
    subst (λ (qs : List ℕ). All (λ q. q < length g.graph) qs) (sym (c.deref.ensures.value ∙ c.in_ok-parents.ensures x.1 x.2.standing x.2.read_again))
    (places-in (shape c.args.filter.now) c.args.origins.now g c.args.progress.now.before c.args.progress.now.entered x.0 x.2.progress x.1)

pub original-requires-clause-base : goal.original-requires-clause-base
original-requires-clause-base c =
    let x = c.requires.next in
    row-tree c.args.ground.now c.args.progress.now.before c.tree-base.result.0 x.2.progress.ground x.2.progress.there c.tree-base.ensures

pub returns-in_err-made : goal.returns-in_err-made
returns-in_err-made c = λ s d x.
    let f = shape c.args.filter.now in
    let os = c.args.origins.now in
    let g = c.args.ground.now in
    let h = c.original.new.ground in
    let b = c.args.progress.now.before in
    let es = c.args.progress.now.entered in
    let m = c.args.pushed.now in
    let ns = c.args.names.now.items in
    let e = c.in_err-made.field-0.0 in
    let qs = c.deref.ensures.value ∙ c.in_ok-parents.ensures d x.standing x.read_again in
    let o = as-original f c.requires.usable os g b es s m d x c.tree-base.result c.tree-base.ensures c.deref.result.now qs h c.original.result (c.original.ensures d x.standing x.read_again) in
    let p = err_from_is_err_and c.from_residual-in_err-made.result c.from_residual-in_err-made.ensures.1 in
    subst (λ (r : Result Unit TreeRefusal). IsAddedTo f os s d g h b es ns ns r) (sym (p.1 ∙ ap Err p.2))
    (refused f c.requires.usable os g b es s m d x h e b es ns ns (subst (λ (r : Result Made TreeRefusal). IsOriginal f s.tree d (original g.rule f s d) g h r) c.in_err-made.was o))

pub enter-requires-clause-parents : goal.enter-requires-clause-parents
enter-requires-clause-parents c =
    let s = c.requires.next.0 in
    let d = c.requires.next.1 in
    let x = c.requires.next.2 in
    let f = shape c.args.filter.now in
    let os = c.args.origins.now in
    let g = c.args.ground.now in
    let h = c.original.new.ground in
    let b = c.args.progress.now.before in
    let es = c.args.progress.now.entered in
    let m = c.args.pushed.now in
    let ns = c.args.names.now.items in
    let w = c.requires.usable in
    let n = c.in_ok-made.made in
    let same = c.in_ok-parents.ensures d x.standing x.read_again in
    let o = as-original f w os g b es s m d x c.tree-base.result c.tree-base.ensures c.deref.result.now (c.deref.ensures.value ∙ same) h c.original.result (c.original.ensures d x.standing x.read_again) in
    let a = subst (λ (r : Result Made TreeRefusal). IsOriginal f s.tree d (original g.rule f s d) g h r) c.in_ok-made.was o in
    below f w os g b es s m d x h n a c.in_ok-parents.parents.items same

pub enter-requires-clause-lacked : goal.enter-requires-clause-lacked
enter-requires-clause-lacked c =
    let s = c.requires.next.0 in
    let d = c.requires.next.1 in
    let x = c.requires.next.2 in
    let f = shape c.args.filter.now in
    let os = c.args.origins.now in
    let g = c.args.ground.now in
    let h = c.original.new.ground in
    let b = c.args.progress.now.before in
    let es = c.args.progress.now.entered in
    let m = c.args.pushed.now in
    let ns = c.args.names.now.items in
    let w = c.requires.usable in
    let n = c.in_ok-made.made in
    let same = c.in_ok-parents.ensures d x.standing x.read_again in
    let o = as-original f w os g b es s m d x c.tree-base.result c.tree-base.ensures c.deref.result.now (c.deref.ensures.value ∙ same) h c.original.result (c.original.ensures d x.standing x.read_again) in
    let a = subst (λ (r : Result Made TreeRefusal). IsOriginal f s.tree d (original g.rule f s d) g h r) c.in_ok-made.was o in
    let q = now f w os g b es s m d x h n a in
    lacks h s.graph q.ground q.graph q.of n.name.0

pub returns-in_err-place : goal.returns-in_err-place
returns-in_err-place c = λ s d x.
    let f = shape c.args.filter.now in
    let os = c.args.origins.now in
    let g = c.args.ground.now in
    let h = c.original.new.ground in
    let b = c.args.progress.now.before in
    let es = c.args.progress.now.entered in
    let m = c.args.pushed.now in
    let ns = c.args.names.now.items in
    let w = c.requires.usable in
    let n = c.in_ok-made.made in
    let same = c.in_ok-parents.ensures d x.standing x.read_again in
    let o = as-original f w os g b es s m d x c.tree-base.result c.tree-base.ensures c.deref.result.now (c.deref.ensures.value ∙ same) h c.original.result (c.original.ensures d x.standing x.read_again) in
    let a = subst (λ (r : Result Made TreeRefusal). IsOriginal f s.tree d (original g.rule f s d) g h r) c.in_ok-made.was o in
    let p = err_from_is_err_and c.from_residual-in_err-place.result c.from_residual-in_err-place.ensures.1 in
    subst (λ (r : Result Unit TreeRefusal). IsAddedTo f os s d g c.enter.new.ground b es ns ns r) (sym (p.1 ∙ ap Err p.2))
    (half f w os g b es s m d x h n a c.in_ok-parents.parents.items same c.enter.new.ground c.in_err-place.ensures.err b es ns ns)

pub returns-in_err-add : goal.returns-in_err-add
returns-in_err-add c = λ s d x.
    let f = shape c.args.filter.now in
    let os = c.args.origins.now in
    let g = c.args.ground.now in
    let h = c.original.new.ground in
    let b = c.args.progress.now.before in
    let es = c.args.progress.now.entered in
    let m = c.args.pushed.now in
    let ns = c.args.names.now.items in
    let w = c.requires.usable in
    let n = c.in_ok-made.made in
    let same = c.in_ok-parents.ensures d x.standing x.read_again in
    let o = as-original f w os g b es s m d x c.tree-base.result c.tree-base.ensures c.deref.result.now (c.deref.ensures.value ∙ same) h c.original.result (c.original.ensures d x.standing x.read_again) in
    let a = subst (λ (r : Result Made TreeRefusal). IsOriginal f s.tree d (original g.rule f s d) g h r) c.in_ok-made.was o in
    let p = err_from_is_err_and c.from_residual-in_err-add.result c.from_residual-in_err-add.ensures.1 in
    subst (λ (r : Result Unit TreeRefusal). IsAddedTo f os s d g c.enter.new.ground b c.add.new.self ns ns r) (sym (p.1 ∙ ap Err p.2))
    (no-room f w os g b es s m d x h n a c.in_ok-parents.parents.items same c.enter.new.ground c.in_ok-place.place c.in_ok-place.ensures.ok b c.add.new.self ns ns)

pub returns-in_err-add_name : goal.returns-in_err-add_name
returns-in_err-add_name c = λ s d x.
    let f = shape c.args.filter.now in
    let os = c.args.origins.now in
    let g = c.args.ground.now in
    let h = c.original.new.ground in
    let b = c.args.progress.now.before in
    let es = c.args.progress.now.entered in
    let m = c.args.pushed.now in
    let ns = c.args.names.now.items in
    let w = c.requires.usable in
    let n = c.in_ok-made.made in
    let same = c.in_ok-parents.ensures d x.standing x.read_again in
    let o = as-original f w os g b es s m d x c.tree-base.result c.tree-base.ensures c.deref.result.now (c.deref.ensures.value ∙ same) h c.original.result (c.original.ensures d x.standing x.read_again) in
    let a = subst (λ (r : Result Made TreeRefusal). IsOriginal f s.tree d (original g.rule f s d) g h r) c.in_ok-made.was o in
    let p = err_from_is_err_and c.from_residual-in_err-add_name.result c.from_residual-in_err-add_name.ensures.1 in
    subst (λ (r : Result Unit TreeRefusal). IsAddedTo f os s d g c.enter.new.ground c.in_ok-place.place c.add.new.self ns c.add_name.new.names.items r) (sym (p.1 ∙ ap Err p.2))
    (no-room f w os g b es s m d x h n a c.in_ok-parents.parents.items same c.enter.new.ground c.in_ok-place.place c.in_ok-place.ensures.ok c.in_ok-place.place c.add.new.self ns c.add_name.new.names.items)

pub returns : goal.returns
returns c = λ s d x.
    let f = shape c.args.filter.now in
    let os = c.args.origins.now in
    let g = c.args.ground.now in
    let h = c.original.new.ground in
    let b = c.args.progress.now.before in
    let es = c.args.progress.now.entered in
    let m = c.args.pushed.now in
    let ns = c.args.names.now.items in
    let w = c.requires.usable in
    let n = c.in_ok-made.made in
    let same = c.in_ok-parents.ensures d x.standing x.read_again in
    let o = as-original f w os g b es s m d x c.tree-base.result c.tree-base.ensures c.deref.result.now (c.deref.ensures.value ∙ same) h c.original.result (c.original.ensures d x.standing x.read_again) in
    let a = subst (λ (r : Result Made TreeRefusal). IsOriginal f s.tree d (original g.rule f s d) g h r) c.in_ok-made.was o in
    added f w os g b es s m d x h n a c.in_ok-parents.parents.items same c.enter.new.ground c.in_ok-place.place c.in_ok-place.ensures.ok c.add.new.self c.in_ok-add.ensures ns c.add_name.new.names.items c.in_ok-add_name.ensures
