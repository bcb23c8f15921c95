use Rattle.std.proofs.Common.{◌∙◌, ap, sym, subst, refl, Err}
use Rattle.std.specs.Prelude.{Result, map}
use Rattle.std.proofs.lemmas.Result.{err_from_is_err_and}
use Rattle.git_objects.specs.Names.{name}
use Rattle.git_objects.specs.declared.kind.Kind.TheVariants.{Commit}
use Rattle.commit_map.specs.declared.commit_map.Shown.{Shown}
use Rattle.fast_import.specs.declared.replayed.Made.{Made}
use Rattle.push_back.specs.declared.refusal.TreeRefusal.{TreeRefusal}
use Rattle.merge_push.specs.Originals.{IsPut}
use Rattle.merge_push.proofs.Puts.{body-fits, put, put-done, put-failed}
use Rattle.merge_push.proofs.Stored.{in-store}
use Rattle.merge_push.proofs.commits.put_original.Goals as goal

pub own_body-requires-clause-commit : goal.own_body-requires-clause-commit
own_body-requires-clause-commit c = let w = c.requires.pushed in in-store c.args.ground.now.store c.args.pushed.now w.0 c.requires.ground.graph.store w.1

pub put_commit-requires : goal.put_commit-requires
put_commit-requires c =
    let w = c.requires.pushed in
    let named = ap (map (λ (s : Shown). s.commit.0)) c.deref.ensures.value ∙ c.in_ok-upon.ensures in
    body-fits c.args.ground.now c.requires.ground c.args.pushed.now w.0 w.1 w.2 c.args.tree c.requires.tree c.args.parents.now c.deref.result.now named c.in_ok-body.body.items c.in_ok-body.ensures c.requires.parents

pub returns-in_err-put_commit : goal.returns-in_err-put_commit
returns-in_err-put_commit c = λ d k again.
    let g = c.args.ground.now in
    let named = ap (map (λ (s : Shown). s.commit.0)) c.deref.ensures.value ∙ c.in_ok-upon.ensures in
    let ms = c.deref.result.now in
    let p = err_from_is_err_and c.from_residual-in_err-put_commit.result c.from_residual-in_err-put_commit.ensures.1 in
    let o = put g c.requires.ground c.args.pushed.now d k again c.args.tree c.requires.tree c.args.parents.now ms named in
    subst (λ (r : Result Made TreeRefusal). IsPut o g (record g { store = c.put_commit.new.store }) r) (sym (p.1 ∙ ap Err p.2))
    (put-failed g c.requires.ground c.args.pushed.now d k again c.args.tree c.requires.tree c.args.parents.now ms named c.in_ok-body.body.items c.in_ok-body.ensures (record g { store = c.put_commit.new.store }) refl c.put_commit.ensures.store
    c.in_err-put_commit.field-0.0 c.in_err-put_commit.ensures.err)

pub returns : goal.returns
returns c = λ d k again.
    let g = c.args.ground.now in
    let named = ap (map (λ (s : Shown). s.commit.0)) c.deref.ensures.value ∙ c.in_ok-upon.ensures in
    put-done g c.requires.ground c.args.pushed.now d k again c.args.tree c.requires.tree c.args.parents.now c.deref.result.now named c.in_ok-body.body.items c.in_ok-body.ensures (record g { store = c.put_commit.new.store }) refl
    c.put_commit.ensures.store c.name_of-name.result (c.name_of-name.ensures ∙ ap (name Commit) c.deref-2.ensures.value) c.in_ok-put_commit.ensures.ok
