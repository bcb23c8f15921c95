use Rattle.std.proofs.Common.{◌≡◌, ◌≤◌, None, sym, ap, subst, ◌∙◌, rules}
use Rattle.std.specs.Option.{option_map}
use Rattle.git_objects.specs.Commits.{Commit, Letter}
use Rattle.git_objects.specs.CommitBodies.{commit_from}
use Rattle.git_objects.specs.ParentLines.{parents_at}
use Rattle.git_objects.specs.Parts.{name_bytes}
use Rattle.git_objects.proofs.CommitViews.{body_none, rest_none, body_some, parents_long}
use Rattle.git_objects.proofs.commit_view.CommitView.of.Goals as goal

pub returns-in_err-tree-clause-commit : goal.returns-in_err-tree-clause-commit
returns-in_err-tree-clause-commit c =
    let none : commit_from c.args.body.now ≡ None = body_none c.args.body.now (sym c.in_err-tree.ensures) in
    rw none (search rules)

pub returns-in_err-count-clause-commit : goal.returns-in_err-count-clause-commit
returns-in_err-count-clause-commit c =
    let none : commit_from c.args.body.now ≡ None = rest_none c.args.body.now (name_bytes c.in_ok-tree.tree) c.in_ok-tree.parents.now (sym c.in_ok-tree.ensures) c.in_err-count.ensures.none in
    rw none (search rules)

pub returns-in_err-letter-clause-commit : goal.returns-in_err-letter-clause-commit
returns-in_err-letter-clause-commit c =
    let some = body_some c.args.body.now (name_bytes c.in_ok-tree.tree) c.in_ok-tree.parents.now _ _ (sym c.in_ok-tree.ensures) c.in_ok-count.ensures.rest in
    let none : commit_from c.args.body.now ≡ None = some ∙ ap (option_map (λ (k : Letter). let made : Commit = record { tree = name_bytes c.in_ok-tree.tree; parents = parents_at c.in_ok-count.count c.in_ok-tree.parents.now; letter = k } in made)) (sym c.in_err-letter.ensures) in
    rw none (search rules)

pub returns-clause-commit : goal.returns-clause-commit
returns-clause-commit c =
    let some = body_some c.args.body.now (name_bytes c.in_ok-tree.tree) c.in_ok-tree.parents.now _ _ (sym c.in_ok-tree.ensures) c.in_ok-count.ensures.rest in
    sym (some ∙ ap (option_map (λ (k : Letter). let made : Commit = record { tree = name_bytes c.in_ok-tree.tree; parents = parents_at c.in_ok-count.count c.in_ok-tree.parents.now; letter = k } in made)) (sym c.in_ok-letter.ensures))

pub returns-clause-few : goal.returns-clause-few
returns-clause-few c = subst (λ k. k ≤ 16) (sym (parents_long c.in_ok-count.count c.in_ok-tree.parents.now)) c.in_ok-count.ensures.few
