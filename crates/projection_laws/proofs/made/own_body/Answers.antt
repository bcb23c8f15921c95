use Rattle.std.proofs.Common.{◌≡◌, map, sym, ◌∙◌, subst}
use Rattle.std.specs.Result.{IfOk}
use Rattle.std.proofs.lemmas.Option.{same_Some}
use Rattle.git_objects.specs.Commits.{Commit}
use Rattle.object_store.specs.Errors.{object_value}
use Rattle.commit_map.specs.Shown.{shown_value}
use Rattle.projection_laws.specs.Made.{IsOwnBody}
use Rattle.projection_laws.proofs.HeldCommits.{never-none, never-unread, view-held}
use Rattle.projection_laws.proofs.made.own_body.Goals as goal

pub unreachable-requires : goal.unreachable-requires
unreachable-requires c = never-none c.args.store.now c.args.original.now.0 c.requires.store c.requires.commit c.in_default.ensures.object

pub unreachable-requires-in_default-of : goal.unreachable-requires-in_default-of
unreachable-requires-in_default-of c =
    never-unread c.args.store.now c.args.original.now.0 (object_value c.in-Some.object) c.requires.store c.requires.commit c.in-Some.ensures.object c.in_default-of.ensures.commit

pub encoded-requires-clause-author : goal.encoded-requires-clause-author
encoded-requires-clause-author c =
    (view-held c.args.store.now c.args.original.now.0 (object_value c.in-Some.object) c.in-Some-of.commit c.requires.store c.requires.commit c.in-Some.ensures.object c.in-Some-of.ensures.commit).spelled.author

pub encoded-requires-clause-committer : goal.encoded-requires-clause-committer
encoded-requires-clause-committer c =
    (view-held c.args.store.now c.args.original.now.0 (object_value c.in-Some.object) c.in-Some-of.commit c.requires.store c.requires.commit c.in-Some.ensures.object c.in-Some-of.ensures.commit).spelled.committer

pub returns : goal.returns
returns c = λ (d : Commit) e.
    let v = c.in-Some-of.commit in
    let known = view-held c.args.store.now c.args.original.now.0 (object_value c.in-Some.object) v c.requires.store c.requires.commit c.in-Some.ensures.object c.in-Some-of.ensures.commit in
    let same : v ≡ d = same_Some v d (sym known.read ∙ e) in
    subst (λ (w : Commit). IfOk c.encoded.result (λ body. IsOwnBody c.args.tree.0 (map shown_value c.args.projected.now) w.letter body.items)) same c.encoded.ensures
