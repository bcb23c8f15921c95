use Rattle.std.proofs.Common.{map, ◌∙◌}
use Rattle.git_objects.specs.Commits.{Letter}
use Rattle.commit_map.specs.Shown.{shown_value}
use Rattle.projection_laws.proofs.Bodies.{own-body, own-commit}
use Rattle.projection_laws.proofs.made.encoded.Goals as goal

pub returns : goal.returns
returns c =
    let letter : Letter = record { author = c.in_ok-ident.field-0; committer = c.in_ok-ident-2.field-0; message = c.of.result } in
    own-body (λ b. b.items) _ c.args.tree.0 (map shown_value c.args.projected.now) c.args.commit.now.letter c.encode_commit.result
    (own-commit c.args.tree.0 c.args.projected.now c.in_ok-names.field-0.items c.args.commit.now.letter letter c.in_ok-names.ensures
    (c.in_ok-ident.ensures ∙ c.author.ensures) (c.in_ok-ident-2.ensures ∙ c.committer.ensures) (c.of.ensures ∙ c.in_ok-to_vec.ensures.items_if_clones_equal (λ x y e. e) ∙ c.message.ensures))
    c.encode_commit.ensures.body c.encode_commit.ensures.read_back
