use Rattle.std.proofs.Common.{ap, ◌∙◌, ◌++◌, []}
use Rattle.std.specs.Prelude.{codes}
use Rattle.git_objects.specs.Commits.{field}
use Rattle.git_objects.proofs.Spellings.{letter_joined}
use Rattle.git_objects.proofs.commit.add_letter.Goals as goal

pub returns-clause-letter : goal.returns-clause-letter
returns-clause-letter c =
    letter_joined c.args.body.now.items c.add_field.new.body.items c.add_field-2.new.body.items c.push.new.self.items _ c.args.parts.now.author c.args.parts.now.committer c.args.parts.now.message
    (c.in_ok-add_field.ensures ∙ ap (λ v. c.args.body.now.items ++ field (codes "author") v []) c.bytes.ensures.bytes)
    (c.in_ok-add_field-2.ensures ∙ ap (λ v. c.add_field.new.body.items ++ field (codes "committer") v []) c.bytes-2.ensures.bytes)
    c.in_ok-push.ensures.items
    (c.in_ok-extend_from_slice.ensures.items ∙ ap (λ v. c.push.new.self.items ++ v) c.bytes-3.ensures)
