use Rattle.std.proofs.Common.{sym, ◌∙◌}
use Rattle.git_objects.proofs.Spellings.{number-within, not_empty}
use Rattle.git_objects.proofs.ident.is_number.Goals as goal

pub returns : goal.returns
returns c = c.all_digits.ensures ∙ sym (number-within c.args.most c.args.text.now (not_empty c.args.text.now c.if-is_empty.ensures) c.if-text-most.false)
