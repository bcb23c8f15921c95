use Rattle.std.proofs.Common.{sym, ◌∙◌, arith}
use Rattle.std.specs.Ordering.{nat_cmp}
use Rattle.std.specs.Cmp.Lexicographic.{slice_cmp}
use Rattle.std.proofs.lemmas.List.{take_rest}
use Rattle.git_objects.specs.Entries.{dir_key}
use Rattle.git_objects.proofs.Fronts.{front_ties, front_decides}
use Rattle.git_objects.proofs.entry_order.compare_components.Goals as goal

pub returns-in-Equal : goal.returns-in-Equal
returns-in-Equal c =
    c.compare_tails.ensures
    ∙ (λ i. slice_cmp nat_cmp (dir_key (take_rest c.args.a.now c.min-n.result i) c.args.a_dir) (dir_key (take_rest c.args.b.now c.min-n.result i) c.args.b_dir))
    ∙ front_ties c.min-n.result c.args.a.now c.args.b.now c.args.a_dir c.args.b_dir (omega arith) (omega arith) (sym c.in-Equal.is ∙ c.compare_bytes.ensures)

pub returns-in_default : goal.returns-in_default
returns-in_default c =
    c.compare_bytes.ensures
    ∙ front_decides c.min-n.result c.args.a.now c.args.b.now c.args.a_dir c.args.b_dir (omega arith) (omega arith) (λ e. c.in_default.not-Equal (c.compare_bytes.ensures ∙ e))
