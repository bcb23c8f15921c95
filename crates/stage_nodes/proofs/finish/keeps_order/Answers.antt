use Rattle.std.proofs.Common.{◌≡◌, ◌≤◌, length, false, sym, ◌∙◌, arith, true≢false}
use Rattle.git_objects.specs.Entries.{is_dir}
use Rattle.stage_nodes.proofs.Order.{keys_kept}
use Rattle.stage_nodes.proofs.finish.keeps_order.Goals as goal

pub returns-then-not-is_dir : goal.returns-then-not-is_dir
returns-then-not-is_dir c = λ h less f.
    let plain : is_dir c.args.entry.now.mode ≡ false = cc in
    keys_kept c.args.entry.now.component.now c.args.component.now (is_dir c.args.entry.now.mode) (is_dir f.mode) (λ v. absurd (true≢false (sym v ∙ plain))) less

pub returns-else-not-is_dir : goal.returns-else-not-is_dir
returns-else-not-is_dir c = λ h less f.
    let short : length c.args.component.now ≤ length c.args.entry.now.component.now = grind (arith, h) in
    keys_kept c.args.entry.now.component.now c.args.component.now (is_dir c.args.entry.now.mode) (is_dir f.mode) (λ v. short) less
