use Rattle.std.proofs.Common.{rules, ◌≡◌, ℕ, zero, suc, ◌+◌, ◌<◌, List, [], ◌∷◌, ◌++◌, map, length, take, get_or, sym, ap, ◌∙◌, arith, add-one, append-nil, append_assoc}
use Rattle.git_objects.specs.declared.tree_view.EntryView.{EntryView}
use Rattle.git_objects.specs.Views.{entry_value}
use Rattle.git_objects.specs.Entries.{body_text, entry_line}
use Rattle.std.proofs.lemmas.Result.{err_from_is_err_and}
use Rattle.path_trees.proofs.entries.encode.Goals as goal

pub returns-in_err-body : goal.returns-in_err-body
returns-in_err-body c = let p = err_from_is_err_and c.from_residual.result c.from_residual.ensures.1 in rw (p.1) tt

pub returns-in_err-add_entry : goal.returns-in_err-add_entry
returns-in_err-add_entry c = let p = err_from_is_err_and c.from_residual-in_err-add_entry.result c.from_residual-in_err-add_entry.ensures.1 in rw (p.1) tt

body_more : (es : List EntryView) (i : ℕ) (e : EntryView) → i < length es → body_text (map entry_value (take (i + 1) es)) ≡ body_text (map entry_value (take i es)) ++ entry_line (entry_value (get_or es i e))
body_more es i e l = rw add-one (by es i e l)
  where
    by : (es : List EntryView) (i : ℕ) (e : EntryView) → i < length es → body_text (map entry_value (take (suc i) es)) ≡ body_text (map entry_value (take i es)) ++ entry_line (entry_value (get_or es i e))
    by [] i e l = absurd (omega arith)
    by (d ∷ es) zero e l = append-nil (entry_line (entry_value d))
    by (d ∷ es) (suc i) e l = ap (λ x. entry_line (entry_value d) ++ x) (by es i e (omega arith)) ∙ sym (append_assoc (entry_line (entry_value d)) (body_text (map entry_value (take i es))) (entry_line (entry_value (get_or es i e))))

pub loop-entry-preserved : goal.loop-entry-preserved
loop-entry-preserved c = search (rules, c.in_ok-add_entry.ensures, c.loop-entry.invariant, body_more)
