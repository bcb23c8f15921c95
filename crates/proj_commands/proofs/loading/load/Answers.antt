-- Proves what src/loading.rt needs of `load`.
use Rattle.std.proofs.Common.{◌∙◌, List, ap, sym, subst}
use Rattle.git_objects.specs.Paths.{Bytes}
use Rattle.proj_commands.specs.Cases.{is_verdict, loaded}
use Rattle.proj_commands.specs.Forms.{IsEarly}
use Rattle.proj_commands.proofs.JudgedCases.{told-fault}
use Rattle.proj_commands.proofs.Refusing.{load-before, load-counts, load-early}
use Rattle.proj_commands.proofs.Verdicts.{load-other}
use Rattle.proj_commands.proofs.loading.load.Goals as goal

pub returns-in-Err-clause-err : goal.returns-in-Err-clause-err
returns-in-Err-clause-err g c = λ (items : List Bytes) told.
    subst (IsEarly (loaded items)) (sym c.load_outcome.ensures)
    (load-early items c.in-Err.error (told-fault (g.K.Keeper.items c.args.store.now) items c.in-Err.error told c.in-Err.ensures.err))

pub returns-in-Err-clause-other : goal.returns-in-Err-clause-other
returns-in-Err-clause-other g c = ap is_verdict c.load_outcome.ensures ∙ load-other c.in-Err.error

pub returns-in-Err-clause-early : goal.returns-in-Err-clause-early
returns-in-Err-clause-early g c = load-before c.in-Err.error c.load_outcome.result c.load_outcome.ensures

pub returns-in-Err-clause-cause : goal.returns-in-Err-clause-cause
returns-in-Err-clause-cause g c = load-counts _ _ c.in-Err.error c.load_outcome.result c.load_outcome.ensures c.in-Err.ensures.cause
