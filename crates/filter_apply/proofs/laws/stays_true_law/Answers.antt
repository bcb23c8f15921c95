use Rattle.std.proofs.Common.{◌++◌, refl}
use Rattle.filter_apply.proofs.Truths.{stay_true}
use Rattle.filter_apply.proofs.laws.stays_true_law.Goals as goal

pub returns : goal.returns
returns c newer S tables id table memo memo' store get old now keeps =
    stay_true {made = λ _. Unit} S (newer ++ S) tables id table memo memo' (record { store = store; newer = newer; above = refl; all = λ _ _. tt }) get old now keeps
