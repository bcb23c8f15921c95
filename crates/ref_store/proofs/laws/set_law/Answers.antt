use Rattle.ref_store.proofs.Heads.{head-set, head-others, distinct-set}
use Rattle.ref_store.proofs.laws.set_law.Goals as goal

pub returns : goal.returns
returns c = record { set = head-set; others = head-others; distinct = distinct-set }
