use Rattle.std.specs.Prelude.{⊤}
use Rattle.push_back.proofs.Grounding.{ground-grown, step-grown}
use Rattle.object_store.specs.Unfolding.{flat}
use Rattle.push_laws.proofs.PushSteps.{goes-on}
use Rattle.push_back.specs.Grounds.{from_of}
use Rattle.push_back.proofs.replay.replay_push.Goals as goal

pub replay_upon-requires-clause-lasts : goal.replay_upon-requires-clause-lasts
replay_upon-requires-clause-lasts g c = record {
  still = λ T k. ground-grown {made = λ o. ⊤} c.args.store.now T k c.args.base.now c.requires;
  same = λ T k r p. step-grown {made = λ o. ⊤} c.args.store.now T k c.args.base.now c.requires r p;
}

pub replay_upon-requires-clause-goes : goal.replay_upon-requires-clause-goes
replay_upon-requires-clause-goes g c = goes-on c.args.base.now.refname (from_of c.args.base.now) (flat c.args.store.now c.args.base.now.shown.0)

pub returns-clause-stream : goal.returns-clause-stream
returns-clause-stream g c =
    let x = c.replay_upon.ensures.stream in
    (x.0, x.1, x.2, record { taken = x.3.taken; given = x.3.given; refused = x.3.refused; grown = x.3.grown })

pub returns-clause-taken : goal.returns-clause-taken
returns-clause-taken g c = c.replay_upon.ensures.taken
