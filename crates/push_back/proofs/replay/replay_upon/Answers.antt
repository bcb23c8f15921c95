use Rattle.push_back.proofs.replay.replay_upon.Goals as goal

pub returns-in-Err-clause-stream : goal.returns-in-Err-clause-stream
returns-in-Err-clause-stream g c =
    let h = c.in-Err.ensures.stream in
    (h.0, h.1, h.2, record { taken = tt; given = tt; refused = h.3.refused; grown = h.3.grown })

pub returns-clause-stream : goal.returns-clause-stream
returns-clause-stream g c =
    let h = c.in-Ok.ensures.stream in
    (h.0, h.1, h.2, record { taken = h.3.taken; given = c.finish.ensures.gives c.run_on.new.store _ h.3.stands; refused = tt; grown = h.3.grown })
