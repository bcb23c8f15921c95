use Rattle.repo_ground.proofs.ItemRuns.{next-read}
use Rattle.repo_ground.proofs.loading.load_item.Goals as goal

pub returns-in-Ok-read_item-clause-item : goal.returns-in-Ok-read_item-clause-item
returns-in-Ok-read_item-clause-item g c = λ h holds.
    next-read (g.K.Keeper.items c.args.keeper.now) c.args.number c.args.before c.in-Ok.now c.args.reading.now c.fetch.new.reading c.read_item.new.self h
    c.in-Ok.ensures.fetched.piece c.in-Ok.ensures.fetched.fits c.in-Ok.ensures.fetched.size c.in-Ok.ensures.fetched.keeps c.in-Ok-read_item.ensures.item holds
