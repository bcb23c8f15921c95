use Rattle.import_laws.proofs.StoredReplaying.{stored-replay-law}
use Rattle.import_laws.proofs.laws.stored_replay_law.Goals as goal

pub returns : goal.returns
returns c = stored-replay-law
