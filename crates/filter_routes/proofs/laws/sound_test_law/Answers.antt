use Rattle.filter_routes.proofs.SoundLemmas.{the_law}
use Rattle.filter_routes.proofs.laws.sound_test_law.Goals as goal

pub returns : goal.returns
returns c = the_law
