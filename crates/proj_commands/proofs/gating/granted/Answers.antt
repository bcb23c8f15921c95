-- Proves what src/gating.rt needs of `granted`.
use Rattle.filter_text.specs.Shapes.{shape}
use Rattle.proj_commands.proofs.SoundTexts.{sound-spelled}
use Rattle.proj_commands.proofs.gating.granted.Goals as goal

pub decide-requires : goal.decide-requires
decide-requires c = record { filter = sound-spelled c.requires.sound.0 (shape c.args.subject.now.filter) c.requires.sound.1 }
