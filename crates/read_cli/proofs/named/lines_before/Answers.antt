-- Proves what src/named.rt needs of `lines_before`.
use Rattle.read_cli.proofs.named.lines_before.Goals as goal
