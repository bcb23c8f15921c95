use Rattle.stream_reader.proofs.Following.{follows, lowers, more_within, came_same}
use Rattle.stream_reader.proofs.PromptTurns.{near}
use Rattle.stream_reader.proofs.Replayable.{replayable}
use Rattle.stream_reader.proofs.reader.Reader.next.Goals as goal

pub returns-clause-follows : goal.returns-clause-follows
returns-clause-follows c = follows c.read.result c.args.self.now c.read.new.self c.read.ensures

pub returns-clause-lowers : goal.returns-clause-lowers
returns-clause-lowers c = lowers c.read.result c.args.self.now c.read.new.self c.read.ensures

pub returns-clause-more : goal.returns-clause-more
returns-clause-more c = more_within c.read.result c.args.self.now c.read.new.self c.read.ensures

pub returns-clause-near : goal.returns-clause-near
returns-clause-near c = near c.read.result c.args.self.now c.read.new.self c.read.ensures

pub returns-clause-came : goal.returns-clause-came
returns-clause-came c = came_same c.read.result c.args.self.now c.read.new.self c.read.ensures

pub returns-clause-replayable : goal.returns-clause-replayable
returns-clause-replayable c = replayable c.read.result c.args.self.now c.read.new.self c.read.ensures
