use Rattle.std.proofs.Common.{sym}
use Rattle.http_answers.specs.Answers.{allow_line, close_line, closing_line}
use Rattle.http_answers.specs.Pieces.{ending_of}
use Rattle.http_answers.proofs.lines.ending.Goals as goal

pub returns-then-closes : goal.returns-then-closes
unfolding closing_line
returns-then-closes c = λ k. ending_of (allow_line (sym c.in-None.is k)) (close_line (sym c.if-closes.true k))
