use Rattle.std.proofs.Common.{sym}
use Rattle.http_answers.specs.Answers.{close_line, closing_line, methods_line}
use Rattle.http_answers.specs.Pieces.{ending_of}
use Rattle.http_answers.proofs.lines.naming_end.Goals as goal

pub returns-then-closes : goal.returns-then-closes
unfolding methods_line closing_line
returns-then-closes c = λ k. ending_of (methods_line (sym c.in-Post.is k)) (close_line (sym c.if-closes.true k))

pub returns-else-closes : goal.returns-else-closes
unfolding methods_line closing_line
returns-else-closes c = λ k. ending_of (methods_line (sym c.in-Post.is k)) (close_line (sym c.if-closes.false k))

pub returns-then-closes-2 : goal.returns-then-closes-2
unfolding methods_line closing_line
returns-then-closes-2 c = λ k. ending_of (methods_line (sym c.in-GetAndHead.is k)) (close_line (sym c.if-closes-2.true k))

pub returns-else-closes-2 : goal.returns-else-closes-2
unfolding methods_line closing_line
returns-else-closes-2 c = λ k. ending_of (methods_line (sym c.in-GetAndHead.is k)) (close_line (sym c.if-closes-2.false k))
