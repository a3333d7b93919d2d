use Rattle.std.proofs.Common.{arith}
use Rattle.std.proofs.lemmas.Bool.{eq-eqb, eqb-true}
use Rattle.test_runners.proofs.FirstLines.{lines_at, lines_whole}
use Rattle.test_runners.proofs.lines.split_line.Goals as goal

pub returns-in-Some-clause-lines : goal.returns-in-Some-clause-lines
returns-in-Some-clause-lines c =
    let found = c.in-Some.ensures in
    lines_at c.args.text.now c.in-Some.end found.0.high (eqb-true _ _ found.1)
    (λ k below e. found.0.before k (omega arith) below (eq-eqb _ _ e))

pub returns-in-None-clause-lines : goal.returns-in-None-clause-lines
returns-in-None-clause-lines c =
    lines_whole c.args.text.now c.requires (λ k below e. c.in-None.ensures k (omega arith) below (eq-eqb _ _ e))
