use Rattle.std.proofs.Common.{arith, sym, ap, ◌∙◌, ◌∷◌, ◌++◌, [], take}
use Rattle.std.proofs.lemmas.Bool.{eq-eqb, eqb-true}
use Rattle.farm_script.specs.Lines.{ended_after, rest_after}
use Rattle.farm_script.proofs.LineEnds.{ended_after-at, rest_after-at, ended_after-none, rest_after-none, after_feed}
use Rattle.farm_script.proofs.answer_piece.split_line.Goals as goal

pub returns-in-Some-clause-ended : goal.returns-in-Some-clause-ended
returns-in-Some-clause-ended c line =
    let found = c.in-Some.ensures in
    ended_after-at line c.args.bytes.now c.in-Some.end found.0.high (eqb-true _ _ found.1)
    (λ k below e. found.0.before k (omega arith) below (eq-eqb _ _ e))
    ∙ ap (λ rest. (line ++ take c.in-Some.end c.args.bytes.now) ∷ ended_after [] rest)
    (sym (after_feed c.args.bytes.now c.in-Some.end))

pub returns-in-Some-clause-rest : goal.returns-in-Some-clause-rest
returns-in-Some-clause-rest c line =
    let found = c.in-Some.ensures in
    rest_after-at line c.args.bytes.now c.in-Some.end found.0.high (eqb-true _ _ found.1)
    (λ k below e. found.0.before k (omega arith) below (eq-eqb _ _ e))
    ∙ ap (λ rest. rest_after [] rest) (sym (after_feed c.args.bytes.now c.in-Some.end))

pub returns-in-None-clause-ended : goal.returns-in-None-clause-ended
returns-in-None-clause-ended c line =
    ended_after-none line c.args.bytes.now (λ k below e. c.in-None.ensures k (omega arith) below (eq-eqb _ _ e))

pub returns-in-None-clause-rest : goal.returns-in-None-clause-rest
returns-in-None-clause-rest c line =
    rest_after-none line c.args.bytes.now (λ k below e. c.in-None.ensures k (omega arith) below (eq-eqb _ _ e))
