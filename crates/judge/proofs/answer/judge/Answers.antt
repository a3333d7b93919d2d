use Rattle.std.proofs.Common.{ap, ◌∙◌, rules}
use Rattle.judge.specs.Fates.{at_start, after}
use Rattle.judge.specs.Lines.{lines_left, next_number}
use Rattle.judge.specs.Trial.{setup_in}
use Rattle.judge.proofs.Answering.{GoesOn-start, GoesOn-more, GoesOn-outside, GoesOn-end}
use Rattle.judge.proofs.answer.judge.Goals as goal

pub loop-line-init : goal.loop-line-init
loop-line-init c =
    let at = c.in_ok-trial.ensures.at_start in
    let same = c.into_iter-line-iterator.ensures.into_iter_gives in (
      at_start,
      at,
      GoesOn-start c.args.input.now c.of-lines.ensures.left c.in_ok-search.ensures.search
          c.in_ok-trial.ensures.setup c.new-output.ensures.bytes c.in_ok-write_budget.ensures (ap next_number same)
          (ap lines_left same),
    )

pub loop-line-preserved : goal.loop-line-preserved
loop-line-preserved c =
    let progress = c.loop-line.invariant.0 in
    let judged = c.in_ok-judge_line.ensures.ok progress c.loop-line.invariant.1 in
    let step = c.in-Some.ensures.steps in (
      after (setup_in c.loop-line.trial) progress judged.0,
      judged.2,
      GoesOn-more judged.0 c.loop-line.invariant.2
          step.0 judged.1 c.judge_line.ensures.setup judged.3 step.2,
    )

pub returns-in_err-judge_line-clause-bad_input : goal.returns-in_err-judge_line-clause-bad_input
returns-in_err-judge_line-clause-bad_input c = λ line bad.
    let failed = c.in_err-judge_line.ensures.bad_input c.loop-line.invariant.0 c.loop-line.invariant.1 line
    (search rules) in
    let step = c.in-Some.ensures.steps in
    GoesOn-outside c.loop-line.invariant.2 step.0 failed.0 (failed.1 ∙ step.1)

pub returns-clause-answer : goal.returns-clause-answer
returns-clause-answer c =
    let progress = c.loop-line.invariant.0 in
    GoesOn-end c.loop-line.invariant.2 c.in-None.ensures.steps.0
    (c.in_ok-write_ending.ensures progress c.loop-line.invariant.1)
