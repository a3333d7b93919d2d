use Rattle.std.proofs.Common.{string_bytes}
use Rattle.judge.specs.Answer.{judged}
use Rattle.judge.specs.Fates.{JudgeProgress}
use Rattle.judge.specs.Lines.{lines_left, next_number}
use Rattle.judge.specs.Trial.{IsAt, setup_in}
use Rattle.judge.proofs.Answering.{GoesOn}
use Rattle.judge.proofs.answer.judge.Given as goal

abbrev pub invariant-loop-line : goal.invariant-loop-line
invariant-loop-line l =
    (progress : JudgeProgress) × IsAt l.trial progress × GoesOn (judged l.input) (setup_in l.trial)
    (string_bytes l.output) progress (next_number l.line-iterator) (lines_left l.line-iterator)
