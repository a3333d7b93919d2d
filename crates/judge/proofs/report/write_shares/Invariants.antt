use Rattle.std.proofs.Common.{◌≡◌, ◌++◌, List, string_bytes}
use Rattle.std.specs.Prelude.{codes}
use Rattle.judge.specs.Answer.{points_text}
use Rattle.posterior.specs.StandsFor.{StandsFor}
use Rattle.weight_exact.specs.declared.run.Run.{Run}
use Rattle.judge.proofs.report.write_shares.Given as goal

abbrev pub invariant-loop-before : goal.invariant-loop-before
invariant-loop-before l =
    (runs : List Run) → StandsFor l.belief runs
    → string_bytes l.output ≡ string_bytes l.fn.output ++ (codes "shares" ++ points_text l.belief.setup runs l.before)
