use Rattle.std.proofs.Common.{ℕ, count_by, sym, ap, ◌∙◌}
use Rattle.weight_exact.specs.Load.{is_fail_above}
use Rattle.plain_farm.proofs.Few.{load-never}
use Rattle.plain_farm.proofs.decision_new.load.Goals as goal

pub returns : goal.returns
returns c =
    c.fails_above.ensures
    ∙ ap (λ (n : ℕ). count_by (is_fail_above n) c.args.runs.now) c.last_pass.ensures
    ∙ sym (load-never c.args.factors.now c.args.runs.now c.if-factors-gt0.false)
