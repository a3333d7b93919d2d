use Rattle.std.proofs.Common.{◌≡◌, ◌++◌, Some, sym, ap, ◌∙◌, arith, string_bytes}
use Rattle.judge.specs.Answer.{fate_text}
use Rattle.judge.specs.Form.{run_line}
use Rattle.judge.specs.Trial.{setup_in}
use Rattle.weight_exact.specs.Weights.{suspects}
use Rattle.judge.proofs.answer.judge_line.Goals as goal

pub returns-clause-ok : goal.returns-clause-ok
returns-clause-ok c = λ progress at.
    let run = c.in_ok-run.run' in
    let line = c.args.line.text.now in
    let same_suspects : suspects (setup_in c.args.trial.now) ≡ c.suspects.result = omega (arith, c.suspects.ensures) in
    let reads : run_line (suspects (setup_in c.args.trial.now)) progress.greatest line ≡ Some run =
    ap (λ n. run_line n progress.greatest line) same_suspects
    ∙ ap (λ greatest. run_line c.suspects.result greatest line) (sym (c.greatest.ensures progress at))
    ∙ sym c.parse.ensures ∙ c.in_ok-run.ensures.ok_part in (
      run,
      reads,
      c.judge-fate.ensures.after progress at,
      c.in_ok-write_fate.ensures
          ∙ ap (λ fate. string_bytes c.args.output.now ++ fate_text run.number fate)
          (c.judge-fate.ensures.fate progress at),
    )
