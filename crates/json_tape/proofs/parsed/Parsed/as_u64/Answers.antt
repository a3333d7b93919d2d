use Rattle.std.proofs.Common.{◌≡◌, None, option_and_then, sym, ap, ◌∙◌, arith}
use Rattle.serde_json.specs.Find.{as_u64}
use Rattle.json_tape.specs.Views.{data_of}
use Rattle.json_tape.proofs.Looks.{as_number-none, as_number-some}
use Rattle.json_tape.proofs.parsed.Parsed.as_u64.Goals as goal

pub returns-in_err-text : goal.returns-in_err-text
unfolding data_of
returns-in_err-text c =
    let gone : c.from_residual.result ≡ None = grind arith in
    rw gone
    (sym
    (ap (option_and_then as_u64)
    (as_number-none c.args.self.now.element c.args.self.now.read c.in_err-text.ensures)))

pub returns : goal.returns
unfolding data_of
returns c =
    c.whole_number.ensures
    ∙ ap (option_and_then as_u64)
    (sym (as_number-some c.args.self.now.element c.args.self.now.read c.in_ok-text.text.now c.in_ok-text.ensures))
