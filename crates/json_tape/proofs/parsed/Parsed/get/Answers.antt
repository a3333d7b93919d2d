use Rattle.std.proofs.Common.{◌≡◌, None, sym, arith}
use Rattle.json_tape.specs.Views.{data_of}
use Rattle.json_tape.proofs.Looks.{get-none, get-some}
use Rattle.json_tape.proofs.parsed.Parsed.get.Goals as goal

pub returns-in_err-element : goal.returns-in_err-element
unfolding data_of
returns-in_err-element c =
    let gone : c.from_residual.result ≡ None = grind arith in
    rw gone (sym (get-none c.args.self.now.element c.args.self.now.read c.args.name.now c.in_err-element.ensures))

pub invariant_of-result : goal.invariant_of-result
invariant_of-result c =
    record {
      read =
          (get-some c.args.self.now.element c.args.self.now.read c.args.name.now c.in_ok-element.element
          c.in_ok-element.ensures).0;
    }

pub returns : goal.returns
unfolding data_of
returns c =
    sym
    (get-some c.args.self.now.element c.args.self.now.read c.args.name.now c.in_ok-element.element
    c.in_ok-element.ensures).1
