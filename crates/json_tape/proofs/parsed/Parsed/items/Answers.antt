use Rattle.std.proofs.Common.{◌≡◌, None, sym, arith}
use Rattle.json_tape.specs.Views.{data_of, items_in}
use Rattle.json_tape.proofs.Looks.{as_array-none, as_array-some}
use Rattle.json_tape.proofs.parsed.Parsed.items.Goals as goal

pub returns-in_err-next : goal.returns-in_err-next
unfolding data_of
returns-in_err-next c =
    let gone : c.from_residual.result ≡ None = grind arith in
    rw gone (sym (as_array-none c.args.self.now.element c.args.self.now.read c.in_err-next.ensures))

pub invariant_of-result : goal.invariant_of-result
invariant_of-result c =
    record {
      read = (as_array-some c.args.self.now.element c.args.self.now.read c.in_ok-next.next c.in_ok-next.ensures).0;
    }

pub returns : goal.returns
unfolding data_of items_in
returns c =
    sym (as_array-some c.args.self.now.element c.args.self.now.read c.in_ok-next.next c.in_ok-next.ensures).1
