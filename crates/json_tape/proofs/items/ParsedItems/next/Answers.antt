use Rattle.std.proofs.Common.{◌≡◌, None, arith}
use Rattle.json_tape.specs.Views.{data_of, items_in}
use Rattle.json_tape.proofs.Looks.{items_at-next, next-none, next-some}
use Rattle.json_tape.proofs.items.ParsedItems.next.Goals as goal

pub invariant_of-self : goal.invariant_of-self
invariant_of-self c =
    record {
      read =
          items_at-next c.args.self.now.next c.args.self.now.read c.next.result c.next.new.self c.next.ensures.value
          c.next.ensures.stays;
    }

pub returns-in_err-element : goal.returns-in_err-element
unfolding items_in
returns-in_err-element c =
    let gone : c.from_residual.result ≡ None = grind arith in
    rw gone (next-none c.args.self.now.next c.args.self.now.read c.in_err-element.ensures.value)

pub invariant_of-result : goal.invariant_of-result
invariant_of-result c =
    record {
      read =
          (next-some c.args.self.now.next c.args.self.now.read c.in_ok-element.element c.next.new.self
          c.in_ok-element.ensures.value).0;
    }

pub returns : goal.returns
unfolding data_of items_in
returns c =
    (next-some c.args.self.now.next c.args.self.now.read c.in_ok-element.element c.next.new.self
    c.in_ok-element.ensures.value).2
