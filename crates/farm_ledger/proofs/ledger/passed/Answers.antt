use Rattle.std.proofs.Common.{List, length, sym, ap, ◌∙◌, arith}
use Rattle.farm_entry.specs.History.{openings}
use Rattle.farm_entry.specs.declared.entry.Entry.{Entry}
use Rattle.farm_laws.proofs.Bounds.{openings-bounded}
use Rattle.farm_ledger.proofs.Served.{served-all, served-some}
use Rattle.farm_ledger.proofs.ledger.passed.Goals as goal

pub overflow_cast-count : goal.overflow_cast-count
overflow_cast-count c =
    omega (
      arith,
      c.searches_count-count.ensures,
      ap (λ (X : List Entry). length (openings X)) c.state.ensures,
      openings-bounded c.args.register.now c.requires.legal,
    )

pub overflow_add-at : goal.overflow_add-at
overflow_add-at c =
    omega (arith, c.loop-at.invariant.within, openings-bounded c.args.register.now c.requires.legal)

pub overflow_add-at-in-loop-at : goal.overflow_add-at-in-loop-at
overflow_add-at-in-loop-at c =
    omega (arith, c.loop-at.invariant.within, openings-bounded c.args.register.now c.requires.legal)

pub returns-then-is_some : goal.returns-then-is_some
returns-then-is_some c = record {
  served = c.loop-at.invariant;
  first = served-some c.args.register.now c.loop-at.at c.waiting.result c.requires.legal c.loop-at.invariant
      (sym c.waiting.ensures) (sym c.is_some.ensures ∙ c.if-is_some.true);
}

pub returns : goal.returns
returns c = record {
  served = c.loop-at.invariant;
  first = served-all c.args.register.now c.loop-at.at c.requires.legal c.loop-at.invariant
      (omega (
        arith,
        c.loop-at-test.false,
        c.searches_count-count.ensures,
        ap (λ (X : List Entry). length (openings X)) c.state.ensures,
      ));
}
