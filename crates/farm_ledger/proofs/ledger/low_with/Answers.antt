use Rattle.std.proofs.Common.{sym, subst}
use Rattle.farm_ledger.specs.Waiting.{IsServed}
use Rattle.farm_ledger.proofs.ledger.low_with.Goals as goal

pub passed-requires-clause-served : goal.passed-requires-clause-served
passed-requires-clause-served c =
    subst (IsServed c.args.register.now) (sym c.low_after-low.ensures) c.requires.served
