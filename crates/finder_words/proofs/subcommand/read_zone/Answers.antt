use Rattle.std.proofs.Common.{◌∙◌, ap}
use Rattle.common_types.specs.Decimals.{number}
use Rattle.finder_words.proofs.Foundings.{named-far}
use Rattle.finder_words.proofs.subcommand.read_zone.Goals as goal

pub returns-in_err-read_minutes-clause-none : goal.returns-in_err-read_minutes-clause-none
returns-in_err-read_minutes-clause-none c =
    let rest = c.in_ok-strip_prefix.ensures.cases in
    rw c.from_residual-in_err-read_minutes.ensures (named-far c.args.word.now c.in_default.ensures.cases rest.0
    (λ m is. c.in_err-read_minutes.ensures.none m (ap number rest.1 ∙ is)))
