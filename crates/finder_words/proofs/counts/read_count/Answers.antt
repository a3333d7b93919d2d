use Rattle.std.proofs.Common.{◌∙◌, ap, arith, sym}
use Rattle.common_types.specs.Decimals.{number}
use Rattle.finder_words.proofs.Ranges.{count-far}
use Rattle.finder_words.proofs.counts.read_count.Goals as goal

pub returns-in_err-count-clause-count : goal.returns-in_err-count-clause-count
returns-in_err-count-clause-count c =
    c.from_residual.ensures
    ∙ sym (count-far c.args.most c.args.word.now (omega (arith))
    (λ value is. c.in_err-count.ensures.none value (ap number c.as_bytes.ensures.value ∙ is)))
