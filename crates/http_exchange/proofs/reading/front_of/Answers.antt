use Rattle.std.proofs.Common.{sym, arith}
use Rattle.std.proofs.lemmas.List.{take_all}
use Rattle.http_words.specs.declared.limits.TheConstants.{MAX_HEAD_BYTES}
use Rattle.http_exchange.proofs.reading.front_of.Goals as goal

pub returns-then-held-lt-MAX_HEAD_BYTES : goal.returns-then-held-lt-MAX_HEAD_BYTES
returns-then-held-lt-MAX_HEAD_BYTES c =
    let short = c.if-held-lt-MAX_HEAD_BYTES.true in sym (take_all MAX_HEAD_BYTES c.args.held.now (omega (arith, short)))
