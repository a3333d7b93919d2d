-- What the first callers were answered, by the lemmas of `Together`.
use Rattle.std.proofs.Common.{◌<◌, [], length, sym, arith}
use Rattle.std.proofs.lemmas.List.{append-nil}
use Rattle.farm_store.proofs.Together.{first_given-adds, first_given-asks, first_given-more}
use Rattle.farm_store.proofs.answering.answer_parts.Goals as goal

pub returns-in_err-answer_part-clause-asks : goal.returns-in_err-answer_part-clause-asks
returns-in_err-answer_part-clause-asks c =
    first_given-asks c.args.farm.now.history c.args.parts.now c.loop-index.index c.loop-index.parts
    c.loop-index.farm.history c.answer_part.new.part c.index-parts-index.result c.loop-index.invariant.first
    c.answer_part.ensures.asks

pub returns-in_err-answer_part-clause-added : goal.returns-in_err-answer_part-clause-added
returns-in_err-answer_part-clause-added c =
    first_given-adds c.args.farm.now.history c.args.parts.now c.loop-index.index c.loop-index.parts
    c.loop-index.farm.history c.answer_part.new.farm.history c.loop-index.invariant.first c.answer_part.ensures.added

pub loop-index-preserved : goal.loop-index-preserved
loop-index-preserved c =
    let below : c.loop-index.index < length c.loop-index.parts =
    omega (arith, c.loop-index-test.true, c.loop-index.auto.index-end, c.loop-index.auto.parts) in
    record {
      first = first_given-more c.args.farm.now.history c.args.parts.now c.loop-index.index c.loop-index.parts
          c.loop-index.farm.history c.answer_part.new.farm.history c.answer_part.new.part c.index-parts-index.result
          c.loop-index.invariant.first below c.answer_part.ensures.asks
          c.in_ok-answer_part.ensures.given c.in_ok-answer_part.ensures.history;
    }

pub returns-clause-added : goal.returns-clause-added
returns-clause-added c =
    first_given-adds c.args.farm.now.history c.args.parts.now c.loop-index.index c.loop-index.parts
    c.loop-index.farm.history c.loop-index.farm.history c.loop-index.invariant.first
    ([], sym (append-nil c.loop-index.farm.history))
