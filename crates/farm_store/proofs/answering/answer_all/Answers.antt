-- What the first asks of a list came to, by the lemmas of `Batches`.
use Rattle.std.proofs.Common.{◌∙◌, ◌+◌, sym, subst, List, arith}
use Rattle.farm_entry.specs.declared.answer.Answer.{Answer}
use Rattle.farm_store.proofs.Batches.{AreFirst, first-adds, first-more}
use Rattle.farm_store.proofs.answering.answer_all.Goals as goal

pub returns-in-Err-clause-added : goal.returns-in-Err-clause-added
returns-in-Err-clause-added c =
    let first = first-adds c.args.farm.now.history c.args.asks.now c.loop-ask.ask-index c.loop-ask.answers.items
    c.loop-ask.farm.history c.loop-ask.invariant.first in
    (first.0, c.in-Err.ensures.kept ∙ first.1)

pub loop-ask-preserved : goal.loop-ask-preserved
loop-ask-preserved c =
    let so_far = c.loop-ask.invariant in
    record {
      first = subst (λ (l : List Answer). AreFirst c.args.farm.now.history c.args.asks.now (c.loop-ask.ask-index + 1) l
          c.answer.new.self.history) (sym c.push_reserved.ensures.items)
          (first-more c.args.farm.now.history c.args.asks.now c.loop-ask.ask-index c.loop-ask.answers.items
          c.loop-ask.farm.history c.answer.new.self.history c.ask-item.result c.in-Ok.given so_far.first
          c.loop-ask-test.true c.ask-item.is c.in-Ok.ensures.answer c.in-Ok.ensures.history);
      count = omega (arith, c.push_reserved.ensures.len, so_far.count);
      room = omega (arith, c.push_reserved.ensures.capacity, so_far.room);
    }

pub returns-clause-added : goal.returns-clause-added
returns-clause-added c =
    first-adds c.args.farm.now.history c.args.asks.now c.loop-ask.ask-index c.loop-ask.answers.items
    c.loop-ask.farm.history c.loop-ask.invariant.first
