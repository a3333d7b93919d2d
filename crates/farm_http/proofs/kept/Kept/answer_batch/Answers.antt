use Rattle.std.proofs.Common.{subst, sym}
use Rattle.farm_http.specs.Batches.{BatchState}
use Rattle.farm_http.specs.Turns.{HasAnswers}
use Rattle.farm_http.proofs.Dates.{turn-answers}
use Rattle.farm_http.proofs.kept.Kept.answer_batch.Goals as goal

pub put_turn-requires-clause-answers : goal.put_turn-requires-clause-answers
put_turn-requires-clause-answers g c =
    subst (λ (b : BatchState). HasAnswers c.ask-turn.result.0 b.asks) (sym c.ask-turn.ensures.same)
    (turn-answers g.D.Disk.count c.args.self.now.batch.asks c.ask-turn.result.0 c.args.pass.now c.ask-turn.new.pass
    c.ask-turn.ensures.turn c.ask-turn.ensures.legal)
