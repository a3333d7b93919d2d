use Rattle.farm_store.proofs.Together.{AreFirstGiven}
use Rattle.farm_store.proofs.answering.answer_parts.Given as goal

abbrev pub invariant-loop-index : goal.invariant-loop-index
invariant-loop-index l = record {
  first : AreFirstGiven l.fn.farm.history l.fn.parts l.index l.parts l.farm.history;
}
