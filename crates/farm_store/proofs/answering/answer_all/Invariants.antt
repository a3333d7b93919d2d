use Rattle.std.proofs.Common.{◌≡◌, ◌≤◌, length}
use Rattle.std.specs.Vec.{vec_capacity}
use Rattle.farm_store.proofs.Batches.{AreFirst}
use Rattle.farm_store.proofs.answering.answer_all.Given as goal

abbrev pub invariant-loop-ask : goal.invariant-loop-ask
invariant-loop-ask l = record {
  first : AreFirst l.fn.farm.history l.asks l.ask-index l.answers.items l.farm.history;
  count : length l.answers.items ≡ l.ask-index;
  room : length l.asks ≤ vec_capacity l.answers;
}
