use Rattle.leaf_laws.proofs.Respelled.{both-told, respelled-repeated, same-repeated}
use Rattle.leaf_laws.proofs.repeats.repeats_hold_for_all_that_ask_the_same.Goals as goal

pub returns : goal.returns
returns c = record {
  same = same-repeated;
  reports = λ H run place q p m n legal first second h.
      same-repeated H q p m n place legal (both-told q p run first second) h;
  opens = respelled-repeated;
}
