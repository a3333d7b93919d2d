use Rattle.farm_laws.proofs.Induct.{IsLegal-first, IsLegal-push, IsLegal-pushed}
use Rattle.farm_laws.proofs.histories.legal_histories_grow_by_entries.Goals as goal

pub returns : goal.returns
returns c = record { one_more = λ H e legal. (IsLegal-pushed H e legal, IsLegal-push H e legal); beginning = IsLegal-first }
