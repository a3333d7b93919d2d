use Rattle.std.proofs.Common.{refl}
use Rattle.http_answers.specs.Faults.{store_fault_text}
use Rattle.http_answers.proofs.faults.store_fault_text.Goals as goal

pub returns : goal.returns
unfolding store_fault_text
returns c = refl
