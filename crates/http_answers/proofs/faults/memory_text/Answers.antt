use Rattle.std.proofs.Common.{refl}
use Rattle.http_answers.specs.Faults.{memory_text}
use Rattle.http_answers.proofs.faults.memory_text.Goals as goal

pub returns : goal.returns
unfolding memory_text
returns c = refl
