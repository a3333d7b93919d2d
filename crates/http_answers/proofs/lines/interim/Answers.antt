use Rattle.std.proofs.Common.{refl}
use Rattle.http_answers.specs.Answers.{interim_bytes}
use Rattle.http_answers.proofs.lines.interim.Goals as goal

pub returns : goal.returns
unfolding interim_bytes
returns c = refl
