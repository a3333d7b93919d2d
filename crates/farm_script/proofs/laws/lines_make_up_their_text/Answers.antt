use Rattle.std.proofs.Common.{◌≢◌, []}
use Rattle.std.proofs.lemmas.List.Elements.{All-nil}
use Rattle.farm_script.proofs.LineLaws.{whole_after, ended_after-plain, rest_after-plain}
use Rattle.farm_script.proofs.laws.lines_make_up_their_text.Goals as goal

pub returns : goal.returns
returns c = record {
  whole = whole_after [];
  ended = λ bytes. ended_after-plain [] bytes (All-nil (λ b. b ≢ 10));
  rest = λ bytes. rest_after-plain [] bytes (All-nil (λ b. b ≢ 10));
}
