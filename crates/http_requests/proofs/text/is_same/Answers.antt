use Rattle.http_requests.proofs.SameTexts.{same_text-from_iff}
use Rattle.http_requests.proofs.text.is_same.Goals as goal

pub returns : goal.returns
returns c = same_text-from_iff _ _ _ c.eq_ignore_ascii_case.ensures.test
