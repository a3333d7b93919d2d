use Rattle.std.proofs.Common.{arith}
use Rattle.leaf_laws.proofs.LogPages.{page-read}
use Rattle.leaf_laws.proofs.sent_pages.pages_are_read_as_pages.Goals as goal

pub returns : goal.returns
returns c = λ from history fits spelled bytes. page-read from history (omega (arith, fits)) spelled bytes
