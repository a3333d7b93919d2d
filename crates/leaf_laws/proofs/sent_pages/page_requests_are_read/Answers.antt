use Rattle.leaf_laws.proofs.LogPages.{page-requested}
use Rattle.leaf_laws.proofs.sent_pages.page_requests_are_read.Goals as goal

pub returns : goal.returns
returns c = page-requested
