use Rattle.http_requests.proofs.Foreign.{foreign-only, item-foreign, item-hostless}
use Rattle.http_requests.proofs.laws.posts_of_pages_are_refused.Goals as goal

pub returns-clause-foreign : goal.returns-clause-foreign
returns-clause-foreign c bytes item x foreign host = item-foreign bytes item x foreign host

pub returns-clause-hostless : goal.returns-clause-hostless
returns-clause-hostless c bytes item x foreign host = item-hostless bytes item x foreign host

pub returns-clause-only : goal.returns-clause-only
returns-clause-only c bytes item next e = foreign-only bytes item next e
