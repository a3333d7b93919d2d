use Rattle.http_requests.proofs.Table.{first-row_in}
use Rattle.http_requests.proofs.TextBytes.{utf8-IsText}
use Rattle.http_requests.proofs.router_law.a_router_finds_the_row.Goals as goal

pub returns : goal.returns
returns g c table path text plain are = first-row_in table path (utf8-IsText path text) plain are
