use Rattle.std.proofs.Common.{refl}
use Rattle.http_requests.specs.Routes.{page_of, path_table}
use Rattle.http_requests.proofs.Table.{found-row_in}
use Rattle.http_requests.proofs.pages.Pages.routed_page.Goals as goal

pub returns-in-Ok : goal.returns-in-Ok
unfolding page_of
returns-in-Ok c =
    found-row_in path_table c.args.self.now.router c.args.path.now _ c.utf8.path refl refl c.args.self.now.filled c.in-Ok.ensures.found

pub returns-in-Err : goal.returns-in-Err
unfolding page_of
returns-in-Err c =
    found-row_in path_table c.args.self.now.router c.args.path.now _ c.utf8.path refl refl c.args.self.now.filled c.in-Err.ensures.missing
