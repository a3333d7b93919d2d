use Rattle.http_requests.proofs.FrontLaws.{behind-append, fronts-append, opens-append, opens-items}
use Rattle.http_requests.proofs.laws.more_items_join_the_fronts.Goals as goal

pub returns : goal.returns
returns c = record {
  still_open = λ bytes items more x rest. (opens-append bytes items more x rest, behind-append bytes items more);
  last = fronts-append;
  whole = opens-items;
}
