use Rattle.http_requests.proofs.FrontLaws.{opens-more}
use Rattle.http_requests.proofs.laws.more_bytes_keep_the_fronts.Goals as goal

pub returns : goal.returns
returns c bytes more items x = opens-more bytes more items x
