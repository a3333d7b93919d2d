use Rattle.std.proofs.Common.{rules}
use Rattle.search_books.specs.Bucket.{mixed_of}
use Rattle.search_books.proofs.bucket.mixed.Goals as goal

pub returns : goal.returns
unfolding mixed_of
returns c = search rules
