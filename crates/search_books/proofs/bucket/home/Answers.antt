use Rattle.std.proofs.Common.{rules}
use Rattle.search_books.specs.Bucket.{home_of}
use Rattle.search_books.proofs.bucket.home.Goals as goal

pub returns-clause-home : goal.returns-clause-home
unfolding home_of
returns-clause-home c = search rules
