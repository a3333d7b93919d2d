use Rattle.search_books.proofs.Paths as paths
use Rattle.search_books.proofs.laws.put_back.Goals as goal

pub returns : goal.returns
returns c = λ s xs once some. paths.put_back s 0 xs once some
