use Rattle.search_books.proofs.Looks.{IsLook}
use Rattle.search_books.proofs.look.find_out.Given as goal

abbrev pub invariant-loop-at : goal.invariant-loop-at
invariant-loop-at l = IsLook l.search l.stage l.moment l.rows l.found l.from l.at

abbrev pub decreases-loop-at : goal.decreases-loop-at
decreases-loop-at l = l.at
