use Rattle.search_books.proofs.KeyWalks.{IsWalk}
use Rattle.search_books.proofs.key_chains.point.Given as goal

abbrev pub invariant-loop-next : goal.invariant-loop-next
invariant-loop-next l = IsWalk l.heads.items l.items.items l.bucket l.at l.above l.next

abbrev pub decreases-loop-next : goal.decreases-loop-next
decreases-loop-next l = l.next
