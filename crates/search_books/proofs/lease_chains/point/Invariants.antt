use Rattle.std.proofs.Common.{suc, length}
use Rattle.search_books.specs.LeaseChains.{IsAbove, chains, kepts}
use Rattle.search_books.proofs.lease_chains.point.Given as goal

abbrev pub invariant-loop-next : goal.invariant-loop-next
invariant-loop-next l = IsAbove (chains (kepts l.rows.items)) (suc l.search) l.at (length l.rows.items) l.above l.next

abbrev pub decreases-loop-next : goal.decreases-loop-next
decreases-loop-next l = l.next
