use Rattle.std.proofs.Common.{arith}
use Rattle.search_books.proofs.Reclosed.{book-wider}
use Rattle.search_books.proofs.book.LeaseBook.reserve_searches.Goals as goal

pub invariant_of-self-2 : goal.invariant_of-self-2
invariant_of-self-2 c =
    book-wider c.self.inside.heads.items _ c.self.inside.rows.items _ c.max.result _ c.self.invariant
    c.in_ok-resize.ensures.items
    (omega arith)
