use Rattle.std.proofs.Common.{arith, ap, ◌∙◌, ◌-◌, length, take}
use Rattle.search_books.specs.Leases.{BookView}
use Rattle.search_books.proofs.LeaseEnds.{kepts-length}
use Rattle.search_books.proofs.Kepts.{leases-length}
use Rattle.search_books.proofs.Reclosed.{book-taken, leases-taken}
use Rattle.search_books.proofs.book.LeaseBook.take_last.Goals as goal

pub unlink_last-requires-clause-some : goal.unlink_last-requires-clause-some
unlink_last-requires-clause-some c =
    omega (
      arith,
      ap (λ (b : BookView). length b.leases) c.self.view_is,
      leases-length c.self.inside.rows.items,
      c.requires,
    )

pub unlink_last-requires-clause-search : goal.unlink_last-requires-clause-search
unlink_last-requires-clause-search c =
    c.self.invariant.kept.searches _
    (omega (
      arith,
      ap (λ (b : BookView). length b.leases) c.self.view_is,
      leases-length c.self.inside.rows.items,
      kepts-length c.self.inside.rows.items,
      c.requires,
    ))

pub invariant_of-self : goal.invariant_of-self
invariant_of-self c =
    book-taken c.self.inside.heads.items c.unlink_last.new.heads.items c.self.inside.rows.items
    c.unlink_last.new.rows.items _ _
    c.self.invariant c.unlink_last.ensures.linked c.unlink_last.ensures.heads c.unlink_last.ensures.capacity
    c.unlink_last.ensures.kept c.unlink_last.ensures.len

pub returns-clause-leases : goal.returns-clause-leases
returns-clause-leases c =
    leases-taken c.self.inside.rows.items c.unlink_last.new.rows.items c.unlink_last.ensures.kept
    ∙ ap (λ (b : BookView). take (length b.leases - 1) b.leases) c.self.view_is
