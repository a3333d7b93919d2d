use Rattle.std.proofs.Common.{ap, ◌∙◌, ◌-◌, false, true, refl}
use Rattle.search_books.specs.Leases.{BookView, marked}
use Rattle.search_books.proofs.Reclosed.{book-marked, leases-marked}
use Rattle.search_books.proofs.book.LeaseBook.unanswered.Goals as goal

pub invariant_of-self : goal.invariant_of-self
invariant_of-self c =
    book-marked c.self.inside.heads.items c.self.inside.heads.items c.self.inside.rows.items c.mark.new.rows.items _ _
    c.self.invariant (c.mark.ensures.linked c.self.inside.heads.items c.self.invariant.linked) refl
    c.mark.ensures.capacity false true _
    (λ told. refl) c.mark.ensures.kept c.mark.ensures.len

pub invariant_of-self-else-index : goal.invariant_of-self-else-index
invariant_of-self-else-index c =
    book-marked c.self.inside.heads.items c.reopen.new.heads.items c.self.inside.rows.items
    c.reopen.new.rows.items _ _
    c.self.invariant c.reopen.ensures.linked c.reopen.ensures.heads c.reopen.ensures.capacity false true _
    (λ told. refl)
    c.reopen.ensures.kept c.reopen.ensures.len

pub returns-then-index-clause-leases : goal.returns-then-index-clause-leases
returns-then-index-clause-leases c =
    leases-marked c.self.inside.rows.items c.mark.new.rows.items false true _ c.mark.ensures.kept
    ∙ ap (λ (b : BookView). marked false (c.args.run - 1) b.leases) c.self.view_is

pub returns-else-index-clause-leases : goal.returns-else-index-clause-leases
returns-else-index-clause-leases c =
    leases-marked c.self.inside.rows.items c.reopen.new.rows.items false true _ c.reopen.ensures.kept
    ∙ ap (λ (b : BookView). marked false (c.args.run - 1) b.leases) c.self.view_is
