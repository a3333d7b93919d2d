use Rattle.std.proofs.Common.{ap, sym, ◌∙◌, ◌≡◌, ◌-◌, true, false, refl, length, get_or}
use Rattle.std.proofs.lemmas.Bool.{true≢false}
use Rattle.search_books.specs.Leases.{BookView, marked}
use Rattle.search_books.specs.LeaseChains.{Kept, blank, kepts, none}
use Rattle.search_books.specs.declared.lease_chains.Row.{Row}
use Rattle.search_books.proofs.LeaseEnds.{kept-at, read_at}
use Rattle.search_books.proofs.Kepts.{run-low}
use Rattle.search_books.proofs.Marks.{marked-again}
use Rattle.search_books.proofs.Reclosed.{book-marked, leases-marked}
use Rattle.search_books.proofs.book.LeaseBook.answered.Goals as goal

pub returns-then-row-clause-leases : goal.returns-then-row-clause-leases
returns-then-row-clause-leases c =
    let rows = c.self.inside.rows.items in
    let at = c.args.run - 1 in
    let low = run-low rows c.args.run _ (ap (λ (b : BookView). length b.leases) (sym c.self.view_is)) c.requires.above
    c.requires.known in
    let row_is : c.index-row.result.now ≡ get_or rows at blank = read_at rows at _ c.index-row.ensures low in
    let told : (get_or (kepts rows) at none).is_answered ≡ true =
    ap (λ (k : Kept). k.is_answered) (kept-at rows at)
    ∙ (sym (ap (λ (r : Row). r.is_answered) row_is) ∙ c.if-row.true) in
    ap (λ (b : BookView). b.leases) (sym c.self.view_is)
    ∙ (marked-again true at (kepts rows) told ∙ ap (λ (b : BookView). marked true at b.leases) c.self.view_is)

pub invariant_of-self : goal.invariant_of-self
invariant_of-self c =
    book-marked c.self.inside.heads.items c.close.new.heads.items c.self.inside.rows.items c.close.new.rows.items _ _
    c.self.invariant c.close.ensures.linked c.close.ensures.heads c.close.ensures.capacity true false _
    (λ told. absurd (true≢false told))
    c.close.ensures.kept c.close.ensures.len

pub invariant_of-self-else-is_near : goal.invariant_of-self-else-is_near
invariant_of-self-else-is_near c =
    book-marked c.self.inside.heads.items c.self.inside.heads.items c.self.inside.rows.items c.mark.new.rows.items _ _
    c.self.invariant (c.mark.ensures.linked c.self.inside.heads.items c.self.invariant.linked) refl
    c.mark.ensures.capacity true true _
    (λ told. refl) c.mark.ensures.kept c.mark.ensures.len

pub returns-then-is_near-clause-leases : goal.returns-then-is_near-clause-leases
returns-then-is_near-clause-leases c =
    leases-marked c.self.inside.rows.items c.close.new.rows.items true false _ c.close.ensures.kept
    ∙ ap (λ (b : BookView). marked true (c.args.run - 1) b.leases) c.self.view_is

pub returns-else-is_near-clause-leases : goal.returns-else-is_near-clause-leases
returns-else-is_near-clause-leases c =
    leases-marked c.self.inside.rows.items c.mark.new.rows.items true true _ c.mark.ensures.kept
    ∙ ap (λ (b : BookView). marked true (c.args.run - 1) b.leases) c.self.view_is
