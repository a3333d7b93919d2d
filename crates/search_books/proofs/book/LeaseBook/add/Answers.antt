use Rattle.std.proofs.Common.{arith, ap, subst, sym, ◌∙◌, ◌<◌, ◌≤◌, ◌++◌, ◌∷◌, [], ℕ, true, false, refl, List, length, get_or}
use Rattle.search_books.specs.Leases.{BookView}
use Rattle.search_books.specs.LeaseChains.{AreTimed, Kept, kepts, none}
use Rattle.search_books.specs.declared.lease_chains.Row.{Row}
use Rattle.search_books.proofs.Kepts.{leases-length}
use Rattle.search_books.proofs.Reclosed.{book-added, leases-added}
use Rattle.search_books.proofs.book.LeaseBook.add.Goals as goal

pub latest-requires : goal.latest-requires
latest-requires c =
    subst (λ (rows : List Row). AreTimed (kepts rows)) (sym c.deref.ensures.value) c.self.invariant.kept.timed

pub link-requires-clause-search : goal.link-requires-clause-search
link-requires-clause-search c = omega (arith, ap (λ (b : BookView). b.search_bound) c.self.view_is, c.requires.search)

pub link-requires-clause-room : goal.link-requires-clause-room
link-requires-clause-room c = omega (arith, ap (λ (b : BookView). b.room) c.self.view_is, c.requires.room)

pub invariant_of-self : goal.invariant_of-self
invariant_of-self c =
    let rows = c.self.inside.rows.items in
    let before = subst
    (λ (xs : List Row). (k : ℕ) → k < length xs → (get_or (kepts xs) k none).lease.deadline ≤ c.latest.result)
    c.deref.ensures.value c.latest.ensures in
    let k : Kept = record {
      lease = c.args.lease;
      is_answered = false;
      is_linked = true;
      greatest = c.max-greatest.result;
    } in
    book-added c.self.inside.heads.items c.link.new.heads.items rows c.link.new.rows.items _ _ c.self.invariant
    c.link.ensures.linked
    c.link.ensures.heads c.link.ensures.capacity k c.link.ensures.kept c.link.ensures.len
    (omega (arith, ap (λ (b : BookView). b.room) c.self.view_is, c.requires.room))
    (omega (arith, ap (λ (b : BookView). length b.leases) c.self.view_is, leases-length rows, c.requires.number))
    (omega (arith, ap (λ (b : BookView). b.search_bound) c.self.view_is, c.requires.search))
    refl
    (λ i low. omega (arith, before i low, c.max-greatest.ensures))
    (omega (arith, c.max-greatest.ensures))

pub returns-clause-leases : goal.returns-clause-leases
returns-clause-leases c =
    leases-added c.self.inside.rows.items c.link.new.rows.items _ c.link.ensures.kept
    ∙ ap (λ (b : BookView). b.leases ++ record { lease = c.args.lease; is_answered = false } ∷ []) c.self.view_is
