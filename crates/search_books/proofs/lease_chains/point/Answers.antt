use Rattle.std.proofs.Common.{arith, refl, ap, sym, subst, ◌∙◌, ◌-◌, ◌≡◌, ◌<◌, ◌≤◌, suc, length, get_or}
use Rattle.search_books.specs.LeaseChains.{IsAbove, blank, chains, kept_of, kepts}
use Rattle.search_books.specs.declared.lease_chains.Row.{Row}
use Rattle.search_books.proofs.LeaseEnds.{kepts-below, read_at, read_number}
use Rattle.search_books.proofs.LeaseWalks.{above-within, walk-falls, walk-next, walk-was}
use Rattle.search_books.proofs.LeaseReplaced.{linked-skip}
use Rattle.search_books.proofs.LeaseMoves.{linked-head, linked-row}
use Rattle.search_books.proofs.lease_chains.point.Goals as goal

pub loop-next-init : goal.loop-next-init
loop-next-init c = record {
  from_head = λ none.
      read_number c.args.heads.now.items c.args.search _ c.index-next.ensures c.requires.search
      ∙ c.requires.linked.head c.args.search c.requires.search;
  from_row = λ m same. absurd (omega (arith, same));
}

pub index-requires : goal.index-requires
index-requires c =
    let rows = c.args.rows.now.items in
    let within : c.loop-next.next ≤ length rows =
    above-within (chains (kepts rows)) (suc c.args.search) c.args.at (length rows) c.loop-next.above c.loop-next.next
    c.loop-next.invariant in
    omega (arith, within, c.loop-next-test.true)

pub index_mut-requires-else-above-eq0 : goal.index_mut-requires-else-above-eq0
index_mut-requires-else-above-eq0 c =
    let found = c.loop-next.invariant.from_row (c.loop-next.above - 1) (omega (arith, c.if-above-eq0.false)) in
    let low : c.loop-next.above - 1 < length c.args.rows.now.items = found.1 in
    omega (arith, low)

pub loop-next-smaller : goal.loop-next-smaller
loop-next-smaller c =
    let rows = c.args.rows.now.items in
    let within = above-within (chains (kepts rows)) (suc c.args.search) c.args.at
    (length rows) c.loop-next.above c.loop-next.next c.loop-next.invariant in
    let read : c.index.result.now ≡ get_or rows (c.loop-next.next - 1) blank =
    read_at rows (c.loop-next.next - 1) _ c.index.ensures (omega (arith, within, c.loop-next-test.true)) in
    subst (λ (x : Row). x.below < c.loop-next.next) (sym read)
    (walk-falls c.args.heads.now.items rows c.args.search c.args.at c.loop-next.above c.loop-next.next
    (c.loop-next.next - 1)
    c.requires.linked c.loop-next.invariant (omega (arith, c.loop-next-test.true)))

pub loop-next-preserved : goal.loop-next-preserved
loop-next-preserved c =
    let rows = c.args.rows.now.items in
    let within = above-within (chains (kepts rows)) (suc c.args.search) c.args.at
    (length rows) c.loop-next.above c.loop-next.next c.loop-next.invariant in
    let read : c.index.result.now ≡ get_or rows (c.loop-next.next - 1) blank =
    read_at rows (c.loop-next.next - 1) _ c.index.ensures (omega (arith, within, c.loop-next-test.true)) in
    subst (λ (x : Row). IsAbove (chains (kepts rows)) (suc c.args.search) c.args.at
    (length rows) c.loop-next.next x.below) (sym read)
    (walk-next c.args.heads.now.items rows c.args.search c.args.at c.loop-next.above c.loop-next.next
    (c.loop-next.next - 1)
    c.requires.linked c.loop-next.invariant (omega (arith, c.loop-next-test.true)) c.loop-next-test.true)

pub returns-then-above-eq0-clause-was : goal.returns-then-above-eq0-clause-was
returns-then-above-eq0-clause-was c =
    walk-was (chains (kepts c.args.rows.now.items)) (suc c.args.search) c.args.at
    (length c.args.rows.now.items) c.loop-next.above
    c.loop-next.next c.loop-next.invariant c.loop-next-test.false c.requires.at

pub returns-else-above-eq0-clause-was : goal.returns-else-above-eq0-clause-was
returns-else-above-eq0-clause-was c =
    walk-was (chains (kepts c.args.rows.now.items)) (suc c.args.search) c.args.at
    (length c.args.rows.now.items) c.loop-next.above
    c.loop-next.next c.loop-next.invariant c.loop-next-test.false c.requires.at

pub returns-then-above-eq0-clause-linked : goal.returns-then-above-eq0-clause-linked
returns-then-above-eq0-clause-linked c =
    λ k moved is.
    linked-head (chains (kepts c.args.rows.now.items)) k c.args.at c.args.search c.args.to c.loop-next.next
    c.args.heads.now.items
    c.args.rows.now.items (linked-skip
    (chains (kepts c.args.rows.now.items)) c.args.at c.args.heads.now.items c.args.rows.now.items
    c.requires.linked) moved is c.loop-next-test.false c.requires.at
    (c.loop-next.invariant.from_head c.if-above-eq0.true) c.requires.search

pub returns-else-above-eq0-clause-linked : goal.returns-else-above-eq0-clause-linked
returns-else-above-eq0-clause-linked c =
    λ k moved is.
    let found = c.loop-next.invariant.from_row (c.loop-next.above - 1) (omega (arith, c.if-above-eq0.false)) in
    linked-row (chains (kepts c.args.rows.now.items)) k c.args.at c.args.search c.args.to c.loop-next.next
    c.args.heads.now.items
    c.args.rows.now.items (linked-skip
    (chains (kepts c.args.rows.now.items)) c.args.at c.args.heads.now.items c.args.rows.now.items
    c.requires.linked) moved is c.loop-next-test.false c.requires.at
    (c.loop-next.above - 1) found.0 found.1 found.2 found.3 _ refl

pub returns-else-above-eq0-clause-kept : goal.returns-else-above-eq0-clause-kept
returns-else-above-eq0-clause-kept c =
    let rows = c.args.rows.now.items in
    let found = c.loop-next.invariant.from_row (c.loop-next.above - 1) (omega (arith, c.if-above-eq0.false)) in
    let read : c.index_mut-else-above-eq0.result.now ≡ get_or rows (c.loop-next.above - 1) blank =
    read_at rows (c.loop-next.above - 1) _ c.index_mut-else-above-eq0.ensures.value found.1 in
    kepts-below rows (c.loop-next.above - 1) _ (ap (λ (r : Row). kept_of r) read)
