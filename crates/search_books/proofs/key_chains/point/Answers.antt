use Rattle.std.proofs.Common.{arith, sym, refl, ◌-◌, ◌≡◌, length, get_or, subst}
use Rattle.search_books.specs.KeyChains.{blank}
use Rattle.search_books.specs.declared.key_chains.Item.{Item}
use Rattle.search_books.proofs.KeyEnds.{read_at}
use Rattle.search_books.proofs.KeyWalks.{IsWalk, walk-next, walk-was}
use Rattle.search_books.proofs.KeyMoves.{linked-head, linked-item, down-item}
use Rattle.search_books.proofs.key_chains.point.Goals as goal

pub loop-next-preserved : goal.loop-next-preserved
loop-next-preserved c =
    let read : c.index.result.now ≡ get_or c.args.items.now.items (c.loop-next.next - 1) blank =
    read_at c.args.items.now.items (c.loop-next.next - 1) _ c.index.ensures
    (omega (arith, c.loop-next.invariant.within, c.loop-next-test.true)) in
    subst (λ (x : Item). IsWalk c.args.heads.now.items c.args.items.now.items c.args.bucket c.args.at
    c.loop-next.next x.below) (sym read)
    (walk-next c.args.heads.now.items c.args.items.now.items c.args.bucket c.args.at c.loop-next.above
    c.loop-next.next (c.loop-next.next - 1)
    c.requires.down c.loop-next.invariant c.loop-next-test.true (omega (arith, c.loop-next-test.true)))

pub returns-then-above-eq0-clause-was : goal.returns-then-above-eq0-clause-was
returns-then-above-eq0-clause-was c =
    λ h l. walk-was h c.args.bucket c.args.at (length c.args.items.now.items) c.loop-next.above c.loop-next.next
    (c.loop-next.invariant.linked h l)
    c.loop-next-test.false c.requires.at

pub returns-else-above-eq0-clause-was : goal.returns-else-above-eq0-clause-was
returns-else-above-eq0-clause-was c =
    λ h l. walk-was h c.args.bucket c.args.at (length c.args.items.now.items) c.loop-next.above c.loop-next.next
    (c.loop-next.invariant.linked h l)
    c.loop-next-test.false c.requires.at

pub returns-then-above-eq0-clause-linked : goal.returns-then-above-eq0-clause-linked
returns-then-above-eq0-clause-linked c =
    λ h k l moved is.
    linked-head h k c.args.at c.args.bucket c.args.to c.loop-next.next c.args.heads.now.items
    c.args.items.now.items l moved is c.loop-next-test.false
    c.requires.at ((c.loop-next.invariant.linked h l).from_head c.if-above-eq0.true) c.requires.bucket

pub returns-else-above-eq0-clause-linked : goal.returns-else-above-eq0-clause-linked
returns-else-above-eq0-clause-linked c =
    λ h k l moved is.
    let found = (c.loop-next.invariant.linked h l).from_item (c.loop-next.above - 1)
    (omega (arith, c.if-above-eq0.false)) in
    linked-item h k c.args.at c.args.bucket c.args.to c.loop-next.next c.args.heads.now.items
    c.args.items.now.items l moved is c.loop-next-test.false
    c.requires.at (c.loop-next.above - 1) found.0 found.1 found.2 found.3 _ refl

pub returns-else-above-eq0-clause-down : goal.returns-else-above-eq0-clause-down
returns-else-above-eq0-clause-down c =
    let place = c.loop-next.invariant.above_at (c.loop-next.above - 1) (omega (arith, c.if-above-eq0.false)) in
    down-item c.args.heads.now.items c.args.items.now.items (c.loop-next.above - 1) _ c.requires.down
    (omega (arith, place.0, c.requires.to))
    (omega (arith, c.if-above-eq0.false, c.loop-next.invariant.above_within))
