use Rattle.std.proofs.Common.{arith, refl, ◌-◌}
use Rattle.search_books.proofs.Looks.{look-falls, look-late, look-next, look-space, look-start}
use Rattle.search_books.proofs.look.find_out.Goals as goal

pub loop-at-init : goal.loop-at-init
loop-at-init c =
    look-start c.args.search c.args.stage c.args.moment c.args.heads.now c.args.rows.now c.requires.linked
    c.requires.kept.waiting _ _ c.requires.search refl

pub loop-at-smaller : goal.loop-at-smaller
loop-at-smaller c =
    look-falls c.args.search c.args.stage c.args.moment c.args.heads.now c.args.rows.now c.requires.linked
    c.requires.kept.waiting _ _ c.loop-at.at (c.loop-at.at - 1) c.loop-at.invariant
    (omega (arith, c.loop-at-test.true))

pub returns-then-row-moment-clause-found : goal.returns-then-row-moment-clause-found
returns-then-row-moment-clause-found c =
    look-late c.args.search c.args.stage c.args.moment c.args.heads.now c.args.rows.now c.requires.linked
    c.requires.kept.waiting _ _ c.loop-at.at (c.loop-at.at - 1) c.loop-at.invariant
    (omega (arith, c.loop-at-test.true))
    c.requires.kept.timed c.if-row-moment.true

pub find_more-from-requires-clause-space : goal.find_more-from-requires-clause-space
find_more-from-requires-clause-space c =
    look-space c.args.search c.args.stage c.args.moment c.args.heads.now c.args.rows.now c.requires.linked
    c.requires.kept.waiting _ _ c.loop-at.at (c.loop-at.at - 1) c.loop-at.invariant
    (omega (arith, c.loop-at-test.true))
    (omega (arith, c.requires.few, c.loop-at.auto.found))

pub loop-at-preserved : goal.loop-at-preserved
loop-at-preserved c =
    look-next c.args.search c.args.stage c.args.moment c.args.heads.now c.args.rows.now c.requires.linked
    c.requires.kept.waiting _ _ c.loop-at.at (c.loop-at.at - 1) c.loop-at.invariant
    (omega (arith, c.loop-at-test.true))
    _ _ c.find_more-from.ensures.within c.find_more-from.ensures.found
