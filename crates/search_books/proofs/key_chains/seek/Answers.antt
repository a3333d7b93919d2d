use Rattle.std.proofs.Common.{arith, refl, ◌-◌, ◌≡◌, length}
use Rattle.search_books.specs.Bucket.{home_of}
use Rattle.search_books.proofs.KeyWalks.{sought-start, sought-next, sought-smaller}
use Rattle.search_books.proofs.key_chains.seek.Goals as goal

pub loop-at-init : goal.loop-at-init
loop-at-init c =
    let same : c.home.result ≡ home_of (length c.args.heads.now) c.args.key = c.home.ensures.home in
    sought-start c.args.key c.args.heads.now c.args.items.now c.requires.linked
    (omega (arith, same, c.home.ensures.in_range)) _ (rw same refl)

pub loop-at-smaller : goal.loop-at-smaller
loop-at-smaller c =
    sought-smaller c.args.key c.args.heads.now c.args.items.now c.requires.linked c.loop-at.at
    (c.loop-at.at - 1) c.loop-at.invariant
    (omega (arith, c.loop-at-test.true))

pub loop-at-preserved : goal.loop-at-preserved
loop-at-preserved c =
    sought-next c.args.key c.args.heads.now c.args.items.now c.requires.linked c.loop-at.at
    (c.loop-at.at - 1) c.loop-at.invariant
    (omega (arith, c.loop-at-test.true)) c.if-item-key.false
