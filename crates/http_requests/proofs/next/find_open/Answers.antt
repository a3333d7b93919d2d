use Rattle.std.proofs.Common.{◌<◌, Bool, length, sym, subst, arith}
use Rattle.http_requests.specs.Next.{AwaitsHead, HasNoHeadFor}
use Rattle.http_words.specs.declared.limits.TheConstants.{MAX_HEAD_BYTES}
use Rattle.http_requests.proofs.Read.{bad-full, bad-open, begun-on, ended-headless, now-awaits, through-lines, through-none, tried-all, tried-awaits}
use Rattle.http_requests.proofs.next.find_open.Goals as goal

pub returns-then-ended-clause-found : goal.returns-then-ended-clause-found
returns-then-ended-clause-found g c =
    let held = c.args.held.now in
    let none = subst (λ (e : Bool). HasNoHeadFor e held) (sym c.if-ended.true) (ended-headless c.args.look held c.requires.through) in
    c.found_refused.ensures.found c.args.ended held (bad-open c.args.ended c.args.look held c.requires.through c.requires.busy none)

pub returns-then-held-ge-MAX_HEAD_BYTES-clause-found : goal.returns-then-held-ge-MAX_HEAD_BYTES-clause-found
returns-then-held-ge-MAX_HEAD_BYTES-clause-found g c =
    c.found_refused-then-held-ge-MAX_HEAD_BYTES.ensures.found c.args.ended c.args.held.now
    (bad-full c.args.ended c.args.look c.args.held.now c.requires.through c.if-held-ge-MAX_HEAD_BYTES.true)

pub returns-then-look-tried-clause-found : goal.returns-then-look-tried-clause-found
returns-then-look-tried-clause-found g c =
    let held = c.args.held.now in
    let few : length held < MAX_HEAD_BYTES = omega (arith, c.if-held-ge-MAX_HEAD_BYTES.false) in
    c.found_more.ensures.found c.args.ended held
    (subst (λ (e : Bool). AwaitsHead e held) (sym c.if-ended.false)
    (tried-awaits c.args.look c.args.tried held c.requires.through c.requires.tried few c.if-look-tried.true))
    (begun-on c.args.look c.args.tried held c.requires.through c.requires.tried few)

pub may_become_head-requires-clause-none : goal.may_become_head-requires-clause-none
may_become_head-requires-clause-none g c = through-none c.args.look c.args.held.now c.requires.through

pub may_become_head-requires-clause-lines : goal.may_become_head-requires-clause-lines
may_become_head-requires-clause-lines g c =
    through-lines c.args.look c.args.held.now c.requires.through (omega (arith, c.if-held-ge-MAX_HEAD_BYTES.false))

pub returns-then-may_become_head-clause-found : goal.returns-then-may_become_head-clause-found
returns-then-may_become_head-clause-found g c =
    let held = c.args.held.now in
    let look = c.args.look in
    let few : length held < MAX_HEAD_BYTES = omega (arith, c.if-held-ge-MAX_HEAD_BYTES.false) in
    let may = c.may_become_head.ensures.may c.if-may_become_head.true in
    c.found_more-then-may_become_head.ensures.found c.args.ended held
    (subst (λ (e : Bool). AwaitsHead e held) (sym c.if-ended.false) (now-awaits look held c.requires.through c.requires.busy few may))
    (begun-on look look.count held c.requires.through (tried-all look held c.requires.through few may) few)

pub returns-clause-found : goal.returns-clause-found
returns-clause-found g c =
    let none = c.may_become_head.ensures.never c.if-may_become_head.false c.args.ended in
    c.found_refused-2.ensures.found c.args.ended c.args.held.now
    (bad-open c.args.ended c.args.look c.args.held.now c.requires.through c.requires.busy none)
