use Rattle.std.proofs.Common.{◌<◌, Bool, length, sym, subst, arith}
use Rattle.http_requests.specs.Next.{AwaitsHead}
use Rattle.http_words.specs.declared.limits.TheConstants.{MAX_HEAD_BYTES}
use Rattle.http_requests.proofs.Read.{bad-full, begun-on, blank-awaits, blank-idle}
use Rattle.http_requests.proofs.next.find_blank.Goals as goal

pub returns-then-held-ge-MAX_HEAD_BYTES-clause-found : goal.returns-then-held-ge-MAX_HEAD_BYTES-clause-found
returns-then-held-ge-MAX_HEAD_BYTES-clause-found c =
    c.found_refused.ensures.found c.args.ended c.args.held.now
    (bad-full c.args.ended c.args.look c.args.held.now c.requires.through c.if-held-ge-MAX_HEAD_BYTES.true)

pub returns-then-ended-clause-found : goal.returns-then-ended-clause-found
returns-then-ended-clause-found c =
    let few : length c.args.held.now < MAX_HEAD_BYTES = omega (arith, c.if-held-ge-MAX_HEAD_BYTES.false) in
    record {
      says = (c.if-ended.true, blank-idle c.args.look c.args.held.now c.requires.through c.requires.blank few);
      keeps = c.new.ensures c.args.held.now;
    }

pub returns-clause-found : goal.returns-clause-found
returns-clause-found c =
    let held = c.args.held.now in
    let few : length held < MAX_HEAD_BYTES = omega (arith, c.if-held-ge-MAX_HEAD_BYTES.false) in
    c.found_more.ensures.found c.args.ended held
    (subst (λ (e : Bool). AwaitsHead e held) (sym c.if-ended.false) (blank-awaits c.args.look held c.requires.through c.requires.blank few))
    (begun-on c.args.look c.args.tried held c.requires.through c.requires.tried few)
