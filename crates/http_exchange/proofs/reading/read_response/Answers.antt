use Rattle.std.proofs.Common.{length, ap, refl, subst, arith}
use Rattle.httparse.specs.Grammar.{HasNoResponse, MayBecomeResponse}
use Rattle.httparse.specs.Spans.{IsResponseOf, IsResponseWithin, ResponseOverflows}
use Rattle.http_exchange.proofs.Heads.{take-few, take-short}
use Rattle.http_exchange.proofs.Says.{complete-of, partial-of, says-found, says-full, says-more, says-never}
use Rattle.http_words.specs.declared.limits.TheConstants.{MAX_FIELDS, MAX_HEAD_BYTES}
use Rattle.http_exchange.proofs.reading.read_response.Goals as goal

pub behind_head-requires-clause-within : goal.behind_head-requires-clause-within
behind_head-requires-clause-within c =
    let found = c.in-Ok-Complete in
    let within =
    complete-of found.field-0 found.head (IsResponseWithin c.front_of-front.result.now c.parse_response.new.headers)
    found.field-0-is found.ensures.within in
    let fits = within.section.len_fits in
    let front = ap length c.front_of-front.ensures in
    let short = take-short MAX_HEAD_BYTES c.args.held.now in
    omega (arith, fits, front, short)

pub behind_head-requires-clause-short : goal.behind_head-requires-clause-short
behind_head-requires-clause-short c =
    let found = c.in-Ok-Complete in
    let within =
    complete-of found.field-0 found.head (IsResponseWithin c.front_of-front.result.now c.parse_response.new.headers)
    found.field-0-is found.ensures.within in
    let fits = within.section.len_fits in
    let front = ap length c.front_of-front.ensures in
    let few = take-few MAX_HEAD_BYTES c.args.held.now in
    omega (arith, fits, front, few)

pub returns-in-Ok-Complete : goal.returns-in-Ok-Complete
returns-in-Ok-Complete c =
    let found = c.in-Ok-Complete in
    says-found c.args.held.now c.front_of-front.result.now c.parse_response.new.headers found.head
    c.front_of-front.ensures c.parse_response.auto.headers
    (complete-of found.field-0 found.head (IsResponseOf c.front_of-front.result.now c.parse_response.new.headers)
    found.field-0-is found.ensures.complete)
    _ refl _ c.behind_head.ensures

pub returns-then-held-lt-MAX_HEAD_BYTES : goal.returns-then-held-lt-MAX_HEAD_BYTES
returns-then-held-lt-MAX_HEAD_BYTES c =
    let short = c.if-held-lt-MAX_HEAD_BYTES.true in
    let partial = c.in-Ok-Partial in
    says-more c.args.held.now (omega (arith, short))
    (subst HasNoResponse c.front_of-front.ensures
    (partial-of partial.field-0 (HasNoResponse c.front_of-front.result.now) partial.field-0-is partial.ensures.partial))
    (subst MayBecomeResponse c.front_of-front.ensures
    (partial-of partial.field-0 (MayBecomeResponse c.front_of-front.result.now) partial.field-0-is
    partial.ensures.unfinished))
    _ refl

pub returns-else-held-lt-MAX_HEAD_BYTES : goal.returns-else-held-lt-MAX_HEAD_BYTES
returns-else-held-lt-MAX_HEAD_BYTES c =
    let full = c.if-held-lt-MAX_HEAD_BYTES.false in
    let partial = c.in-Ok-Partial in
    says-full c.args.held.now (omega (arith, full))
    (subst HasNoResponse c.front_of-front.ensures
    (partial-of partial.field-0 (HasNoResponse c.front_of-front.result.now) partial.field-0-is partial.ensures.partial))

pub returns-in-Err : goal.returns-in-Err
returns-in-Err c =
    says-never c.args.held.now
    (subst (ResponseOverflows MAX_FIELDS) c.front_of-front.ensures c.in-Err.ensures.no_room)
