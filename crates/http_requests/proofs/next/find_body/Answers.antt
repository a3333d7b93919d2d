use Rattle.std.proofs.Common.{◌<◌, Bool, length, drop, refl, sym, subst, arith}
use Rattle.http_requests.specs.Next.{AwaitsBody, IsNextFor, refusal}
use Rattle.http_requests.specs.declared.next.Awaited.{Awaited}
use Rattle.http_words.specs.declared.fault.Fault.TheVariants as fault
use Rattle.http_requests.proofs.Counts.{awaited-room}
use Rattle.http_requests.proofs.Read.{body-awaited, body-cut, body-whole}
use Rattle.http_requests.proofs.next.find_body.Goals as goal

pub returns-then-request-held-clause-found : goal.returns-then-request-held-clause-found
returns-then-request-held-clause-found c = record {
  says = body-whole c.args.ended c.args.held.now c.args.request c.requires c.if-request-held.true;
  keeps = c.new.ensures (drop c.args.request.size c.args.held.now);
}

pub returns-then-ended-clause-found : goal.returns-then-ended-clause-found
returns-then-ended-clause-found c =
    let held = c.args.held.now in
    let request = c.args.request in
    let short : length held < request.size = omega (arith, c.if-request-held.false) in
    c.found_refused.ensures.found c.args.ended held
    (subst (λ (e : Bool). IsNextFor e held (refusal request.interim request.withheld fault.BadRequest)) (sym c.if-ended.true)
    (body-cut held request c.requires short))

pub returns-clause-found : goal.returns-clause-found
returns-clause-found c =
    let held = c.args.held.now in
    let request = c.args.request in
    let awaited : Awaited = record { interim = request.interim; size = request.size } in
    let short : length held < request.size = omega (arith, c.if-request-held.false) in
    record {
      says = subst (λ (e : Bool). AwaitsBody e held awaited) (sym c.if-ended.false) (body-awaited held request awaited c.requires short refl refl);
      keeps = c.of_body.ensures.is held c.requires;
    }

pub returns-then-ended-clause-most : goal.returns-then-ended-clause-most
returns-then-ended-clause-most c =
    let held = c.args.held.now in
    omega (arith, c.found_refused.ensures.most held, (awaited-room c.args.request held c.requires).0)
