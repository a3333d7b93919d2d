use Rattle.std.proofs.Common.{◌≡◌, nat_eq, ◌<◌, true, false, length, sym, ◌∙◌, arith}
use Rattle.std.proofs.lemmas.Bool.{eqb-false, eqb-true}
use Rattle.audit_check.proofs.Adding.{adding-all, adding-less, adding-none, adding-one, adding-stops}
use Rattle.audit_check.proofs.entries.add_entries.Goals as goal

pub loop-rest-init : goal.loop-rest-init
loop-rest-init c =
    adding-none c.args.payload.now c.args.entries.now.items (λ i. omega (arith, c.type_inv.payload i))

pub loop-rest-smaller : goal.loop-rest-smaller
loop-rest-smaller c =
    let tested : nat_eq (length c.loop-rest.rest.now) 0 ≡ false = sym c.is_empty.ensures ∙ c.loop-rest-test.true in
    let other = eqb-false _ _ tested in
    let some : 0 < length c.loop-rest.rest.now = omega arith in
    adding-less c.args.payload.now c.args.entries.now.items c.loop-rest.entries.items c.loop-rest.rest.now
    c.loop-rest.invariant some c.in-Ok.one c.in-Ok.behind.now c.in-Ok.ensures

pub loop-rest-preserved : goal.loop-rest-preserved
loop-rest-preserved c =
    let tested : nat_eq (length c.loop-rest.rest.now) 0 ≡ false = sym c.is_empty.ensures ∙ c.loop-rest-test.true in
    let other = eqb-false _ _ tested in
    let some : 0 < length c.loop-rest.rest.now = omega arith in
    rw c.in_ok-push-in-Ok.ensures.items
    (adding-one c.args.payload.now c.args.entries.now.items c.loop-rest.entries.items c.loop-rest.rest.now
    c.loop-rest.invariant some c.in-Ok.one c.in-Ok.behind.now c.in-Ok.ensures)

pub returns-in-Err-Malformed : goal.returns-in-Err-Malformed
returns-in-Err-Malformed c =
    let none = rw c.in-Err-Malformed.field-0-is at c.in-Err-Malformed.ensures in
    let tested : nat_eq (length c.loop-rest.rest.now) 0 ≡ false = sym c.is_empty.ensures ∙ c.loop-rest-test.true in
    let other = eqb-false _ _ tested in
    let some : 0 < length c.loop-rest.rest.now = omega arith in
    adding-stops c.args.payload.now c.args.entries.now.items c.loop-rest.entries.items c.loop-rest.rest.now
    c.loop-rest.invariant some none

pub returns : goal.returns
returns c =
    let tested : nat_eq (length c.loop-rest.rest.now) 0 ≡ true = sym c.is_empty.ensures ∙ c.loop-rest-test.false in
    let empty : length c.loop-rest.rest.now ≡ 0 = eqb-true _ _ tested in
    adding-all c.args.payload.now c.args.entries.now.items c.loop-rest.entries.items c.loop-rest.rest.now
    c.loop-rest.invariant empty
