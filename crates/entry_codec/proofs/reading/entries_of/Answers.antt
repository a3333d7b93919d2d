use Rattle.std.proofs.Common.{◌≡◌, nat_eq, false, length, sym, ◌∙◌, arith}
use Rattle.std.proofs.lemmas.Bool.{eqb-false}
use Rattle.entry_codec.proofs.ListLaws.{reads_less, reads_none, reads_one}
use Rattle.entry_codec.proofs.reading.entries_of.Goals as goal

pub loop-rest-smaller : goal.loop-rest-smaller
loop-rest-smaller c =
    reads_less c.args.bytes.now c.loop-rest.entries.items c.loop-rest.rest.now (λ i. omega (arith, c.type_inv.bytes i))
    c.loop-rest.invariant c.in-Ok.entry c.in-Ok.after.now c.in-Ok.ensures

pub loop-rest-preserved : goal.loop-rest-preserved
loop-rest-preserved c =
    rw c.in_ok-push-in-Ok.ensures.items
    (reads_one c.args.bytes.now c.loop-rest.entries.items c.loop-rest.rest.now (λ i. omega (arith, c.type_inv.bytes i))
    c.loop-rest.invariant c.in-Ok.entry c.in-Ok.after.now c.in-Ok.ensures)

pub returns-in-Err-Malformed-clause-bad : goal.returns-in-Err-Malformed-clause-bad
returns-in-Err-Malformed-clause-bad c =
    let none = rw c.in-Err-Malformed.field-0-is at c.in-Err-Malformed.ensures in
    let some : nat_eq (length c.loop-rest.rest.now) 0 ≡ false = sym c.is_empty.ensures ∙ c.loop-rest-test.true in
    let other = eqb-false _ _ some in
    reads_none c.args.bytes.now c.loop-rest.entries.items c.loop-rest.rest.now c.loop-rest.invariant none (omega arith)
