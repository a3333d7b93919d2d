use Rattle.std.proofs.Common.{◌+◌, ℕ, Option, Some, None, length, sym, ◌∙◌, ap, arith}
use Rattle.std.specs.Option.{option_or}
use Rattle.std.specs.Prelude.{if◌then◌else◌, nat_lt}
use Rattle.farm_journal.specs.declared.layout.TheConstants.{MAGIC}
use Rattle.farm_journal.proofs.Scan.{difference-here, difference-later}
use Rattle.audit_check.proofs.gates.header_fault.Goals as goal

pub returns-then-bytes-before : goal.returns-then-bytes-before
returns-then-bytes-before c =
    let found = c.loop-before.invariant
    ∙ difference-here (c.loop-before.before + 1) c.loop-before.before MAGIC c.args.bytes.now (omega arith)
    (λ long same. absurd (omega arith)) in
    let last : Option ℕ = if nat_lt 15 (length c.args.bytes.now) then None else Some 15 in
    ap (λ (o : Option ℕ). option_or o last) (sym found)

pub returns-then-bytes-before-2 : goal.returns-then-bytes-before-2
returns-then-bytes-before-2 c =
    let found = c.loop-before.invariant
    ∙ difference-here (c.loop-before.before + 1) c.loop-before.before MAGIC c.args.bytes.now (omega arith)
    (λ long. c.if-bytes-before-2.true) in
    let last : Option ℕ = if nat_lt 15 (length c.args.bytes.now) then None else Some 15 in
    ap (λ (o : Option ℕ). option_or o last) (sym found)

pub loop-before-preserved : goal.loop-before-preserved
loop-before-preserved c =
    c.loop-before.invariant
    ∙ difference-later (c.loop-before.before + 1) c.loop-before.before MAGIC c.args.bytes.now (omega arith) (omega arith)
    c.if-bytes-before-2.false
