use Rattle.std.proofs.Common.{◌+◌, ℕ, Option, Some, None, length, sym, ◌∙◌, ap, arith}
use Rattle.std.specs.Option.{option_or}
use Rattle.std.specs.Prelude.{if◌then◌else◌, nat_lt}
use Rattle.farm_journal.specs.declared.layout.TheConstants.{MAGIC}
use Rattle.farm_journal.proofs.Scan.{difference-here, difference-later}
use Rattle.farm_journal.proofs.reading.find_header_fault.Goals as goal

pub returns-then-i-bytes : goal.returns-then-i-bytes
returns-then-i-bytes c =
    let found = c.loop-i.invariant
    ∙ difference-here (c.loop-i.i + 1) c.loop-i.i MAGIC c.args.bytes.now (omega arith)
    (λ long same. absurd (omega arith)) in
    let last : Option ℕ = if nat_lt 15 (length c.args.bytes.now) then None else Some 15 in
    ap (λ (o : Option ℕ). option_or o last) (sym found)

pub returns-then-bytes-i : goal.returns-then-bytes-i
returns-then-bytes-i c =
    let found = c.loop-i.invariant
    ∙ difference-here (c.loop-i.i + 1) c.loop-i.i MAGIC c.args.bytes.now (omega arith) (λ long. c.if-bytes-i.true) in
    let last : Option ℕ = if nat_lt 15 (length c.args.bytes.now) then None else Some 15 in
    ap (λ (o : Option ℕ). option_or o last) (sym found)

pub loop-i-preserved : goal.loop-i-preserved
loop-i-preserved c =
    c.loop-i.invariant
    ∙ difference-later (c.loop-i.i + 1) c.loop-i.i MAGIC c.args.bytes.now (omega arith) (omega arith) c.if-bytes-i.false
