use Rattle.std.proofs.Common.{◌+◌, ◌<◌, ◌||◌, length, drop, Bool, sym, ap, ◌∙◌, arith}
use Rattle.std.specs.List.{list_any}
use Rattle.farm_entry.specs.History.{openings}
use Rattle.farm_entry.specs.Standing.{is_active, standing}
use Rattle.farm_entry.specs.declared.opening.Opening.{Opening}
use Rattle.plain_history.proofs.Holding.{is_held}
use Rattle.plain_farm.proofs.Busy.{any-from}
use Rattle.plain_farm.proofs.closing.has_active_by.Goals as goal

pub is_active_in-requires-clause-held : goal.is_active_in-requires-clause-held
is_active_in-requires-clause-held c =
    let below : c.loop-entry.entry-index < length c.args.history.now = omega arith in
    is_held c.args.history.now c.loop-entry.entry-index c.entry-item.result below c.entry-item.is

pub loop-entry-preserved : goal.loop-entry-preserved
loop-entry-preserved c =
    let H = c.args.history.now in
    let i = c.loop-entry.entry-index in
    let below : i < length H = omega arith in
    let one = λ (o : Opening). is_active (standing H o) in
    let rest = list_any one (openings (drop (i + 1) H)) in
    ap (λ (b : Bool). b || rest) (sym c.if-branch.false ∙ c.in_ok-is_active_in.ensures)
    ∙ sym (any-from one H i c.entry-item.result below c.entry-item.is)
    ∙ c.loop-entry.invariant
