use Rattle.std.proofs.Common.{◌≡◌, ◌<◌, List, length, sym, ap, ◌∙◌, arith}
use Rattle.farm_entry.specs.Closing.{has_active}
use Rattle.farm_entry.specs.declared.entry.Entry.{Entry}
use Rattle.kept_farm.specs.Rows.{row_of}
use Rattle.kept_farm.specs.declared.row.Row.{Row}
use Rattle.kept_farm.proofs.Active.{active-kept, either-first, either-second}
use Rattle.kept_farm.proofs.Keeping.{beside-last, some-legal}
use Rattle.kept_farm.proofs.farm.KeptFarm.has_active.Goals as goal

pub returns-then-row-gt0 : goal.returns-then-row-gt0
returns-then-row-gt0 c =
    let H : List Entry = c.self.inside.ledger in
    let h = c.self.invariant in
    let r : Row = c.index-row.result.now in
    let long : length c.history-entries.result.now ≡ length H =
    ap length (c.history-entries.ensures.history ∙ sym c.self.view_is) in
    let some : 0 < length H = some-legal H h.legal in
    let row : r ≡ row_of H =
    c.index-row.ensures
    ∙ beside-last row_of H c.self.inside.rows.items (length c.history-entries.result.now) r h.rows
    (omega (arith, long, h.rows.as_many)) (omega (arith, long, some)) in
    let searching : 0 < r.searching = omega (arith, c.if-row-gt0.true) in
    either-first r.searching r.verifying (has_active c.args.self.now) searching
    (active-kept H r row ∙ ap has_active c.self.view_is)

pub returns-else-row-gt0 : goal.returns-else-row-gt0
returns-else-row-gt0 c =
    let H : List Entry = c.self.inside.ledger in
    let h = c.self.invariant in
    let r : Row = c.index-row.result.now in
    let long : length c.history-entries.result.now ≡ length H =
    ap length (c.history-entries.ensures.history ∙ sym c.self.view_is) in
    let some : 0 < length H = some-legal H h.legal in
    let row : r ≡ row_of H =
    c.index-row.ensures
    ∙ beside-last row_of H c.self.inside.rows.items (length c.history-entries.result.now) r h.rows
    (omega (arith, long, h.rows.as_many)) (omega (arith, long, some)) in
    let none : r.searching ≡ 0 = omega (arith, c.if-row-gt0.false) in
    either-second r.searching r.verifying (has_active c.args.self.now) none
    (active-kept H r row ∙ ap has_active c.self.view_is)
