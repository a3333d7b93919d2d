use Rattle.std.proofs.Common.{◌≡◌, ◌+◌, ◌-◌, ◌<◌, List, length, get_or, sym, ap, ◌∙◌, arith}
use Rattle.farm_entry.specs.History.{is_closing}
use Rattle.farm_entry.specs.declared.entry.Entry.{Entry}
use Rattle.farm_laws.proofs.Closings.{is_closed-at}
use Rattle.kept_farm.proofs.Keeping.{some-legal}
use Rattle.kept_farm.proofs.farm.KeptFarm.is_closed.Goals as goal

pub returns : goal.returns
returns c =
    let H : List Entry = c.args.self.now in
    let L : List Entry = c.history-history.result.now in
    let e : Entry = c.index-history-history.result in
    let legal = c.history-history.ensures.legal in
    let some : 0 < length H = some-legal H legal in
    let long : length L ≡ length H = ap length c.history-history.ensures.history in
    let last : length L - 1 + 1 ≡ length H = omega (arith, some, long) in
    c.is_closing.ensures
    ∙ ap (λ (X : List Entry). is_closing (get_or X (length L - 1) e).what) c.history-history.ensures.history
    ∙ sym (is_closed-at H (length L - 1) e legal last)
