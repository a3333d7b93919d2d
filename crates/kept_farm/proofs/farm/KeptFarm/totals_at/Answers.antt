use Rattle.std.proofs.Common.{◌≡◌, ℕ, ◌+◌, ◌-◌, ◌≤◌, List, length, take, sym, ap, subst, ◌∙◌, arith, length-take-le}
use Rattle.farm_entry.specs.Pages.{totals}
use Rattle.farm_entry.specs.declared.entry.Entry.{Entry}
use Rattle.kept_farm.specs.Rows.{row_of}
use Rattle.kept_farm.proofs.Counting.{row-totals}
use Rattle.kept_farm.proofs.Keeping.{beside-at}
use Rattle.kept_farm.proofs.farm.KeptFarm.totals_at.Goals as goal

pub returns : goal.returns
returns c =
    let H : List Entry = c.self.inside.ledger in
    let n : ℕ = c.args.count in
    let within : n ≤ length H = subst (λ (X : List Entry). n ≤ length X) (sym c.self.view_is) c.requires.within in
    let back : n - 1 + 1 ≡ n = omega (arith, c.requires.some) in
    let row : c.index.result.now ≡ row_of (take n H) =
    c.index.ensures
    ∙ beside-at row_of H c.self.inside.rows.items (n - 1) c.index.result.now c.self.invariant.rows
    (omega (arith, within, c.requires.some))
    ∙ ap (λ (k : ℕ). row_of (take k H)) back in
    c.totals.ensures
    ∙ row-totals (take n H) c.index.result.now n row (sym (length-take-le n H within))
    ∙ ap (λ (X : List Entry). totals (take n X)) c.self.view_is
