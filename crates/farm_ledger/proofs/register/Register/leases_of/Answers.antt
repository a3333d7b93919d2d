use Rattle.std.proofs.Common.{List, length, sym, ap, ◌∙◌}
use Rattle.farm_entry.specs.History.{leases}
use Rattle.farm_entry.specs.declared.entry.Entry.{Entry}
use Rattle.farm_ledger.specs.Rows.{row_numbered}
use Rattle.farm_ledger.proofs.Found.{row-there, row-unleased}
use Rattle.farm_ledger.proofs.register.Register.leases_of.Goals as goal

pub returns-in-None : goal.returns-in-None
returns-in-None c =
    let H : List Entry = c.self.inside.turns in
    let n = c.args.number in
    let rows = c.self.inside.rows.items in
    let is = ap (row_numbered n) (sym c.deref.ensures.value) ∙ sym c.row_of.ensures ∙ c.in-None.is in
    sym (row-unleased H rows n c.self.invariant.legal c.self.invariant.rows is)
    ∙ ap (λ (X : List Entry). length (leases X n)) c.self.view_is

pub returns-in-Some : goal.returns-in-Some
returns-in-Some c =
    let H : List Entry = c.self.inside.turns in
    let n = c.args.number in
    let rows = c.self.inside.rows.items in
    let is = ap (row_numbered n) (sym c.deref.ensures.value) ∙ sym c.row_of.ensures ∙ c.in-Some.is in
    let s = row-there H rows n c.in-Some.row c.self.invariant.legal c.self.invariant.rows is in
    s.count ∙ ap (λ (X : List Entry). length (leases X n)) c.self.view_is
