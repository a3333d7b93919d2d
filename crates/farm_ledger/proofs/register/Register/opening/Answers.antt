use Rattle.std.proofs.Common.{◌≡◌, List, Some, length, get_or, Contains, sym, ap, subst, ◌∙◌, arith}
use Rattle.std.specs.Option.{option_copied}
use Rattle.farm_entry.specs.History.{opening_in, opening_numbered, openings}
use Rattle.farm_entry.specs.declared.entry.Entry.{Entry}
use Rattle.farm_ledger.specs.Rows.{row_numbered}
use Rattle.farm_ledger.proofs.Found.{copied-holds, row-none, row-there}
use Rattle.farm_ledger.proofs.register.Register.opening.Goals as goal

pub returns-in_default-clause-found : goal.returns-in_default-clause-found
returns-in_default-clause-found c =
    let n = c.args.number in
    let rows = c.self.inside.rows.items in
    let is = ap (row_numbered n) (sym c.deref.ensures.value) ∙ sym c.row_of.ensures ∙ c.in_default.is in
    sym (row-none c.self.inside.turns rows n c.self.invariant.legal c.self.invariant.rows is)
    ∙ ap (λ (X : List Entry). opening_numbered X n) c.self.view_is

pub bounds-history-row : goal.bounds-history-row
bounds-history-row c =
    let n = c.args.number in
    let rows = c.self.inside.rows.items in
    let is = ap (row_numbered n) (sym c.deref.ensures.value) ∙ sym c.row_of.ensures ∙ c.in-Some.is in
    let s = row-there c.self.inside.turns rows n c.in-Some.row c.self.invariant.legal c.self.invariant.rows is in
    omega (arith, s.within, ap length c.history.ensures.history, ap length c.self.view_is)

pub returns-clause-found : goal.returns-clause-found
returns-clause-found c =
    let n = c.args.number in
    let rows = c.self.inside.rows.items in
    let e : Entry = c.index-history-row.result in
    let place = c.in-Some.row.place in
    let is = ap (row_numbered n) (sym c.deref.ensures.value) ∙ sym c.row_of.ensures ∙ c.in-Some.is in
    let s = row-there c.self.inside.turns rows n c.in-Some.row c.self.invariant.legal c.self.invariant.rows is in
    c.opening.ensures
    ∙ ap (λ (X : List Entry). opening_in (get_or X place e).what) (c.history.ensures.history ∙ sym c.self.view_is)
    ∙ s.opens e
    ∙ sym s.known
    ∙ ap (λ (X : List Entry). opening_numbered X n) c.self.view_is

pub returns-clause-held : goal.returns-clause-held
returns-clause-held c =
    let n = c.args.number in
    let rows = c.self.inside.rows.items in
    let e : Entry = c.index-history-row.result in
    let place = c.in-Some.row.place in
    let is = ap (row_numbered n) (sym c.deref.ensures.value) ∙ sym c.row_of.ensures ∙ c.in-Some.is in
    let s = row-there c.self.inside.turns rows n c.in-Some.row c.self.invariant.legal c.self.invariant.rows is in
    let found : option_copied c.opening.result ≡ Some s.opening =
    c.opening.ensures
    ∙ ap (λ (X : List Entry). opening_in (get_or X place e).what) (c.history.ensures.history ∙ sym c.self.view_is)
    ∙ s.opens e in
    copied-holds (Contains (openings c.args.self.now)) c.opening.result s.opening found
    (subst (λ (X : List Entry). Contains (openings X) s.opening) c.self.view_is s.there)
