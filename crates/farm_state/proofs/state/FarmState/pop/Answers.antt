use Rattle.std.proofs.Common.{◌-◌, List, length, refl, sym, ap, subst, ◌∙◌}
use Rattle.std.specs.Option.{is_some}
use Rattle.farm_entry.specs.History.{cancelled_in, opening_in, told_in}
use Rattle.farm_entry.specs.Legal.{IsLegal}
use Rattle.farm_entry.specs.declared.entry.Entry.{Entry}
use Rattle.farm_state.proofs.Popping.{end-at, end-cancels}
use Rattle.farm_state.proofs.Searches.{opened-none, opened-some}
use Rattle.farm_state.proofs.state.FarmState.pop.Goals as goal

pub pop_opening-requires-clause-opens : goal.pop_opening-requires-clause-opens
pop_opening-requires-clause-opens c =
    let H : List Entry = c.args.self.now in
    let L : List Entry = c.history-history.result.now in
    let e : Entry = c.index-history-history.result in
    let l = end-at H L e (length L - 1) (subst IsLegal c.self.view_is c.self.invariant.legal) c.requires
    (c.history-history.ensures.history ∙ c.self.view_is) refl c.index-history-history.is in
    let it =
    opened-some (opening_in e.what)
    (ap (λ (x : Entry). is_some (opening_in x.what)) c.index-history-history.is ∙ sym c.is_opening.ensures ∙ c.if-is_opening.true) in
    (e, it.0, l.split, it.1)

pub pop_report-requires-clause-reports : goal.pop_report-requires-clause-reports
pop_report-requires-clause-reports c =
    let H : List Entry = c.args.self.now in
    let L : List Entry = c.history-history.result.now in
    let e : Entry = c.index-history-history.result in
    let l = end-at H L e (length L - 1) (subst IsLegal c.self.view_is c.self.invariant.legal) c.requires
    (c.history-history.ensures.history ∙ c.self.view_is) refl c.index-history-history.is in (
      e,
      l.split,
      ap (λ (x : Entry). told_in x.what) c.index-history-history.is ∙ sym c.told.ensures ∙ c.in-Some.is,
    )

pub pop_about-requires-clause-about : goal.pop_about-requires-clause-about
pop_about-requires-clause-about c =
    let H : List Entry = c.args.self.now in
    let L : List Entry = c.history-history.result.now in
    let e : Entry = c.index-history-history.result in
    let l = end-at H L e (length L - 1) (subst IsLegal c.self.view_is c.self.invariant.legal) c.requires
    (c.history-history.ensures.history ∙ c.self.view_is) refl c.index-history-history.is in
    end-cancels H e c.in-Some-cancelled.search l
    (ap (λ (x : Entry). cancelled_in x.what) c.index-history-history.is ∙ sym c.cancelled.ensures ∙ c.in-Some-cancelled.is)

pub pop_quiet-requires-clause-quiet : goal.pop_quiet-requires-clause-quiet
pop_quiet-requires-clause-quiet c =
    let H : List Entry = c.args.self.now in
    let L : List Entry = c.history-history.result.now in
    let e : Entry = c.index-history-history.result in
    let l = end-at H L e (length L - 1) (subst IsLegal c.self.view_is c.self.invariant.legal) c.requires
    (c.history-history.ensures.history ∙ c.self.view_is) refl c.index-history-history.is in (
      e,
      l.split,
      opened-none (opening_in e.what)
          (ap (λ (x : Entry). is_some (opening_in x.what)) c.index-history-history.is ∙ sym c.is_opening.ensures ∙ c.if-is_opening.false),
      ap (λ (x : Entry). told_in x.what) c.index-history-history.is ∙ sym c.told.ensures ∙ c.in_default.is,
      ap (λ (x : Entry). cancelled_in x.what) c.index-history-history.is ∙ sym c.cancelled.ensures ∙ c.in_default-cancelled.is,
    )
