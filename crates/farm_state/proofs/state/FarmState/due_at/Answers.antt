use Rattle.std.proofs.Common.{◌≡◌, List, Some, sym, subst}
use Rattle.std.specs.Option.{option_map}
use Rattle.farm_types.specs.Moment.{moment_ms}
use Rattle.farm_entry.specs.History.{opening_numbered}
use Rattle.farm_entry.specs.declared.entry.Entry.{Entry}
use Rattle.farm_laws.specs.Laws.{IsNotBefore}
use Rattle.search_state.specs.Seen.{seen}
use Rattle.farm_state.proofs.DueRuns.{few-out}
use Rattle.farm_state.proofs.state.FarmState.due_at.Goals as goal

pub outstanding_positions-count-requires : goal.outstanding_positions-count-requires
outstanding_positions-count-requires c =
    let H : List Entry = c.self.inside.books in
    few-out H c.args.number c.args.search.now c.args.stage (moment_ms c.args.moment) c.self.invariant.legal
    (subst (λ (X : List Entry). IsNotBefore X (moment_ms c.args.moment)) (sym c.self.view_is) c.requires.before)
    (subst (λ (X : List Entry). option_map (seen X) (opening_numbered X c.args.number) ≡ Some c.args.search.now)
    (sym c.self.view_is) c.requires.opened)
