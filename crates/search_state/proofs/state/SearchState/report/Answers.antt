use Rattle.search_state.specs.SearchView.{standing_in}
use Rattle.search_state.proofs.Flags.{counted-verifying, verifying-parts}
use Rattle.search_state.proofs.state.SearchState.report.Goals as goal

pub count_rerun-requires-clause-verifying : goal.count_rerun-requires-clause-verifying
count_rerun-requires-clause-verifying c =
    let v = c.args.self.now in
    let stands =
    counted-verifying (standing_in v) v c.args.stage c.args.run c.args.fate c.requires.ruled c.in-Counted.is c.in-Verify.is in (
      stands.0,
      stands.1,
      c.requires.placed.side stands.0 c.in-Verify.is (verifying-parts v stands.0 stands.1).bar,
    )
