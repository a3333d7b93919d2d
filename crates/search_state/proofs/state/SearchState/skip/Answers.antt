use Rattle.search_state.specs.SearchView.{standing_in}
use Rattle.search_state.proofs.Flags.{taken-verifying, verifying-parts}
use Rattle.search_state.proofs.state.SearchState.skip.Goals as goal

pub skip_verifying-requires : goal.skip_verifying-requires
skip_verifying-requires c =
    let v = c.args.self.now in
    let stands =
    taken-verifying (standing_in v) c.args.stage c.args.fate c.requires.ruled c.in-Taken.is c.in-Verify.is in (
      stands.0,
      stands.1,
      c.requires.placed.side stands.0 c.in-Verify.is (verifying-parts v stands.0 stands.1).bar,
    )
