use Rattle.std.proofs.Common.{◌≡◌, ℕ, sym, subst, ◌∙◌}
use Rattle.farm_entry.specs.declared.standing.Standing.TheVariants.{Verifying}
use Rattle.search_state.specs.SearchInside.{search_view}
use Rattle.search_state.specs.SearchView.{SearchView, standing_in}
use Rattle.search_state.proofs.Flags.{verifying-parts}
use Rattle.search_state.proofs.Verified.{culprit-within, kept-verification, kept-verifying, side-within, skip-search, verified-low}
use Rattle.search_state.proofs.state.SearchState.skip_verifying.Goals as goal

pub skip-requires : goal.skip-requires
skip-requires c =
    let s = c.self.inside in
    let k : ℕ = c.requires.0 in
    record {
      within = side-within s k c.args.position c.self.invariant
          (kept-verifying s c.args.self.now k c.self.view_is c.requires.1) c.requires.2;
    }

pub standing_with_skip-self-inside-requires : goal.standing_with_skip-self-inside-requires
standing_with_skip-self-inside-requires c = λ culprit names.
    let s = c.self.inside in
    let h = c.self.invariant in
    let p = verifying-parts (search_view s) culprit (sym h.standing_is ∙ names) in
    (verified-low s culprit p, culprit-within s culprit h p)

pub invariant_of-self : goal.invariant_of-self
invariant_of-self c =
    let s = c.self.inside in
    let h = c.self.invariant in
    let k : ℕ = c.requires.0 in
    let p = kept-verifying s c.args.self.now k c.self.view_is c.requires.1 in
    let v = kept-verification s c.args.self.now k h c.self.view_is c.requires.1 in
    let names =
    h.standing_is ∙ subst (λ (x : SearchView). standing_in x ≡ Verifying k) (sym c.self.view_is) c.requires.1 in
    skip-search s k c.standing_with_skip-self-inside.result c.skip.new.self h p v
    (c.standing_with_skip-self-inside.ensures k names)
