use Rattle.std.proofs.Common.{ap, sym, ◌∙◌}
use Rattle.farm_entry.specs.Pages.{totals}
use Rattle.shared_farm.proofs.posted.PostedStore.of.Goals as goal

pub of-requires-clause-totals : goal.of-requires-clause-totals
of-requires-clause-totals g c = c.totals.ensures ∙ ap totals (sym c.history.ensures.value)

pub invariant_of-result : goal.invariant_of-result
invariant_of-result g c =
    let made = c.in-Ok.ensures.pass in (
      ap (λ p. p.board) made ∙ sym c.in-Ok-new.ensures.ok,
      ap (λ p. p.posts) made,
      ap (λ p. p.seen) made ∙ c.history.ensures.value,
    )
