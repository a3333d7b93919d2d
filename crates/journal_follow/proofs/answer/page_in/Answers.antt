use Rattle.std.proofs.Common.{◌≡◌, List, ℕ, refl, sym, subst}
use Rattle.std.proofs.Common.{None, Option}
use Rattle.farm_entry.specs.declared.entry.Entry.{Entry}
use Rattle.journal_follow.specs.Pages.{IsFound, IsPage}
use Rattle.journal_follow.proofs.answer.page_in.Goals as goal

pub returns-in-None : goal.returns-in-None
returns-in-None c = (
  refl,
  λ _ entries page.
      let none : IsFound c.args.from c.as_slice.result.now None =
      subst (λ (o : Option (List Entry)). IsFound c.args.from c.as_slice.result.now o) c.in-None.is c.in_ok-entries.ensures in
      let same : c.as_slice.result.now ≡ c.args.response.now.body = c.as_slice.ensures in
      none entries (subst (λ (b : List ℕ). IsPage c.args.from b entries) (sym same) page),
)
