-- What opening a journal leaves, by the lemmas of `Journals`.
use Rattle.std.proofs.Common.{◌∙◌, ℕ, refl, sym, ap, subst, None, List, All}
use Rattle.farm_journal.specs.Layout.{IsPayload, opens, version_of}
use Rattle.farm_journal.proofs.Journals.{kept-opened}
use Rattle.farm_journal.proofs.Fits.{opens-fit}
use Rattle.farm_journal.proofs.journal.Journal.open_on.Goals as goal

pub invariant_of-journal : goal.invariant_of-journal
invariant_of-journal g c =
    let found = c.in-Ok-find.ensures in
    kept-opened g.D.Disk.tells g.D.Disk.told c.read_whole.new.disk c.in-Ok.bytes.items found.0 c.in-Ok-find.found.past
    None c.in-Ok-find.found.gate c.version_of_byte.result
    refl found.2.told found.2.gate
    (c.version_of_byte.ensures.byte ∙ ap (λ (l : List ℕ). version_of l) c.deref-in-Ok-find.ensures.value)
    (λ t. ap (λ (l : List ℕ). opens l) (sym c.deref.ensures.value) ∙ found.1)
    (λ t.
    let told = sym c.read_whole.ensures.same ∙ t in
    (c.read_whole.ensures.only told).bytes ∙ sym (c.in-Ok.ensures.bytes told))
    (λ t. c.in-Ok.ensures.settled (sym c.read_whole.ensures.same ∙ t))

pub returns-in-Ok-find-clause-fit : goal.returns-in-Ok-find-clause-fit
returns-in-Ok-find-clause-fit g c =
    let found = c.in-Ok-find.ensures in
    subst (λ (l : List (List ℕ)). All IsPayload l) (sym found.2.payloads)
    (opens-fit found.0 c.deref.result.now found.1)
