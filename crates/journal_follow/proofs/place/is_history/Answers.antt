use Rattle.std.proofs.Common.{◌≡◌, Bool, Decides, List, sym, subst}
use Rattle.std.proofs.lemmas.Slice.Eq.{slice_eq-Decides}
use Rattle.farm_entry.specs.declared.entry.Entry.{Entry}
use Rattle.farm_laws.proofs.SameEntries.{same_entry-Decides}
use Rattle.journal_follow.proofs.place.is_history.Goals as goal

pub returns : goal.returns
returns c =
    subst (λ (l : List Entry). Decides c.eq.result (c.args.history.now ≡ l)) c.as_slice.ensures
    (slice_eq-Decides same_entry-Decides c.args.history.now c.as_slice.result.now c.eq.result c.eq.ensures)
