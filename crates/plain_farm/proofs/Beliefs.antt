-- The runs that a belief is told are in its range, and it has room for them.
use Rattle.std.proofs.Common.{◌≡◌, List, Contains, sym, subst}
use Rattle.weight_exact.specs.Weights.{AreInRange, Setup}
use Rattle.weight_exact.specs.declared.run.Run.{Run}
use Rattle.farm_entry.specs.History.{openings, runs}
use Rattle.farm_entry.specs.Legal.{IsLegal}
use Rattle.farm_entry.specs.Setup.{setup_of}
use Rattle.farm_entry.specs.declared.entry.Entry.{Entry}
use Rattle.farm_entry.specs.declared.opening.Opening.{Opening}
use Rattle.farm_laws.specs.Loads.{LoadsFit}
use Rattle.farm_laws.proofs.InRange.{runs-in_range}
use Rattle.farm_laws.proofs.Loads.{loads_fit}

pub told_in_range : (H : List Entry) (o : Opening) (s : Setup) (told : List Run) → IsLegal H → Contains (openings H) o →
    s ≡ setup_of o → told ≡ runs H o.search → AreInRange s told
told_in_range H o s told legal opened same are =
    subst (λ (t : Setup). AreInRange t told) (sym same)
    (subst (λ (rs : List Run). AreInRange (setup_of o) rs) (sym are) (runs-in_range H o legal opened))

pub told_fit : (H : List Entry) (o : Opening) (s : Setup) (told : List Run) → IsLegal H → Contains (openings H) o →
    s ≡ setup_of o → told ≡ runs H o.search → LoadsFit s told
told_fit H o s told legal opened same are =
    subst (λ (t : Setup). LoadsFit t told) (sym same)
    (subst (λ (rs : List Run). LoadsFit (setup_of o) rs) (sym are) (loads_fit H o legal opened))
