-- Behind a closing nothing comes, and before it a farm isn't busy.
use Rattle.std.proofs.Common.{◌≡◌, true, false, List, [], ◌∷◌, ◌++◌, sym, ap, subst, ◌∙◌, true≢false}
use Rattle.std.proofs.lemmas.Bool.{or_right}
use Rattle.farm_entry.specs.Closing.{is_busy}
use Rattle.farm_entry.specs.History.{is_closed, is_closing}
use Rattle.farm_entry.specs.Legal.{IsFounding, IsLegal, IsNext}
use Rattle.farm_entry.specs.declared.entry.Entry.{Entry}
use Rattle.farm_entry.specs.declared.entry.What.TheVariants.{Closed}
use Rattle.farm_laws.proofs.Closings.{is_closed-grow, unclosed-next}
use Rattle.farm_laws.proofs.EntryParts.{closing-facts}
use Rattle.farm_laws.proofs.Induct.{IsLegal-first, IsLegal-pushed}
use Rattle.farm_laws.proofs.Lists.{nil-cons}
use Rattle.farm_laws.proofs.Stepped.{stepped}

pub nothing-next : (H : List Entry) (e next : Entry) → e.what ≡ Closed → IsNext (H ++ e ∷ []) next → ⊥
nothing-next H e next closes goes =
    let closed : is_closed (H ++ e ∷ []) ≡ true =
    is_closed-grow H e ∙ or_right (is_closed H) (is_closing e.what) (ap is_closing closes) in
    true≢false (sym closed ∙ unclosed-next (H ++ e ∷ []) next goes)

pub idle-before : (H : List Entry) (e : Entry) → e.what ≡ Closed → IsLegal (H ++ e ∷ []) → is_busy H ≡ false
idle-before [] e closes legal = absurd (subst IsFounding closes legal.0)
idle-before (f ∷ H) e closes legal =
    let first : IsLegal (f ∷ H) = IsLegal-first (f ∷ H) (e ∷ []) (λ same. nil-cons f H same) legal in
    let next : IsNext (f ∷ H) e = IsLegal-pushed (f ∷ H) e first legal in
    (closing-facts (f ∷ H) e.at e.what (ap is_closing closes) (stepped (f ∷ H) e next)).idle
