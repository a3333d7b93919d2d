-- What stays as a history grows, and what a drill comes to.
use Rattle.std.proofs.Common.{◌≡◌, ◌++◌, ◌∷◌, [], ℕ, true, List, All, Contains, Option, Some, append_assoc, refl, sym, ap, subst, ◌∙◌, arith}
use Rattle.std.specs.List.{cons_option}
use Rattle.std.proofs.lemmas.List.Elements.{All-push, All-weaker, Contains-append_right}
use Rattle.common_types.specs.Prefix.{IsPrefix}
use Rattle.farm_entry.specs.History.{all_leases, is_reported, lease_in}
use Rattle.farm_entry.specs.declared.entry.Entry.{Entry}
use Rattle.farm_entry.specs.declared.lease.LeasedRun.{LeasedRun}
use Rattle.farm_entry.proofs.Growing.{all_leases-grow}
use Rattle.drill_plan.specs.Start.{IsStart, drill_founding}
use Rattle.farm_drill.specs.Ends.{AllReported}
use Rattle.farm_drill.proofs.Reports.{reported-stays}

pub prefix-trans : (xs ys zs : List Entry) → IsPrefix xs ys → IsPrefix ys zs → IsPrefix xs zs
prefix-trans xs ys zs first second = (
  first.0 ++ second.0,
  second.1 ∙ ap (λ (es : List Entry). es ++ second.0) first.1 ∙ append_assoc xs first.0 second.0,
)

-- a history that begins as a drill's does begins with the founding
pub founded-start : (n : ℕ) (start H : List Entry) → IsStart n start → IsPrefix start H
    → IsPrefix (drill_founding ∷ []) H
founded-start n start H opened begins = prefix-trans (drill_founding ∷ []) start H (opened.openings, opened.is) begins

-- what is reported stays so in a longer history
pub reported-longer : (run : ℕ) (H G : List Entry) → IsPrefix H G → is_reported H run ≡ true → is_reported G run ≡ true
reported-longer run H G longer is =
    ap (λ (es : List Entry). is_reported es run) longer.1 ∙ reported-stays run H longer.0 is

pub leases-with : (H new : List Entry) (e : Entry) (lease : LeasedRun) → new ≡ H ++ e ∷ []
    → lease_in e.what ≡ Some lease
    → all_leases new ≡ all_leases H ++ lease ∷ []
leases-with H new e lease is handed =
    ap all_leases is ∙ all_leases-grow H e
    ∙ ap (λ (o : Option LeasedRun). all_leases H ++ cons_option o []) handed

-- a run that was just handed out is there
pub lease-there : (H new : List Entry) (e : Entry) (lease : LeasedRun) → new ≡ H ++ e ∷ []
    → lease_in e.what ≡ Some lease
    → Contains (all_leases new) lease
lease-there H new e lease is handed =
    subst (λ (ls : List LeasedRun). Contains ls lease) (sym (leases-with H new e lease is handed))
    (Contains-append_right (all_leases H) (lease ∷ []) lease (0, omega arith, refl))

-- once the run that was handed out is reported too, all are
pub all-after : (H mid new : List Entry) (e : Entry) (lease : LeasedRun) → AllReported H → mid ≡ H ++ e ∷ []
    → lease_in e.what ≡ Some lease → all_leases new ≡ all_leases mid → IsPrefix mid new
    → is_reported new lease.run ≡ true
    → AllReported new
all-after H mid new e lease all is handed same longer now =
    let P : LeasedRun → Type 0 = λ l. is_reported new l.run ≡ true in
    let begins : IsPrefix H new = prefix-trans H mid new (e ∷ [], is) longer in
    let before : All P (all_leases H) =
    All-weaker (λ (l : LeasedRun). is_reported H l.run ≡ true) P (λ l h. reported-longer l.run H new begins h)
    (all_leases H) all in
    subst (All P) (sym (same ∙ leases-with H mid e lease is handed)) (All-push P (all_leases H) lease before now)
