-- Which search an entry is about.
use Rattle.std.proofs.Common.{◌≡◌, ◌⊎◌, inl, inr, ℕ, List, Option, Some, true, refl, sym, ap, subst, ◌∙◌}
use Rattle.std.specs.Option.{IfSome, option_map}
use Rattle.std.proofs.lemmas.Option.{none-some}
use Rattle.farm_entry.specs.History.{cancelled_in, is_counted, lease_of, opening_in, report_in, skip_in, told_in}
use Rattle.farm_entry.specs.declared.entry.Entry.{Entry}
use Rattle.farm_entry.specs.declared.entry.What.{What}
use Rattle.farm_entry.specs.declared.entry.What.TheVariants.{Founded, Opened, Leased, Reported, Skipped, Cancelled, Ordered, Carried, Closed}
use Rattle.farm_entry.specs.declared.lease.LeasedRun.{LeasedRun}
use Rattle.farm_entry.specs.declared.lease.ReportedRun.{ReportedRun}
use Rattle.farm_entry.specs.declared.lease.SkippedRun.{SkippedRun}
use Rattle.farm_entry.specs.declared.opening.Opening.{Opening}
use Rattle.farm_laws.proofs.EntryParts.{report-told}
use Rattle.farm_laws.proofs.Numbered.{lease-there}
use Rattle.rates_report.specs.Tally.{search_in}

-- the search of a reported run
pub search-of_told : (H : List Entry) (w : What) (run : ℕ) (l : LeasedRun) → told_in w ≡ Some run →
    lease_of H run ≡ Some l → search_in H w ≡ Some l.search
search-of_told H (Reported x v f) run l is known =
    let it : x ≡ run = cc in
    ap (λ (n : ℕ). option_map (λ (l : LeasedRun). l.search) (lease_of H n)) it
    ∙ ap (option_map (λ (l : LeasedRun). l.search)) known
search-of_told H (Skipped x f) run l is known =
    let it : x ≡ run = cc in
    ap (λ (n : ℕ). option_map (λ (l : LeasedRun). l.search) (lease_of H n)) it
    ∙ ap (option_map (λ (l : LeasedRun). l.search)) known
search-of_told H (Founded x) run l is known = absurd (none-some run is)
search-of_told H (Opened o) run l is known = absurd (none-some run is)
search-of_told H (Leased k w n q t p d) run l is known = absurd (none-some run is)
search-of_told H (Cancelled k q) run l is known = absurd (none-some run is)
search-of_told H (Ordered k a n c q d) run l is known = absurd (none-some run is)
search-of_told H (Carried c d) run l is known = absurd (none-some run is)
search-of_told H Closed run l is known = absurd (none-some run is)

-- the one that is cancelled
pub search-of_cancel : (H : List Entry) (w : What) (q : ℕ) → cancelled_in w ≡ Some q → search_in H w ≡ Some q
search-of_cancel H (Cancelled k x) q is = is
search-of_cancel H (Founded x) q is = absurd (none-some q is)
search-of_cancel H (Opened o) q is = absurd (none-some q is)
search-of_cancel H (Leased k w n x t p d) q is = absurd (none-some q is)
search-of_cancel H (Reported run v _) q is = absurd (none-some q is)
search-of_cancel H (Skipped run _) q is = absurd (none-some q is)
search-of_cancel H (Ordered k a n c x d) q is = absurd (none-some q is)
search-of_cancel H (Carried c d) q is = absurd (none-some q is)
search-of_cancel H Closed q is = absurd (none-some q is)

-- the one that is opened
pub search-of_opening : (H : List Entry) (w : What) (o : Opening) → opening_in w ≡ Some o → search_in H w ≡ Some o.search
search-of_opening H (Opened x) o is = ap (option_map (λ (y : Opening). y.search)) is
search-of_opening H (Founded x) o is = absurd (none-some o is)
search-of_opening H (Leased k w n q t p d) o is = absurd (none-some o is)
search-of_opening H (Reported run v _) o is = absurd (none-some o is)
search-of_opening H (Skipped run _) o is = absurd (none-some o is)
search-of_opening H (Cancelled k q) o is = absurd (none-some o is)
search-of_opening H (Ordered k a n c q d) o is = absurd (none-some o is)
search-of_opening H (Carried c d) o is = absurd (none-some o is)
search-of_opening H Closed o is = absurd (none-some o is)

-- an entry that reports a run does so with a verdict or as a skip
pub told-either : (w : What) (run : ℕ) → told_in w ≡ Some run →
    ((r : ReportedRun) × (report_in w ≡ Some r) × (r.run ≡ run)) ⊎ ((r : SkippedRun) × (skip_in w ≡ Some r) × (r.run ≡ run))
told-either (Reported x v f) run is =
    let it : x ≡ run = cc in inl (record { run = x; verdict = v; fate = f }, refl, it)
told-either (Skipped x f) run is = let it : x ≡ run = cc in inr (record { run = x; fate = f }, refl, it)
told-either (Founded x) run is = absurd (none-some run is)
told-either (Opened o) run is = absurd (none-some run is)
told-either (Leased k w n q t p d) run is = absurd (none-some run is)
told-either (Cancelled k q) run is = absurd (none-some run is)
told-either (Ordered k a n c q d) run is = absurd (none-some run is)
told-either (Carried c d) run is = absurd (none-some run is)
told-either Closed run is = absurd (none-some run is)

-- its report, where it has one, is of that run
pub told-run : (w : What) (run : ℕ) (r : ReportedRun) → told_in w ≡ Some run → report_in w ≡ Some r → r.run ≡ run
told-run w run r tells reports = let both : Some r.run ≡ Some run = sym (report-told w r reports) ∙ tells in cc

-- the lease of a run has its number
pub told-number : (H : List Entry) (run : ℕ) (l : LeasedRun) → lease_of H run ≡ Some l → l.run ≡ run
told-number H run l known = (lease-there H run l known).1

-- a report that is found to count
pub counted-of : (w : What) (found : Option ReportedRun) (r : ReportedRun) → found ≡ Some r →
    IfSome found (λ (x : ReportedRun). (report_in w ≡ Some x) × (is_counted x.fate ≡ true)) →
    (report_in w ≡ Some r) × (is_counted r.fate ≡ true)
counted-of w found r is holds =
    subst (λ (o : Option ReportedRun).
    IfSome o (λ (x : ReportedRun). (report_in w ≡ Some x) × (is_counted x.fate ≡ true))) is holds
