-- What an entry that records one thing doesn't record beside, and which search it is about.
use Rattle.std.proofs.Common.{◌≡◌, ℕ, List, Some, None, refl, sym, ap, ◌∙◌}
use Rattle.std.proofs.lemmas.Option.{none-some, same_Some}
use Rattle.farm_entry.specs.History.{cancelled_in, lease_in, lease_of, opening_in, report_in, skip_in, told_in}
use Rattle.farm_entry.specs.declared.entry.Entry.{Entry}
use Rattle.farm_entry.specs.declared.entry.What.{What}
use Rattle.farm_entry.specs.declared.entry.What.TheVariants.{Founded, Opened, Leased, Reported, Skipped, Cancelled, Ordered, Carried, Closed}
use Rattle.farm_entry.specs.declared.lease.LeasedRun.{LeasedRun}
use Rattle.farm_entry.specs.declared.lease.ReportedRun.{ReportedRun}
use Rattle.farm_entry.specs.declared.lease.SkippedRun.{SkippedRun}
use Rattle.farm_entry.specs.declared.opening.Opening.{Opening}
use Rattle.farm_laws.proofs.EntryParts.{report-told, skip-told}
use Rattle.farm_laws.specs.Steps.{IsAbout}

pub record IsOpenedAlone (w : What) : Type 0 where
  pub lease : lease_in w ≡ None
  pub report : report_in w ≡ None
  pub skip : skip_in w ≡ None
  pub told : told_in w ≡ None
  pub cancelled : cancelled_in w ≡ None

pub opened-alone : (w : What) (o : Opening) → opening_in w ≡ Some o → IsOpenedAlone w
opened-alone (Opened x) o h = record { lease = refl; report = refl; skip = refl; told = refl; cancelled = refl }
opened-alone (Founded x) o h = absurd (none-some o h)
opened-alone (Leased k w n s t p d) o h = absurd (none-some o h)
opened-alone (Reported n v _) o h = absurd (none-some o h)
opened-alone (Skipped n _) o h = absurd (none-some o h)
opened-alone (Cancelled k q) o h = absurd (none-some o h)
opened-alone (Ordered k a n c s d) o h = absurd (none-some o h)
opened-alone (Carried c d) o h = absurd (none-some o h)
opened-alone Closed o h = absurd (none-some o h)

pub record IsLeaseAlone (w : What) : Type 0 where
  pub opening : opening_in w ≡ None
  pub report : report_in w ≡ None
  pub skip : skip_in w ≡ None
  pub told : told_in w ≡ None
  pub cancelled : cancelled_in w ≡ None

pub lease-alone : (w : What) (l : LeasedRun) → lease_in w ≡ Some l → IsLeaseAlone w
lease-alone (Leased k w n s t p d) l h =
    record { opening = refl; report = refl; skip = refl; told = refl; cancelled = refl }
lease-alone (Founded x) l h = absurd (none-some l h)
lease-alone (Opened x) l h = absurd (none-some l h)
lease-alone (Reported n v _) l h = absurd (none-some l h)
lease-alone (Skipped n _) l h = absurd (none-some l h)
lease-alone (Cancelled k q) l h = absurd (none-some l h)
lease-alone (Ordered k a n c s d) l h = absurd (none-some l h)
lease-alone (Carried c d) l h = absurd (none-some l h)
lease-alone Closed l h = absurd (none-some l h)

-- an entry that reports a run, with a verdict or not, records nothing else
pub record IsToldAlone (w : What) (run : ℕ) : Type 0 where
  pub opening : opening_in w ≡ None
  pub lease : lease_in w ≡ None
  pub told : told_in w ≡ Some run
  pub cancelled : cancelled_in w ≡ None

pub told-alone : (w : What) (run : ℕ) → told_in w ≡ Some run → IsToldAlone w run
told-alone (Reported n v _) run h = record { opening = refl; lease = refl; told = h; cancelled = refl }
told-alone (Skipped n _) run h = record { opening = refl; lease = refl; told = h; cancelled = refl }
told-alone (Founded x) run h = absurd (none-some run h)
told-alone (Opened x) run h = absurd (none-some run h)
told-alone (Leased k w n s t p d) run h = absurd (none-some run h)
told-alone (Cancelled k q) run h = absurd (none-some run h)
told-alone (Ordered k a n c s d) run h = absurd (none-some run h)
told-alone (Carried c d) run h = absurd (none-some run h)
told-alone Closed run h = absurd (none-some run h)

pub report-alone : (w : What) (r : ReportedRun) → report_in w ≡ Some r → IsToldAlone w r.run
report-alone w r h = told-alone w r.run (report-told w r h)

pub skip-alone : (w : What) (r : SkippedRun) → skip_in w ≡ Some r → IsToldAlone w r.run
skip-alone w r h = told-alone w r.run (skip-told w r h)

pub record IsCancelAlone (w : What) : Type 0 where
  pub opening : opening_in w ≡ None
  pub lease : lease_in w ≡ None
  pub report : report_in w ≡ None
  pub skip : skip_in w ≡ None
  pub told : told_in w ≡ None

pub cancelled-alone : (w : What) (q : ℕ) → cancelled_in w ≡ Some q → IsCancelAlone w
cancelled-alone (Cancelled k x) q h =
    record { opening = refl; lease = refl; report = refl; skip = refl; told = refl }
cancelled-alone (Founded x) q h = absurd (none-some q h)
cancelled-alone (Opened x) q h = absurd (none-some q h)
cancelled-alone (Leased k w n s t p d) q h = absurd (none-some q h)
cancelled-alone (Reported n v _) q h = absurd (none-some q h)
cancelled-alone (Skipped n _) q h = absurd (none-some q h)
cancelled-alone (Ordered k a n c s d) q h = absurd (none-some q h)
cancelled-alone (Carried c d) q h = absurd (none-some q h)
cancelled-alone Closed q h = absurd (none-some q h)

-- an entry that reports no run, with a verdict or not
pub none-told : (w : What) → report_in w ≡ None → skip_in w ≡ None → told_in w ≡ None
none-told (Reported n v f) report skip = absurd (none-some (record { run = n; verdict = v; fate = f }) (sym report))
none-told (Skipped n f) report skip = absurd (none-some (record { run = n; fate = f }) (sym skip))
none-told (Founded x) report skip = refl
none-told (Opened x) report skip = refl
none-told (Leased k w n s t p d) report skip = refl
none-told (Cancelled k q) report skip = refl
none-told (Ordered k a n c s d) report skip = refl
none-told (Carried c d) report skip = refl
none-told Closed report skip = refl

-- which search an entry is about

of-lease : (H : List Entry) (n run s : ℕ) (l : LeasedRun) → Some n ≡ Some run → lease_of H run ≡ Some l →
    ((x : LeasedRun) × (lease_of H n ≡ Some x) × (x.search ≡ s)) → l.search ≡ s
of-lease H n run s l is known about =
    let same : n ≡ run = same_Some n run is in
    let found : Some l ≡ Some about.0 = sym known ∙ ap (lease_of H) (sym same) ∙ about.1 in
    ap (λ (x : LeasedRun). x.search) (same_Some l about.0 found) ∙ about.2

pub about-told : (H : List Entry) (w : What) (s run : ℕ) (l : LeasedRun) → told_in w ≡ Some run →
    lease_of H run ≡ Some l → IsAbout H w s → l.search ≡ s
about-told H (Reported n v _) s run l is known about = of-lease H n run s l is known about
about-told H (Skipped n _) s run l is known about = of-lease H n run s l is known about
about-told H (Founded x) s run l is known about = absurd about
about-told H (Opened x) s run l is known about = absurd about
about-told H (Leased k w n q t p d) s run l is known about = absurd about
about-told H (Cancelled k q) s run l is known about = absurd (none-some run is)
about-told H (Ordered k a n c q d) s run l is known about = absurd about
about-told H (Carried c d) s run l is known about = absurd about
about-told H Closed s run l is known about = absurd about

pub about-cancelled : (H : List Entry) (w : What) (s q : ℕ) → cancelled_in w ≡ Some q → IsAbout H w s → q ≡ s
about-cancelled H (Cancelled k x) s q is about = same_Some q x (sym is) ∙ about
about-cancelled H (Founded x) s q is about = absurd about
about-cancelled H (Opened x) s q is about = absurd about
about-cancelled H (Leased k w n x t p d) s q is about = absurd about
about-cancelled H (Reported n v _) s q is about = absurd (none-some q is)
about-cancelled H (Skipped n _) s q is about = absurd (none-some q is)
about-cancelled H (Ordered k a n c x d) s q is about = absurd about
about-cancelled H (Carried c d) s q is about = absurd about
about-cancelled H Closed s q is about = absurd about

pub about-none : (H : List Entry) (w : What) (s : ℕ) → told_in w ≡ None → cancelled_in w ≡ None → IsAbout H w s → ⊥
about-none H (Reported n v _) s none other about = none-some n (sym none)
about-none H (Skipped n _) s none other about = none-some n (sym none)
about-none H (Cancelled k q) s none other about = none-some q (sym other)
about-none H (Founded x) s none other about = absurd about
about-none H (Opened x) s none other about = absurd about
about-none H (Leased k w n q t p d) s none other about = absurd about
about-none H (Ordered k a n c q d) s none other about = absurd about
about-none H (Carried c d) s none other about = absurd about
about-none H Closed s none other about = absurd about
