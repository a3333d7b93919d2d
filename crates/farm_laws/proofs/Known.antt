-- What a legal history knows: each reported run was handed out, and each run that is handed out is due in an open
-- search.
use Rattle.std.proofs.Common.{◌≡◌, ℕ, zero, suc, Bool, true, false, nat_le, if◌then◌else◌, List, [], ◌∷◌, Contains, All, Option, Some, None, refl, sym, ap, subst, ◌∙◌, arith}
use Rattle.std.specs.List.{cons_option, filter_map}
use Rattle.std.specs.Option.{option_map}
use Rattle.std.proofs.lemmas.Option.{none-some}
use Rattle.farm_types.specs.declared.stage.Stage.TheVariants.{Search, Verify}
use Rattle.farm_types.specs.Moment.{moment_ms}
use Rattle.farm_entry.specs.Due.{due, due_at, due_runs, due_searching, due_verifying, next_run, sooner, soonest}
use Rattle.farm_entry.specs.History.{all_leases, last_lease, lease_in, opening_numbered, openings, report_in, skip_in, told_in, told_runs}
use Rattle.farm_entry.specs.Legal.{IsLegal}
use Rattle.farm_entry.specs.Standing.{standing}
use Rattle.farm_entry.specs.declared.entry.Entry.{Entry}
use Rattle.farm_entry.specs.declared.lease.DueRun.{DueRun}
use Rattle.farm_entry.specs.declared.lease.LeasedRun.{LeasedRun}
use Rattle.farm_entry.specs.declared.lease.ReportedRun.{ReportedRun}
use Rattle.farm_entry.specs.declared.lease.SkippedRun.{SkippedRun}
use Rattle.farm_entry.specs.declared.opening.Opening.{Opening}
use Rattle.farm_entry.specs.declared.standing.Standing.{Standing}
use Rattle.farm_entry.specs.declared.standing.Standing.TheVariants.{Searching, Verifying, Confirmed, Vindicated, NoCulprit, Inconclusive, Cancelled}
use Rattle.farm_laws.specs.Openings.{HasOpening}
use Rattle.farm_laws.proofs.EntryParts.{each_part, leased-facts, reported-facts, skipped-facts, told-facts}
use Rattle.farm_laws.proofs.Filters.{HasLease, ReportsKnown, SkipsKnown, lease_of-stays, opening_numbered-stays}
use Rattle.farm_laws.proofs.Lists.{contains-head, contains-tail}
use Rattle.farm_laws.proofs.Numbered.{no_lease, no_report, no_skip, no_told, opening-found}

-- lists

-- what stands in the list of what is made comes from a member
pub record MadeFrom {X Y : Type 0} (f : X → Option Y) (xs : List X) (y : Y) : Type 0 where
  pub from : X
  pub there : Contains xs from
  pub makes : f from ≡ Some y

made-later : {X Y : Type 0} (f : X → Option Y) (x : X) (xs : List X) (y : Y) → MadeFrom f xs y → MadeFrom f (x ∷ xs) y
made-later f x xs y m = record { from = m.from; there = contains-tail x xs m.from m.there; makes = m.makes }

made-here : {X Y : Type 0} (f : X → Option Y) (x : X) (xs : List X) (y : Y) (o : Option Y) → f x ≡ o →
    (Contains (filter_map f xs) y → MadeFrom f xs y) → Contains (cons_option o (filter_map f xs)) y → MadeFrom f (x ∷ xs) y
made-here f x xs y None e later h = made-later f x xs y (later h)
made-here f x xs y (Some z) e later (zero, below, is) =
    record { from = x; there = contains-head xs x x refl; makes = e ∙ ap Some is }
made-here f x xs y (Some z) e later (suc k, below, is) = made-later f x xs y (later (k, omega arith, is))

pub made-from : {X Y : Type 0} (f : X → Option Y) (xs : List X) (y : Y) → Contains (filter_map f xs) y → MadeFrom f xs y
made-from f [] y h = absurd (omega (arith, h.1))
made-from f (x ∷ xs) y h = made-here f x xs y (f x) refl (made-from f xs y) h

-- each reported run was handed out
pub reports-known : (H : List Entry) → IsLegal H → ReportsKnown H
reports-known =
    each_part report_in (λ (H : List Entry) (r : ReportedRun). HasLease H r.run) no_report
    (λ H e r legal s known. (known.0, lease_of-stays H e r.run known.0 known.1))
    (λ H e r legal s is.
    let facts = reported-facts H e.at e.what r is s in
    (facts.lease, lease_of-stays H e r.run facts.lease facts.known))

pub skips-known : (H : List Entry) → IsLegal H → SkipsKnown H
skips-known =
    each_part skip_in (λ (H : List Entry) (r : SkippedRun). HasLease H r.run) no_skip
    (λ H e r legal s known. (known.0, lease_of-stays H e r.run known.0 known.1))
    (λ H e r legal s is.
    let facts = skipped-facts H e.at e.what r is s in
    (facts.lease, lease_of-stays H e r.run facts.lease facts.known))

pub told_runs-known : (H : List Entry) → IsLegal H → All (λ (run : ℕ). HasLease H run) (told_runs H)
told_runs-known =
    each_part told_in (λ (H : List Entry) (run : ℕ). HasLease H run) no_told
    (λ H e run legal s known. (known.0, lease_of-stays H e run known.0 known.1))
    (λ H e run legal s is.
    let facts = told-facts H e.at e.what run is s in
    (facts.lease, lease_of-stays H e run facts.lease facts.known))

chosen_if : (b : Bool) (d x y : DueRun) (rest : List DueRun) → Contains rest y → (if b then d else y) ≡ x → Contains (d ∷ rest) x
chosen_if true d x y rest there h = contains-head rest d x h
chosen_if false d x y rest there h = subst (Contains (d ∷ rest)) h (contains-tail d rest y there)

-- the soonest of due runs is one of them
chosen : (H : List Entry) (d x : DueRun) (rest : List DueRun) (o : Option DueRun) →
    ((y : DueRun) → o ≡ Some y → Contains rest y) → sooner H d o ≡ x → Contains (d ∷ rest) x
chosen H d x rest None later h = contains-head rest d x h
chosen H d x rest (Some y) later h = chosen_if (nat_le (last_lease H d.search) (last_lease H y.search)) d x y rest (later y refl) h

soonest-there : (H : List Entry) (ds : List DueRun) (x : DueRun) → soonest H ds ≡ Some x → Contains ds x
soonest-there H [] x h = absurd (none-some x h)
soonest-there H (d ∷ rest) x h =
    let same : sooner H d (soonest H rest) ≡ x = cc in chosen H d x rest (soonest H rest) (soonest-there H rest) same

mapped-search : (make : ℕ → DueRun) (s : ℕ) → ((k : ℕ) → (make k).search ≡ s) → (o : Option ℕ) (d : DueRun) → option_map make o ≡ Some d → d.search ≡ s
mapped-search make s is None d h = absurd (none-some d h)
mapped-search make s is (Some k) d h = let same : make k ≡ d = cc in ap (λ (x : DueRun). x.search) (sym same) ∙ is k

-- a due run names the search that it is due in
pub due_at-search : (s : Standing) (H : List Entry) (o : Opening) (m : ℕ) (d : DueRun) → due_at s H o m ≡ Some d → d.search ≡ o.search
due_at-search Searching H o m d h = mapped-search (λ k. record { search = o.search; stage = Search; position = k }) o.search (λ k. refl) (due_searching H o m) d h
due_at-search (Verifying c) H o m d h = mapped-search (λ k. record { search = o.search; stage = Verify; position = k }) o.search (λ k. refl) (due_verifying H o c m) d h
due_at-search (Confirmed c) H o m d h = absurd (none-some d h)
due_at-search (Vindicated c) H o m d h = absurd (none-some d h)
due_at-search NoCulprit H o m d h = absurd (none-some d h)
due_at-search Inconclusive H o m d h = absurd (none-some d h)
due_at-search Cancelled H o m d h = absurd (none-some d h)

-- the next run is due in an open search
pub record IsDueIn (H : List Entry) (m : ℕ) (d : DueRun) : Type 0 where
  pub opening : Opening
  pub there : Contains (openings H) opening
  pub is_due : due H opening m ≡ Some d
  pub of_search : d.search ≡ opening.search

pub next_run-due : (H : List Entry) (m : ℕ) (d : DueRun) → next_run H m ≡ Some d → IsDueIn H m d
next_run-due H m d h =
    let from = made-from (λ (o : Opening). due H o m) (openings H) d (soonest-there H (due_runs H m) d h) in
    record {
      opening = from.from;
      there = from.there;
      is_due = from.makes;
      of_search = due_at-search (standing H from.from) H from.from m d from.makes;
    }

-- each run that was handed out is of a search
pub leases-known : (H : List Entry) → IsLegal H → All (λ (l : LeasedRun). HasOpening H l.search) (all_leases H)
leases-known =
    each_part lease_in (λ (H : List Entry) (l : LeasedRun). HasOpening H l.search) no_lease
    (λ H e l legal s known. (known.0, opening_numbered-stays H e l.search known.0 known.1))
    (λ H e l legal s is.
    let due_in = next_run-due H (moment_ms e.at) _ (leased-facts H e.at e.what l is s).due in
    let o = due_in.opening in
    let found : opening_numbered H l.search ≡ Some o =
    ap (opening_numbered H) due_in.of_search ∙ opening-found H o legal due_in.there in
    (o, opening_numbered-stays H e l.search o found))
