-- Induction for the searches of legal histories; a search that was just opened has no runs yet.
use Rattle.std.proofs.Common.{◌≡◌, ◌⊎◌, inl, inr, ℕ, zero, suc, ◌+◌, ◌<◌, ◌==◌, Bool, true, false, ◌&&◌, List, [], ◌∷◌, ◌++◌, length, find, cond, get_or, All, Contains, Option, Some, None, refl, sym, ap, subst, ◌∙◌, arith, true≢false, ⊎_elim, append-nil}
use Rattle.std.specs.List.{cons_option, filter_map}
use Rattle.std.proofs.lemmas.Bool.{cases_Bool}
use Rattle.std.proofs.lemmas.Bool.Decides.{nat_tests}
use Rattle.std.proofs.lemmas.List.Elements.{All-contains, All-head, All-tail, Contains-append_cases, Contains-append_left}
use Rattle.std.proofs.lemmas.Option.{none-some}
use Rattle.farm_types.specs.declared.stage.Stage.{Stage}
use Rattle.weight_exact.specs.declared.run.Run.{Run}
use Rattle.farm_entry.specs.Decision.{run_with}
use Rattle.farm_entry.specs.History.{all_leases, counted, counted_run, is_counted, opening_in, opening_numbered, openings, report_in, reports, same_stage}
use Rattle.farm_entry.specs.Legal.{IsLegal}
use Rattle.farm_entry.specs.declared.entry.Entry.{Entry}
use Rattle.farm_entry.specs.declared.entry.What.{What}
use Rattle.farm_entry.specs.declared.entry.What.TheVariants.{Founded, Opened, Leased, Reported, Skipped, Cancelled, Ordered, Carried, Closed}
use Rattle.farm_entry.specs.declared.lease.LeasedRun.{LeasedRun}
use Rattle.farm_entry.specs.declared.lease.ReportedRun.{ReportedRun}
use Rattle.farm_entry.specs.declared.opening.Opening.{Opening}
use Rattle.farm_entry.proofs.Growing.{openings-grow}
use Rattle.farm_entry.specs.Legal.{ask_of}
use Rattle.farm_laws.specs.Openings.{HasOpening}
use Rattle.farm_laws.proofs.EntryParts.{opened-facts}
use Rattle.farm_laws.proofs.Filters.{HasLease, counted-grow}
use Rattle.farm_laws.proofs.Induct.{each_legal}
use Rattle.farm_laws.proofs.Known.{leases-known, reports-known}
use Rattle.farm_laws.proofs.Made.{is_made}
use Rattle.farm_laws.proofs.Numbered.{lease-there, no_opening, number-at, openings-numbered}
use Rattle.farm_laws.proofs.RunSteps.{chosen_run, counted_run-is}
use Rattle.farm_laws.proofs.Stepped.{Stepped}

-- an opened search stays opened
pub opened-stays : (H : List Entry) (e : Entry) (o : Opening) → Contains (openings H) o → Contains (openings (H ++ e ∷ [])) o
opened-stays H e o there =
    subst (λ (xs : List Opening). Contains xs o) (sym (openings-grow H e))
    (Contains-append_left (openings H) (cons_option (opening_in e.what) []) o there)

-- an opened search is one of before, or the one that this entry opens
one-of : (x : Option Opening) (o : Opening) → Contains (cons_option x []) o → x ≡ Some o
one-of None o h = absurd (omega (arith, h.1))
one-of (Some x) o (zero, below, is) = ap Some is
one-of (Some x) o (suc k, below, is) = absurd (omega arith)

pub opened-cases : (H : List Entry) (e : Entry) (o : Opening) → Contains (openings (H ++ e ∷ [])) o →
    Contains (openings H) o ⊎ (opening_in e.what ≡ Some o)
opened-cases H e o there =
    ⊎_elim (λ (before : Contains (openings H) o). inl before)
    (λ (now : Contains (cons_option (opening_in e.what) []) o). inr (one-of (opening_in e.what) o now))
    (Contains-append_cases (openings H) (cons_option (opening_in e.what) []) o
    (subst (λ (xs : List Opening). Contains xs o) (openings-grow H e) there))

-- What holds of a search that was just opened, and stays, holds of each opened search.
pub each_opened : (P : List Entry → Opening → Type 0) →
    ((H : List Entry) (e : Entry) (o : Opening) → IsLegal H → Stepped H e.at e.what → opening_in e.what ≡ Some o → P (H ++ e ∷ []) o) →
    ((H : List Entry) (e : Entry) (o : Opening) → IsLegal H → Contains (openings H) o → Stepped H e.at e.what → P H o → P (H ++ e ∷ []) o) →
    (H : List Entry) → IsLegal H → (o : Opening) → Contains (openings H) o → P H o
each_opened P fresh stays =
    each_legal (λ (H : List Entry). (o : Opening) → Contains (openings H) o → P H o)
    (λ e founding o there.
    absurd (none-some o (sym (no_opening e.what founding) ∙ one-of (opening_in e.what) o there)))
    (λ H e legal all s o there.
    ⊎_elim (λ (before : Contains (openings H) o). stays H e o legal before s (all o before))
    (λ (now : opening_in e.what ≡ Some o). fresh H e o legal s now)
    (opened-cases H e o there))

-- no search has the next number
find-none : {X : Type 0} (p : X → Bool) (xs : List X) → All (λ (x : X). p x ≡ false) xs → find p xs ≡ None
find-none p [] h = refl
find-none p (x ∷ xs) h =
    ap (λ (b : Bool). cond b (Some x) (find p xs)) (All-head (λ y. p y ≡ false) x xs h)
    ∙ find-none p xs (All-tail (λ y. p y ≡ false) x xs h)

not-next : (k n a : ℕ) → a ≡ 1 + k → k < n → a == n + 1 ≡ false
not-next k n a e below = grind (arith, nat_tests)

unopened : (H : List Entry) → IsLegal H → opening_numbered H (length (openings H) + 1) ≡ None
unopened H legal =
    find-none (λ (o : Opening). o.search == length (openings H) + 1) (openings H)
    (λ k d below. not-next k (length (openings H)) _ (number-at (λ (o : Opening). o.search) 1 (openings H) (openings-numbered H legal) k d below) below)

-- a search that isn't opened has no counted runs
all-none : {X Y : Type 0} (f : X → Option Y) (xs : List X) → All (λ (x : X). f x ≡ None) xs → filter_map f xs ≡ []
all-none f [] h = refl
all-none f (x ∷ xs) h =
    ap (λ o. cons_option o (filter_map f xs)) (All-head (λ y. f y ≡ None) x xs h) ∙ all-none f xs (All-tail (λ y. f y ≡ None) x xs h)

chosen-none : (counts here other : Bool) (r : Run) → here ≡ false → chosen_run counts (here && other) r ≡ None
chosen-none true true other r h = absurd (true≢false h)
chosen-none true false other r h = refl
chosen-none false here other r h = refl

-- a lease of an opened search is not of one that isn't
other-search : (H : List Entry) (s : ℕ) (l : LeasedRun) → opening_numbered H s ≡ None → HasOpening H l.search → l.search == s ≡ false
other-search H s l none has =
    ⊎_elim
    (λ (this : l.search == s ≡ true).
    let same : l.search ≡ s = grind (arith, nat_tests, this) in
    absurd (none-some has.0 (sym none ∙ ap (opening_numbered H) (sym same) ∙ has.1)))
    (λ (other : l.search == s ≡ false). other)
    (cases_Bool (l.search == s))

pub unopened-counted : (H : List Entry) (s : ℕ) (stage : Stage) → IsLegal H → opening_numbered H s ≡ None → counted H s stage ≡ []
unopened-counted H s stage legal none =
    all-none (counted_run H s stage) (reports H)
    (λ k d below.
    let r : ReportedRun = get_or (reports H) k d in
    let known : HasLease H r.run = reports-known H legal k d below in
    let l = known.0 in
    let has : HasOpening H l.search =
    All-contains (λ (x : LeasedRun). HasOpening H x.search) (all_leases H) l (leases-known H legal) (lease-there H r.run l known.1).0 in
    counted_run-is H s stage r l known.1
    ∙ chosen-none (is_counted r.fate) (l.search == s) (same_stage l.stage stage) (run_with l r.verdict) (other-search H s l none has))

-- a search that was just opened has the next number, and no runs
no-report-opened : (w : What) (o : Opening) → opening_in w ≡ Some o → report_in w ≡ None
no-report-opened (Opened x) o h = refl
no-report-opened (Founded x) o h = refl
no-report-opened (Leased k w r q t p d) o h = refl
no-report-opened (Reported r v _) o h = absurd (none-some o h)
no-report-opened (Skipped r _) o h = absurd (none-some o h)
no-report-opened (Cancelled k q) o h = refl
no-report-opened (Ordered k a n c q d) o h = refl
no-report-opened (Carried c t) o h = refl
no-report-opened Closed o h = refl

pub fresh-counted : (H : List Entry) (e : Entry) (o : Opening) (stage : Stage) → IsLegal H → Stepped H e.at e.what →
    opening_in e.what ≡ Some o → counted (H ++ e ∷ []) o.search stage ≡ []
fresh-counted H e o stage legal s is =
    let number : length (openings H) + 1 ≡ o.search = (is_made (ask_of o) _ o (opened-facts H e.at e.what o is s).made).number in
    let none : opening_numbered H o.search ≡ None = ap (opening_numbered H) (sym number) ∙ unopened H legal in
    let added : List ReportedRun → List Run = λ x. counted H o.search stage ++ filter_map (counted_run (H ++ e ∷ []) o.search stage) x in
    counted-grow H e o.search stage (reports-known H legal)
    ∙ ap added (ap (λ (r : Option ReportedRun). cons_option r []) (no-report-opened e.what o is))
    ∙ append-nil (counted H o.search stage)
    ∙ unopened-counted H o.search stage legal none
