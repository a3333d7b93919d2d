-- How a search is told anew: each entry makes of what was held of it before what is held of it after.
use Rattle.std.proofs.Common.{◌≡◌, ℕ, suc, ◌+◌, ◌<◌, ◌==◌, Bool, true, false, List, [], ◌∷◌, ◌++◌, length, take, drop, get_or, take-suc, take-append-drop, if◌then◌else◌, Contains, Option, Some, refl, sym, ap, subst, ◌∙◌, append-nil, append_assoc, arith, true≢false}
use Rattle.std.proofs.lemmas.Bool.Decides.{nat_tests}
use Rattle.std.proofs.lemmas.Option.{none-some}
use Rattle.farm_types.specs.declared.moment.Moment.{Moment}
use Rattle.farm_entry.specs.Decision.{run_with}
use Rattle.farm_entry.specs.History.{cancelled_in, lease_of, opening_numbered, openings, report_in, skip_in}
use Rattle.farm_entry.specs.Legal.{IsFounding, IsLegal}
use Rattle.farm_entry.specs.declared.entry.Entry.{Entry}
use Rattle.farm_entry.specs.declared.entry.What.{What}
use Rattle.farm_entry.specs.declared.entry.What.TheVariants.{Founded, Opened, Leased, Reported, Skipped, Cancelled, Ordered, Carried, Closed}
use Rattle.farm_entry.specs.declared.lease.LeasedRun.{LeasedRun}
use Rattle.farm_entry.specs.declared.lease.ReportedRun.{ReportedRun}
use Rattle.farm_entry.specs.declared.lease.SkippedRun.{SkippedRun}
use Rattle.farm_entry.specs.declared.opening.Opening.{Opening}
use Rattle.farm_laws.proofs.EntryParts.{reported-facts, skipped-facts}
use Rattle.farm_laws.proofs.Filters.{lease_of-stays, opening_numbered-stays}
use Rattle.farm_laws.proofs.Induct.{IsLegal-first, IsLegal-pushed}
use Rattle.farm_laws.proofs.Numbered.{lease-there, opening-found}
use Rattle.farm_laws.proofs.Stepped.{Stepped, stepped}
use Rattle.farm_laws.specs.Steps.{IsAbout}
use Rattle.search_state.specs.SearchView.{SearchView, after_report, after_skip, cancelled}
use Rattle.search_state.specs.Seen.{seen}
use Rattle.search_state.proofs.Asking.{report-ruled, reports-few, run-placed, skip-placed, skip-ruled}
use Rattle.search_state.proofs.Changes.{cancelled-seen, other-seen, reported-seen, skipped-seen}
use Rattle.farm_state.specs.Telling.{MaySkip, MayTake, told, told_run, told_skip}
use Rattle.farm_state.proofs.Searches.{search-of_lease}

-- What stays with the entries that follow.

lease-on : (G K : List Entry) (run : ℕ) (l : LeasedRun) → lease_of G run ≡ Some l → lease_of (G ++ K) run ≡ Some l
lease-on G [] run l known = ap (λ (X : List Entry). lease_of X run) (append-nil G) ∙ known
lease-on G (k ∷ K) run l known =
    ap (λ (X : List Entry). lease_of X run) (sym (append_assoc G (k ∷ []) K))
    ∙ lease-on (G ++ k ∷ []) K run l (lease_of-stays G k run l known)

opening-on : (G K : List Entry) (n : ℕ) (o : Opening) → opening_numbered G n ≡ Some o → opening_numbered (G ++ K) n ≡ Some o
opening-on G [] n o known = ap (λ (X : List Entry). opening_numbered X n) (append-nil G) ∙ known
opening-on G (k ∷ K) n o known =
    ap (λ (X : List Entry). opening_numbered X n) (sym (append_assoc G (k ∷ []) K))
    ∙ opening-on (G ++ k ∷ []) K n o (opening_numbered-stays G k n o known)

-- an entry of a legal history, with those before it, of which there are some
pub record IsAmong (H G : List Entry) (e : Entry) : Type 0 where
  pub legal : IsLegal G
  pub step : Stepped G e.at e.what
  pub longer : IsLegal (G ++ e ∷ [])
  pub leases : (run : ℕ) (l : LeasedRun) → lease_of G run ≡ Some l → lease_of H run ≡ Some l
  pub opened : (n : ℕ) (o : Opening) → opening_numbered G n ≡ Some o → opening_numbered H n ≡ Some o

cons-some : (f : Entry) (G : List Entry) → f ∷ G ≡ [] → ⊥
cons-some f G none = let long : length (f ∷ G) ≡ 0 = ap length none in absurd (omega (arith, long))

among : (H : List Entry) (f : Entry) (G K : List Entry) (e : Entry) → IsLegal H → H ≡ (f ∷ G ++ e ∷ []) ++ K →
    IsAmong H (f ∷ G) e
among H f G K e legal split =
    let whole : IsLegal ((f ∷ G ++ e ∷ []) ++ K) = subst IsLegal split legal in
    let longer : IsLegal (f ∷ G ++ e ∷ []) = IsLegal-first (f ∷ G ++ e ∷ []) K (cons-some f (G ++ e ∷ [])) whole in
    let first : IsLegal (f ∷ G) = IsLegal-first (f ∷ G) (e ∷ []) (cons-some f G) longer in
    record {
      legal = first;
      step = stepped (f ∷ G) e (IsLegal-pushed (f ∷ G) e first longer);
      longer = longer;
      leases = λ run l known.
          ap (λ (X : List Entry). lease_of X run) (split ∙ append_assoc (f ∷ G) (e ∷ []) K)
          ∙ lease-on (f ∷ G) (e ∷ K) run l known;
      opened = λ n o known.
          ap (λ (X : List Entry). opening_numbered X n) (split ∙ append_assoc (f ∷ G) (e ∷ []) K)
          ∙ opening-on (f ∷ G) (e ∷ K) n o known;
    }

-- What an entry tells a search.

same-of : (a b : ℕ) → a == b ≡ true → a ≡ b
same-of a b h = grind (arith, nat_tests)

other-of : (a b : ℕ) → a == b ≡ false → a ≡ b → ⊥
other-of a b h same = let is : a == b ≡ true = grind (arith, nat_tests) in true≢false (sym is ∙ h)

told-report : (G : List Entry) (m : Moment) (run : ℕ) (l : LeasedRun) (o : Opening) (w : What) (r : ReportedRun) (b : Bool) →
    IsLegal G → Stepped G m w → report_in w ≡ Some r → lease_of G r.run ≡ Some l →
    (IsAbout G w o.search → l.search ≡ o.search) → l.search == o.search ≡ b →
    (if b then after_report (seen G o) l.stage (run_with l r.verdict) r.fate else seen G o)
    ≡ seen (G ++ record { at = m; what = w } ∷ []) o
told-report G m run l o w r true legal step is known one same =
    sym (reported-seen G (record { at = m; what = w }) o r l legal is known (same-of l.search o.search same))
told-report G m run l o w r false legal step is known one other =
    sym (other-seen G (record { at = m; what = w }) o legal step
    (λ about. other-of l.search o.search other (one about)))

told-skip : (G : List Entry) (m : Moment) (l : LeasedRun) (o : Opening) (w : What) (r : SkippedRun) (b : Bool) →
    IsLegal G → Stepped G m w → skip_in w ≡ Some r → lease_of G r.run ≡ Some l →
    (IsAbout G w o.search → l.search ≡ o.search) → l.search == o.search ≡ b →
    (if b then after_skip (seen G o) l.position r.fate else seen G o) ≡ seen (G ++ record { at = m; what = w } ∷ []) o
told-skip G m l o w r true legal step is known one same =
    sym (skipped-seen G (record { at = m; what = w }) o r l legal is known (same-of l.search o.search same))
told-skip G m l o w r false legal step is known one other =
    sym (other-seen G (record { at = m; what = w }) o legal step
    (λ about. other-of l.search o.search other (one about)))

told-cancel : (G : List Entry) (m : Moment) (o : Opening) (w : What) (q : ℕ) (b : Bool) →
    IsLegal G → Stepped G m w → cancelled_in w ≡ Some q → (IsAbout G w o.search → q ≡ o.search) → q == o.search ≡ b →
    (if b then cancelled (seen G o) else seen G o) ≡ seen (G ++ record { at = m; what = w } ∷ []) o
told-cancel G m o w q true legal step is one same =
    sym (cancelled-seen G (record { at = m; what = w }) o legal step (is ∙ ap Some (same-of q o.search same)))
told-cancel G m o w q false legal step is one other =
    sym (other-seen G (record { at = m; what = w }) o legal step (λ about. other-of q o.search other (one about)))

one-lease : (G : List Entry) (run : ℕ) (l k : LeasedRun) → lease_of G run ≡ Some l → lease_of G run ≡ Some k → k ≡ l
one-lease G run l k known again = let both : Some k ≡ Some l = sym again ∙ known in cc

told-what : (H G : List Entry) (m : Moment) (w : What) (o : Opening) → IsLegal G → Stepped G m w →
    ((run : ℕ) (l : LeasedRun) → lease_of G run ≡ Some l → lease_of H run ≡ Some l) →
    told H o.search w (seen G o) ≡ seen (G ++ record { at = m; what = w } ∷ []) o
told-what H G m (Founded x) o legal step leases = sym (other-seen G _ o legal step (λ about. about))
told-what H G m (Opened x) o legal step leases = sym (other-seen G _ o legal step (λ about. about))
told-what H G m (Leased k w n q t p d) o legal step leases = sym (other-seen G _ o legal step (λ about. about))
told-what H G m (Ordered k a n c q d) o legal step leases = sym (other-seen G _ o legal step (λ about. about))
told-what H G m (Carried c d) o legal step leases = sym (other-seen G _ o legal step (λ about. about))
told-what H G m Closed o legal step leases = sym (other-seen G _ o legal step (λ about. about))
told-what H G m (Cancelled k q) o legal step leases =
    told-cancel G m o (Cancelled k q) q (q == o.search) legal step refl (λ about. about) refl
told-what H G m (Reported run v f) o legal step leases =
    let r : ReportedRun = record { run = run; verdict = v; fate = f } in
    let facts = reported-facts G m (Reported run v f) r refl step in
    let l : LeasedRun = facts.lease in
    ap (λ (x : Option LeasedRun). told_run o.search x r (seen G o)) (leases run l facts.known)
    ∙ told-report G m run l o (Reported run v f) r (l.search == o.search) legal step refl facts.known
    (λ about. ap (λ (x : LeasedRun). x.search) (sym (one-lease G run l about.0 facts.known about.1)) ∙ about.2) refl
told-what H G m (Skipped run f) o legal step leases =
    let r : SkippedRun = record { run = run; fate = f } in
    let facts = skipped-facts G m (Skipped run f) r refl step in
    let l : LeasedRun = facts.lease in
    ap (λ (x : Option LeasedRun). told_skip o.search x r (seen G o)) (leases run l facts.known)
    ∙ told-skip G m l o (Skipped run f) r (l.search == o.search) legal step refl facts.known
    (λ about. ap (λ (x : LeasedRun). x.search) (sym (one-lease G run l about.0 facts.known about.1)) ∙ about.2) refl

told-founding : (H : List Entry) (m : Moment) (w : What) (o : Opening) → IsFounding w →
    told H o.search w (seen [] o) ≡ seen (record { at = m; what = w } ∷ []) o
told-founding H m (Founded x) o h = refl
told-founding H m (Opened x) o h = absurd h
told-founding H m (Leased k w n q t p d) o h = absurd h
told-founding H m (Reported run v f) o h = absurd h
told-founding H m (Skipped run f) o h = absurd h
told-founding H m (Cancelled k q) o h = absurd h
told-founding H m (Ordered k a n c q d) o h = absurd h
told-founding H m (Carried c d) o h = absurd h
told-founding H m Closed o h = absurd h

pub told-seen : (H G K : List Entry) (e : Entry) (o : Opening) → IsLegal H → H ≡ (G ++ e ∷ []) ++ K →
    told H o.search e.what (seen G o) ≡ seen (G ++ e ∷ []) o
told-seen H [] K e o legal split =
    let whole : IsLegal (e ∷ K) = subst IsLegal split legal in
    told-founding H e.at e.what o whole.0
told-seen H (f ∷ G) K e o legal split =
    let it = among H f G K e legal split in
    told-what H (f ∷ G) e.at e.what o it.legal it.step it.leases

-- What a report asks for.

founding-report : (w : What) (r : ReportedRun) → IsFounding w → report_in w ≡ Some r → ⊥
founding-report (Founded x) r h is = none-some r is
founding-report (Opened x) r h is = absurd h
founding-report (Leased k w n q t p d) r h is = absurd h
founding-report (Reported run v f) r h is = absurd h
founding-report (Skipped run f) r h is = absurd h
founding-report (Cancelled k q) r h is = absurd h
founding-report (Ordered k a n c q d) r h is = absurd h
founding-report (Carried c d) r h is = absurd h
founding-report Closed r h is = absurd h

founding-skip : (w : What) (r : SkippedRun) → IsFounding w → skip_in w ≡ Some r → ⊥
founding-skip (Founded x) r h is = none-some r is
founding-skip (Opened x) r h is = absurd h
founding-skip (Leased k w n q t p d) r h is = absurd h
founding-skip (Reported run v f) r h is = absurd h
founding-skip (Skipped run f) r h is = absurd h
founding-skip (Cancelled k q) r h is = absurd h
founding-skip (Ordered k a n c q d) r h is = absurd h
founding-skip (Carried c d) r h is = absurd h
founding-skip Closed r h is = absurd h

one-opening : (H : List Entry) (n : ℕ) (o x : Opening) → opening_numbered H n ≡ Some x → opening_numbered H n ≡ Some o → x ≡ o
one-opening H n o x first again = let both : Some x ≡ Some o = sym first ∙ again in cc

-- a lease of an entry's run, that is of a search of the history, stood before it and was of that search
record IsBefore (G : List Entry) (o : Opening) (run : ℕ) (l : LeasedRun) : Type 0 where
  known : lease_of G run ≡ Some l
  opened : Contains (openings G) o

before-of : (H G : List Entry) (e : Entry) (o : Opening) (run : ℕ) (first l : LeasedRun) → IsLegal H → IsAmong H G e →
    Contains (openings H) o → lease_of G run ≡ Some first → lease_of H run ≡ Some l → l.search ≡ o.search →
    IsBefore G o run l
before-of H G e o run first l legal it there held known same =
    let lease_is : first ≡ l = one-lease H run l first known (it.leases run first held) in
    let here : lease_of G run ≡ Some l = held ∙ ap Some lease_is in
    let s = search-of_lease G run l it.legal here in
    let found : opening_numbered H s.opening.search ≡ Some s.opening =
    it.opened s.opening.search s.opening (opening-found G s.opening it.legal s.there) in
    let number : s.opening.search ≡ o.search = sym s.same ∙ same in
    let opening_is : s.opening ≡ o =
    one-opening H s.opening.search o s.opening found
    (ap (opening_numbered H) number ∙ opening-found H o legal there) in
    record { known = here; opened = subst (Contains (openings G)) opening_is s.there }

pub may-take : (H G K : List Entry) (e : Entry) (o : Opening) → IsLegal H → H ≡ (G ++ e ∷ []) ++ K →
    Contains (openings H) o → (r : ReportedRun) (l : LeasedRun) → report_in e.what ≡ Some r →
    lease_of H r.run ≡ Some l → l.search ≡ o.search → MayTake (seen G o) l r
may-take H [] K e o legal split there r l is known same =
    let whole : IsLegal (e ∷ K) = subst IsLegal split legal in
    absurd (founding-report e.what r whole.0 is)
may-take H (f ∷ G) K e o legal split there r l is known same =
    let it = among H f G K e legal split in
    let facts = reported-facts (f ∷ G) e.at e.what r is it.step in
    let at = before-of H (f ∷ G) e o r.run facts.lease l legal it there facts.known known same in
    record {
      ruled = report-ruled (f ∷ G) e o r l it.legal it.step at.opened is at.known same;
      placed =
          run-placed (f ∷ G) o l r.verdict it.legal at.opened
          (ap (lease_of (f ∷ G)) (lease-there (f ∷ G) r.run l at.known).1 ∙ at.known) same;
      few = reports-few (f ∷ G) e o.search it.longer;
    }

pub may-skip : (H G K : List Entry) (e : Entry) (o : Opening) → IsLegal H → H ≡ (G ++ e ∷ []) ++ K →
    Contains (openings H) o → (r : SkippedRun) (l : LeasedRun) → skip_in e.what ≡ Some r →
    lease_of H r.run ≡ Some l → l.search ≡ o.search → MaySkip (seen G o) l r
may-skip H [] K e o legal split there r l is known same =
    let whole : IsLegal (e ∷ K) = subst IsLegal split legal in
    absurd (founding-skip e.what r whole.0 is)
may-skip H (f ∷ G) K e o legal split there r l is known same =
    let it = among H f G K e legal split in
    let facts = skipped-facts (f ∷ G) e.at e.what r is it.step in
    let at = before-of H (f ∷ G) e o r.run facts.lease l legal it there facts.known known same in
    record {
      ruled = skip-ruled (f ∷ G) e o r l it.legal it.step at.opened is at.known same;
      placed =
          skip-placed (f ∷ G) o l it.legal at.opened
          (ap (lease_of (f ∷ G)) (lease-there (f ∷ G) r.run l at.known).1 ∙ at.known) same;
    }

-- Entry by entry.

before-and-after : (H : List Entry) (k : ℕ) (e : Entry) → k < length H → e ≡ get_or H k e → take (k + 1) H ≡ take k H ++ e ∷ []
before-and-after H k e below is =
    let next : k + 1 ≡ suc k = omega arith in
    ap (λ (n : ℕ). take n H) next
    ∙ take-suc H k e below
    ∙ ap (λ (x : Entry). take k H ++ x ∷ []) (sym is)

parted : (H : List Entry) (k : ℕ) (e : Entry) → k < length H → e ≡ get_or H k e →
    H ≡ (take k H ++ e ∷ []) ++ drop (k + 1) H
parted H k e below is =
    sym (take-append-drop (k + 1) H) ∙ ap (λ (G : List Entry). G ++ drop (k + 1) H) (before-and-after H k e below is)

-- the report at a place may be taken in
pub may-take-at : (H L : List Entry) (k : ℕ) (e : Entry) (o : Opening) (search : ℕ) (s : SearchView) → IsLegal H → L ≡ H →
    k < length L → e ≡ get_or L k e → Contains (openings H) o → search ≡ o.search → s ≡ seen (take k H) o →
    (r : ReportedRun) (l : LeasedRun) → report_in e.what ≡ Some r → lease_of H r.run ≡ Some l → l.search ≡ search →
    MayTake s l r
may-take-at H L k e o search s legal same below is there number so_far r l reports known of_search =
    let low : k < length H = omega (arith, below, ap length same) in
    let at : e ≡ get_or H k e = is ∙ ap (λ (X : List Entry). get_or X k e) same in
    subst (λ (x : SearchView). MayTake x l r) (sym so_far)
    (may-take H (take k H) (drop (k + 1) H) e o legal (parted H k e low at) there r l reports known (of_search ∙ number))

-- and so may that the tree of a run can't be tested
pub may-skip-at : (H L : List Entry) (k : ℕ) (e : Entry) (o : Opening) (search : ℕ) (s : SearchView) → IsLegal H → L ≡ H →
    k < length L → e ≡ get_or L k e → Contains (openings H) o → search ≡ o.search → s ≡ seen (take k H) o →
    (r : SkippedRun) (l : LeasedRun) → skip_in e.what ≡ Some r → lease_of H r.run ≡ Some l → l.search ≡ search →
    MaySkip s l r
may-skip-at H L k e o search s legal same below is there number so_far r l skips known of_search =
    let low : k < length H = omega (arith, below, ap length same) in
    let at : e ≡ get_or H k e = is ∙ ap (λ (X : List Entry). get_or X k e) same in
    subst (λ (x : SearchView). MaySkip x l r) (sym so_far)
    (may-skip H (take k H) (drop (k + 1) H) e o legal (parted H k e low at) there r l skips known (of_search ∙ number))

-- and what is told at a place is what is held after it
pub told-at : (H L : List Entry) (k : ℕ) (e : Entry) (o : Opening) (search : ℕ) (s t : SearchView) → IsLegal H → L ≡ H →
    k < length L → e ≡ get_or L k e → search ≡ o.search → s ≡ seen (take k H) o → t ≡ told H search e.what s →
    t ≡ seen (take (k + 1) H) o
told-at H L k e o search s t legal same below is number so_far made =
    let low : k < length H = omega (arith, below, ap length same) in
    let at : e ≡ get_or H k e = is ∙ ap (λ (X : List Entry). get_or X k e) same in
    made
    ∙ ap (told H search e.what) so_far
    ∙ ap (λ (n : ℕ). told H n e.what (seen (take k H) o)) number
    ∙ told-seen H (take k H) (drop (k + 1) H) e o legal (parted H k e low at)
    ∙ ap (λ (X : List Entry). seen X o) (sym (before-and-after H k e low at))
