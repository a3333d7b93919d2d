-- What is kept of a history with an entry appended.
use Rattle.std.proofs.Common.{◌≡◌, inr, ℕ, ◌+◌, ◌-◌, ◌<◌, ◌≤◌, Bool, true, false, ◌&&◌, ◌||◌, List, [], ◌∷◌, ◌++◌, length, reverse, set, get_or, Option, Some, None, refl, sym, ap, subst, ◌∙◌, arith}
use Rattle.std.specs.BTreeMap.{is_at}
use Rattle.std.specs.Cmp.Lexicographic.{slice_cmp}
use Rattle.std.specs.List.{cons_option, list_any}
use Rattle.std.specs.Ordering.{nat_cmp}
use Rattle.std.proofs.lemmas.Option.{none-some}
use Rattle.farm_types.specs.declared.stage.Stage.{Stage}
use Rattle.farm_types.specs.declared.stage.Stage.TheVariants.{Search, Verify}
use Rattle.weight_exact.specs.declared.run.Run.{Run}
use Rattle.farm_entry.specs.Decision.{run_with}
use Rattle.farm_entry.specs.History.{all_leases, cancelled_in, is_counted, lease_in, lease_of, opening_in, opening_numbered, report_in, told_in}
use Rattle.farm_entry.specs.Legal.{IsFounding, IsLegal}
use Rattle.farm_entry.specs.Standing.{standing}
use Rattle.farm_entry.specs.declared.entry.Entry.{Entry}
use Rattle.farm_entry.specs.declared.entry.What.{What}
use Rattle.farm_entry.specs.declared.entry.What.TheVariants.{Founded, Opened, Leased, Reported, Skipped, Cancelled, Ordered, Carried, Closed}
use Rattle.farm_entry.specs.declared.lease.LeasedRun.{LeasedRun}
use Rattle.farm_entry.specs.declared.lease.ReportedRun.{ReportedRun}
use Rattle.farm_entry.specs.declared.opening.Opening.{Opening}
use Rattle.farm_entry.specs.declared.standing.Standing.{Standing}
use Rattle.farm_entry.proofs.Growing.{all_leases-grow}
use Rattle.farm_laws.proofs.EntryParts.{cancelled-facts, report-told, told-facts}
use Rattle.farm_laws.proofs.Known.{leases-known}
use Rattle.farm_laws.proofs.Numbered.{lease-there, no_lease, no_opening, no_told}
use Rattle.std.proofs.lemmas.List.Elements.{All-contains}
use Rattle.farm_laws.specs.Openings.{HasOpening}
use Rattle.search_state.proofs.Reclosed.{reverse-told}
use Rattle.rates_report.specs.BookInside.{AreKept}
use Rattle.rates_report.specs.Listed.{IsListed, is_among, tells_at, tells_of}
use Rattle.rates_report.specs.Noted.{Noted, noted_at, noted_of, started, with_run}
use Rattle.rates_report.specs.Tally.{StandsAfter, tells}
use Rattle.rates_report.proofs.Searches.{IsEnded, IsTold, cancelled-after, cancelled-noted, cancelled-stands, counted-noted, lease-place, legal-before, opened-noted, quiet-leases, quiet-noted, search-place, stands-told, steps, told-stays, uncounted-noted}
use Rattle.rates_report.proofs.Sets.{and-grows, any-push, any-set, get_or-any}

-- An entry of another kind than a founding.

opening-later : (w : What) (o : Opening) → opening_in w ≡ Some o → IsFounding w → ⊥
opening-later w o is first = none-some o (sym (no_opening w first) ∙ is)

lease-later : (w : What) (l : LeasedRun) → lease_in w ≡ Some l → IsFounding w → ⊥
lease-later w l is first = none-some l (sym (no_lease w first) ∙ is)

told-later : (w : What) (run : ℕ) → told_in w ≡ Some run → IsFounding w → ⊥
told-later w run is first = none-some run (sym (no_told w first) ∙ is)

cancel-later : (w : What) (q : ℕ) → cancelled_in w ≡ Some q → IsFounding w → ⊥
cancel-later (Founded x) q is first = none-some q is
cancel-later (Opened o) q is first = first
cancel-later (Leased k w n x t p d) q is first = first
cancel-later (Reported run v _) q is first = first
cancel-later (Skipped run _) q is first = first
cancel-later (Cancelled k x) q is first = first
cancel-later (Ordered k a n c x d) q is first = first
cancel-later (Carried c d) q is first = first
cancel-later Closed q is first = first

-- the parts that an entry of one kind lacks
lease-no_opening : (w : What) (l : LeasedRun) → lease_in w ≡ Some l →
    (opening_in w ≡ None) × (told_in w ≡ None) × (cancelled_in w ≡ None)
lease-no_opening (Leased k w n x t p d) l is = (refl, refl, refl)
lease-no_opening (Founded x) l is = absurd (none-some l is)
lease-no_opening (Opened o) l is = absurd (none-some l is)
lease-no_opening (Reported run v _) l is = absurd (none-some l is)
lease-no_opening (Skipped run _) l is = absurd (none-some l is)
lease-no_opening (Cancelled k x) l is = absurd (none-some l is)
lease-no_opening (Ordered k a n c x d) l is = absurd (none-some l is)
lease-no_opening (Carried c d) l is = absurd (none-some l is)
lease-no_opening Closed l is = absurd (none-some l is)

opening-no_lease : (w : What) (o : Opening) → opening_in w ≡ Some o → lease_in w ≡ None
opening-no_lease (Opened x) o is = refl
opening-no_lease (Founded x) o is = absurd (none-some o is)
opening-no_lease (Leased k w n x t p d) o is = absurd (none-some o is)
opening-no_lease (Reported run v _) o is = absurd (none-some o is)
opening-no_lease (Skipped run _) o is = absurd (none-some o is)
opening-no_lease (Cancelled k x) o is = absurd (none-some o is)
opening-no_lease (Ordered k a n c x d) o is = absurd (none-some o is)
opening-no_lease (Carried c d) o is = absurd (none-some o is)
opening-no_lease Closed o is = absurd (none-some o is)

told-no_lease : (w : What) (run : ℕ) → told_in w ≡ Some run → lease_in w ≡ None
told-no_lease (Reported x v _) run is = refl
told-no_lease (Skipped x _) run is = refl
told-no_lease (Founded x) run is = absurd (none-some run is)
told-no_lease (Opened o) run is = absurd (none-some run is)
told-no_lease (Leased k w n x t p d) run is = absurd (none-some run is)
told-no_lease (Cancelled k x) run is = absurd (none-some run is)
told-no_lease (Ordered k a n c x d) run is = absurd (none-some run is)
told-no_lease (Carried c d) run is = absurd (none-some run is)
told-no_lease Closed run is = absurd (none-some run is)

cancel-no_lease : (w : What) (q : ℕ) → cancelled_in w ≡ Some q → lease_in w ≡ None
cancel-no_lease (Cancelled k x) q is = refl
cancel-no_lease (Founded x) q is = absurd (none-some q is)
cancel-no_lease (Opened o) q is = absurd (none-some q is)
cancel-no_lease (Leased k w n x t p d) q is = absurd (none-some q is)
cancel-no_lease (Reported run v _) q is = absurd (none-some q is)
cancel-no_lease (Skipped run _) q is = absurd (none-some q is)
cancel-no_lease (Ordered k a n c x d) q is = absurd (none-some q is)
cancel-no_lease (Carried c d) q is = absurd (none-some q is)
cancel-no_lease Closed q is = absurd (none-some q is)

-- What is kept of a history, said of the list that was told, the newest first.
pub told-kept : (told old : List Entry) (e : Entry) (ls : List LeasedRun) (ns : List Noted) (ts : List (List ℕ)) → told ≡ e ∷ old →
    AreKept (reverse old ++ e ∷ []) ls ns ts → AreKept (reverse told) ls ns ts
told-kept told old e ls ns ts is kept =
    subst (λ (X : List Entry). AreKept X ls ns ts) (sym (reverse-told told old e is)) kept

-- A search that is opened.
pub kept-opened : (H : List Entry) (ls : List LeasedRun) (ns : List Noted) (ts after : List (List ℕ)) (e : Entry) (o : Opening)
    (s : Standing) → AreKept H ls ns ts → IsLegal (H ++ e ∷ []) → opening_in e.what ≡ Some o → StandsAfter H e s →
    IsListed ts after o.test s → AreKept (H ++ e ∷ []) ls (ns ++ started o.test s ∷ []) after
kept-opened H ls ns ts after e o s kept longer is stands listed =
    let legal = legal-before H e longer (opening-later e.what o is) in
    record {
      legal = inr longer;
      leases_are = kept.leases_are ∙ sym (quiet-leases H e (opening-no_lease e.what o is));
      searches_are =
          ap (λ (xs : List Noted). xs ++ started o.test s ∷ []) kept.searches_are
          ∙ sym (opened-noted H e o s legal longer is stands);
      tests_are = λ q.
          listed q
          ∙ ap (λ (b : Bool). tells_at o.test q s || b) (kept.tests_are q)
          ∙ sym (any-push (tells_of q) ns (started o.test s));
    }

-- A run that is handed out.
pub kept-leased : (H : List Entry) (ls : List LeasedRun) (ns : List Noted) (ts : List (List ℕ)) (e : Entry) (l : LeasedRun) →
    AreKept H ls ns ts → IsLegal (H ++ e ∷ []) → lease_in e.what ≡ Some l → AreKept (H ++ e ∷ []) (ls ++ l ∷ []) ns ts
kept-leased H ls ns ts e l kept longer is =
    let none = lease-no_opening e.what l is in
    record {
      legal = inr longer;
      leases_are =
          ap (λ (xs : List LeasedRun). xs ++ l ∷ []) kept.leases_are
          ∙ ap (λ (x : Option LeasedRun). all_leases H ++ cons_option x []) (sym is)
          ∙ sym (all_leases-grow H e);
      searches_are = kept.searches_are ∙ sym (quiet-noted H e kept.legal longer none.0 none.1 none.2);
      tests_are = kept.tests_are;
    }

-- Another entry.
pub kept-quiet : (H : List Entry) (ls : List LeasedRun) (ns : List Noted) (ts : List (List ℕ)) (e : Entry) →
    AreKept H ls ns ts → IsLegal (H ++ e ∷ []) → opening_in e.what ≡ None → lease_in e.what ≡ None → told_in e.what ≡ None →
    cancelled_in e.what ≡ None → AreKept (H ++ e ∷ []) ls ns ts
kept-quiet H ls ns ts e kept longer opens leases told cancels = record {
  legal = inr longer;
  leases_are = kept.leases_are ∙ sym (quiet-leases H e leases);
  searches_are = kept.searches_are ∙ sym (quiet-noted H e kept.legal longer opens told cancels);
  tests_are = kept.tests_are;
}

-- A run that is reported.

-- its lease has its place among them
pub record HasLease (H : List Entry) (ls : List LeasedRun) (run : ℕ) : Type 0 where
  pub lease : LeasedRun
  pub known : lease_of H run ≡ Some lease
  pub low : 1 ≤ run
  pub high : run - 1 < length ls
  pub at : get_or ls (run - 1) lease ≡ lease

pub told-place : (H : List Entry) (ls : List LeasedRun) (ns : List Noted) (ts : List (List ℕ)) (e : Entry) (run : ℕ) →
    AreKept H ls ns ts → IsLegal (H ++ e ∷ []) → told_in e.what ≡ Some run → HasLease H ls run
told-place H ls ns ts e run kept longer is =
    let legal = legal-before H e longer (told-later e.what run is) in
    let facts = told-facts H e.at e.what run is (steps H e legal longer) in
    let place = lease-place H facts.lease run legal facts.known in
    record {
      lease = facts.lease;
      known = facts.known;
      low = place.0;
      high = omega (arith, place.1, ap length kept.leases_are);
      at = ap (λ (xs : List LeasedRun). get_or xs (run - 1) facts.lease) kept.leases_are ∙ place.2;
    }

-- what stands at that place is the lease
pub told-lease : (H : List Entry) (ls : List LeasedRun) (ns : List Noted) (ts : List (List ℕ)) (e : Entry) (run : ℕ)
    (x : LeasedRun) → AreKept H ls ns ts → IsLegal (H ++ e ∷ []) → told_in e.what ≡ Some run →
    x ≡ get_or ls (run - 1) x → lease_of H run ≡ Some x
told-lease H ls ns ts e run x kept longer is at =
    let place = told-place H ls ns ts e run kept longer is in
    place.known ∙ ap Some (sym (at ∙ get_or-any ls (run - 1) x place.lease place.high ∙ place.at))

-- the search of a reported run
pub record HasSearch (H : List Entry) (ns : List Noted) (e : Entry) (search : ℕ) : Type 0 where
  pub legal : IsLegal H
  pub opening : Opening
  pub numbered : opening_numbered H search ≡ Some opening
  pub low : 1 ≤ search
  pub high : search - 1 < length ns
  pub is : (d : Noted) → get_or ns (search - 1) d ≡ noted_of H opening

has-search : (H : List Entry) (ls : List LeasedRun) (ns : List Noted) (ts : List (List ℕ)) (e : Entry) (search : ℕ) (o : Opening) →
    AreKept H ls ns ts → IsLegal H → opening_numbered H search ≡ Some o → HasSearch H ns e search
has-search H ls ns ts e search o kept legal numbered =
    let place = search-place H o search legal numbered in
    let below : search - 1 < length ns = omega (arith, place.1, ap length kept.searches_are) in
    record {
      legal = legal;
      opening = o;
      numbered = numbered;
      low = place.0;
      high = below;
      is = λ d.
          get_or-any ns (search - 1) d (noted_of H o) below
          ∙ ap (λ (xs : List Noted). get_or xs (search - 1) (noted_of H o)) kept.searches_are
          ∙ place.2;
    }

told-opening : (H : List Entry) (run : ℕ) (l : LeasedRun) → IsLegal H → lease_of H run ≡ Some l → HasOpening H l.search
told-opening H run l legal known =
    All-contains (λ (x : LeasedRun). HasOpening H x.search) (all_leases H) l (leases-known H legal)
    (lease-there H run l known).0

pub told-search : (H : List Entry) (ls : List LeasedRun) (ns : List Noted) (ts : List (List ℕ)) (e : Entry) (run : ℕ)
    (l : LeasedRun) → AreKept H ls ns ts → IsLegal (H ++ e ∷ []) → told_in e.what ≡ Some run → lease_of H run ≡ Some l →
    HasSearch H ns e l.search
told-search H ls ns ts e run l kept longer is known =
    let legal = legal-before H e longer (told-later e.what run is) in
    let has = told-opening H run l legal known in
    has-search H ls ns ts e l.search has.0 kept legal has.1

-- and its number is one at least, whatever is kept
pub told-low : (H : List Entry) (e : Entry) (run : ℕ) (l : LeasedRun) → IsLegal (H ++ e ∷ []) → told_in e.what ≡ Some run →
    lease_of H run ≡ Some l → 1 ≤ l.search
told-low H e run l longer is known =
    let legal = legal-before H e longer (told-later e.what run is) in
    let has = told-opening H run l legal known in
    (search-place H has.0 l.search legal has.1).0

-- the same of a report with a verdict
pub report-search : (H : List Entry) (ls : List LeasedRun) (ns : List Noted) (ts : List (List ℕ)) (e : Entry) (r : ReportedRun)
    (l : LeasedRun) → AreKept H ls ns ts → IsLegal (H ++ e ∷ []) → report_in e.what ≡ Some r → lease_of H r.run ≡ Some l →
    HasSearch H ns e l.search
report-search H ls ns ts e r l kept longer is known =
    told-search H ls ns ts e r.run l kept longer (report-told e.what r is) known

pub report-low : (H : List Entry) (e : Entry) (r : ReportedRun) (l : LeasedRun) → IsLegal (H ++ e ∷ []) → report_in e.what ≡ Some r →
    lease_of H r.run ≡ Some l → 1 ≤ l.search
report-low H e r l longer is known = told-low H e r.run l longer (report-told e.what r is) known

pub cancel-search : (H : List Entry) (ls : List LeasedRun) (ns : List Noted) (ts : List (List ℕ)) (e : Entry) (q : ℕ) →
    AreKept H ls ns ts → IsLegal (H ++ e ∷ []) → cancelled_in e.what ≡ Some q → HasSearch H ns e q
cancel-search H ls ns ts e q kept longer is =
    let legal = legal-before H e longer (cancel-later e.what q is) in
    let facts = cancelled-facts H e.at e.what q is (steps H e legal longer) in
    has-search H ls ns ts e q facts.opening kept legal facts.known

-- what is listed, where the search that stands at a place is set
set-listed : (H : List Entry) (ns : List Noted) (ts after : List (List ℕ)) (e : Entry) (k : ℕ) (x y : Noted) (s : Standing) →
    ((test : List ℕ) → is_among test ts ≡ list_any (tells_of test) ns) → k < length ns → get_or ns k x ≡ x →
    y.test ≡ x.test → y.standing ≡ s → (tells x.standing ≡ true → tells s ≡ true) → IsListed ts after x.test s →
    (test : List ℕ) → is_among test after ≡ list_any (tells_of test) (set ns k y)
set-listed H ns ts after e k x y s are below is same stands grows listed q =
    let at : tells_of q y ≡ tells_at x.test q s = λ i. tells_at (same i) q (stands i) in
    let more : tells_of q x ≡ true → tells_of q y ≡ true =
    λ h. at ∙ and-grows (tells x.standing) (tells s) (is_at (slice_cmp nat_cmp x.test) q) grows h in
    listed q
    ∙ (λ i. sym at i || are q i)
    ∙ sym (any-set (tells_of q) ns k x y below is more)

pub with_run-test : (x : Noted) (stage : Stage) (r : Run) → (with_run x stage r).test ≡ x.test
with_run-test x Search r = refl
with_run-test x Verify r = refl

pub kept-counted : (H : List Entry) (ls : List LeasedRun) (ns : List Noted) (ts after : List (List ℕ)) (e : Entry) (r : ReportedRun)
    (l : LeasedRun) (s : Standing) (x : Noted) → AreKept H ls ns ts → IsLegal (H ++ e ∷ []) → report_in e.what ≡ Some r →
    lease_of H r.run ≡ Some l → StandsAfter H e s → is_counted r.fate ≡ true → x ≡ get_or ns (l.search - 1) x →
    IsListed ts after x.test s →
    AreKept (H ++ e ∷ []) ls (set ns (l.search - 1) (noted_at s (with_run x l.stage (run_with l r.verdict)))) after
kept-counted H ls ns ts after e r l s x kept longer is known stands counts at listed =
    let told = report-told e.what r is in
    let has = told-search H ls ns ts e r.run l kept longer told known in
    let o : Opening = has.opening in
    let it : IsTold H e r.run l o s =
    record { legal = has.legal; longer = longer; tells = told; known = known; numbered = has.numbered; stands = stands } in
    let here : x ≡ noted_of H o = at ∙ has.is x in
    let y : Noted = noted_at s (with_run x l.stage (run_with l r.verdict)) in
    record {
      legal = inr longer;
      leases_are = kept.leases_are ∙ sym (quiet-leases H e (told-no_lease e.what r.run told));
      searches_are =
          (λ i. set (kept.searches_are i) (l.search - 1) (noted_at s (with_run (here i) l.stage (run_with l r.verdict))))
          ∙ sym (counted-noted H e r l o s it is counts);
      tests_are =
          set-listed H ns ts after e (l.search - 1) x y s kept.tests_are has.high (sym at)
          (with_run-test x l.stage (run_with l r.verdict)) refl
          (λ before. told-stays H e o l.search s longer has.numbered (stands-told H e r.run l o s it)
          (ap (λ (n : Noted). tells n.standing) (sym here) ∙ before))
          listed;
    }

pub kept-uncounted : (H : List Entry) (ls : List LeasedRun) (ns : List Noted) (ts after : List (List ℕ)) (e : Entry) (run : ℕ)
    (l : LeasedRun) (s : Standing) (x : Noted) → AreKept H ls ns ts → IsLegal (H ++ e ∷ []) → told_in e.what ≡ Some run →
    lease_of H run ≡ Some l → StandsAfter H e s →
    ((r : ReportedRun) → report_in e.what ≡ Some r → is_counted r.fate ≡ false) → x ≡ get_or ns (l.search - 1) x →
    IsListed ts after x.test s → AreKept (H ++ e ∷ []) ls (set ns (l.search - 1) (noted_at s x)) after
kept-uncounted H ls ns ts after e run l s x kept longer told known stands counts at listed =
    let has = told-search H ls ns ts e run l kept longer told known in
    let o : Opening = has.opening in
    let it : IsTold H e run l o s =
    record { legal = has.legal; longer = longer; tells = told; known = known; numbered = has.numbered; stands = stands } in
    let here : x ≡ noted_of H o = at ∙ has.is x in
    record {
      legal = inr longer;
      leases_are = kept.leases_are ∙ sym (quiet-leases H e (told-no_lease e.what run told));
      searches_are =
          (λ i. set (kept.searches_are i) (l.search - 1) (noted_at s (here i)))
          ∙ sym (uncounted-noted H e run l o s it counts);
      tests_are =
          set-listed H ns ts after e (l.search - 1) x (noted_at s x) s kept.tests_are has.high (sym at) refl refl
          (λ before. told-stays H e o l.search s longer has.numbered (stands-told H e run l o s it)
          (ap (λ (n : Noted). tells n.standing) (sym here) ∙ before))
          listed;
    }

-- A search that is cancelled.
pub kept-ended : (H : List Entry) (ls : List LeasedRun) (ns : List Noted) (ts : List (List ℕ)) (e : Entry) (q : ℕ) (s : Standing)
    (x : Noted) → AreKept H ls ns ts → IsLegal (H ++ e ∷ []) → cancelled_in e.what ≡ Some q → StandsAfter H e s →
    x ≡ get_or ns (q - 1) x → AreKept (H ++ e ∷ []) ls (set ns (q - 1) (noted_at s x)) ts
kept-ended H ls ns ts e q s x kept longer is stands at =
    let has = cancel-search H ls ns ts e q kept longer is in
    let o : Opening = has.opening in
    let it : IsEnded H e q o s =
    record { legal = has.legal; longer = longer; cancels = is; numbered = has.numbered; stands = stands } in
    let here : x ≡ noted_of H o = at ∙ has.is x in
    let quiet : tells s ≡ false = ap tells (cancelled-stands H e q o s it) in
    record {
      legal = inr longer;
      leases_are = kept.leases_are ∙ sym (quiet-leases H e (cancel-no_lease e.what q is));
      searches_are =
          (λ i. set (kept.searches_are i) (q - 1) (noted_at s (here i)))
          ∙ sym (cancelled-noted H e q o s it);
      tests_are =
          set-listed H ns ts ts e (q - 1) x (noted_at s x) s kept.tests_are has.high (sym at) refl refl
          (λ before. told-stays H e o q s longer has.numbered (cancelled-after H e q o s it)
          (ap (λ (n : Noted). tells n.standing) (sym here) ∙ before))
          (λ test. ap (λ (b : Bool). (b && is_at (slice_cmp nat_cmp x.test) test) || is_among test ts) (sym quiet));
    }
