-- The rows after the last entry of a legal history, as the calls that take it in ask for them.
use Rattle.std.proofs.Common.{◌≡◌, ℕ, ◌+◌, ◌<◌, List, [], ◌∷◌, ◌++◌, length, set, get_or, find, ◌==◌, Contains, Option, Some, None, sym, ap, subst, ◌∙◌, arith, append-nil, length-append}
use Rattle.std.specs.List.{cons_option}
use Rattle.std.proofs.lemmas.List.Elements.{All-contains, Contains-push}
use Rattle.std.proofs.lemmas.Option.{none-some, same_Some}
use Rattle.farm_types.specs.declared.stage.Stage.{Stage}
use Rattle.farm_entry.specs.History.{all_leases, cancelled_in, counted, lease_in, lease_of, opening_in, opening_numbered, openings, report_in, skip_in, skipped, told_in}
use Rattle.farm_entry.specs.Legal.{IsLegal}
use Rattle.farm_entry.specs.declared.entry.Entry.{Entry}
use Rattle.farm_entry.specs.declared.lease.LeasedRun.{LeasedRun}
use Rattle.farm_entry.specs.declared.lease.ReportedRun.{ReportedRun}
use Rattle.farm_entry.specs.declared.lease.SkippedRun.{SkippedRun}
use Rattle.farm_entry.specs.declared.opening.Opening.{Opening}
use Rattle.farm_entry.proofs.Growing.{all_leases-grow}
use Rattle.farm_laws.specs.Openings.{HasOpening}
use Rattle.farm_laws.proofs.EntryParts.{told-facts}
use Rattle.farm_laws.proofs.Induct.{IsLegal-pushed}
use Rattle.farm_laws.proofs.Known.{leases-known}
use Rattle.farm_laws.proofs.Numbered.{lease-there, opening-found, opening-there}
use Rattle.farm_laws.proofs.Opened.{fresh-counted}
use Rattle.farm_laws.proofs.Stepped.{Stepped, stepped}
use Rattle.plain_farm.specs.Rows.{AreRows, IsCancelledRow, IsLeasedRow, IsOut, IsRow, IsSkipOf, IsStep, IsTold, IsToldOf}
use Rattle.plain_farm.specs.declared.rows.Row.{Row}
use Rattle.plain_farm.proofs.About.{none-told, told-alone}
use Rattle.plain_farm.proofs.Skipped.{fresh-skipped}
use Rattle.plain_farm.proofs.Keeping.{openings-more, openings-same, rows-opened, rows-unopened}
use Rattle.plain_farm.proofs.Taking.{HasNoRow, others-opened, rows-cancelled, rows-cancelled_none, rows-leased, rows-leased_none, rows-quiet, rows-reported, rows-reported_none}

-- look-ups by number, of the lists
abbrev lease-in : List LeasedRun → ℕ → Option LeasedRun
lease-in ls run = find (λ (l : LeasedRun). l.run == run) ls

abbrev opening-in : List Opening → ℕ → Option Opening
opening-in os search = find (λ (o : Opening). o.search == search) os

module _ (longer : List Entry) (e : Entry) (rows : List Row) (s : IsStep longer e rows) where
  made : Stepped s.before e.at e.what
  made = stepped s.before e (IsLegal-pushed s.before e s.legal_before (subst IsLegal s.whole s.legal))

  -- what holds of the entries and this one holds of the longer history
  longer-rows : (now : List Row) → AreRows (s.before ++ e ∷ []) now → AreRows longer now
  longer-rows now kept = subst (λ (H : List Entry). AreRows H now) (sym s.whole) kept

  -- An entry that opens a search.

  module _ (o : Opening) (is : opening_in e.what ≡ Some o) where
    pub opened-there : Contains (openings longer) o
    opened-there =
        subst (λ (H : List Entry). Contains (openings H) o) (sym s.whole)
        (subst (λ (os : List Opening). Contains os o) (sym (openings-more s.before e o is))
        (Contains-push (openings s.before) o))

    pub opened-fresh : (stage : Stage) → counted longer o.search stage ≡ []
    opened-fresh stage =
        ap (λ (H : List Entry). counted H o.search stage) s.whole ∙ fresh-counted s.before e o stage s.legal_before made is

    pub opened-unskipped : skipped longer o.search ≡ []
    opened-unskipped =
        ap (λ (H : List Entry). skipped H o.search) s.whole ∙ fresh-skipped s.before e o s.legal_before made is

    pub step-opened : (new : Row) → length rows + 1 ≡ o.search → IsRow longer o new → AreRows longer (rows ++ new ∷ [])
    step-opened new next row =
        longer-rows (rows ++ new ∷ [])
        (rows-opened s.before e o rows new s.legal_before made is s.kept (others-opened s.before e o s.legal_before made is)
        next (subst (λ (H : List Entry). IsTold H o new) s.whole row.told)
        (subst (λ (H : List Entry). IsOut H o.search new) s.whole row.out))

    pub step-unopened : AreRows longer rows
    step-unopened =
        longer-rows rows
        (rows-unopened s.before e o rows made is s.kept (others-opened s.before e o s.legal_before made is))

  -- A lease.

  pub long-before : length longer ≡ length s.before + 1
  long-before = ap length s.whole ∙ length-append s.before (e ∷ [])

  module _ (l : LeasedRun) (is : lease_in e.what ≡ Some l) where
    pub step-leased : (i : ℕ) (old new : Row) (place : ℕ) → i + 1 ≡ l.search → i < length rows → old ≡ get_or rows i old →
        place + 1 ≡ length longer → IsLeasedRow old new l place → AreRows longer (set rows i new)
    step-leased i old new place at below was last w =
        let here : place ≡ length s.before = omega (arith, last, long-before) in
        longer-rows (set rows i new)
        (rows-leased s.before e rows l i old new s.legal_before made is s.kept at below was
        (subst (λ (n : ℕ). IsLeasedRow old new l n) here w))

    pub step-leased_none : HasNoRow rows l.search → AreRows longer rows
    step-leased_none none = longer-rows rows (rows-leased_none s.before e rows l s.legal_before made is s.kept none)

  -- A report, with a verdict or not.

  module _ (run : ℕ) (is : told_in e.what ≡ Some run) where
    -- an entry that reports hands out no lease, and opens no search
    same-leases : all_leases longer ≡ all_leases s.before
    same-leases =
        ap all_leases s.whole ∙ all_leases-grow s.before e
        ∙ ap (λ (x : Option LeasedRun). all_leases s.before ++ cons_option x []) (told-alone e.what run is).lease
        ∙ append-nil (all_leases s.before)

    same-openings : openings longer ≡ openings s.before
    same-openings = ap openings s.whole ∙ openings-same s.before e (told-alone e.what run is).opening

    pub lease-before : lease_of longer run ≡ lease_of s.before run
    lease-before = ap (λ (ls : List LeasedRun). lease-in ls run) same-leases

    -- the lease of the run is there, and its search
    pub no-lease : lease_of longer run ≡ None → ⊥
    no-lease none =
        let facts = told-facts s.before e.at e.what run is made in
        none-some facts.lease (sym none ∙ lease-before ∙ facts.known)

    pub no-search : (l : LeasedRun) → lease_of longer run ≡ Some l → opening_numbered longer l.search ≡ None → ⊥
    no-search l known none =
        let there = lease-there s.before run l (sym lease-before ∙ known) in
        let has : HasOpening s.before l.search =
        All-contains (λ (x : LeasedRun). HasOpening s.before x.search) (all_leases s.before) l
        (leases-known s.before s.legal_before) there.0 in
        none-some has.0 (sym none ∙ ap (λ (os : List Opening). opening-in os l.search) same-openings ∙ has.1)

    module _ (l : LeasedRun) (known : lease_of longer run ≡ Some l) (o : Opening)
        (found : opening_numbered longer l.search ≡ Some o) where
      before-known : lease_of s.before run ≡ Some l
      before-known = sym lease-before ∙ known

      found-before : opening_numbered s.before l.search ≡ Some o
      found-before = sym (ap (λ (os : List Opening). opening-in os l.search) same-openings) ∙ found

      opened-before : Contains (openings s.before) o
      opened-before = (opening-there s.before l.search o found-before).0

      of_it : l.search ≡ o.search
      of_it = sym (opening-there s.before l.search o found-before).1

      kept-of : (i : ℕ) (row : Row) → i + 1 ≡ l.search → i < length rows → row ≡ get_or rows i row → IsRow s.before o row
      kept-of i row at below was = record {
        told = s.kept.told o i row opened-before (at ∙ of_it) below was;
        out = subst (λ (n : ℕ). IsOut s.before n row) (at ∙ of_it) (s.kept.out i row below was);
      }

      pub step-told : (r : ReportedRun) → report_in e.what ≡ Some r → r.run ≡ run → (i : ℕ) (row : Row) → i + 1 ≡ l.search →
          i < length rows → row ≡ get_or rows i row → IsToldOf longer o row l r
      step-told r reports its i row at below was = record {
        before = s.before;
        last = e;
        whole = s.whole;
        legal_before = s.legal_before;
        legal = s.legal;
        reported = reports;
        leased = ap (lease_of s.before) its ∙ before-known;
        of_search = of_it;
        opened = opened-before;
        kept = kept-of i row at below was;
      }

      pub step-skipped : (r : SkippedRun) → skip_in e.what ≡ Some r → r.run ≡ run → (i : ℕ) (row : Row) → i + 1 ≡ l.search →
          i < length rows → row ≡ get_or rows i row → IsSkipOf longer o row l r
      step-skipped r skips its i row at below was = record {
        before = s.before;
        last = e;
        whole = s.whole;
        legal_before = s.legal_before;
        legal = s.legal;
        reported = skips;
        leased = ap (lease_of s.before) its ∙ before-known;
        of_search = of_it;
        opened = opened-before;
        kept = kept-of i row at below was;
      }

      one-numbered : (x : Opening) → Contains (openings s.before) x → x.search ≡ o.search → x ≡ o
      one-numbered x there same =
          same_Some x o
          (sym (opening-found s.before x s.legal_before there) ∙ ap (opening_numbered s.before) same
          ∙ opening-found s.before o s.legal_before opened-before)

      pub step-reported : (i : ℕ) (new : Row) → i + 1 ≡ l.search → i < length rows → IsRow longer o new →
          AreRows longer (set rows i new)
      step-reported i new at below row =
          longer-rows (set rows i new)
          (rows-reported s.before e rows run l o i new s.legal_before made is before-known of_it opened-before s.kept at below
          one-numbered (subst (λ (H : List Entry). IsRow H o new) s.whole row))

      pub step-reported_none : HasNoRow rows l.search → AreRows longer rows
      step-reported_none none =
          longer-rows rows (rows-reported_none s.before e rows run l s.legal_before made is before-known s.kept none)

  -- A cancellation.

  module _ (q : ℕ) (is : cancelled_in e.what ≡ Some q) where
    pub step-cancelled : (i : ℕ) (old new : Row) → i + 1 ≡ q → i < length rows → old ≡ get_or rows i old →
        IsCancelledRow old new → AreRows longer (set rows i new)
    step-cancelled i old new at below was w =
        longer-rows (set rows i new) (rows-cancelled s.before e rows q i old new s.legal_before made is s.kept at below was w)

    pub step-cancelled_none : HasNoRow rows q → AreRows longer rows
    step-cancelled_none none = longer-rows rows (rows-cancelled_none s.before e rows q s.legal_before made is s.kept none)

  -- An entry that says nothing of a search.
  pub step-quiet : opening_in e.what ≡ None → lease_in e.what ≡ None → report_in e.what ≡ None → skip_in e.what ≡ None →
      cancelled_in e.what ≡ None → AreRows longer rows
  step-quiet opening lease report skip cancelled =
      longer-rows rows
      (rows-quiet s.before e rows s.legal_before made opening lease (none-told e.what report skip) cancelled s.kept)
