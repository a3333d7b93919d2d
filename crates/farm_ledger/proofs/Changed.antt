-- What the rows ask of the entry that is added, or taken away, and what they are then.
use Rattle.std.proofs.Common.{◌≡◌, ℕ, ◌+◌, ◌-◌, ◌<◌, ◌≤◌, ◌==◌, ◌^◌, Bool, true, if◌then◌else◌, List, [], ◌∷◌, ◌++◌, length, take, drop, take-append-drop, length-take-le, get_or, Option, Some, None, refl, sym, ap, subst, ◌∙◌, arith}
use Rattle.std.specs.Option.{IfSome, is_some}
use Rattle.std.proofs.lemmas.Bool.Decides.{nat_tests}
use Rattle.farm_types.specs.Moment.{moment_ms}
use Rattle.farm_entry.specs.History.{all_leases, lease_in, leases, opening_in, openings}
use Rattle.farm_entry.specs.Legal.{IsLegal}
use Rattle.farm_entry.specs.declared.entry.Entry.{Entry}
use Rattle.farm_entry.specs.declared.lease.LeasedRun.{LeasedRun}
use Rattle.farm_laws.proofs.Bounds.{entries-bounded}
use Rattle.farm_laws.proofs.EntryParts.{leased-facts}
use Rattle.farm_laws.proofs.Induct.{IsLegal-first}
use Rattle.farm_laws.proofs.Known.{next_run-due}
use Rattle.farm_laws.proofs.Stepped.{Stepped}
use Rattle.plain_history.proofs.Holding.{length-filter-le, length-filter_map-le}
use Rattle.farm_ledger.specs.Rows.{AreRows, blank, with_lease, with_row, without_lease, without_row}
use Rattle.farm_ledger.specs.declared.notes.Row.{Row}
use Rattle.farm_ledger.proofs.Counts.{HasRow, added_at, leases-more, opened-number, popped-counts, pushed-counts}
use Rattle.farm_ledger.proofs.Places.{openings-count, popped-places, pushed-places, rows-count}

-- a lease has at most as many fellows as there are entries
pub leases-bounded : (H : List Entry) (n : ℕ) → length (leases H n) ≤ length H
leases-bounded H n =
    omega (
      arith,
      length-filter-le (λ (l : LeasedRun). l.search == n) (all_leases H),
      length-filter_map-le (λ (e : Entry). lease_in e.what) H,
    )

-- the search of a lease
abbrev pub HasNumber : List Entry → LeasedRun → Type 0
HasNumber H l = (0 < l.search) × (l.search ≤ length (openings H))

lease-numbered : (H : List Entry) (e : Entry) (l : LeasedRun) → IsLegal H → Stepped H e.at e.what → lease_in e.what ≡ Some l →
    HasNumber H l
lease-numbered H e l legal step is =
    let due_in = next_run-due H (moment_ms e.at) _ (leased-facts H e.at e.what l is step).due in
    let number = opened-number H due_in.opening legal due_in.there in
    (omega (arith, number.0, due_in.of_search), omega (arith, number.1, due_in.of_search))

-- An entry that is added.

pub lease-rowed : (H : List Entry) (e : Entry) (rows : List Row) (lease : Option LeasedRun) → IsLegal H → AreRows H rows →
    Stepped H e.at e.what → lease ≡ lease_in e.what → IfSome lease (HasRow rows)
lease-rowed H e rows None legal are step is = tt
lease-rowed H e rows (Some l) legal are step is =
    let number = lease-numbered H e l legal step (sym is) in
    (number.0, omega (arith, number.1, rows-count H rows are.places))

pub lease-few : (H : List Entry) (rows : List Row) (lease : Option LeasedRun) → IsLegal H → AreRows H rows →
    IfSome lease (λ l. (get_or rows (l.search - 1) blank).leases + 1 < 2 ^ 32)
lease-few H rows None legal are = tt
lease-few H rows (Some l) legal are =
    omega (
      arith,
      are.counts (l.search - 1),
      leases-bounded H (l.search - 1 + 1),
      entries-bounded H legal,
    )

pub pushed-rows : (H : List Entry) (e : Entry) (rows : List Row) (place : ℕ) → IsLegal H → AreRows H rows → Stepped H e.at e.what →
    place ≡ length H →
    AreRows (H ++ e ∷ []) (with_row (with_lease rows (lease_in e.what)) (is_some (opening_in e.what)) place)
pushed-rows H e rows place legal are step at = record {
  places = pushed-places H e rows (lease_in e.what) place at are.places;
  counts = pushed-counts H e rows (is_some (opening_in e.what)) place are.counts
      (lease-rowed H e rows (lease_in e.what) legal are step refl);
}

-- An entry that is taken away.

pub lease-still_rowed : (G : List Entry) (e : Entry) (rows : List Row) (lease : Option LeasedRun) → IsLegal G →
    AreRows (G ++ e ∷ []) rows → Stepped G e.at e.what → lease ≡ lease_in e.what → IfSome lease (HasRow rows)
lease-still_rowed G e rows None legal are step is = tt
lease-still_rowed G e rows (Some l) legal are step is =
    let number = lease-numbered G e l legal step (sym is) in
    let more : length (openings (G ++ e ∷ [])) ≡ _ = openings-count G e in
    (number.0, omega (arith, number.1, rows-count (G ++ e ∷ []) rows are.places, more))

pub lease-counted : (G : List Entry) (e : Entry) (rows : List Row) (lease : Option LeasedRun) → IsLegal G →
    AreRows (G ++ e ∷ []) rows → Stepped G e.at e.what → lease ≡ lease_in e.what →
    IfSome lease (λ l. 0 < (get_or rows (l.search - 1) blank).leases)
lease-counted G e rows None legal are step is = tt
lease-counted G e rows (Some l) legal are step is =
    let number = lease-numbered G e l legal step (sym is) in
    let one : added_at (lease_in e.what) (l.search - 1) ≡ 1 =
    ap (λ (x : Option LeasedRun). added_at x (l.search - 1)) (sym is) ∙ here l number.0 in
    omega (arith, are.counts (l.search - 1), leases-more G e (l.search - 1), one)
  where
    here : (l : LeasedRun) → 0 < l.search → added_at (Some l) (l.search - 1) ≡ 1
    here l some =
        let this : l.search == l.search - 1 + 1 ≡ true = grind (arith, nat_tests, some) in
        ap (λ (b : Bool). if b then 1 else 0) this

pub popped-rows : (G : List Entry) (e : Entry) (rows : List Row) → IsLegal G → AreRows (G ++ e ∷ []) rows →
    Stepped G e.at e.what →
    AreRows G (without_row (without_lease rows (lease_in e.what)) (is_some (opening_in e.what)))
popped-rows G e rows legal are step = record {
  places = popped-places G e rows (lease_in e.what) are.places;
  counts = popped-counts G e rows legal (rows-count (G ++ e ∷ []) rows are.places) (openings-count G e) are.counts
      (lease-still_rowed G e rows (lease_in e.what) legal are step refl)
      (lease-counted G e rows (lease_in e.what) legal are step refl);
}

-- a history without its last entry
pub popped-legal : (H : List Entry) → IsLegal H → 1 < length H → IsLegal (take (length H - 1) H)
popped-legal H legal some =
    let n : ℕ = length H - 1 in
    let long : length (take n H) ≡ n = length-take-le n H (omega arith) in
    IsLegal-first (take n H) (drop n H) (λ h. (let none : length (take n H) ≡ 0 = ap length h in
    absurd (omega (arith, none, long, some)))) (subst IsLegal (sym (take-append-drop n H)) legal)
