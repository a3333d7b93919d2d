-- What is found in a legal history is few, so that its numbers fit.
use Rattle.std.proofs.Common.{◌≡◌, ℕ, ◌+◌, ◌≤◌, ◌==◌, List, length, filter, count_by, nat_lt, Bool, false, if◌then◌else◌, ap, ◌∙◌, arith}
use Rattle.std.proofs.lemmas.List.Sums.{count_by-le-length, length-filter}
use Rattle.std.proofs.lemmas.Bool.Decides.{nat_tests}
use Rattle.weight_exact.specs.Load.{is_fail_above, last_pass, load}
use Rattle.weight_exact.specs.declared.factors.Factors.{Factors}
use Rattle.weight_exact.specs.declared.run.Run.{Run}
use Rattle.farm_rules.specs.Orders.{Ordered, orders_of}
use Rattle.farm_types.specs.declared.stage.Stage.{Stage}
use Rattle.farm_entry.specs.History.{all_leases, counted, counted_run, lease_in, leases, order_in, order_lines, ordered_in, report_in, reports}
use Rattle.farm_entry.specs.Legal.{IsLegal}
use Rattle.farm_entry.specs.Orders.{orders}
use Rattle.farm_entry.specs.declared.limits.TheConstants.{MAX_ENTRIES}
use Rattle.farm_entry.specs.declared.entry.Entry.{Entry}
use Rattle.farm_entry.specs.declared.lease.LeasedRun.{LeasedRun}
use Rattle.plain_farm.proofs.Histories.{few_entries}
use Rattle.plain_history.proofs.Holding.{length-filter_map-le, length-filter-le}

not_above : (n : ℕ) → n ≤ 0 → nat_lt 0 n ≡ false
not_above n h = grind (arith, nat_tests)

pub few_leases : (H : List Entry) → IsLegal H → length (all_leases H) ≤ MAX_ENTRIES + 1
few_leases H legal = omega (arith, length-filter_map-le (λ (e : Entry). lease_in e.what) H, few_entries H legal)

pub few_orders : (H : List Entry) → IsLegal H → length (order_lines H) ≤ MAX_ENTRIES + 1
few_orders H legal = omega (arith, length-filter_map-le (λ (e : Entry). order_in e.what) H, few_entries H legal)

pub few_of_search : (H : List Entry) (search : ℕ) → IsLegal H → length (leases H search) ≤ MAX_ENTRIES + 1
few_of_search H search legal = omega (arith, length-filter-le (λ (l : LeasedRun). l.search == search) (all_leases H), few_leases H legal)

pub few_counted : (H : List Entry) (search : ℕ) (stage : Stage) → IsLegal H → length (counted H search stage) ≤ MAX_ENTRIES + 1
few_counted H search stage legal =
    omega (arith, length-filter_map-le (counted_run H search stage) (reports H), length-filter_map-le (λ (e : Entry). report_in e.what) H, few_entries H legal)

pub few_of_day : (H : List Entry) (day : ℕ) (those : List Ordered) → IsLegal H → those ≡ orders H → orders_of day those ≤ MAX_ENTRIES + 1
few_of_day H day those legal are =
    omega (
      arith,
      count_by-le-length (λ (o : Ordered). o.day == day) those,
      ap length are,
      length-filter_map-le (λ (e : Entry). ordered_in e.what) H,
      few_entries H legal,
    )

-- where a broken test never passes, the load is the number of fails above the last pass
pub load-never : (f : Factors) (told : List Run) → f.pass_in ≤ 0 → load f told ≡ count_by (is_fail_above (last_pass told)) told
load-never f told zero =
    let never : nat_lt 0 f.pass_in ≡ false = not_above f.pass_in zero in
    ap (λ (b : Bool). length (if b then told else filter (is_fail_above (last_pass told)) told)) never
    ∙ length-filter (is_fail_above (last_pass told)) told
