-- One step of the caller: a run that is leased and reported, or an order.
use Rattle.std.proofs.Common.{◌≡◌, ◌⊎◌, inl, inr, ◌+◌, ◌-◌, ◌<◌, ◌≤◌, ◌++◌, ◌∷◌, [], true, false, List, Contains, length, Some, None, sym, subst, ◌∙◌, ⊎_elim, append-nil, arith}
use Rattle.common_types.specs.Prefix.{IsPrefix}
use Rattle.farm_types.specs.declared.key.Key.{Key}
use Rattle.farm_entry.specs.History.{all_leases, is_closed, is_reported, key_in, place_of_key}
use Rattle.farm_entry.specs.Legal.{IsLegal}
use Rattle.farm_entry.specs.declared.entry.Entry.{Entry}
use Rattle.farm_entry.specs.declared.lease.LeasedRun.{LeasedRun}
use Rattle.farm_entry.specs.declared.limits.TheConstants.{MAX_ENTRIES}
use Rattle.drill_plan.specs.Start.{drill_founding}
use Rattle.farm_drill.specs.Ends.{AllReported, AreOrders, AreRun, IsFull}
use Rattle.farm_drill.specs.Free.{AreFree}
use Rattle.farm_drill.specs.Steps.{FindsNone, GivesOrder, HandsOut}
use Rattle.farm_drill.specs.declared.keys.Keys.{Keys}
use Rattle.farm_drill.proofs.Growing.{all-after, lease-there}
use Rattle.farm_drill.proofs.Leases.{none-due}
use Rattle.farm_drill.proofs.Steps.{free-on, free-then, longer-by, one-order-more, prefix-le}

pub handed-there : (H mid : List Entry) (key : Key) (lease : LeasedRun) → HandsOut H key lease mid
    → Contains (all_leases mid) lease
handed-there H mid key lease handed = lease-there H mid handed.more.entry lease handed.more.is handed.handed

-- all runs are reported again, the keys that are left are free, and there is less room
pub record IsRestOn (H new : List Entry) (keys : Keys) : Type 0 where
  pub reported : AllReported new
  pub free : AreFree new keys
  pub shorter : MAX_ENTRIES - length new < MAX_ENTRIES - length H

pub rest-on : (H mid new : List Entry) (key : Key) (lease : LeasedRun) (keys : Keys) → AllReported H
    → HandsOut H key lease mid
    → ((e : Entry) → key_in e.what ≡ Some key → AreFree (H ++ e ∷ []) keys) → IsPrefix mid new
    → all_leases new ≡ all_leases mid
    → ((key' : Key) → place_of_key mid key' ≡ None → place_of_key new key' ≡ None) → is_reported new lease.run ≡ true
    → IsRestOn H new keys
rest-on H mid new key lease keys all handed free longer leases stay now =
    let e : Entry = handed.more.entry in
    let one : length mid ≡ length H + 1 = longer-by H mid e handed.more.is in
    let most : length mid ≤ length new = prefix-le mid new longer in
    let room : length H < MAX_ENTRIES = handed.more.room in
    record {
      reported = all-after H mid new e lease all handed.more.is handed.handed leases longer now;
      free = free-on mid new keys (free-then H mid e keys handed.more.is (free e handed.more.keyed)) stay;
      shorter = omega arith;
    }

-- where no run is handed out, the history is full or the runs have come to their end
pub rest-ended : (H new : List Entry) → IsLegal new → is_closed new ≡ false → IsPrefix (drill_founding ∷ []) new
    → AllReported H → new ≡ H → IsFull new ⊎ FindsNone new → IsFull new ⊎ AreRun new
rest-ended H new legal unclosed founded all same why =
    ⊎_elim (λ (full : IsFull new). inl full)
    (λ (finds : FindsNone new).
    inr (record { reported = subst AllReported (sym same) all; none_due = none-due new legal unclosed founded finds }))
    why

-- orders alone are added, the keys that are left are free, and there is less room
pub record IsOrderOn (start H new : List Entry) (keys : Keys) : Type 0 where
  pub orders : (more : List Entry) × AreOrders more × (new ≡ start ++ more)
  pub free : AreFree new keys
  pub longer : IsPrefix H new
  pub shorter : MAX_ENTRIES - length new < MAX_ENTRIES - length H

pub order-on : (start H new : List Entry) (key : Key) (keys : Keys)
    → ((orders : List Entry) × AreOrders orders × (H ≡ start ++ orders)) → GivesOrder H key new
    → ((e : Entry) → key_in e.what ≡ Some key → AreFree (H ++ e ∷ []) keys) → IsOrderOn start H new keys
order-on start H new key keys orders gives free =
    let e : Entry = gives.more.entry in
    let one : length new ≡ length H + 1 = longer-by H new e gives.more.is in
    let room : length H < MAX_ENTRIES = gives.more.room in
    record {
      orders = one-order-more start H new orders.0 e orders.1 orders.2 gives.more.is gives.order;
      free = free-then H new e keys gives.more.is (free e gives.more.keyed);
      longer = (e ∷ [], gives.more.is);
      shorter = omega arith;
    }

pub orders-none : (H : List Entry) → (orders : List Entry) × AreOrders orders × (H ≡ H ++ orders)
orders-none H = ([], (λ k d within. absurd (omega (arith, within))), sym (append-nil H))

-- what was ordered stands in what is there now
pub orders-same : (start H new : List Entry) → new ≡ H
    → ((orders : List Entry) × AreOrders orders × (H ≡ start ++ orders))
    → (orders : List Entry) × AreOrders orders × (new ≡ start ++ orders)
orders-same start H new same orders = (orders.0, orders.1, same ∙ orders.2)
