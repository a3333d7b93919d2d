-- What a history holds after appending an entry.
use Rattle.std.proofs.Common.{◌≡◌, ℕ, zero, suc, ◌+◌, List, [], ◌∷◌, ◌++◌, length, get_or, Option, arith, refl}
use Rattle.std.specs.List.{cons_option, filter_map}
use Rattle.std.proofs.lemmas.List.Elements.{filter_map-append}
use Rattle.farm_types.specs.declared.moment.Moment.{Moment}
use Rattle.farm_entry.specs.Decision.{last_moment}
use Rattle.farm_entry.specs.History.{all_leases, cancellations, cancelled_in, lease_in, opening_in, openings, order_in, order_lines, ordered_in, report_in, reports, skip_in, skips, told_in, told_runs}
use Rattle.farm_entry.specs.Orders.{orders}
use Rattle.farm_entry.specs.declared.entry.Entry.{Entry}
use Rattle.farm_entry.specs.declared.entry.What.{What}

-- the parts of the entries, and that of the one more where it has it
pub parts-grow : {X : Type 0} (part : What → Option X) (H : List Entry) (e : Entry) →
    filter_map (λ (x : Entry). part x.what) (H ++ e ∷ []) ≡ filter_map (λ (x : Entry). part x.what) H ++ cons_option (part e.what) []
parts-grow part H e = filter_map-append (λ (x : Entry). part x.what) H (e ∷ [])

pub openings-grow : (H : List Entry) (e : Entry) → openings (H ++ e ∷ []) ≡ openings H ++ cons_option (opening_in e.what) []
openings-grow H e = parts-grow opening_in H e

pub all_leases-grow : (H : List Entry) (e : Entry) → all_leases (H ++ e ∷ []) ≡ all_leases H ++ cons_option (lease_in e.what) []
all_leases-grow H e = parts-grow lease_in H e

pub reports-grow : (H : List Entry) (e : Entry) → reports (H ++ e ∷ []) ≡ reports H ++ cons_option (report_in e.what) []
reports-grow H e = parts-grow report_in H e

pub skips-grow : (H : List Entry) (e : Entry) → skips (H ++ e ∷ []) ≡ skips H ++ cons_option (skip_in e.what) []
skips-grow H e = parts-grow skip_in H e

pub told_runs-grow : (H : List Entry) (e : Entry) → told_runs (H ++ e ∷ []) ≡ told_runs H ++ cons_option (told_in e.what) []
told_runs-grow H e = parts-grow told_in H e

pub cancellations-grow : (H : List Entry) (e : Entry) →
    cancellations (H ++ e ∷ []) ≡ cancellations H ++ cons_option (cancelled_in e.what) []
cancellations-grow H e = parts-grow cancelled_in H e

pub order_lines-grow : (H : List Entry) (e : Entry) → order_lines (H ++ e ∷ []) ≡ order_lines H ++ cons_option (order_in e.what) []
order_lines-grow H e = parts-grow order_in H e

pub orders-grow : (H : List Entry) (e : Entry) → orders (H ++ e ∷ []) ≡ orders H ++ cons_option (ordered_in e.what) []
orders-grow H e = parts-grow ordered_in H e

pub last_moment-push : (m : Moment) (H : List Entry) (e : Entry) → last_moment m (H ++ e ∷ []) ≡ e.at
last_moment-push m [] e = refl
last_moment-push m (first ∷ H) e = last_moment-push first.at H e

-- the last moment is that of the entry at the last place
pub last_moment-last : (m : Moment) (H : List Entry) (place : ℕ) (e : Entry) → place + 1 ≡ length H → last_moment m H ≡ (get_or H place e).at
last_moment-last m [] place e h = absurd (omega arith)
last_moment-last m (x ∷ []) zero e h = refl
last_moment-last m (x ∷ []) (suc place) e h = absurd (omega arith)
last_moment-last m (x ∷ y ∷ H) zero e h = absurd (omega arith)
last_moment-last m (x ∷ y ∷ H) (suc place) e h = last_moment-last x.at (y ∷ H) place e (omega arith)
