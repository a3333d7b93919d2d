-- What goes by the plan does so in a longer history, and with one entry more that does.
use Rattle.std.proofs.Common.{◌≡◌, ◌<◌, ◌+◌, ◌⊎◌, ◌++◌, ◌∷◌, [], ℕ, zero, suc, nat_lt, true, false, is_some, List, length, slice_get, Some, refl, sym, ap, subst, ◌∙◌, ⊎_elim, arith, append-nil, append_assoc, length-append}
use Rattle.std.proofs.lemmas.Bool.{cases_Bool}
use Rattle.std.proofs.lemmas.Bool.Decides.{nat_tests}
use Rattle.std.proofs.lemmas.Option.{none-some}
use Rattle.weight_exact.specs.declared.run.Verdict.{Verdict}
use Rattle.common_types.specs.Prefix.{IsPrefix}
use Rattle.farm_entry.specs.History.{lease_of, order_in}
use Rattle.farm_entry.specs.declared.command.Command.{Command}
use Rattle.farm_entry.specs.declared.command.Command.TheVariants as command
use Rattle.farm_entry.specs.declared.entry.Entry.{Entry}
use Rattle.farm_entry.specs.declared.entry.What.{What}
use Rattle.farm_entry.specs.declared.entry.What.TheVariants.{Reported, Skipped}
use Rattle.farm_entry.specs.declared.lease.LeasedRun.{LeasedRun}
use Rattle.farm_laws.proofs.Filters.{lease_of-stays}
use Rattle.farm_laws.proofs.Replies.{slice_get-last}
use Rattle.farm_drill.specs.Ends.{AreOrders}
use Rattle.farm_drill.specs.Planned.{ArePlanned, AsksByPlan, GoesByPlan, IsPlanned, IsPlannedAt, SaysPlan}

pub leased-longer : (H rest : List Entry) (run : ℕ) (l : LeasedRun) → lease_of H run ≡ Some l
    → lease_of (H ++ rest) run ≡ Some l
leased-longer H [] run l is = ap (λ (es : List Entry). lease_of es run) (append-nil H) ∙ is
leased-longer H (e ∷ rest) run l is =
    ap (λ (es : List Entry). lease_of es run) (sym (append_assoc H (e ∷ []) rest))
    ∙ leased-longer (H ++ e ∷ []) rest run l (lease_of-stays H e run l is)

pub leased-on : (H G : List Entry) (run : ℕ) (l : LeasedRun) → IsPrefix H G → lease_of H run ≡ Some l
    → lease_of G run ≡ Some l
leased-on H G run l longer is =
    ap (λ (es : List Entry). lease_of es run) longer.1 ∙ leased-longer H longer.0 run l is

pub planned-on : (H G : List Entry) (run : ℕ) (verdict : Verdict) → IsPrefix H G → IsPlanned H run verdict
    → IsPlanned G run verdict
planned-on H G run verdict longer is =
    record { lease = is.lease; leased = leased-on H G run is.lease longer is.leased; says = is.says }

says-on : (H G : List Entry) (what : What) → IsPrefix H G → SaysPlan H what → SaysPlan G what
says-on H G (Reported run verdict _) longer says = planned-on H G run verdict longer says
says-on H G (Skipped run _) longer says = says
says-on H G what longer says = tt

pub asks-on : (H G : List Entry) (q : Command) → IsPrefix H G → AsksByPlan H q → AsksByPlan G q
asks-on H G (command.Report run verdict) longer asks = planned-on H G run verdict longer asks
asks-on H G (command.Skip run) longer asks = asks
asks-on H G q longer asks = tt

there-on : (H rest : List Entry) (place : ℕ) (e : Entry) → slice_get H place ≡ Some e
    → slice_get (H ++ rest) place ≡ Some e
there-on [] rest zero e there = absurd (none-some e there)
there-on [] rest (suc place) e there = absurd (none-some e there)
there-on (x ∷ H) rest zero e there = there
there-on (x ∷ H) rest (suc place) e there = there-on H rest place e there

pub place-on : (H G : List Entry) (place : ℕ) → IsPrefix H G → IsPlannedAt H place → IsPlannedAt G place
place-on H G place longer is = record {
  entry = is.entry;
  there = subst (λ (es : List Entry). slice_get es place ≡ Some is.entry) (sym longer.1)
      (there-on H longer.0 place is.entry is.there);
  says = says-on H G is.entry.what longer is.says;
}

pub places-on : (H G : List Entry) (places : List ℕ) → IsPrefix H G → ArePlanned H places → ArePlanned G places
places-on H G places longer are place one = place-on H G place longer (are place one)

below-is : (m n : ℕ) → nat_lt m n ≡ true → m < n
below-is m n test = grind (arith, nat_tests)

last-is : (H : List Entry) (e : Entry) (place : ℕ) → place < length (H ++ e ∷ []) → nat_lt place (length H) ≡ false
    → place ≡ length H
last-is H e place below test =
    let one : length (H ++ e ∷ []) ≡ length H + 1 = length-append H (e ∷ []) in grind (arith, nat_tests)

pub last-planned : (H : List Entry) (e : Entry) (place : ℕ) → place ≡ length H → SaysPlan (H ++ e ∷ []) e.what
    → IsPlannedAt (H ++ e ∷ []) place
last-planned H e place is says =
    record { entry = e; there = ap (slice_get (H ++ e ∷ [])) is ∙ slice_get-last H e; says = says }

pub one-more : (H : List Entry) (e : Entry) → GoesByPlan H → SaysPlan (H ++ e ∷ []) e.what
    → GoesByPlan (H ++ e ∷ [])
one-more H e goes says place below =
    ⊎_elim
    (λ (before : nat_lt place (length H) ≡ true).
    place-on H (H ++ e ∷ []) place (e ∷ [], refl) (goes place (below-is place (length H) before)))
    (λ (past : nat_lt place (length H) ≡ false). last-planned H e place (last-is H e place below past) says)
    (cases_Bool (nat_lt place (length H)))

-- orders report nothing

order-says : (G : List Entry) (what : What) → is_some (order_in what) ≡ true → SaysPlan G what
order-says G (Reported run verdict _) is = cc is
order-says G (Skipped run _) is = cc is
order-says G what is = tt

orders-more : (H orders : List Entry) → AreOrders orders → GoesByPlan H → GoesByPlan (H ++ orders)
orders-more H [] all goes = subst GoesByPlan (sym (append-nil H)) goes
orders-more H (e ∷ es) all goes =
    subst GoesByPlan (append_assoc H (e ∷ []) es)
    (orders-more (H ++ e ∷ []) es (λ i d below. all (suc i) d (omega (arith, below)))
    (one-more H e goes (order-says (H ++ e ∷ []) e.what (all 0 e (omega arith)))))

pub orders-go : (H orders new : List Entry) → new ≡ H ++ orders → AreOrders orders → GoesByPlan H → GoesByPlan new
orders-go H orders new is all goes = subst GoesByPlan (sym is) (orders-more H orders all goes)
