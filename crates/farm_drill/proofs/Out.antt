-- Marks of runs that are out: made entry by entry, and taken by their reports.
use Rattle.std.proofs.Common.{◌≡◌, ◌≢◌, ◌⊎◌, ℕ, zero, suc, ◌+◌, ◌<◌, ◌≤◌, ◌==◌, Bool, true, false, ◌&&◌, List, [], ◌∷◌, ◌++◌, length, take, get_or, All, Option, Some, None, refl, sym, ap, subst, ◌∙◌, ⊎_elim, inl, inr, append-nil, arith, true≢false}
use Rattle.std.specs.List.{cons_option, list_any}
use Rattle.std.proofs.lemmas.Bool.{or_parts}
use Rattle.std.proofs.lemmas.Bool.Decides.{nat_tests}
use Rattle.std.proofs.lemmas.List.{take_all}
use Rattle.std.proofs.lemmas.List.Elements.{All-nil, All-push, All-weaker}
use mathlib.Core.Logic.{dite}
use native.Mathlib.Decide.{ℕ_discrete}
use Rattle.farm_entry.specs.History.{all_leases, is_of_run, is_report_of, is_reported, lease_in, told_in}
use Rattle.farm_entry.specs.declared.entry.Entry.{Entry}
use Rattle.farm_entry.specs.declared.lease.LeasedRun.{LeasedRun}
use Rattle.farm_entry.proofs.Growing.{all_leases-grow}
use Rattle.farm_drill.specs.Ends.{AllReported}
use Rattle.farm_drill.specs.Reported.{AreOut, is_marked}
use Rattle.farm_drill.proofs.Growing.{leases-with}
use Rattle.farm_drill.proofs.Marks.{take-at}
use Rattle.farm_drill.proofs.Reports.{reported-last, reported-stays}

-- a run that isn't marked is reported
abbrev IsIn : List Entry → List Bool → LeasedRun → Type 0
IsIn H out l = is_marked out l.run ≡ false → is_reported H l.run ≡ true

-- what is known of the leases from before
in-still : (H : List Entry) (e : Entry) (old new : List Bool) (l : LeasedRun)
    → (is_marked new l.run ≡ false → (is_marked old l.run ≡ false) ⊎ (is_report_of l.run e ≡ true))
    → IsIn H old l → IsIn (H ++ e ∷ []) new l
in-still H e old new l from before unmarked =
    ⊎_elim
    (λ (was : is_marked old l.run ≡ false). reported-stays l.run H (e ∷ []) (before was))
    (λ (now : is_report_of l.run e ≡ true). reported-last l.run H e now)
    (from unmarked)

no-lease : (H : List Entry) (e : Entry) → lease_in e.what ≡ None → all_leases (H ++ e ∷ []) ≡ all_leases H
no-lease H e none =
    all_leases-grow H e
    ∙ (ap (λ (o : Option LeasedRun). all_leases H ++ cons_option o []) none ∙ append-nil (all_leases H))

out-same : (H : List Entry) (e : Entry) (old new : List Bool) → lease_in e.what ≡ None
    → ((l : LeasedRun) → is_marked new l.run ≡ false → (is_marked old l.run ≡ false) ⊎ (is_report_of l.run e ≡ true))
    → AreOut H old → AreOut (H ++ e ∷ []) new
out-same H e old new none from before =
    subst (All (IsIn (H ++ e ∷ []) new)) (sym (no-lease H e none))
    (All-weaker (IsIn H old) (IsIn (H ++ e ∷ []) new) (λ l h. in-still H e old new l (from l) h) (all_leases H) before)

-- the entry hands out a run, which is marked
pub out-lease : (H : List Entry) (e : Entry) (lease : LeasedRun) (old new : List Bool) → lease_in e.what ≡ Some lease
    → is_marked new lease.run ≡ true → ((n : ℕ) → n ≢ lease.run → is_marked new n ≡ is_marked old n)
    → AreOut H old → AreOut (H ++ e ∷ []) new
out-lease H e lease old new is here others before =
    let other : (l : LeasedRun) → is_marked new l.run ≡ false
    → (is_marked old l.run ≡ false) ⊎ (is_report_of l.run e ≡ true) =
    λ l unmarked. dite (ℕ_discrete l.run lease.run)
    (λ same. absurd (true≢false (sym here ∙ (ap (is_marked new) (sym same) ∙ unmarked))))
    (λ apart. inl (sym (others l.run apart) ∙ unmarked)) in
    subst (All (IsIn (H ++ e ∷ []) new)) (sym (leases-with H (H ++ e ∷ []) e lease refl is))
    (All-push (IsIn (H ++ e ∷ []) new) (all_leases H) lease
    (All-weaker (IsIn H old) (IsIn (H ++ e ∷ []) new) (λ l h. in-still H e old new l (other l) h) (all_leases H) before)
    (λ unmarked. absurd (true≢false (sym here ∙ unmarked))))

-- the entry reports a run, whose mark may be taken
pub out-report : (H : List Entry) (e : Entry) (run : ℕ) (old new : List Bool) → lease_in e.what ≡ None
    → told_in e.what ≡ Some run → ((n : ℕ) → n ≢ run → is_marked new n ≡ is_marked old n)
    → AreOut H old → AreOut (H ++ e ∷ []) new
out-report H e run old new none is others before =
    out-same H e old new none
    (λ l unmarked. dite (ℕ_discrete l.run run)
    (λ same.
    let eq : run == l.run ≡ true = grind (arith, nat_tests, same) in
    inr (ap (is_of_run l.run) is ∙ eq))
    (λ apart. inl (sym (others l.run apart) ∙ unmarked)))
    before

-- the entry is of another kind
pub out-other : (H : List Entry) (e : Entry) (out : List Bool) → lease_in e.what ≡ None → AreOut H out
    → AreOut (H ++ e ∷ []) out
out-other H e out none before = out-same H e out out none (λ l unmarked. inl unmarked) before

pub out-begin : (H : List Entry) (out : List Bool) → AreOut (take 0 H) out
out-begin H out = All-nil (IsIn [] out)

pub out-more : (H : List Entry) (i : ℕ) (e : Entry) (old new : List Bool) (fits noted : Bool) → i < length H
    → e ≡ get_or H i e → (fits ≡ true → AreOut (take i H) old)
    → (noted ≡ true → (G : List Entry) → AreOut G old → AreOut (G ++ e ∷ []) new)
    → (fits && noted) ≡ true → AreOut (take (i + 1) H) new
out-more H i e old new true noted below is before next fit =
    subst (λ (G : List Entry). AreOut G new) (sym (take-at H i e below is)) (next fit (take i H) (before refl))
out-more H i e old new false noted below is before next fit = absurd (true≢false (sym fit))

-- none is marked where none passes
unmarked-at : (p : Bool → Bool) (out : List Bool) (n : ℕ) → p true ≡ true → list_any p out ≡ false
    → is_marked out n ≡ false
unmarked-at p [] n is none = refl
unmarked-at p (true ∷ out) zero is none = absurd (true≢false (sym is ∙ (or_parts (p true) (list_any p out) none).0))
unmarked-at p (false ∷ out) zero is none = refl
unmarked-at p (x ∷ out) (suc n) is none = unmarked-at p out n is (or_parts (p x) (list_any p out) none).1

-- where none is marked as out, all are reported
pub out-none : (H : List Entry) (i : ℕ) (p : Bool → Bool) (out : List Bool) → p true ≡ true → length H ≤ i
    → list_any p out ≡ false → AreOut (take i H) out → AllReported H
out-none H i p out is past none all =
    let whole : AreOut H out = subst (λ (G : List Entry). AreOut G out) (take_all i H past) all in
    All-weaker (IsIn H out) (λ (l : LeasedRun). is_reported H l.run ≡ true)
    (λ l h. h (unmarked-at p out l.run is none)) (all_leases H) whole
