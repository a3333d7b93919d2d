-- The runs without a report, one after the other.
use Rattle.std.proofs.Common.{◌≡◌, ◌+◌, ◌<◌, ◌≤◌, ℕ, zero, suc, Bool, true, not, List, [], ◌∷◌, All, Contains, length, take, get_or, refl, sym, subst, ◌∙◌, arith}
use Rattle.std.proofs.lemmas.List.{take_all}
use Rattle.common_types.specs.Prefix.{IsPrefix}
use Rattle.farm_entry.specs.History.{all_leases, is_reported}
use Rattle.farm_entry.specs.declared.entry.Entry.{Entry}
use Rattle.farm_entry.specs.declared.lease.LeasedRun.{LeasedRun}
use Rattle.farm_drill.specs.Ends.{AllReported}
use Rattle.farm_drill.specs.Reported.{AreRunsMarked, is_marked, unmarked}
use Rattle.farm_drill.proofs.Growing.{reported-longer}
use Rattle.farm_drill.proofs.Marks.{all-reported, filter-in}
use Rattle.farm_drill.proofs.Steps.{reports-more}

-- a member at a place, whatever stands for one past the end
at-default : {X : Type 0} (xs : List X) (i : ℕ) (d : X) → i < length xs → get_or xs i d ≡ get_or xs i (get_or xs i d)
at-default [] i d below = absurd (omega arith)
at-default (x ∷ xs) zero d below = refl
at-default (x ∷ xs) (suc i) d below = at-default xs i d (omega arith)

-- each of them was handed out
pub missing-leased : (H G : List Entry) (marks : List Bool) (missing : List LeasedRun) (i : ℕ) (d : LeasedRun)
    → missing ≡ unmarked marks (all_leases H) → all_leases G ≡ all_leases H → i < length missing
    → Contains (all_leases G) (get_or missing i d)
missing-leased H G marks missing i d are same below =
    let l : LeasedRun = get_or missing i d in
    let there : Contains missing l = (i, below, sym (at-default missing i d below)) in
    subst (λ (ls : List LeasedRun). Contains ls l) (sym same)
    (filter-in (λ (r : LeasedRun). not (is_marked marks r.run)) (all_leases H) l
    (subst (λ (ls : List LeasedRun). Contains ls l) are there))

-- one more of them is reported
pub missing-more : (H new : List Entry) (missing : List LeasedRun) (i : ℕ) (d : LeasedRun) → i < length missing
    → IsPrefix H new → All (λ (r : LeasedRun). is_reported H r.run ≡ true) (take i missing)
    → is_reported new (get_or missing i d).run ≡ true
    → All (λ (r : LeasedRun). is_reported new r.run ≡ true) (take (i + 1) missing)
missing-more H new missing i d below longer all now =
    reports-more H new missing i (get_or missing i d) below (at-default missing i d below)
    (λ run h. reported-longer run H new longer h) all now

-- once all of them are, each run is
pub missing-done : (H new : List Entry) (marks : List Bool) (missing : List LeasedRun) (n : ℕ) → AreRunsMarked H marks
    → missing ≡ unmarked marks (all_leases H) → IsPrefix H new → all_leases new ≡ all_leases H → length missing ≤ n
    → All (λ (r : LeasedRun). is_reported new r.run ≡ true) (take n missing) → AllReported new
missing-done H new marks missing n marked are longer same past all =
    all-reported H new marks marked (λ run h. reported-longer run H new longer h) same
    (subst (All (λ (r : LeasedRun). is_reported new r.run ≡ true)) (take_all n missing past ∙ are) all)
