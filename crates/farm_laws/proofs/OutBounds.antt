-- How many runs of a search are out: at most its width while it searches, and at most twice its reruns while it
-- verifies.
use Rattle.std.proofs.Common.{◌≡◌, ℕ, ◌+◌, ◌*◌, ◌-◌, ◌≤◌, ◌==◌, Bool, true, List, [], ◌∷◌, length, ◌&&◌, count_by, cond, All, Contains, Option, Some, None, ◌⊎◌, ⊎_elim, refl, ap, subst, arith, eq-eqb}
use Rattle.std.proofs.lemmas.List.Elements.{All-contains_itself, All-filter, All-head, All-tail, All-weaker, filter_passes}
use Rattle.std.proofs.lemmas.Option.{none-some}
use Rattle.farm_types.specs.declared.stage.Stage.{Stage}
use Rattle.farm_types.specs.declared.stage.Stage.TheVariants.{Search, Verify}
use Rattle.weight_exact.specs.declared.limits.TheConstants.{MAX_WIDTH}
use Rattle.farm_entry.specs.declared.limits.TheConstants.{MAX_RERUNS}
use Rattle.farm_entry.specs.Due.{open_leases, outstanding, outstanding_at}
use Rattle.farm_entry.specs.History.{leases, openings, same_stage}
use Rattle.farm_laws.specs.Laws.{IsNotBefore}
use Rattle.farm_entry.specs.Legal.{IsLegal}
use Rattle.farm_entry.specs.Standing.{at_bar, standing}
use Rattle.farm_entry.specs.declared.entry.Entry.{Entry}
use Rattle.farm_entry.specs.declared.lease.LeasedRun.{LeasedRun}
use Rattle.farm_entry.specs.declared.opening.Opening.{Opening}
use Rattle.farm_entry.specs.declared.standing.Standing.{Standing}
use Rattle.farm_entry.specs.declared.standing.Standing.TheVariants.{Searching, Verifying, Confirmed, Vindicated, NoCulprit, Inconclusive, Cancelled}
use Rattle.farm_laws.proofs.Counts.{count_by-all, count_by-cons}
use Rattle.farm_laws.proofs.DueRooms.{search-roomed, verify-roomed}
use Rattle.farm_laws.proofs.FewOut.{few_out}
use Rattle.farm_laws.proofs.InRange.{verify-leases-at}
use Rattle.farm_laws.proofs.Numbered.{opening-found}
use Rattle.farm_laws.proofs.OpenLeases.{is_out}
use Rattle.farm_laws.proofs.OpenLimits.{open_within}

-- at most the width of open leases search
pub search_leases-few : (H : List Entry) (o : Opening) (moment : ℕ) → IsLegal H → Contains (openings H) o → IsNotBefore H moment →
    length (open_leases H o.search Search moment) ≤ o.width
search_leases-few H o moment legal there before =
    let few = few_out Search (λ (l : LeasedRun). true) (λ (x : Opening). x.width) search-roomed H legal o.search o moment
    (opening-found H o legal there) before in
    omega (arith, few, count_by-all (open_leases H o.search Search moment))

-- at each position at most the reruns asked for of open leases verify
verify_leases-few_at : (H : List Entry) (o : Opening) (moment position : ℕ) → IsLegal H → Contains (openings H) o → IsNotBefore H moment →
    count_by (λ (l : LeasedRun). l.position == position) (open_leases H o.search Verify moment) ≤ o.reruns
verify_leases-few_at H o moment position legal there before =
    few_out Verify (λ (l : LeasedRun). l.position == position) (λ (x : Opening). x.reruns) (verify-roomed position) H legal o.search o moment
    (opening-found H o legal there) before

-- a lease is at the named suspect or just below it
abbrev IsAtNamed : Option ℕ → LeasedRun → Type 0
IsAtNamed n l = (c : ℕ) × (n ≡ Some c) × (1 ≤ c) × ((l.position ≡ c) ⊎ (l.position + 1 ≡ c))

one_of_two : (k c : ℕ) → 1 ≤ c → (k ≡ c) ⊎ (k + 1 ≡ c) → 1 ≤ cond (k == c) 1 0 + cond (k == c - 1) 1 0
one_of_two k c low at =
    let mark : Bool → ℕ = λ b. cond b 1 0 in
    ⊎_elim
    (λ (same : k ≡ c). let one : mark (k == c) ≡ 1 = ap mark (eq-eqb k c same) in omega arith)
    (λ (below : k + 1 ≡ c). let one : mark (k == c - 1) ≡ 1 = ap mark (eq-eqb k (c - 1) (omega arith)) in omega arith)
    at

-- leases that are all at two positions are no more than there are at each
at_two : (c : ℕ) (ls : List LeasedRun) → All (IsAtNamed (Some c)) ls →
    length ls ≤ count_by (λ (l : LeasedRun). l.position == c) ls + count_by (λ (l : LeasedRun). l.position == c - 1) ls
at_two c [] all = omega arith
at_two c (l ∷ ls) all =
    let first = All-head (IsAtNamed (Some c)) l ls all in
    let same : first.0 ≡ c = let options : Some c ≡ Some first.0 = first.1 in cc in
    let at : (l.position ≡ c) ⊎ (l.position + 1 ≡ c) = subst (λ (k : ℕ). (l.position ≡ k) ⊎ (l.position + 1 ≡ k)) same first.3 in
    let low : 1 ≤ c = omega (arith, same, first.2) in
    omega (
      arith,
      one_of_two l.position c low at,
      at_two c ls (All-tail (IsAtNamed (Some c)) l ls all),
      count_by-cons (λ (x : LeasedRun). x.position == c) l ls,
      count_by-cons (λ (x : LeasedRun). x.position == c - 1) l ls,
    )

-- so where at most v are at each position, at most twice as many are there
at_named : (n : Option ℕ) (ls : List LeasedRun) (v : ℕ) → All (IsAtNamed n) ls →
    ((p : ℕ) → count_by (λ (l : LeasedRun). l.position == p) ls ≤ v) → length ls ≤ 2 * v
at_named None [] v all few = omega arith
at_named None (l ∷ ls) v all few =
    let first = All-head (IsAtNamed None) l ls all in absurd (none-some first.0 first.1)
at_named (Some c) ls v all few = omega (arith, at_two c ls all, few c, few (c - 1))

stage_of : (s : Stage) (b : Bool) → (same_stage s Verify && b) ≡ true → s ≡ Verify
stage_of Search b h = cc
stage_of Verify b h = refl

-- at most twice the reruns of open leases verify
pub verify_leases-few : (H : List Entry) (o : Opening) (moment : ℕ) → IsLegal H → Contains (openings H) o → IsNotBefore H moment →
    length (open_leases H o.search Verify moment) ≤ 2 * o.reruns
verify_leases-few H o moment legal there before =
    let At : LeasedRun → Type 0 = λ l. l.stage ≡ Verify → IsAtNamed (at_bar H o) l in
    let each : All At (leases H o.search) =
    All-weaker (Contains (leases H o.search)) At (λ l of_search at_stage. verify-leases-at H legal o there l of_search at_stage)
    (leases H o.search) (All-contains_itself (leases H o.search)) in
    let out : All At (open_leases H o.search Verify moment) = All-filter (is_out H Verify moment) At (leases H o.search) each in
    let passes = filter_passes (is_out H Verify moment) (leases H o.search) in
    at_named (at_bar H o) (open_leases H o.search Verify moment) o.reruns
    (λ k d below. out k d below (stage_of _ _ (passes k d below)))
    (λ p. verify_leases-few_at H o moment p legal there before)

-- by where a search stands, from few leases that search and few that verify
few_outstanding : (st : Standing) (H : List Entry) (o : Opening) (moment : ℕ) →
    length (open_leases H o.search Search moment) ≤ MAX_WIDTH → length (open_leases H o.search Verify moment) ≤ 2 * MAX_RERUNS →
    length (outstanding_at st H o.search moment) ≤ 2 * MAX_RERUNS
few_outstanding Searching H o moment searching verifying = omega (arith, searching)
few_outstanding (Verifying c) H o moment searching verifying = verifying
few_outstanding (Confirmed c) H o moment searching verifying = omega arith
few_outstanding (Vindicated c) H o moment searching verifying = omega arith
few_outstanding NoCulprit H o moment searching verifying = omega arith
few_outstanding Inconclusive H o moment searching verifying = omega arith
few_outstanding Cancelled H o moment searching verifying = omega arith

-- few runs of a search are out
pub outstanding-few : (H : List Entry) (o : Opening) (moment : ℕ) → IsLegal H → Contains (openings H) o → IsNotBefore H moment →
    length (outstanding H o moment) ≤ 2 * MAX_RERUNS
outstanding-few H o moment legal there before =
    let within = open_within H o legal there in
    few_outstanding (standing H o) H o moment
    (omega (arith, search_leases-few H o moment legal there before, within.width.1))
    (omega (arith, verify_leases-few H o moment legal there before, within.reruns.1))
