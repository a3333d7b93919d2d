-- The run that is due in a search, by its state and its open leases.
use Rattle.std.proofs.Common.{◌≡◌, ℕ, ◌≤◌, List, length, Option, Some, None, refl, sym, ap, subst, ◌∙◌, arith}
use Rattle.std.specs.Option.{option_and_then, option_map}
use Rattle.std.proofs.lemmas.List.{length-map}
use Rattle.std.proofs.lemmas.Option.{none-some}
use Rattle.farm_types.specs.declared.stage.Stage.{Stage}
use Rattle.farm_types.specs.declared.stage.Stage.TheVariants.{Search, Verify}
use Rattle.search_books.specs.declared.lease.TheConstants.{OUT_MAX}
use Rattle.farm_entry.specs.Due.{due, due_at, open_leases, outstanding_positions}
use Rattle.farm_entry.specs.History.{opening_numbered}
use Rattle.farm_entry.specs.Legal.{IsLegal}
use Rattle.farm_entry.specs.Standing.{standing}
use Rattle.farm_entry.specs.declared.entry.Entry.{Entry}
use Rattle.farm_entry.specs.declared.lease.DueRun.{DueRun}
use Rattle.farm_entry.specs.declared.lease.LeasedRun.{LeasedRun}
use Rattle.farm_entry.specs.declared.opening.Opening.{Opening}
use Rattle.farm_entry.specs.declared.standing.Standing.{Standing}
use Rattle.farm_entry.specs.declared.standing.Standing.TheVariants.{Searching, Verifying}
use Rattle.farm_laws.specs.Laws.{IsNotBefore}
use Rattle.farm_laws.proofs.Numbered.{opening-there}
use Rattle.farm_laws.proofs.OpenLimits.{open_within}
use Rattle.farm_laws.proofs.OutBounds.{search_leases-few, verify_leases-few}
use Rattle.search_state.specs.SearchView.{SearchView, due_in, due_standing, standing_in}
use Rattle.search_state.specs.Seen.{seen}

-- the search whose state it is
record IsStateOf (H : List Entry) (n : ℕ) (s : SearchView) : Type 0 where
  pub opening : Opening
  pub found : opening_numbered H n ≡ Some opening
  pub number : n ≡ opening.search
  pub state : s ≡ seen H opening

state-of : (H : List Entry) (n : ℕ) (s : SearchView) (x : Option Opening) → opening_numbered H n ≡ x →
    option_map (seen H) x ≡ Some s → IsStateOf H n s
state-of H n s None is h = absurd (none-some s h)
state-of H n s (Some o) is h =
    let same : seen H o ≡ s = cc in
    record { opening = o; found = is; number = sym (opening-there H n o is).1; state = sym same }

-- few of its runs are out at a stage
few-by : (H : List Entry) (o : Opening) (stage : Stage) (moment : ℕ) → IsLegal H → IsNotBefore H moment →
    opening_numbered H o.search ≡ Some o → length (outstanding_positions H o.search stage moment) ≤ OUT_MAX
few-by H o Search moment legal before found =
    let there = (opening-there H o.search o found).0 in
    let few = search_leases-few H o moment legal there before in
    let wide = (open_within H o legal there).width.1 in
    omega (arith, few, wide, length-map (open_leases H o.search Search moment) (λ (l : LeasedRun). l.position))
few-by H o Verify moment legal before found =
    let there = (opening-there H o.search o found).0 in
    let few = verify_leases-few H o moment legal there before in
    let asked = (open_within H o legal there).reruns.1 in
    omega (arith, few, asked, length-map (open_leases H o.search Verify moment) (λ (l : LeasedRun). l.position))

pub few-out : (H : List Entry) (n : ℕ) (s : SearchView) (stage : Stage) (moment : ℕ) → IsLegal H → IsNotBefore H moment →
    option_map (seen H) (opening_numbered H n) ≡ Some s → length (outstanding_positions H n stage moment) ≤ OUT_MAX
few-out H n s stage moment legal before h =
    let it = state-of H n s (opening_numbered H n) refl h in
    let found : opening_numbered H it.opening.search ≡ Some it.opening =
    ap (opening_numbered H) (sym it.number) ∙ it.found in
    subst (λ (k : ℕ). length (outstanding_positions H k stage moment) ≤ OUT_MAX) (sym it.number)
    (few-by H it.opening stage moment legal before found)

-- what is due by its standing
abbrev due_of : List Entry → (n moment : ℕ) → Option DueRun
due_of H n moment = option_and_then (λ (o : Opening). due H o moment) (opening_numbered H n)

due-one : (H : List Entry) (n moment : ℕ) (o : Opening) (st : Standing) → opening_numbered H n ≡ Some o →
    standing H o ≡ st → due_of H n moment ≡ due_at st H o moment
due-one H n moment o st found stands =
    ap (option_and_then (λ (x : Opening). due H x moment)) found ∙ ap (λ (t : Standing). due_at t H o moment) stands

pub due-searching : (H : List Entry) (n moment : ℕ) (s : SearchView) → option_map (seen H) (opening_numbered H n) ≡ Some s →
    standing_in s ≡ Searching → due_in s (outstanding_positions H n Search moment) ≡ due_of H n moment
due-searching H n moment s h stands =
    let it = state-of H n s (opening_numbered H n) refl h in
    let o : Opening = it.opening in
    let here : standing H o ≡ Searching = ap standing_in (sym it.state) ∙ stands in
    ap (λ (st : Standing). due_standing st s (outstanding_positions H n Search moment)) stands
    ∙ ap (λ (x : SearchView). due_standing Searching x (outstanding_positions H n Search moment)) it.state
    ∙ ap (λ (k : ℕ). due_standing Searching (seen H o) (outstanding_positions H k Search moment)) it.number
    ∙ sym (due-one H n moment o Searching it.found here)

pub due-verifying : (H : List Entry) (n moment c : ℕ) (s : SearchView) →
    option_map (seen H) (opening_numbered H n) ≡ Some s → standing_in s ≡ Verifying c →
    due_in s (outstanding_positions H n Verify moment) ≡ due_of H n moment
due-verifying H n moment c s h stands =
    let it = state-of H n s (opening_numbered H n) refl h in
    let o : Opening = it.opening in
    let here : standing H o ≡ Verifying c = ap standing_in (sym it.state) ∙ stands in
    ap (λ (st : Standing). due_standing st s (outstanding_positions H n Verify moment)) stands
    ∙ ap (λ (x : SearchView). due_standing (Verifying c) x (outstanding_positions H n Verify moment)) it.state
    ∙ ap (λ (k : ℕ). due_standing (Verifying c) (seen H o) (outstanding_positions H k Verify moment)) it.number
    ∙ sym (due-one H n moment o (Verifying c) it.found here)
