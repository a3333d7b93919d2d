-- What the state of a search tells of the search with a number.
use Rattle.std.proofs.Common.{◌≡◌, ℕ, List, Option, Some, None, refl, sym, ap, subst, ◌∙◌}
use Rattle.std.specs.Option.{option_map}
use Rattle.std.proofs.lemmas.Option.{none-some, same_Some}
use Rattle.weight_exact.specs.declared.run.Verdict.{Verdict}
use Rattle.farm_entry.specs.Decision.{fate_of, run_with, skip_fate_of}
use Rattle.farm_entry.specs.History.{lease_of, opening_numbered}
use Rattle.farm_entry.specs.Legal.{IsLegal}
use Rattle.farm_entry.specs.Standing.{standing}
use Rattle.farm_entry.specs.declared.entry.Entry.{Entry}
use Rattle.farm_entry.specs.declared.lease.LeasedRun.{LeasedRun}
use Rattle.farm_entry.specs.declared.opening.Opening.{Opening}
use Rattle.farm_laws.proofs.Numbered.{opening-there}
use Rattle.search_state.specs.SearchView.{IsPlaced, SearchView, fate_in, skip_fate_in}
use Rattle.search_state.specs.Seen.{seen}
use Rattle.search_state.proofs.Asking.{run-placed}
use Rattle.search_state.proofs.Reading.{fate-seen, skip_fate-seen}

-- a state is that of the search with a number
pub record IsStateOf (H : List Entry) (number : ℕ) (s : SearchView) : Type 0 where
  pub opening : Opening
  pub known : opening_numbered H number ≡ Some opening
  pub same : s ≡ seen H opening

state-of_opening : (H : List Entry) (number : ℕ) (x : Option Opening) (s : SearchView) → opening_numbered H number ≡ x →
    Some s ≡ option_map (seen H) x → IsStateOf H number s
state-of_opening H number None s is found = absurd (none-some s (sym found))
state-of_opening H number (Some o) s is found =
    record { opening = o; known = is; same = same_Some s (seen H o) found }

pub state-of : (H : List Entry) (number : ℕ) (s : SearchView) →
    Some s ≡ option_map (seen H) (opening_numbered H number) → IsStateOf H number s
state-of H number s found = state-of_opening H number (opening_numbered H number) s refl found

-- the state takes the report of each run of its search that was handed out
pub run-fits : (H : List Entry) (l : LeasedRun) (v : Verdict) (s : SearchView) → IsLegal H → lease_of H l.run ≡ Some l →
    IsStateOf H l.search s → IsPlaced s l.stage (run_with l v)
run-fits H l v s legal known is =
    let o : Opening = is.opening in
    let there = opening-there H l.search o is.known in
    subst (λ (x : SearchView). IsPlaced x l.stage (run_with l v)) (sym is.same)
    (run-placed H o l v legal there.0 known (sym there.1))

-- and tells its fate
pub fate-told : (H : List Entry) (l : LeasedRun) (v : Verdict) (s : SearchView) → IsStateOf H l.search s →
    fate_in s l.stage (run_with l v) ≡ fate_of H l v (opening_numbered H l.search)
fate-told H l v s is =
    let o : Opening = is.opening in
    ap (λ (x : SearchView). fate_in x l.stage (run_with l v)) is.same
    ∙ fate-seen (standing H o) H o l v
    ∙ ap (fate_of H l v) (sym is.known)

-- and that of a skip
pub skip_fate-told : (H : List Entry) (l : LeasedRun) (s : SearchView) → IsStateOf H l.search s →
    skip_fate_in s l.stage ≡ skip_fate_of H l (opening_numbered H l.search)
skip_fate-told H l s is =
    let o : Opening = is.opening in
    ap (λ (x : SearchView). skip_fate_in x l.stage) is.same
    ∙ skip_fate-seen (standing H o) l
    ∙ ap (skip_fate_of H l) (sym is.known)
