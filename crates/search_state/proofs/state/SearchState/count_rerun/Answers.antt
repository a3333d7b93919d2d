use Rattle.std.proofs.Common.{◌≡◌, ℕ, true, List, ◌∷◌, ◌++◌, [], reverse, sym, subst, ◌∙◌}
use Rattle.weight_exact.specs.declared.run.Run.{Run}
use Rattle.farm_rules.specs.Reruns.{outcome}
use Rattle.farm_entry.specs.declared.standing.Standing.TheVariants.{Verifying}
use Rattle.search_state.specs.SearchInside.{search_view}
use Rattle.search_state.specs.SearchView.{SearchView, has_room, standing_in}
use Rattle.search_state.proofs.Verified.{answered, kept-verification, kept-verifying, one-counts, rerun-search, stands-after}
use Rattle.search_state.proofs.state.SearchState.count_rerun.Goals as goal

pub invariant_of-self : goal.invariant_of-self
invariant_of-self c =
    let s = c.self.inside in
    let h = c.self.invariant in
    let r : Run = c.args.run in
    let k : ℕ = c.requires.verifying.0 in
    let again : List Run = reverse s.reruns in
    let p = kept-verifying s c.args.self.now k c.self.view_is c.requires.verifying.1 in
    let v = kept-verification s c.args.self.now k h c.self.view_is c.requires.verifying.1 in
    let room : has_room (search_view s) r ≡ true =
    subst (λ (x : SearchView). has_room x r ≡ true) (sym c.self.view_is) c.requires.room in
    let one = one-counts s k r h p room in
    let note = c.note-outcome in
    rerun-search s k r note.new.self c.next_standing-self-inside.result c.tell.new.self h p c.tell.ensures
    (note.ensures.culprit ∙ v.culprit_is) (note.ensures.asked ∙ v.asked_is)
    (stands-after s k r note.new.self h v one (note.ensures.counted again v.stands))
    (c.next_standing-self-inside.ensures k (outcome k s.opening.value.reruns (again ++ r ∷ []))
    (h.standing_is ∙ subst (λ (x : SearchView). standing_in x ≡ Verifying k) (sym c.self.view_is) c.requires.verifying.1)
    (answered s k r note.result h v one (note.ensures.answer again v.stands)))
