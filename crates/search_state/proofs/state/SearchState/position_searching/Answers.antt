use Rattle.std.proofs.Common.{◌≡◌, ℕ, ◌+◌, ◌++◌, ◌∷◌, ◌<◌, ◌≤◌, List, [], slice_set, take, length, reverse, refl, sym, ap, subst, ◌∙◌, arith}
use Rattle.std.proofs.lemmas.List.{take_more_set}
use Rattle.farm_rules.specs.Due.{first_entry, struck}
use Rattle.farm_rules.proofs.Striking.{struck-nil}
use Rattle.farm_entry.specs.Setup.{setup_of}
use Rattle.search_state.specs.SearchView.{SearchView, position_searching}
use Rattle.search_state.proofs.Picks.{closed-none, full-none, pick-due, picks-more}
use Rattle.search_state.proofs.state.SearchState.position_searching.Goals as goal

pub returns-then-from-outstanding : goal.returns-then-from-outstanding
returns-then-from-outstanding c =
    let s = c.self.inside in
    let out : List ℕ = c.args.outstanding.now in
    let o = s.opening.value in
    let full : o.width ≤ length out =
    omega (arith, c.if-from-outstanding.true, c.from.ensures, c.self.invariant.set_up.width_is) in
    full-none (setup_of o) (reverse s.runs) s.skips o.width out full
    ∙ ap (λ (v : SearchView). position_searching v out) c.self.view_is

pub loop-index-init : goal.loop-index-init
loop-index-init c = record { written = refl; none = struck-nil c.args.outstanding.now }

pub returns-in_default : goal.returns-in_default
returns-in_default c =
    let v = c.args.self.now in
    closed-none (setup_of v.opening) v.runs v.skipped v.opening.width (c.loop-index.index + 1) c.args.outstanding.now
    (sym c.in_default.is ∙ c.pick.ensures)

pub returns-then-is_left : goal.returns-then-is_left
returns-then-is_left c =
    let s = c.self.inside in
    let v = c.args.self.now in
    let out : List ℕ = c.args.outstanding.now in
    let j = c.loop-index.index in
    let position = c.in-Some.position in
    let width : s.width ≡ v.opening.width =
    c.self.invariant.set_up.width_is ∙ ap (λ (x : SearchView). x.opening.width) c.self.view_is in
    let room : length out < v.opening.width = omega (arith, c.if-from-outstanding.false, c.from.ensures, width) in
    let within : j < v.opening.width = omega (arith, c.loop-index-test.true, width) in
    pick-due (setup_of v.opening) v.runs v.skipped v.opening.width j out position room within
    (sym c.in-Some.is ∙ c.pick.ensures)
    (λ after. ap (λ (xs : List ℕ). first_entry (struck (xs ++ position ∷ after) out)) (sym c.loop-index.invariant.written)
    ∙ (rw c.from-place.ensures at (c.is_left.ensures.left c.if-is_left.true after)))

pub loop-index-preserved : goal.loop-index-preserved
loop-index-preserved c =
    let s = c.self.inside in
    let v = c.args.self.now in
    let set_up = c.self.invariant.set_up in
    let plan : List ℕ = c.loop-index.plan in
    let j = c.loop-index.index in
    let position = c.in-Some.position in
    let room : j < length plan =
    omega (arith, c.loop-index-test.true, c.from-place.array_long, set_up.width_is, set_up.within.width.1) in
    let more : take (j + 1) (slice_set plan c.from-place.result position) ≡ take j plan ++ position ∷ [] =
    ap (λ (n : ℕ). take (j + 1) (slice_set plan n position)) c.from-place.ensures ∙ take_more_set plan j position room in
    let left : struck (take j plan ++ position ∷ []) c.args.outstanding.now ≡ [] =
    rw c.from-place.ensures at (c.is_left.ensures.struck c.if-is_left.false) in
    record {
      written =
          more
          ∙ ap (λ (xs : List ℕ). xs ++ position ∷ []) c.loop-index.invariant.written
          ∙ sym (picks-more (setup_of v.opening) v.runs v.skipped v.opening.width j position
          (sym c.in-Some.is ∙ c.pick.ensures));
      none = subst (λ (xs : List ℕ). struck xs c.args.outstanding.now ≡ []) (sym more) left;
    }
