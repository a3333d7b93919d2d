use Rattle.std.proofs.Common.{◌≡◌, ℕ, ◌+◌, ◌++◌, [], ◌∷◌, List, map, reverse, sym, ap, ◌∙◌, arith}
use Rattle.std.specs.List.{range_with_len}
use Rattle.std.proofs.lemmas.List.FromFn.{map-range_with_len_more}
use Rattle.weight_exact.specs.Share.{basis_points}
use Rattle.weight_exact.specs.Weights.{Setup, hypotheses}
use Rattle.farm_entry.specs.Setup.{setup_of}
use Rattle.search_state.specs.SearchView.{SearchView}
use Rattle.search_state.proofs.state.SearchState.shares.Goals as goal

pub loop-before-preserved : goal.loop-before-preserved
loop-before-preserved c =
    let now = c.args.self.now in
    let runs = reverse c.self.inside.runs in
    let before = c.loop-before.before in
    c.in_ok-push.ensures.items
    ∙ ap (λ (xs : List ℕ). xs ++ c.basis_points.result ∷ []) c.loop-before.invariant
    ∙ ap (λ (n : ℕ). map (basis_points (setup_of now.opening) now.runs) (range_with_len 1 before) ++ n ∷ [])
    (c.basis_points.ensures runs c.self.invariant.believed
    ∙ ap (λ (s : Setup). basis_points s runs (before + 1)) c.self.invariant.setup
    ∙ ap (λ (v : SearchView). basis_points (setup_of v.opening) v.runs (before + 1)) c.self.view_is)
    ∙ sym (map-range_with_len_more (basis_points (setup_of now.opening) now.runs) 1 before (before + 1) (omega arith))

pub returns : goal.returns
returns c =
    let now = c.args.self.now in
    let many : c.self.inside.suspects + 1 ≡ hypotheses (setup_of now.opening) =
    c.self.invariant.set_up.suspects_are ∙ ap (λ (v : SearchView). hypotheses (setup_of v.opening)) c.self.view_is in
    let all : c.loop-before.before ≡ hypotheses (setup_of now.opening) = omega (arith, many) in
    c.of.ensures ∙ c.loop-before.invariant
    ∙ ap (λ (n : ℕ). map (basis_points (setup_of now.opening) now.runs) (range_with_len 1 n)) all
