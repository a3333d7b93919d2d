use Rattle.std.proofs.Common.{◌≡◌, ℕ, ◌+◌, ◌++◌, [], ◌∷◌, List, map, sym, ap, ◌∙◌, arith}
use Rattle.std.specs.List.{range_with_len}
use Rattle.std.proofs.lemmas.List.FromFn.{map-range_with_len_more}
use Rattle.weight_exact.specs.Share.{basis_points}
use Rattle.weight_exact.specs.Weights.{Setup, hypotheses}
use Rattle.farm_entry.specs.History.{runs}
use Rattle.farm_entry.specs.Setup.{setup_of}
use Rattle.farm_laws.proofs.Beliefs.{hypotheses-of}
use Rattle.plain_farm.proofs.pages.shares_of.Goals as goal

pub loop-before-preserved : goal.loop-before-preserved
loop-before-preserved c =
    let o = c.args.opening.now in
    let told = runs c.args.history.now o.search in
    let before = c.loop-before.before in
    c.in_ok-push.ensures.items
    ∙ ap (λ (xs : List ℕ). xs ++ c.basis_points.result ∷ []) c.loop-before.invariant
    ∙ ap (λ (n : ℕ). map (basis_points (setup_of o) told) (range_with_len 1 before) ++ n ∷ [])
    (c.basis_points.ensures told c.in_ok-belief.ensures.runs ∙ ap (λ (s : Setup). basis_points s told (before + 1)) c.in_ok-belief.ensures.setup)
    ∙ sym (map-range_with_len_more (basis_points (setup_of o) told) 1 before (before + 1) (omega arith))

pub returns : goal.returns
returns c =
    let o = c.args.opening.now in
    let told = runs c.args.history.now o.search in
    let all : c.loop-before.before ≡ hypotheses (setup_of o) = omega (arith, c.len-before-end.ensures.len, hypotheses-of o) in
    c.of.ensures ∙ c.loop-before.invariant
    ∙ ap (λ (n : ℕ). map (basis_points (setup_of o) told) (range_with_len 1 n)) all
