use Rattle.std.proofs.Common.{◌+◌, ◌++◌, ◌∷◌, [], ℕ, List, map, sym, ap, ◌∙◌, arith}
use Rattle.std.specs.List.{range_with_len}
use Rattle.std.proofs.lemmas.List.FromFn.{map-range_with_len_more}
use Rattle.suspect_range.specs.declared.suspect.Suspect.{Suspect}
use Rattle.drill_plan.specs.Plan.{planned_suspect}
use Rattle.drill_plan.proofs.ask.suspects_of.Goals as goal

pub loop-before-preserved : goal.loop-before-preserved
loop-before-preserved c =
    let k = c.loop-before.before in
    let f : ℕ → Suspect = planned_suspect c.args.search in
    c.in_ok-push.ensures.items
    ∙ ap (λ (xs : List Suspect). xs ++ c.suspect.result ∷ []) c.loop-before.invariant
    ∙ ap (λ (x : Suspect). map f (range_with_len 1 k) ++ x ∷ []) c.suspect.ensures
    ∙ sym (map-range_with_len_more f 1 k (k + 1) (omega arith))
