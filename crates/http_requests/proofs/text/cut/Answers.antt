use Rattle.std.proofs.Common.{ℕ, ◌+◌, ◌==◌, Bool, List, ◌∷◌, take, sym, ap, ◌∙◌}
use Rattle.std.specs.List.{slice_split}
use Rattle.std.proofs.lemmas.List.{take_rest}
use Rattle.http_requests.proofs.Cuts.{slice_split-found, slice_split-whole}
use Rattle.http_requests.proofs.text.cut.Goals as goal

pub returns-in-Some-clause-parts : goal.returns-in-Some-clause-parts
returns-in-Some-clause-parts c =
    let ends : ℕ → Bool = λ b. b == c.args.at in
    let text = c.args.text.now in
    let i = c.in-Some.i in
    slice_split-found ends text 0 i (sym c.first_place.ensures.first ∙ c.in-Some.is)
    ∙ ap (λ (rest : List ℕ). take i text ∷ slice_split ends rest) (sym (take_rest text (i + 1)))

pub returns-in-None-clause-parts : goal.returns-in-None-clause-parts
returns-in-None-clause-parts c =
    slice_split-whole (λ b. b == c.args.at) c.args.text.now (sym c.first_place.ensures.first ∙ c.in-None.is)
