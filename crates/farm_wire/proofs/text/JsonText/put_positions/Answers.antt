use Rattle.std.proofs.Common.{◌≡◌, ℕ, List, [], ◌∷◌, arith, length, refl}
use Rattle.std.proofs.lemmas.Result.{on_ok_weaker}
use Rattle.farm_wire.proofs.CommaTexts.{numbers-none, numbers-some}
use Rattle.farm_wire.proofs.text.JsonText.put_positions.Goals as goal

no-numbers : (numbers : List ℕ) → length numbers ≡ 0 → numbers ≡ []
no-numbers [] none = refl
no-numbers (n ∷ numbers) none = absurd (omega arith)

pub returns-in_ok-put_number-in-Some : goal.returns-in_ok-put_number-in-Some
returns-in_ok-put_number-in-Some c =
    on_ok_weaker c.put_more_positions.result
    (λ put. numbers-some c.args.self.now c.put.new.self c.put_number.new.self c.put_more_positions.new.self
    c.args.piece.now c.args.positions.now c.in-Some.more.now c.in-Some.first.now c.in-Some.ensures.cases.0
    c.in_ok-put-in-Some.ensures
    c.in_ok-put_number-in-Some.ensures put)
    c.put_more_positions.ensures

pub returns-in-None : goal.returns-in-None
returns-in-None c =
    numbers-none c.args.self.now c.args.piece.now c.args.positions.now
    (no-numbers c.args.positions.now c.in-None.ensures.cases)
