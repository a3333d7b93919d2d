use Rattle.std.proofs.Common.{rules, ◌≡◌, ◌≤◌, ◌∙◌, ℕ, List, [], ◌∷◌, ◌++◌, length, sym, ap, subst, arith}
use Rattle.std.proofs.lemmas.List.{length-append}
use Rattle.farm_journal.specs.Parts.{AreEnds, parts}
use Rattle.farm_journal.proofs.Parts.{ends-push, parts-push}
use Rattle.farm_journal.proofs.payloads.Payloads.push.Goals as goal

pub invariant_of-self-2 : goal.invariant_of-self-2
invariant_of-self-2 c =
    let bytes = c.self.inside.bytes.items in
    let ends = c.self.inside.ends.items in
    let all = c.extend_from_slice.new.self.items in
    let long : all ≡ bytes ++ c.args.payload.now = search rules in
    let pushed : c.push_reserved.new.self.items ≡ ends ++ length all ∷ [] = search rules in
    let more : length bytes ≤ length all =
    omega (arith, ap (λ (l : List ℕ). length l) long, length-append bytes c.args.payload.now) in
    subst (λ (l : List ℕ). AreEnds 0 l (length all)) (sym pushed)
    (ends-push 0 ends (length bytes) (length all) c.self.invariant more)

pub returns : goal.returns
returns c =
    let bytes = c.self.inside.bytes.items in
    let ends = c.self.inside.ends.items in
    let all = c.extend_from_slice.new.self.items in
    let more = c.args.payload.now in
    let long : all ≡ bytes ++ more = search rules in
    let pushed : c.push_reserved.new.self.items ≡ ends ++ length all ∷ [] = search rules in
    ap (λ (l : List ℕ). parts 0 l all) pushed
    ∙ ap (λ (l : List ℕ). parts 0 (ends ++ length l ∷ []) l) long
    ∙ parts-push 0 ends bytes more c.self.invariant
    ∙ ap (λ (l : List (List ℕ)). l ++ more ∷ []) c.self.view_is
