-- The text that a farm hands over, piece by piece.
use Rattle.std.proofs.Common.{◌≡◌, ◌∙◌, ℕ, List, [], ◌∷◌, ◌++◌, length, map, sym, ap, append_assoc, refl}
use Rattle.std.specs.Fmt.{decimal}
use Rattle.std.specs.Prelude.{codes}
use Rattle.farm_rules.specs.Orders.{Ordered}
use Rattle.judge.specs.Text.{text_of}
use Rattle.farm_handover.specs.Handover.{closing_line, handover_lines, order_line}

-- one line more
text_of-snoc : (lines : List (List ℕ)) (line : List ℕ)
    → text_of (lines ++ line ∷ []) ≡ text_of lines ++ (line ++ 10 ∷ [])
text_of-snoc [] line = refl
text_of-snoc (first ∷ lines) line =
    ap (λ (text : List ℕ). first ++ 10 ∷ text) (text_of-snoc lines line)
    ∙ sym (append_assoc first (10 ∷ text_of lines) (line ++ 10 ∷ []))

-- the lines of the orders, and then the last one
pub handover-spelled : (orders orders' : List Ordered) (empty body text : List ℕ) (count : ℕ) → orders ≡ orders'
    → count ≡ length orders → empty ≡ [] → body ≡ empty ++ text_of (map order_line orders)
    → text ≡ body ++ (closing_line count ++ 10 ∷ []) → text ≡ text_of (handover_lines orders')
handover-spelled orders orders' empty body text count same counted none first end =
    end
    ∙ ap (λ (x : List ℕ). x ++ (closing_line count ++ 10 ∷ []))
    (first ∙ ap (λ (x : List ℕ). x ++ text_of (map order_line orders)) none)
    ∙ ap (λ (n : ℕ). text_of (map order_line orders) ++ (closing_line n ++ 10 ∷ [])) counted
    ∙ sym (text_of-snoc (map order_line orders) (closing_line (length orders)))
    ∙ ap (λ (x : List Ordered). text_of (handover_lines x)) same
