-- The answer to what is left of an input, from how far its search has come.
use Rattle.std.proofs.Common.{◌≡◌, ℕ, ◌+◌, ◌≤◌, ◌<◌, max, nat_le, nat_lt, Bool, true, false, cond, not, List, [], ◌∷◌, ◌++◌, Option, Some, None, Result, Ok, Err, refl, sym, ap, ◌∙◌, arith, append_assoc}
use Rattle.std.proofs.lemmas.Bool.{leb-true, leb-false}
use Rattle.judge.specs.Answer.{answer, budget_text, fate_text, fates_text, ending, judged}
use Rattle.judge.specs.Fates.{JudgeProgress, at_start, standing, is_searching, fate, after_fate, after, after_all}
use Rattle.judge.specs.Form.{Inquiry, inquiry, inquiry_of, run_line, run_lines}
use Rattle.judge.specs.Text.{lines}
use Rattle.judge.specs.declared.fate.JudgeFate.TheVariants.{Counted, Late, Over, Repeat}
use Rattle.judge.specs.declared.run_line.RunLine.{RunLine}
use Rattle.weight_exact.specs.Load.{load}
use Rattle.weight_exact.specs.Budget.{run_budget}
use Rattle.weight_exact.specs.Weights.{Setup, suspects}

-- the answer, where `written` is its beginning and these are the run lines that are left
abbrev pub answered_with : Setup → List ℕ → JudgeProgress → Result (List RunLine) ℕ → Result (List ℕ) ℕ
answered_with s written p (Ok runs) = Ok (written ++ (fates_text s p runs ++ ending s (after_all s p runs)))
answered_with s written p (Err l) = Err l

-- the same by the lines that are left, the first of which has the number `l`
abbrev pub answered : Setup → List ℕ → JudgeProgress → (l : ℕ) → List (List ℕ) → Result (List ℕ) ℕ
answered s written p l left = answered_with s written p (run_lines (suspects s) p.greatest l left)

-- the answer to what an input asks
abbrev answer_of : Result Inquiry ℕ → Result (List ℕ) ℕ
answer_of (Ok q) = Ok (answer q)
answer_of (Err l) = Err l

answer_of-inquiry_of : (s : Setup) (runs : Result (List RunLine) ℕ)
    → answer_of (inquiry_of s runs) ≡ answered_with s (budget_text s) at_start runs
answer_of-inquiry_of s (Ok runs) =
    ap Ok (append_assoc (budget_text s) (fates_text s at_start runs) (ending s (after_all s at_start runs)))
answer_of-inquiry_of s (Err l) = refl

-- after the lines that open a search
pub judged_from : (input : List ℕ) (s : Setup) (l : ℕ) (left : List (List ℕ))
    → inquiry (lines input) ≡ inquiry_of s (run_lines (suspects s) 0 l left)
    → judged input ≡ answered s (budget_text s) at_start l left
judged_from input s l left opened = ap answer_of opened ∙ answer_of-inquiry_of s (run_lines (suspects s) 0 l left)

greatest_by_tests : (seen ended over : Bool) (p : JudgeProgress) (run : RunLine)
    → (seen ≡ true → run.number ≤ p.greatest)
    → (seen ≡ false → p.greatest < run.number)
    → (after_fate (cond seen Repeat (cond ended Late (cond over Over Counted))) p run).greatest
    ≡ max p.greatest run.number
greatest_by_tests true ended over p run is_seen is_new = omega (arith, is_seen refl)
greatest_by_tests false true over p run is_seen is_new = omega (arith, is_new refl)
greatest_by_tests false false true p run is_seen is_new = omega (arith, is_new refl)
greatest_by_tests false false false p run is_seen is_new = omega (arith, is_new refl)

-- the greatest run number after a line
greatest_after : (s : Setup) (p : JudgeProgress) (run : RunLine) → (after s p run).greatest ≡ max p.greatest run.number
greatest_after s p run =
    greatest_by_tests (nat_le run.number p.greatest) (not (is_searching (standing s p)))
    (nat_lt (run_budget s) (load s.factors (p.counted ++ run.run ∷ []))) p run (leb-true run.number p.greatest)
    (leb-false run.number p.greatest)

-- a run line before others
abbrev with_first_run : RunLine → Result (List RunLine) ℕ → Result (List RunLine) ℕ
with_first_run run (Ok runs) = Ok (run ∷ runs)
with_first_run run (Err l) = Err l

-- the run lines of a list of lines, of which this is the first
abbrev run_lines_by : (n greatest l : ℕ) → List (List ℕ) → Option RunLine → Result (List RunLine) ℕ
run_lines_by n greatest l left None = Err l
run_lines_by n greatest l left (Some run) = with_first_run run (run_lines n (max greatest run.number) (l + 1) left)

answered_with_first_run : (s : Setup) (written : List ℕ) (p : JudgeProgress) (run : RunLine)
    (others : Result (List RunLine) ℕ) → answered_with s written p (with_first_run run others) ≡ answered_with s
    (written ++ fate_text run.number (fate s p run)) (after s p run) others
answered_with_first_run s written p run (Ok runs) = ap Ok (regrouped written _ _ _)
  where
    regrouped : (a b c d : List ℕ) → a ++ (b ++ c ++ d) ≡ (a ++ b) ++ (c ++ d)
    regrouped a b c d = simp append_assoc
answered_with_first_run s written p run (Err l) = refl

-- one run line in the form
pub answered_more : (s : Setup) (written : List ℕ) (p : JudgeProgress) (l : ℕ) (line : List ℕ) (left : List (List ℕ))
    (run : RunLine) → run_line (suspects s) p.greatest line ≡ Some run
    → answered s written p l (line ∷ left) ≡ answered s (written ++ fate_text run.number (fate s p run))
    (after s p run) (l + 1) left
answered_more s written p l line left run reads =
    ap (λ o. answered_with s written p (run_lines_by (suspects s) p.greatest l left o)) reads
    ∙ answered_with_first_run s written p run (run_lines (suspects s) (max p.greatest run.number) (l + 1) left)
    ∙ ap (λ greatest. answered_with s (written ++ fate_text run.number (fate s p run)) (after s p run)
    (run_lines (suspects s) greatest (l + 1) left)) (sym (greatest_after s p run))

-- one outside the form
pub answered_outside : (s : Setup) (written : List ℕ) (p : JudgeProgress) (l : ℕ) (line : List ℕ) (left : List (List ℕ))
    → run_line (suspects s) p.greatest line ≡ None → answered s written p l (line ∷ left) ≡ Err l
answered_outside s written p l line left outside =
    ap (λ o. answered_with s written p (run_lines_by (suspects s) p.greatest l left o)) outside

-- a judgement is the answer from here on
pub record GoesOn (judgement : Result (List ℕ) ℕ) (s : Setup) (written : List ℕ) (p : JudgeProgress) (l : ℕ)
    (left : List (List ℕ)) : Type 0 where
  pub same : judgement ≡ answered s written p l left

-- the lines that open a search were read, and its budget was written
pub GoesOn-start : (input : List ℕ) {all left left' : List (List ℕ)} {s s' : Setup} {l l' : ℕ}
    {written none : List ℕ} → all ≡ lines input → inquiry all ≡ inquiry_of s (run_lines (suspects s) 0 l left)
    → s' ≡ s → none ≡ [] → written ≡ none ++ budget_text s' → l' ≡ l → left' ≡ left
    → GoesOn (judged input) s' written at_start l' left'
GoesOn-start input {all} {left} {left'} {s} {s'} {l} all_are opened same_setup is_none is_written same_number
    same_left =
    rw (is_written, is_none, same_setup, same_number, same_left)
    (record { same = judged_from input s l left (ap inquiry (sym all_are) ∙ opened) })

-- one run line was judged
pub GoesOn-more : {judgement : Result (List ℕ) ℕ} {s s' : Setup} {written written' line : List ℕ} {p : JudgeProgress}
    {l l' : ℕ} {all left : List (List ℕ)} (run : RunLine) → GoesOn judgement s written p l all → all ≡ line ∷ left
    → run_line (suspects s) p.greatest line ≡ Some run → s' ≡ s
    → written' ≡ written ++ fate_text run.number (fate s p run) → l' ≡ l + 1
    → GoesOn judgement s' written' (after s p run) l' left
GoesOn-more {judgement} {s} {s'} {written} {written'} {line} {p} {l} {l'} {all} {left} run so_far first reads
    same_setup is_written next_number =
    rw (is_written, same_setup, next_number)
    (record {
      same = so_far.same ∙ ap (answered s written p l) first
          ∙ answered_more s written p l line left run reads;
    })

-- a line was outside the form
pub GoesOn-outside : {judgement : Result (List ℕ) ℕ} {s : Setup} {written line : List ℕ} {p : JudgeProgress} {l l' : ℕ}
    {all left : List (List ℕ)} → GoesOn judgement s written p l all → all ≡ line ∷ left
    → run_line (suspects s) p.greatest line ≡ None → l' ≡ l → judgement ≡ Err l'
GoesOn-outside {judgement} {s} {written} {line} {p} {l} {l'} {all} {left} so_far first outside same_number =
    rw same_number (so_far.same ∙ ap (answered s written p l) first ∙ answered_outside s written p l line left outside)

-- no line was left, and the ending was written
pub GoesOn-end : {judgement : Result (List ℕ) ℕ} {s : Setup} {written written' : List ℕ} {p : JudgeProgress} {l : ℕ}
    {all : List (List ℕ)} → GoesOn judgement s written p l all → all ≡ [] → written' ≡ written ++ ending s p
    → judgement ≡ Ok written'
GoesOn-end {judgement} {s} {written} {written'} {p} {l} so_far none is_written =
    rw is_written (so_far.same ∙ ap (answered s written p l) none)
