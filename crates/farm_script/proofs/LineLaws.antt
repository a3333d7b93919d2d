-- Lines make up their text.
use Rattle.std.proofs.Common.{◌≡◌, ◌≢◌, ℕ, List, [], ◌∷◌, ◌++◌, sym, ap, ◌∙◌, subst, ⊎_elim, append_assoc}
use Rattle.std.proofs.lemmas.Bool.{cases_eq}
use Rattle.std.proofs.lemmas.List.{append-nil}
use Rattle.std.proofs.lemmas.List.Elements.{All-nil, All-cons, All-push}
use Rattle.std.specs.List.{All}
use Rattle.farm_script.specs.Lines.{ended_after, rest_after, ended_lines, rest_of, as_line, joined, lines}
use Rattle.farm_script.proofs.LineEnds.{ended_after-feed, ended_after-other, rest_after-feed, rest_after-other}
use Rattle.farm_script.proofs.LineEnds.{ended_after-append}

-- the lines that end in a text and what follows them are what was read before and the text
pub whole_after : (line bytes : List ℕ) → joined (ended_after line bytes) ++ rest_after line bytes ≡ line ++ bytes
whole_after line [] = sym (append-nil line)
whole_after line (b ∷ bs) = ⊎_elim
    (λ feed.
    ap (λ ls. joined ls ++ rest_after line (b ∷ bs)) (ended_after-feed line b bs feed)
    ∙ ap (λ rest. (line ++ 10 ∷ joined (ended_after [] bs)) ++ rest) (rest_after-feed line b bs feed)
    ∙ append_assoc line (10 ∷ joined (ended_after [] bs)) (rest_after [] bs)
    ∙ ap (λ l. line ++ 10 ∷ l) (whole_after [] bs)
    ∙ ap (λ c. line ++ c ∷ bs) (sym feed))
    (λ other.
    ap (λ ls. joined ls ++ rest_after line (b ∷ bs)) (ended_after-other line b bs other)
    ∙ ap (λ rest. joined (ended_after (line ++ b ∷ []) bs) ++ rest) (rest_after-other line b bs other)
    ∙ whole_after (line ++ b ∷ []) bs
    ∙ append_assoc line (b ∷ []) bs)
    (cases_eq b 10)

-- no line feed
abbrev Plain : List ℕ → Type 0
Plain line = All (λ b. b ≢ 10) line

plain-push : (line : List ℕ) (b : ℕ) → Plain line → b ≢ 10 → Plain (line ++ b ∷ [])
plain-push line b plain other = All-push (λ c. c ≢ 10) line b plain other

pub ended_after-plain : (line bytes : List ℕ) → Plain line → All Plain (ended_after line bytes)
ended_after-plain line [] plain = All-nil Plain
ended_after-plain line (b ∷ bs) plain = ⊎_elim
    (λ feed. subst (All Plain) (sym (ended_after-feed line b bs feed))
    (All-cons Plain line (ended_after [] bs) plain (ended_after-plain [] bs (All-nil (λ c. c ≢ 10)))))
    (λ other. subst (All Plain) (sym (ended_after-other line b bs other))
    (ended_after-plain (line ++ b ∷ []) bs (plain-push line b plain other)))
    (cases_eq b 10)

pub rest_after-plain : (line bytes : List ℕ) → Plain line → Plain (rest_after line bytes)
rest_after-plain line [] plain = plain
rest_after-plain line (b ∷ bs) plain = ⊎_elim
    (λ feed. subst Plain (sym (rest_after-feed line b bs feed)) (rest_after-plain [] bs (All-nil (λ c. c ≢ 10))))
    (λ other. subst Plain (sym (rest_after-other line b bs other))
    (rest_after-plain (line ++ b ∷ []) bs (plain-push line b plain other)))
    (cases_eq b 10)

-- the lines that end in the front of a text are its first ones
pub lines-front : (taken further : List ℕ)
    → (others : List (List ℕ)) × (lines (taken ++ further) ≡ ended_lines taken ++ others)
lines-front taken further =
    let last = as_line (rest_of (taken ++ further)) in
    let more = ended_after (rest_of taken) further in (
      more ++ last,
      ap (λ ls. ls ++ last) (ended_after-append [] taken further)
          ∙ append_assoc (ended_lines taken) more last,
    )
