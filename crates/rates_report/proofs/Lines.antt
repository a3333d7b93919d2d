-- The lines of tests, one more at a time.
use Rattle.std.proofs.Common.{◌≡◌, ℕ, zero, suc, ◌+◌, ◌<◌, List, [], ◌∷◌, ◌++◌, length, take, sym, ap, ◌∙◌, arith, add-one, append-nil, append_assoc}
use Rattle.std.specs.List.{flat_map, slice_get}
use Rattle.farm_entry.specs.declared.entry.Entry.{Entry}
use Rattle.rates_report.specs.RateLines.{rate_line, rate_line_of}

lines-next : (H : List Entry) (ts : List (List ℕ)) (k : ℕ) → k < length ts →
    flat_map (rate_line H) (take (suc k) ts) ≡ flat_map (rate_line H) (take k ts) ++ rate_line_of H (slice_get ts k)
lines-next H [] k below = absurd (omega (arith, below))
lines-next H (t ∷ ts) zero below = append-nil (rate_line H t)
lines-next H (t ∷ ts) (suc k) below =
    ap (λ (l : List ℕ). rate_line H t ++ l) (lines-next H ts k (omega (arith, below)))
    ∙ sym (append_assoc (rate_line H t) (flat_map (rate_line H) (take k ts)) (rate_line_of H (slice_get ts k)))

-- the lines so far and that of the next test
pub lines-more : (H : List Entry) (ts : List (List ℕ)) (k : ℕ) → k < length ts →
    flat_map (rate_line H) (take (k + 1) ts) ≡ flat_map (rate_line H) (take k ts) ++ rate_line_of H (slice_get ts k)
lines-more H ts k below =
    ap (λ (n : ℕ). flat_map (rate_line H) (take n ts)) (add-one k) ∙ lines-next H ts k below
