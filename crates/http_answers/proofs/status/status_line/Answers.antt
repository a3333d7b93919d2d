use Rattle.std.proofs.Common.{ℕ, ◌≡◌, ◌+◌, ◌-◌, ◌∙◌, ◌++◌, List, ap, arith, length, length-append, refl, sym, take}
use Rattle.std.proofs.Math.Seq.{take-append_seam}
use Rattle.std.proofs.lemmas.List.{length-take-le}
use Rattle.http_answers.specs.Lines.{content_type, length_name}
use Rattle.http_answers.specs.Pieces.{opening_of}
use Rattle.http_answers.proofs.status.status_line.Goals as goal

behind-length : length (content_type ++ length_name) ≡ 48
unfolding content_type length_name
behind-length = refl

opening-length : (o s : List ℕ) → o ≡ opening_of s → length o ≡ length s + 48
opening-length o s is =
    ap (λ (l : List ℕ). length l) is ∙ length-append s (content_type ++ length_name)
    ∙ ap (λ (n : ℕ). length s + n) behind-length

-- what stands before the rest of an opening is the line
opening-front : (o s : List ℕ) → o ≡ opening_of s → take (length o - 48) o ≡ s
opening-front o s is =
    let size : length o - 48 ≡ length s = omega (arith, opening-length o s is) in
    ap (λ (n : ℕ). take n o) size ∙ ap (λ (l : List ℕ). take (length s) l) is
    ∙ take-append_seam s (content_type ++ length_name)

pub slice_bounds-result-count : goal.slice_bounds-result-count
slice_bounds-result-count c = omega (arith, opening-length _ _ c.opening-whole.ensures)

pub slice_bounds-result-length : goal.slice_bounds-result-length
slice_bounds-result-length c =
    sym (length-take-le (length c.opening-whole.result.now - 48) c.opening-whole.result.now (omega arith))

pub returns : goal.returns
returns c = opening-front _ _ c.opening-whole.ensures
