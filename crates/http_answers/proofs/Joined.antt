-- Texts that are put one after the other.
use Rattle.std.proofs.Common.{ℕ, Option, ◌≡◌, ◌+◌, ◌<◌, List, [], ◌∷◌, ◌++◌, length, take, drop, get_or, sym, ap, ◌∙◌, append_assoc, append-nil, length-append, arith}
use Rattle.std.specs.Borrow.{Bor}
use Rattle.std.specs.Io.KnownBytes.{append_known}
use Rattle.link_io.proofs.Told.{append_known-append}
use Rattle.std.proofs.Math.Seq.{take-append-add}
use Rattle.std.proofs.lemmas.Grind.{flat_map-append}
use Rattle.std.proofs.lemmas.List.{take_more, take-append-drop, take-append-le}
use Rattle.http_answers.specs.Pieces.{joined}

abbrev text : Bor (List ℕ) → List ℕ
text piece = piece.now

-- one piece more
pub joined-take_more : (pieces : List (Bor (List ℕ))) (i : ℕ) (d : Bor (List ℕ)) → i < length pieces
    → joined (take (i + 1) pieces) ≡ joined (take i pieces) ++ (get_or pieces i d).now
joined-take_more pieces i d inside =
    ap joined (take_more pieces i d inside)
    ∙ flat_map-append text (take i pieces) (get_or pieces i d ∷ [])
    ∙ ap (λ (l : List ℕ). joined (take i pieces) ++ l) (append-nil (get_or pieces i d).now)

-- a prefix of the whole: the pieces before one, and some bytes of it, but not all
pub record IsFront (pieces : List (Bor (List ℕ))) (front : List ℕ) : Type 0 where
  pub count : ℕ
  pub some : count < length (joined pieces)
  pub is : front ≡ take count (joined pieces)

pub joined-front : (pieces : List (Bor (List ℕ))) (i n : ℕ) (d : Bor (List ℕ)) → i < length pieces → n < length (get_or pieces i d).now
    → IsFront pieces (joined (take i pieces) ++ take n (get_or pieces i d).now)
joined-front pieces i n d inside within =
    let before = joined (take i pieces) in
    let piece = (get_or pieces i d).now in
    let behind = joined (drop (i + 1) pieces) in
    let whole : joined pieces ≡ before ++ (piece ++ behind) =
    ap joined (sym (take-append-drop (i + 1) pieces))
    ∙ flat_map-append text (take (i + 1) pieces) (drop (i + 1) pieces)
    ∙ ap (λ (l : List ℕ). l ++ behind) (joined-take_more pieces i d inside)
    ∙ append_assoc before piece behind
    in
    record {
      count = length before + n;
      some = omega (arith, ap length whole, length-append before (piece ++ behind), length-append piece behind, within);
      is = ap (λ (l : List ℕ). before ++ l) (sym (take-append-le n piece behind (omega arith)))
          ∙ sym (take-append-add before (piece ++ behind) n)
          ∙ ap (take (length before + n)) (sym whole);
    }

-- what was put when a piece stopped: a front of the whole
pub stopped-front : (pieces : List (Bor (List ℕ))) (i n : ℕ) (d : Bor (List ℕ)) (first mid last : Option (List ℕ)) → i < length pieces
    → n < length (get_or pieces i d).now → mid ≡ append_known first (joined (take i pieces)) → last ≡ append_known mid (take n (get_or pieces i d).now)
    → (count : ℕ) × (count < length (joined pieces)) × (last ≡ append_known first (take count (joined pieces)))
stopped-front pieces i n d first mid last inside within before stopped =
    let part = take n (get_or pieces i d).now in
    let front = joined-front pieces i n d inside within in (
      front.count,
      front.some,
      stopped ∙ ap (λ (told : Option (List ℕ)). append_known told part) before
          ∙ append_known-append first (joined (take i pieces)) part ∙ ap (append_known first) front.is,
    )
