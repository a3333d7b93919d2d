-- What the byte at a gate says.
use Rattle.std.proofs.Common.{◌≡◌, ◌≢◌, ℕ, ◌+◌, ◌<◌, List, [], ◌∷◌, ◌++◌, length, take, drop, get_or, refl, sym, ◌∙◌, ap, arith, append_assoc, append-nil, length-append}
use Rattle.std.proofs.lemmas.List.{drop_at, get_or-take, get_or-drop}
use Rattle.farm_journal.specs.Gates.{header, IsRecord, Chain, Front, Holds}

-- how long a record is
pub length-record : (p written : List ℕ) → IsRecord p written → length written ≡ 4 + length p
length-record p written is = omega (arith, ap length is.whole, length-append is.size p, is.four)

-- the last record stands apart
pub Chain-split : (ps : List (List ℕ)) (p bytes : List ℕ) → Chain (ps ++ p ∷ []) bytes
    → (front : List ℕ) × (gate : ℕ) × (written : List ℕ) × Chain ps front × (gate ≢ 0) × IsRecord p written
    × (bytes ≡ front ++ gate ∷ written)
Chain-split [] p bytes chain = (
  [],
  chain.0,
  chain.1,
  refl,
  chain.3,
  chain.4,
  chain.5 ∙ ap (λ (l : List ℕ). chain.0 ∷ (chain.1 ++ l)) chain.6
      ∙ ap (λ (l : List ℕ). chain.0 ∷ l) (append-nil chain.1),
)
Chain-split (q ∷ ps) p bytes chain =
    let last = Chain-split ps p chain.2 chain.6 in (
      chain.0 ∷ chain.1 ++ last.0,
      last.1,
      last.2,
      (chain.0, chain.1, last.0, chain.3, chain.4, refl, last.3),
      last.4,
      last.5,
      chain.5 ∙ ap (λ (l : List ℕ). chain.0 ∷ (chain.1 ++ l)) last.6
          ∙ sym (append_assoc (chain.0 ∷ chain.1) last.0 (last.1 ∷ last.2)),
    )

-- the header and the other records, before the last record
pub Front-split : (v : ℕ) (ps : List (List ℕ)) (p bytes : List ℕ) → Front v (ps ++ p ∷ []) bytes
    → (front : List ℕ) × (gate : ℕ) × (written : List ℕ) × Front v ps front × (gate ≢ 0) × IsRecord p written
    × (bytes ≡ front ++ gate ∷ written)
Front-split v ps p bytes front =
    let last = Chain-split ps p front.chained front.chain in (
      header front.birth v ++ last.0,
      last.1,
      last.2,
      record { birth = front.birth; chained = last.0; born = front.born; chain = last.3; whole = refl },
      last.4,
      last.5,
      front.whole ∙ ap (λ (l : List ℕ). header front.birth v ++ l) last.6
          ∙ sym (append_assoc (header front.birth v) last.0 (last.1 ∷ last.2)),
    )

-- the closed gate is within the bytes
pub holds-within : (v : ℕ) (ps : List (List ℕ)) (g : ℕ) (bytes : List ℕ) → Holds v ps g bytes → g < length bytes
holds-within v ps g bytes held = omega (arith, ap length held.whole, held.at, length-append held.front (0 ∷ held.rest))

-- the byte at a place
byte-at : (front rest bytes : List ℕ) (v g : ℕ) → bytes ≡ front ++ v ∷ rest → length front ≡ g
    → take 1 (drop g bytes) ≡ v ∷ []
byte-at front rest bytes v g whole at =
    ap (λ (l : List ℕ). take 1 l) (ap (λ (l : List ℕ). drop g l) whole ∙ drop_at front (v ∷ rest) g at)

-- a closed gate reads 0
pub gate-shut : (v : ℕ) (ps : List (List ℕ)) (g : ℕ) (bytes : List ℕ) → Holds v ps g bytes
    → take 1 (drop g bytes) ≡ 0 ∷ []
gate-shut v ps g bytes held = byte-at held.front held.rest bytes 0 g held.whole held.at

-- the gate of the last record doesn't
pub gate-open : (v : ℕ) (ps : List (List ℕ)) (g : ℕ) (p bytes : List ℕ)
    → Holds v (ps ++ p ∷ []) (g + 5 + length p) bytes → (gate : ℕ) × (gate ≢ 0) × (take 1 (drop g bytes) ≡ gate ∷ [])
gate-open v ps g p bytes held =
    let last = Front-split v ps p held.front held.chain in
    let size : length last.0 ≡ g =
    omega (arith, held.at, ap length last.6, length-append last.0 (last.1 ∷ last.2), length-record p last.2 last.5) in
    let whole : bytes ≡ last.0 ++ last.1 ∷ (last.2 ++ 0 ∷ held.rest) =
    held.whole ∙ ap (λ (l : List ℕ). l ++ 0 ∷ held.rest) last.6
    ∙ append_assoc last.0 (last.1 ∷ last.2) (0 ∷ held.rest) in
    (last.1, last.4, byte-at last.0 (last.2 ++ 0 ∷ held.rest) bytes last.1 g whole size)

-- the byte that was read at a gate
pub byte-read : (g : ℕ) (bytes : List ℕ) → get_or (take 1 (drop g bytes)) 0 0 ≡ get_or bytes g 0
byte-read g bytes =
    get_or-take 1 (drop g bytes) 0 0 (omega arith) ∙ get_or-drop g bytes 0 0
    ∙ ap (λ (i : ℕ). get_or bytes i 0) (omega arith)
