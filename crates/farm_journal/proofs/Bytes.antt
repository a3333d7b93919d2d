-- What each step of an append leaves, on lists of bytes.
use Rattle.std.proofs.Common.{◌≡◌, ◌≢◌, ◌⊎◌, inl, inr, ⊎_elim, ℕ, ◌+◌, List, [], ◌∷◌, ◌++◌, length, get_or, take, drop, refl, sym, ◌∙◌, ap, arith, append_assoc, append-nil, length-append, take-append-drop}
use Rattle.std.proofs.lemmas.Bool.{cases_eq}
use Rattle.std.proofs.lemmas.List.{take_at, drop_at, drop_more}
use Rattle.std.proofs.lemmas.Nat.{from_be_bytes-to_be_bytes_4}
use Rattle.std.specs.Int.{to_be_bytes, w32}
use Rattle.farm_disk.specs.Images.{Torn, overwritten}
use Rattle.farm_journal.specs.Layout.{framed, IsPayload}
use Rattle.farm_journal.specs.Gates.{header, IsRecord, Chain, Front, Holds}

pub length-framed : (p : List ℕ) → length (framed p) ≡ 4 + length p
length-framed p = grind (arith, length-append)

-- how long a record is with the closed gate behind it
pub length-closed : (p bytes : List ℕ) → bytes ≡ framed p ++ 0 ∷ [] → length bytes ≡ 5 + length p
length-closed p bytes is = omega (arith, ap length is, length-append (framed p) (0 ∷ []), length-framed p)

-- what is written for a payload is a record of it
pub framed-record : (p : List ℕ) → IsPayload p → IsRecord p (framed p)
framed-record p fits = record {
  size = to_be_bytes w32 (length p);
  four = refl;
  tells = from_be_bytes-to_be_bytes_4 (length p) (omega (arith, fits.most));
  fits = fits;
  whole = refl;
}

-- an open record at the end
pub Chain-push : (ps : List (List ℕ)) (p front : List ℕ) (gate : ℕ) → Chain ps front → gate ≢ 0 → IsPayload p
    → Chain (ps ++ p ∷ []) (front ++ gate ∷ framed p)
Chain-push [] p front gate chain is_open fits = (
  gate,
  framed p,
  [],
  is_open,
  framed-record p fits,
  ap (λ (l : List ℕ). l ++ gate ∷ framed p) chain
      ∙ sym (append-nil (gate ∷ framed p)),
  refl,
)
Chain-push (q ∷ ps) p front gate chain is_open fits = (
  chain.0,
  chain.1,
  chain.2 ++ gate ∷ framed p,
  chain.3,
  chain.4,
  ap (λ (l : List ℕ). l ++ gate ∷ framed p) chain.5 ∙ append_assoc (chain.0 ∷ chain.1) chain.2 (gate ∷ framed p),
  Chain-push ps p chain.2 gate chain.6 is_open fits,
)

-- an open record behind the header and the others
pub Front-push : (v : ℕ) (ps : List (List ℕ)) (p front : List ℕ) (gate : ℕ) → Front v ps front → gate ≢ 0 → IsPayload p
    → Front v (ps ++ p ∷ []) (front ++ gate ∷ framed p)
Front-push v ps p front gate chain is_open fits = record {
  birth = chain.birth;
  chained = chain.chained ++ gate ∷ framed p;
  born = chain.born;
  chain = Chain-push ps p chain.chained gate chain.chain is_open fits;
  whole = ap (λ (l : List ℕ). l ++ gate ∷ framed p) chain.whole
      ∙ append_assoc (header chain.birth v) chain.chained (gate ∷ framed p);
}

-- the closed gate stands in each outcome of a write behind it
pub holds_torn : (v : ℕ) (ps : List (List ℕ)) (g n : ℕ) (old new : List ℕ) → Holds v ps g old → Torn (g + 1) n old new
    → Holds v ps g new
holds_torn v ps g n old new held torn =
    let split : old ≡ (held.front ++ 0 ∷ []) ++ held.rest =
    held.whole ∙ sym (append_assoc held.front (0 ∷ []) held.rest) in
    let size : length (held.front ++ 0 ∷ []) ≡ g + 1 = omega (arith, held.at, length-append held.front (0 ∷ [])) in
    let front : take (g + 1) new ≡ held.front ++ 0 ∷ [] =
    torn.before ∙ ap (λ (l : List ℕ). take (g + 1) l) split ∙ take_at (held.front ++ 0 ∷ []) held.rest (g + 1) size in
    let whole : new ≡ held.front ++ 0 ∷ drop (g + 1) new =
    sym (take-append-drop (g + 1) new) ∙ ap (λ (l : List ℕ). l ++ drop (g + 1) new) front
    ∙ append_assoc held.front (0 ∷ []) (drop (g + 1) new) in
    record { front = held.front; rest = drop (g + 1) new; chain = held.chain; at = held.at; whole = whole }

-- the bytes with a whole record and a closed gate behind the closed gate
pub record Staged (v : ℕ) (ps : List (List ℕ)) (g : ℕ) (p bytes : List ℕ) : Type 0 where
  pub front : List ℕ
  pub rest : List ℕ
  pub chain : Front v ps front
  pub at : length front ≡ g
  pub fits : IsPayload p
  pub whole : bytes ≡ front ++ 0 ∷ (framed p ++ 0 ∷ rest)

pub staged : (v : ℕ) (ps : List (List ℕ)) (g : ℕ) (p old : List ℕ) → Holds v ps g old → IsPayload p
    → Staged v ps g p (overwritten (g + 1) (framed p ++ 0 ∷ []) old)
staged v ps g p old held fits =
    let split : old ≡ (held.front ++ 0 ∷ []) ++ held.rest =
    held.whole ∙ sym (append_assoc held.front (0 ∷ []) held.rest) in
    let size : length (held.front ++ 0 ∷ []) ≡ g + 1 = omega (arith, held.at, length-append held.front (0 ∷ [])) in
    let front : take (g + 1) old ≡ held.front ++ 0 ∷ [] =
    ap (λ (l : List ℕ). take (g + 1) l) split ∙ take_at (held.front ++ 0 ∷ []) held.rest (g + 1) size in
    let bytes = framed p ++ 0 ∷ [] in
    let rest = drop (g + 1 + length bytes) old in
    let whole : overwritten (g + 1) bytes old ≡ held.front ++ 0 ∷ (framed p ++ 0 ∷ rest) =
    ap (λ (l : List ℕ). l ++ bytes ++ rest) front
    ∙ append_assoc (held.front ++ 0 ∷ []) bytes rest
    ∙ append_assoc held.front (0 ∷ []) (bytes ++ rest)
    ∙ ap (λ (l : List ℕ). held.front ++ 0 ∷ l) (append_assoc (framed p) (0 ∷ []) rest) in
    record { front = held.front; rest = rest; chain = held.chain; at = held.at; fits = fits; whole = whole }

pub holds-staged : (v : ℕ) (ps : List (List ℕ)) (g : ℕ) (p bytes : List ℕ) → Staged v ps g p bytes → Holds v ps g bytes
holds-staged v ps g p bytes s = record {
  front = s.front;
  rest = framed p ++ 0 ∷ s.rest;
  chain = s.chain;
  at = s.at;
  whole = s.whole;
}

-- whatever stands at the gate, the payloads are those before or these and the new one
pub holds_gate : (v : ℕ) (ps : List (List ℕ)) (g : ℕ) (p bytes : List ℕ) (s : Staged v ps g p bytes) (gate : ℕ)
    (c : List ℕ) → c ≡ s.front ++ gate ∷ (framed p ++ 0 ∷ s.rest)
    → (Holds v ps g c ⊎ Holds v (ps ++ p ∷ []) (g + 5 + length p) c)
holds_gate v ps g p bytes s gate c is =
    ⊎_elim (λ (shut : gate ≡ 0). inl (closed shut)) (λ (is_open : gate ≢ 0). inr (opened is_open)) (cases_eq gate 0)
  where
    closed : gate ≡ 0 → Holds v ps g c
    closed shut = record {
      front = s.front;
      rest = framed p ++ 0 ∷ s.rest;
      chain = s.chain;
      at = s.at;
      whole = is ∙ ap (λ (x : ℕ). s.front ++ x ∷ (framed p ++ 0 ∷ s.rest)) shut;
    }

    opened : gate ≢ 0 → Holds v (ps ++ p ∷ []) (g + 5 + length p) c
    opened is_open = record {
      front = s.front ++ gate ∷ framed p;
      rest = s.rest;
      chain = Front-push v ps p s.front gate s.chain is_open s.fits;
      at = omega (arith, s.at, length-append s.front (gate ∷ framed p), length-framed p);
      whole = is ∙ sym (append_assoc s.front (gate ∷ framed p) (0 ∷ s.rest));
    }

-- whatever a write of the gate leaves
pub torn_gate : (v : ℕ) (ps : List (List ℕ)) (g : ℕ) (p bytes c : List ℕ) → Staged v ps g p bytes → Torn g 1 bytes c
    → (Holds v ps g c ⊎ Holds v (ps ++ p ∷ []) (g + 5 + length p) c)
torn_gate v ps g p bytes c s torn =
    let tail = framed p ++ 0 ∷ s.rest in
    let size : length bytes ≡ length s.front + length (0 ∷ tail) =
    ap length s.whole ∙ length-append s.front (0 ∷ tail) in
    let gate = get_or c g 0 in
    let front : take g c ≡ s.front =
    torn.before ∙ ap (λ (l : List ℕ). take g l) s.whole ∙ take_at s.front (0 ∷ tail) g s.at in
    let behind : drop (g + 1) bytes ≡ tail =
    ap (λ (l : List ℕ). drop (g + 1) l) (s.whole ∙ sym (append_assoc s.front (0 ∷ []) tail))
    ∙ drop_at (s.front ++ 0 ∷ []) tail (g + 1) (omega (arith, s.at, length-append s.front (0 ∷ []))) in
    let rest : drop g c ≡ gate ∷ tail =
    drop_more c g 0 (omega (arith, size, s.at, torn.no_shorter))
    ∙ ap (λ (l : List ℕ). gate ∷ l) (torn.after ∙ behind) in
    let whole : c ≡ s.front ++ gate ∷ tail =
    sym (take-append-drop g c) ∙ ap (λ (l : List ℕ). l ++ drop g c) front ∙ ap (λ (l : List ℕ). s.front ++ l) rest in
    holds_gate v ps g p bytes s gate c whole

-- the gate opened
pub opened_gate : (v : ℕ) (ps : List (List ℕ)) (g : ℕ) (p bytes : List ℕ) → Staged v ps g p bytes
    → Holds v (ps ++ p ∷ []) (g + 5 + length p) (overwritten g (1 ∷ []) bytes)
opened_gate v ps g p bytes s =
    let tail = framed p ++ 0 ∷ s.rest in
    let front : take g bytes ≡ s.front = ap (λ (l : List ℕ). take g l) s.whole ∙ take_at s.front (0 ∷ tail) g s.at in
    let behind : drop (g + 1) bytes ≡ tail =
    ap (λ (l : List ℕ). drop (g + 1) l) (s.whole ∙ sym (append_assoc s.front (0 ∷ []) tail))
    ∙ drop_at (s.front ++ 0 ∷ []) tail (g + 1) (omega (arith, s.at, length-append s.front (0 ∷ []))) in
    let whole : overwritten g (1 ∷ []) bytes ≡ s.front ++ 1 ∷ tail =
    ap (λ (l : List ℕ). l ++ (1 ∷ []) ++ drop (g + 1) bytes) front
    ∙ append_assoc s.front (1 ∷ []) (drop (g + 1) bytes)
    ∙ ap (λ (l : List ℕ). s.front ++ 1 ∷ l) behind in
    record {
      front = s.front ++ 1 ∷ framed p;
      rest = s.rest;
      chain = Front-push v ps p s.front 1 s.chain (λ (e : 1 ≡ 0). omega (arith, e)) s.fits;
      at = omega (arith, s.at, length-append s.front (1 ∷ framed p), length-framed p);
      whole = whole ∙ sym (append_assoc s.front (1 ∷ framed p) (0 ∷ s.rest));
    }
