-- Items that are written one after the other are those of an array.
use Rattle.std.proofs.Common.{◌≡◌, ℕ, ◌+◌, ◌<◌, ◌≤◌, List, [], ◌∷◌, ◌++◌, length, get_or, drop, codes, arith, refl, sym}
use Rattle.std.proofs.Common.{ap, ◌∙◌, add-one, append_assoc, drop-cons}
use Rattle.std.proofs.lemmas.List.{drop_all}
use Rattle.serde_json.specs.Data.{Data}
use Rattle.serde_json.specs.Written.{compact_text}
use Rattle.farm_wire.specs.Pieces.{array_on, array_text}

pub no-items : {A : Type 0} (items : List A) → length items ≡ 0 → items ≡ []
no-items [] none = refl
no-items (x ∷ items) none = absurd (omega arith)

-- one more is written
pub items-next : {A : Type 0} (value : A → Data) (old new : List ℕ) (items : List A) (i : ℕ) (d : A) → i < length items
    → new ≡ old ++ (codes "," ++ compact_text (value (get_or items i d)))
    → new ++ array_on value (drop (i + 1) items) ≡ old ++ array_on value (drop i items)
items-next value old new items i d within put =
    let x = get_or items i d in
    let cons : drop i items ≡ x ∷ drop (i + 1) items = rw (add-one, drop-cons items i d) refl in
    ap (λ text. text ++ array_on value (drop (i + 1) items)) put
    ∙ append_assoc old (codes "," ++ compact_text (value x)) (array_on value (drop (i + 1) items))
    ∙ ap (λ rest. old ++ array_on value rest) (sym cons)

-- all are written
pub items-all : {A : Type 0} (value : A → Data) (start old new : List ℕ) (items : List A) (i : ℕ) → length items ≤ i
    → old ++ array_on value (drop i items) ≡ start ++ array_on value items → new ≡ old ++ codes "]"
    → new ≡ start ++ array_on value items
items-all value start old new items i ended before put =
    put ∙ ap (λ rest. old ++ array_on value rest) (sym (drop_all i items ended)) ∙ before

-- an array by its first item and the others
pub items-some : {A : Type 0} (value : A → Data) (old begun new : List ℕ) (items more : List A) (first : A)
    → items ≡ first ∷ more → begun ≡ old ++ (codes "[" ++ compact_text (value first))
    → new ≡ begun ++ array_on value more → new ≡ old ++ array_text value items
items-some value old begun new items more first is begin put =
    put
    ∙ ap (λ text. text ++ array_on value more) begin
    ∙ append_assoc old (codes "[" ++ compact_text (value first)) (array_on value more)
    ∙ ap (λ xs. old ++ array_text value xs) (sym is)

-- and without an item
pub items-none : {A : Type 0} (value : A → Data) (old new : List ℕ) (items : List A) → items ≡ []
    → new ≡ old ++ codes "[]" → new ≡ old ++ array_text value items
items-none value old new items none put = put ∙ ap (λ xs. old ++ array_text value xs) (sym none)
