-- The lines that a farm shows, a search at a time.
use Rattle.std.proofs.Common.{◌≡◌, ℕ, zero, suc, ◌+◌, ◌<◌, ◌++◌, ◌∷◌, List, [], length, get_or, take, Contains, Option}
use Rattle.std.proofs.Common.{Some, refl, sym, ap, ◌∙◌, append_assoc, add-one, arith, take-suc}
use Rattle.std.proofs.lemmas.List.{append-nil}
use Rattle.farm_entry.specs.History.{opening_numbered, openings}
use Rattle.farm_entry.specs.Legal.{IsLegal}
use Rattle.farm_entry.specs.Pages.{page_of}
use Rattle.farm_entry.specs.declared.entry.Entry.{Entry}
use Rattle.farm_entry.specs.declared.opening.Opening.{Opening}
use Rattle.farm_entry.specs.declared.reply.Reply.TheVariants as reply
use Rattle.farm_laws.proofs.Numbered.{number-at, opening-found, openings-numbered}
use Rattle.farm_script.specs.Shown.{shown_line, shown_opening, shown_searches}

shown_searches-append : (H : List Entry) (some more : List Opening)
    → shown_searches H (some ++ more) ≡ shown_searches H some ++ shown_searches H more
shown_searches-append H [] more = refl
shown_searches-append H (o ∷ some) more =
    let line = shown_line (reply.Search (page_of H o)) in
    ap (λ (t : List ℕ). line ++ t) (shown_searches-append H some more)
    ∙ sym (append_assoc line (shown_searches H some) (shown_searches H more))

-- some search stands at each place
opening-at : (os : List Opening) (k : ℕ) → k < length os → (o : Opening) × (get_or os k o ≡ o)
opening-at [] k below = absurd (omega (arith, below))
opening-at (o ∷ os) zero below = (o, refl)
opening-at (o ∷ os) (suc k) below = opening-at os k (omega (arith, below))

-- the search at a place is found by the next number
numbered-next : (H : List Entry) (k : ℕ) (o : Opening) → IsLegal H → k < length (openings H)
    → get_or (openings H) k o ≡ o → opening_numbered H (k + 1) ≡ Some o
numbered-next H k o legal below is =
    let there : Contains (openings H) o = (k, below, is) in
    let at = number-at (λ (x : Opening). x.search) 1 (openings H) (openings-numbered H legal) k o below in
    let number : o.search ≡ 1 + k = ap (λ (x : Opening). x.search) (sym is) ∙ at in
    let same : k + 1 ≡ o.search = omega (arith, number) in
    ap (opening_numbered H) same ∙ opening-found H o legal there

-- the lines of the searches before a number and with it
pub shown-next : (H : List Entry) (k : ℕ) → IsLegal H → k < length (openings H)
    → shown_searches H (take (k + 1) (openings H))
    ≡ shown_searches H (take k (openings H)) ++ shown_opening H (opening_numbered H (k + 1))
shown-next H k legal below =
    let it = opening-at (openings H) k below in
    let o : Opening = it.0 in
    let longer : take (k + 1) (openings H) ≡ take k (openings H) ++ get_or (openings H) k o ∷ [] =
    rw add-one (take-suc (openings H) k o below) in
    ap (shown_searches H) longer
    ∙ ap (λ (x : Opening). shown_searches H (take k (openings H) ++ x ∷ [])) it.1
    ∙ shown_searches-append H (take k (openings H)) (o ∷ [])
    ∙ ap (λ (t : List ℕ). shown_searches H (take k (openings H)) ++ t)
    (append-nil (shown_line (reply.Search (page_of H o))))
    ∙ ap (λ (x : Option Opening). shown_searches H (take k (openings H)) ++ shown_opening H x)
    (sym (numbered-next H k o legal below it.1))
