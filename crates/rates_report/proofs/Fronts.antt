-- The beginnings of a history.
use Rattle.std.proofs.Common.{◌≡◌, ℕ, ◌+◌, ◌<◌, List, [], ◌∷◌, ◌++◌, length, drop, get_or, None, refl, sym, subst, ◌∙◌, add-one, append_assoc, drop-cons}
use Rattle.std.proofs.lemmas.Option.{none-some}
use Rattle.farm_entry.specs.Legal.{AreNext, IsFounding, IsLegal}
use Rattle.farm_entry.specs.declared.entry.Entry.{Entry}
use Rattle.farm_entry.specs.declared.entry.What.{What}
use Rattle.farm_entry.specs.declared.entry.What.TheVariants.{Founded, Opened, Leased, Reported, Skipped, Cancelled, Ordered, Carried, Closed}
use Rattle.farm_entry.specs.declared.standing.Standing.{Standing}
use Rattle.farm_laws.proofs.Induct.{AreNext-first}
use Rattle.rates_report.specs.Tally.{StandsAfter, search_in}

-- a legal history is legal up to each of its entries
pub front-legal : (H rest : List Entry) (e : Entry) → IsLegal (H ++ e ∷ rest) → IsLegal (H ++ e ∷ [])
front-legal [] rest e legal = (legal.0, tt)
front-legal (f ∷ H) rest e legal = (
  legal.0,
  AreNext-first (f ∷ []) (H ++ e ∷ []) rest
      (subst (λ (l : List Entry). AreNext (f ∷ []) l) (sym (append_assoc H (e ∷ []) rest)) legal.1),
)

-- a founding is about no search
pub founding-searches : (H : List Entry) (w : What) → IsFounding w → search_in H w ≡ None
founding-searches H (Founded x) first = refl
founding-searches H (Opened o) first = absurd first
founding-searches H (Leased k w n q t p d) first = absurd first
founding-searches H (Reported run v _) first = absurd first
founding-searches H (Skipped run _) first = absurd first
founding-searches H (Cancelled k q) first = absurd first
founding-searches H (Ordered k a n c q d) first = absurd first
founding-searches H (Carried c d) first = absurd first
founding-searches H Closed first = absurd first

-- so any standing will do after it
pub founding-stands : (e : Entry) (s : Standing) → IsFounding e.what → StandsAfter [] e s
founding-stands e s first search o is there = absurd (none-some search (sym (founding-searches [] e.what first) ∙ is))

-- what is left of a list from an item on
pub drop-next : {X : Type 0} (xs : List X) (k : ℕ) (x : X) → k < length xs → x ≡ get_or xs k x → drop k xs ≡ x ∷ drop (k + 1) xs
drop-next xs k x below is =
    drop-cons xs k x below ∙ (λ i. sym is i ∷ drop (sym (add-one k) i) xs)
