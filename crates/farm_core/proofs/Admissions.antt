-- Entries that are admitted one after the other.
use Rattle.std.proofs.Common.{◌≡◌, List, [], ◌∷◌, ◌++◌, sym, ◌∙◌, ap, subst}
use Rattle.std.specs.Prelude.{reverse}
use Rattle.std.proofs.lemmas.List.{append-nil, append_assoc, reverse-append, reverse-reverse}
use Rattle.farm_core.specs.FarmFaults.{IsHalted, IsUnfit}
use Rattle.farm_core.specs.declared.farm.AdmitFault.{AdmitFault}
use Rattle.farm_entry.specs.Legal.{IsLegal}
use Rattle.farm_entry.specs.declared.entry.Entry.{Entry}

-- the first entries were added, and the others are left, the last one first
pub record AreAdded (H entries left now : List Entry) : Type 0 where
  pub before : List Entry
  pub split : entries ≡ before ++ reverse left
  pub added : now ≡ H ++ before
  pub legal : IsLegal now

-- none was added yet
pub added-none : (H entries left : List Entry) → left ≡ reverse entries → IsLegal H → AreAdded H entries left H
added-none H entries left is legal = record {
  before = [];
  split = sym (ap reverse is ∙ reverse-reverse entries);
  added = sym (append-nil H);
  legal = legal;
}

-- all were added
pub added-all : (H entries now : List Entry) → AreAdded H entries [] now → now ≡ H ++ entries
added-all H entries now all =
    all.added ∙ ap (λ (l : List Entry). H ++ l) (sym (all.split ∙ append-nil all.before))

module _ (H entries left rest now : List Entry) (e : Entry) (split : left ≡ rest ++ e ∷ [])
    (some : AreAdded H entries left now) where
  -- the next one stands behind those that were added
  next : entries ≡ some.before ++ e ∷ reverse rest
  next = some.split
      ∙ ap (λ (l : List Entry). some.before ++ l) (ap reverse split ∙ reverse-append rest (e ∷ []))

  -- it is added
  pub added-more : (then : List Entry) → then ≡ now ++ e ∷ [] → IsLegal (now ++ e ∷ [])
      → AreAdded H entries rest then
  added-more then is legal = record {
    before = some.before ++ e ∷ [];
    split = next ∙ sym (append_assoc some.before (e ∷ []) (reverse rest));
    added = is ∙ ap (λ (l : List Entry). l ++ e ∷ []) some.added ∙ append_assoc H some.before (e ∷ []);
    legal = subst IsLegal (sym is) legal;
  }

  -- it is not
  pub added-halted : (then : List Entry) (f : AdmitFault) → then ≡ now → IsUnfit now e f → IsHalted H entries then f
  added-halted then f is unfit = record {
    before = some.before;
    entry = e;
    behind = reverse rest;
    split = next;
    added = is ∙ some.added;
    legal = subst IsLegal (sym is) some.legal;
    unfit = subst (λ (l : List Entry). IsUnfit l e f) (sym is) unfit;
  }
