-- Entries that were admitted one after the other, up to one that was not.
use Rattle.std.proofs.Common.{◌≡◌, ◌≢◌, ℕ, ◌+◌, ◌-◌, ◌≤◌, ◌<◌, List, [], ◌∷◌, ◌++◌, length, take, drop, refl, sym, ◌∙◌, ap, subst, arith}
use Rattle.std.specs.Prelude.{Result, Ok, Err}
use Rattle.std.proofs.lemmas.List.{length-append, take_at}
use Rattle.farm_core.specs.FarmFaults.{IsHalted}
use Rattle.farm_core.specs.declared.farm.AdmitFault.{AdmitFault}
use Rattle.farm_core.specs.declared.farm.AdmitFault.TheVariants as admit
use Rattle.farm_entry.specs.Legal.{IsLegal}
use Rattle.farm_entry.specs.declared.entry.Entry.{Entry}
use Rattle.farm_entry.specs.declared.limits.TheConstants.{MAX_ENTRIES}
use Rattle.farm_laws.proofs.Bounds.{entries-bounded}
use Rattle.farm_core.specs.FarmView.{FarmView}
use Rattle.farm_store.specs.Admitted.{AddsAllOrNone, IsFarmOf, IsStuckAt}
use Rattle.farm_store.proofs.Ahead.{legal-some}

pub legal-not_nil : (H : List Entry) → IsLegal H → H ≢ []
legal-not_nil [] legal none = absurd legal
legal-not_nil (e ∷ more) legal none = cc

module _ (H K entries : List Entry) (f : AdmitFault) (legal : IsLegal H) (halted : IsHalted H entries K f) (count : ℕ)
    (is : count ≡ length K - length H) where
  many : count ≡ length halted.before
  many = omega (arith, is, ap length halted.added, length-append H halted.before)

  -- those that were admitted are taken back
  pub halted-back : take (length K - count) K ≡ H
  halted-back =
      ap (λ (l : List Entry). take (length K - count) l) halted.added
      ∙ take_at H halted.before (length K - count)
      (omega (arith, many, ap length halted.added, length-append H halted.before))

  pub halted-some : count < length K
  halted-some = omega (arith, many, ap length halted.added, length-append H halted.before, legal-some H legal)

-- the next one can't come next
pub stuck-at : (H K entries : List Entry) (count : ℕ) → IsHalted H entries K admit.Illegal
    → count ≡ length K - length H → IsStuckAt H entries count
stuck-at H K entries count halted is = record {
  before = halted.before;
  entry = halted.entry;
  behind = halted.behind;
  split = halted.split;
  at = omega (arith, is, ap length halted.added, length-append H halted.before);
  fits = λ some. subst IsLegal halted.added halted.legal;
  misfit = λ legal. halted.unfit (subst (λ (l : List Entry). IsLegal (l ++ halted.entry ∷ [])) (sym halted.added) legal);
}

-- the same of a history that an entry founded
pub stuck-founded : (e : Entry) (others : List Entry) (i : ℕ) → IsStuckAt (e ∷ []) others i
    → IsStuckAt [] (e ∷ others) (i + 1)
stuck-founded e others i stuck =
    let at = stuck.at in
    record {
      before = e ∷ stuck.before;
      entry = stuck.entry;
      behind = stuck.behind;
      split = ap (λ (l : List Entry). e ∷ l) stuck.split;
      at = omega (arith, at);
      fits = λ some. stuck.fits some;
      misfit = stuck.misfit;
    }

-- the first entry can't be the first
pub stuck-first : (e : Entry) (others : List Entry) → (IsLegal (e ∷ []) → ⊥) → IsStuckAt [] (e ∷ others) 0
stuck-first e others misfit = record {
  before = [];
  entry = e;
  behind = others;
  split = refl;
  at = refl;
  fits = λ some. absurd (some refl);
  misfit = misfit;
}

-- an index of an entry
pub stuck-below : (H entries : List Entry) (i : ℕ) → IsStuckAt H entries i → i < length entries
stuck-below H entries i stuck =
    let long = ap length stuck.split in
    let size = length-append stuck.before (stuck.entry ∷ stuck.behind) in
    let at = stuck.at in
    omega (arith, long, size, at)

-- which is small
pub stuck-bounded : (e : Entry) (others : List Entry) (i : ℕ) → IsStuckAt (e ∷ []) others i → i ≤ MAX_ENTRIES
stuck-bounded e others i stuck =
    let at = stuck.at in
    let few : length (e ∷ stuck.before) ≤ MAX_ENTRIES + 1 =
    entries-bounded (e ∷ stuck.before) (stuck.fits (λ none. not-nil none)) in
    omega (arith, at, few)
  where
    not-nil : e ∷ stuck.before ≡ [] → ⊥
    not-nil none = cc

-- The answers, with their types.

abbrev taken : Unit {0} → Result (Unit {0}) ℕ
taken u = Ok u

abbrev refused : ℕ → Result (Unit {0}) ℕ
refused i = Err i

abbrev made : FarmView → Result FarmView ℕ
made farm = Ok farm

abbrev unmade : ℕ → Result FarmView ℕ
unmade i = Err i

pub taken-not_refused : (u : Unit {0}) (i : ℕ) → taken u ≡ refused i → ⊥
taken-not_refused u i same = cc

pub refused-index : (a b : ℕ) → refused a ≡ refused b → a ≡ b
refused-index a b same = cc

made-not_unmade : (farm : FarmView) (i : ℕ) → made farm ≡ unmade i → ⊥
made-not_unmade farm i same = cc

unmade-index : (a b : ℕ) → unmade a ≡ unmade b → a ≡ b
unmade-index a b same = cc

made-farm : (a b : FarmView) → made a ≡ made b → a ≡ b
made-farm a b same = cc

-- what adding entries came to, by its answer
pub added-of : (entries H K : List Entry) (r : Result (Unit {0}) ℕ) (u : Unit {0}) → r ≡ Ok u
    → AddsAllOrNone entries H r K → K ≡ H ++ entries
added-of entries H K (Ok v) u is adds = adds
added-of entries H K (Err i) u is adds = absurd (taken-not_refused u i (sym is))

pub stuck-of : (entries H K : List Entry) (r : Result (Unit {0}) ℕ) (i : ℕ) → r ≡ Err i
    → AddsAllOrNone entries H r K → (K ≡ H) × IsStuckAt H entries i
stuck-of entries H K (Ok u) i is adds = absurd (taken-not_refused u i is)
stuck-of entries H K (Err j) i is adds =
    (adds.0, subst (λ (n : ℕ). IsStuckAt H entries n) (refused-index j i is) adds.1)

-- what making a farm came to, by its answer
pub farm-of : (entries : List Entry) (r : Result FarmView ℕ) (farm : FarmView) → r ≡ Ok farm → IsFarmOf entries r
    → farm.history ≡ entries
farm-of entries (Ok f) farm is makes = ap (λ (x : FarmView). x.history) (made-farm farm f (sym is)) ∙ makes
farm-of entries (Err i) farm is makes = absurd (made-not_unmade farm i (sym is))

pub no-farm-of : (entries : List Entry) (r : Result FarmView ℕ) (i : ℕ) → r ≡ Err i → IsFarmOf entries r
    → IsStuckAt [] entries i
no-farm-of entries (Ok farm) i is makes = absurd (made-not_unmade farm i is)
no-farm-of entries (Err j) i is makes = subst (λ (n : ℕ). IsStuckAt [] entries n) (unmade-index j i is) makes
