-- Payloads that go on with a history, one after the other.
use Rattle.std.proofs.Common.{Bool, true, false, true≢false, ◌≡◌, ◌≢◌, inl, inr, ℕ, zero, suc, ◌+◌, ◌*◌, ◌≤◌, ◌<◌, List, [], ◌∷◌, ◌++◌, length, take, drop, get_or, All, refl, sym, ◌∙◌, ap, subst, arith}
use Rattle.std.specs.Prelude.{◌==◌, IfErr, Result, Ok, Err, Option, Some, None, is_some, remove, slice_get}
use Rattle.std.proofs.lemmas.Bool.Decides.{nat_tests}
use Rattle.std.proofs.lemmas.List.{append_assoc, length-append, take-append-drop, take_all, take_more, drop_more}
use Rattle.std.proofs.lemmas.List.Elements.{All-get_or}
use Rattle.entry_codec.specs.Grammar.{AreSpelled}
use Rattle.entry_codec.specs.Spelling.{spelling}
use Rattle.entry_codec.specs.declared.limits.TheConstants.{MAX_ENTRY_BYTES}
use Rattle.entry_codec.proofs.ListLaws.{spelling-injective}
use Rattle.farm_core.specs.FarmFaults.{IsHalted, IsUnfit}
use Rattle.farm_core.specs.declared.farm.AdmitFault.{AdmitFault}
use Rattle.farm_core.specs.declared.farm.AdmitFault.TheVariants.{Illegal, Memory}
use Rattle.farm_entry.specs.Legal.{IsLegal}
use Rattle.farm_entry.specs.declared.entry.Entry.{Entry}
use Rattle.farm_entry.specs.declared.limits.TheConstants.{MAX_ENTRIES}
use Rattle.farm_laws.proofs.Bounds.{entries-bounded}
use Rattle.farm_laws.proofs.Induct.{IsLegal-first}
use Rattle.farm_journal.specs.Layout.{gate_of, IsPayload}
use Rattle.farm_journal.specs.declared.layout.TheConstants.{FIRST_GATE}
use Rattle.farm_journal.proofs.Scan.{gate_of-push}
use Rattle.farm_store.specs.Admitted.{GoesOn, IsMisfit}
use Rattle.farm_store.specs.Damage.{IsUnfitAt}
use Rattle.farm_store.specs.StoreInside.{Keeps}
use Rattle.farm_store.proofs.Spellings.{keeps-first, keeps-push, spelling-nonempty, spells-none}

-- what a payload spells may not come next
pub misfit-part : (payload : List ℕ) (H entries : List Entry) → AreSpelled entries → payload ≡ spelling entries
    → (IsLegal (H ++ entries) → ⊥) → IsMisfit payload H Illegal
misfit-part payload H entries own own_is none = λ part spelled is legal.
    none (subst (λ (l : List Entry). IsLegal (H ++ l)) (spelling-injective part entries spelled own (sym is ∙ own_is))
    legal)

-- nothing that begins so is legal, where its front isn't
pub illegal-front : (H rest : List Entry) (e : Entry) → (IsLegal (H ++ e ∷ []) → ⊥) → IsLegal (H ++ e ∷ rest) → ⊥
illegal-front H rest e none legal =
    let some : H ++ e ∷ [] ≢ [] = λ empty.
    let long : length (H ++ e ∷ []) ≡ length H + 1 = length-append H (e ∷ []) in
    let zero : length (H ++ e ∷ []) ≡ 0 = ap length empty in absurd (omega (arith, long, zero)) in
    none (IsLegal-first (H ++ e ∷ []) rest some (subst IsLegal (sym (append_assoc H (e ∷ []) rest)) legal))

-- a payload that goes on is kept with those before it
pub keeps-on : (before : List (List ℕ)) (p : List ℕ) (H K : List Entry) → Keeps before H → IsPayload p → GoesOn p H K
    → Keeps (before ++ p ∷ []) K
keeps-on before p H K keeps fits on =
    subst (λ (l : List Entry). Keeps (before ++ p ∷ []) l) (sym on.whole)
    (keeps-push before H on.part p keeps on.spelled on.is (spelling-nonempty p on.part on.is fits.some)
    (subst IsLegal on.whole on.legal))

pub keeps-begun : (p : List ℕ) (K : List Entry) → IsPayload p → GoesOn p [] K → Keeps (p ∷ []) K
keeps-begun p K fits on =
    subst (λ (l : List Entry). Keeps (p ∷ []) l) (sym on.whole)
    (keeps-first on.part p on.spelled on.is (spelling-nonempty p on.part on.is fits.some)
    (subst IsLegal on.whole on.legal))

-- the first record doesn't fit
pub unfit-first : (p : List ℕ) (later : List (List ℕ)) (o : ℕ) → o ≡ FIRST_GATE → IsMisfit p [] Illegal
    → IsUnfitAt (p ∷ later) o
unfit-first p later o at misfit = record {
  before = [];
  payload = p;
  later = later;
  H = [];
  split = refl;
  spells = spells-none;
  begun = inl refl;
  at = at;
  unfit = misfit;
}

-- a later one doesn't
pub unfit-later : (before : List (List ℕ)) (p : List ℕ) (later : List (List ℕ)) (H : List Entry) (o : ℕ)
    → Keeps before H → o ≡ gate_of before → IsMisfit p H Illegal → IsUnfitAt (before ++ p ∷ later) o
unfit-later before p later H o keeps at misfit = record {
  before = before;
  payload = p;
  later = later;
  H = H;
  split = refl;
  spells = keeps.spells;
  begun = inr keeps.legal;
  at = at;
  unfit = misfit;
}

-- the offset of a gate is small
pub gate-small : (before : List (List ℕ)) (H : List Entry) (gate : ℕ) → Keeps before H → gate ≡ gate_of before
    → gate ≤ FIRST_GATE + (5 + MAX_ENTRY_BYTES) * (MAX_ENTRIES + 1)
gate-small before H gate keeps at =
    let low = keeps.few in
    let few : length H ≤ MAX_ENTRIES + 1 = entries-bounded H keeps.legal in
    omega (arith, low, few, at)

-- payloads more were read after some
pub record Grown (before done : List (List ℕ)) (H : List Entry) (gate : ℕ) : Type 0 where
  pub keeps : Keeps (before ++ done) H
  pub at : gate ≡ gate_of (before ++ done)

-- one payload more
module _ (before payloads : List (List ℕ)) (i : ℕ) (H : List Entry) (gate : ℕ) (p : List ℕ)
    (grown : Grown before (take i payloads) H gate) (within : i < length payloads) (is : p ≡ get_or payloads i p) where
  one-more : before ++ take (i + 1) payloads ≡ (before ++ take i payloads) ++ p ∷ []
  one-more =
      ap (λ (l : List (List ℕ)). before ++ l)
      (take_more payloads i p within ∙ ap (λ (x : List ℕ). take i payloads ++ x ∷ []) (sym is))
      ∙ sym (append_assoc before (take i payloads) (p ∷ []))

  all-split : before ++ payloads ≡ (before ++ take i payloads) ++ p ∷ drop (i + 1) payloads
  all-split =
      ap (λ (l : List (List ℕ)). before ++ l)
      (sym (take-append-drop i payloads)
      ∙ ap (λ (l : List (List ℕ)). take i payloads ++ l)
      (drop_more payloads i p within ∙ ap (λ (x : List ℕ). x ∷ drop (i + 1) payloads) (sym is)))
      ∙ sym (append_assoc before (take i payloads) (p ∷ drop (i + 1) payloads))

  pub grown-more : (K : List Entry) (next : ℕ) → All IsPayload payloads → GoesOn p H K → next ≡ gate + (5 + length p)
      → Grown before (take (i + 1) payloads) K next
  grown-more K next fit on then =
      let low = grown.at in
      let push = gate_of-push (before ++ take i payloads) p in
      let at : next ≡ gate_of ((before ++ take i payloads) ++ p ∷ []) = omega (arith, then, low, push) in
      record {
        keeps = subst (λ (l : List (List ℕ)). Keeps l K) (sym one-more)
            (keeps-on (before ++ take i payloads) p H K grown.keeps (fits-at fit) on);
        at = at ∙ ap gate_of (sym one-more);
      }
    where
      fits-at : All IsPayload payloads → IsPayload p
      fits-at fit' = subst IsPayload (sym is) (All-get_or IsPayload payloads i p within fit')

  pub grown-unfit : (o : ℕ) → o ≡ gate → IsMisfit p H Illegal → IsUnfitAt (before ++ payloads) o
  grown-unfit o at misfit = subst (λ (l : List (List ℕ)). IsUnfitAt l o) (sym all-split)
      (unfit-later (before ++ take i payloads) p (drop (i + 1) payloads) H o grown.keeps (at ∙ grown.at) misfit)

-- the first of some entries, and those behind it
pub removed-first : (xs : List Entry) (x : Entry) → 0 < length xs → x ≡ get_or xs 0 x → xs ≡ x ∷ remove xs 0
removed-first [] x some is = absurd (omega (arith, some))
removed-first (y ∷ ys) x some is = ap (λ (z : Entry). z ∷ ys) (sym is)

-- a payload of no entries begins no history
pub misfit-empty : (payload : List ℕ) (entries : List Entry) → AreSpelled entries → payload ≡ spelling entries
    → entries ≡ [] → IsMisfit payload [] Illegal
misfit-empty payload entries own is none = misfit-part payload [] entries own is (λ legal. subst IsLegal none legal)

-- nor does one whose first entry is no founding
pub misfit-first : (payload : List ℕ) (entries rest : List Entry) (e : Entry) (m : AdmitFault) → AreSpelled entries
    → payload ≡ spelling entries → entries ≡ e ∷ rest → IsUnfit [] e m → IsMisfit payload [] m
misfit-first payload entries rest e Illegal own is split none = misfit-part payload [] entries own is
    (λ legal. illegal-front [] rest e none (subst IsLegal split legal))
misfit-first payload entries rest e Memory own is split none = tt

-- a payload whose first entry founds a farm that the others go on with
pub begun-whole : (payload : List ℕ) (entries rest H K : List Entry) (e : Entry) → AreSpelled entries
    → payload ≡ spelling entries → entries ≡ e ∷ rest → H ≡ e ∷ [] → K ≡ H ++ rest → IsLegal (H ++ rest)
    → GoesOn payload [] K
begun-whole payload entries rest H K e own is split begun then legal = record {
  part = entries;
  spelled = own;
  is = is;
  whole = then ∙ ap (λ (l : List Entry). l ++ rest) begun ∙ sym split;
  legal = subst IsLegal (sym then) legal;
}

-- what there is, or something else
abbrev or_else : List ℕ → Option (List ℕ) → List ℕ
or_else other None = other
or_else other (Some p) = p

-- what stands at an index
pub at-get_or : (ps : List (List ℕ)) (i : ℕ) (p : List ℕ) → slice_get ps i ≡ Some p → p ≡ get_or ps i p
at-get_or [] i p is = refl
at-get_or (q ∷ ps) zero p is = sym (ap (or_else p) is)
at-get_or (q ∷ ps) (suc i) p is = at-get_or ps i p is

-- the first of all
pub at-first : (ps : List (List ℕ)) (p : List ℕ) → slice_get ps 0 ≡ Some p → ps ≡ p ∷ drop 1 ps
at-first [] p is = absurd (true≢false (sym (ap (λ (o : Option (List ℕ)). is_some o) is)))
at-first (q ∷ ps) p is = ap (λ (x : List ℕ). x ∷ ps) (ap (or_else p) is)

-- all payloads were read
pub grown-all : (before payloads : List (List ℕ)) (i : ℕ) (H : List Entry) (gate : ℕ)
    → Grown before (take i payloads) H gate → length payloads ≤ i → Keeps (before ++ payloads) H
grown-all before payloads i H gate grown past =
    subst (λ (l : List (List ℕ)). Keeps (before ++ l) H) (take_all i payloads past) grown.keeps

-- entries of which one may not come next make no legal history
halted-illegal : (H entries K : List Entry) → IsHalted H entries K Illegal → IsLegal (H ++ entries) → ⊥
halted-illegal H entries K halted legal = illegal-front K halted.behind halted.entry halted.unfit
    (subst IsLegal
    (ap (λ (l : List Entry). H ++ l) halted.split
    ∙ sym (append_assoc H halted.before (halted.entry ∷ halted.behind))
    ∙ ap (λ (l : List Entry). l ++ halted.entry ∷ halted.behind) (sym halted.added)) legal)

-- a payload whose entries may not come next
misfit-on : (payload : List ℕ) (H entries K : List Entry) (m : AdmitFault) → AreSpelled entries
    → payload ≡ spelling entries → IsHalted H entries K m → IsMisfit payload H m
misfit-on payload H entries K Illegal own is halted =
    misfit-part payload H entries own is (halted-illegal H entries K halted)
misfit-on payload H entries K Memory own is halted = tt

pub misfit-rest : (payload : List ℕ) (entries rest H K : List Entry) (e : Entry) (m : AdmitFault) → AreSpelled entries
    → payload ≡ spelling entries → entries ≡ e ∷ rest → H ≡ e ∷ [] → IsHalted H rest K m → IsMisfit payload [] m
misfit-rest payload entries rest H K e Illegal own is split begun halted =
    misfit-part payload [] entries own is (λ legal. halted-illegal H rest K halted (subst IsLegal
    (split ∙ ap (λ (l : List Entry). l ++ rest) (sym begun)) legal))
misfit-rest payload entries rest H K e Memory own is split begun halted = tt

pub if-misfit : (payload : List ℕ) (H entries K : List Entry) (r : Result (Unit {0}) AdmitFault) → AreSpelled entries
    → payload ≡ spelling entries → IfErr r (IsHalted H entries K) → IfErr r (IsMisfit payload H)
if-misfit payload H entries K (Ok done) own is halted = tt
if-misfit payload H entries K (Err m) own is halted = misfit-on payload H entries K m own is halted

-- the gate behind the first record
pub first-gate : (p : List ℕ) → 21 + length p ≡ gate_of (p ∷ [])
first-gate p = omega (arith, gate_of-push [] p)

-- a test for no entries
pub empty-by : (xs : List Entry) (n : ℕ) (b : Bool) → n ≡ length xs → b ≡ (n == 0) → b ≡ true → xs ≡ []
empty-by [] n b long is holds = refl
empty-by (x ∷ xs) n b long is holds =
    let apart : (length (x ∷ xs) == 0) ≡ false = grind (arith, nat_tests) in
    absurd (true≢false (sym holds ∙ is ∙ ap (λ (k : ℕ). k == 0) long ∙ apart))

pub some-by : (xs : List Entry) (n : ℕ) (b : Bool) → n ≡ length xs → b ≡ (n == 0) → b ≡ false → 0 < length xs
some-by [] n b long is fails = absurd (true≢false (sym (is ∙ ap (λ (k : ℕ). k == 0) long) ∙ fails))
some-by (x ∷ xs) n b long is fails = omega arith
