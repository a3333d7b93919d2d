-- Those whose errands were taken over, one after the other, and the parts of their asks.
use Rattle.std.proofs.Common.{◌≡◌, ◌++◌, ◌∷◌, [], All, List, ℕ, ◌<◌, Bool, true, ◌==◌, Vec, Global, length, get_or, take, drop, arith, sym, refl, ap, ◌∙◌, subst, map, suc, slice_index_or}
use Rattle.std.specs.List.{remove}
use Rattle.std.proofs.lemmas.List.{take_at}
use Rattle.std.proofs.lemmas.List.Elements.{All-cons, All-nil}
use Rattle.farm_store.specs.declared.asking.Ask.{Ask}
use Rattle.std.proofs.lemmas.Bool.Decides.{nat_tests}
use Rattle.atomic_table.specs.Seated.{TableId}
use Rattle.farm_store.specs.State.{StoreState}
use Rattle.farm_store.specs.Together.{all_asks}
use Rattle.farm_store.specs.Answering.{history_after}
use Rattle.farm_store.specs.declared.asking.Part.{Part}
use Rattle.farm_board.specs.Jobs.{Jobs}
use Rattle.shared_farm.specs.Errands.{IsErrand, errands_asks}
use Rattle.shared_farm.specs.Rounds.{AreHelped, IsHelped, IsShared, first_asks}
use Rattle.shared_farm.specs.declared.errand.Errand.{Errand}
use Rattle.shared_farm.specs.declared.errand.Helped.{Helped}

-- a list that isn't empty is its first item and the rest
pub first-rest : {A : Type 0} (l rest : List A) (x : A) → x ≡ get_or l 0 x → rest ≡ drop 1 l → 0 < length l
    → l ≡ x ∷ rest
first-rest [] rest x is after some = absurd (omega (arith, some))
first-rest {A} (y ∷ l) rest x is after some =
    ap (λ (z : A). z ∷ l) (sym is) ∙ ap (λ (k : List A). x ∷ k) (sym after)

-- what the parts ask is what the errands ask, of which there are as many
pub record AreErrands (lock : TableId) (parts : List Part) (errands : List Errand) : Type 0 where
  pub each : All (IsErrand lock) errands
  pub asks : all_asks parts ≡ errands_asks errands
  pub count : length errands ≡ length parts

module _ {K O : Type 0} (lock : TableId) (jobs : Jobs K) where
  -- the first errand with the part of its asks, and those of the others
  pub record IsTakenFirst (parts : List Part) (part : Part) (later : List Part) (helped : Helped K O)
      (rest : List (Helped K O)) : Type 0 where
    pub parts_are : parts ≡ part ∷ later
    pub first : IsHelped lock jobs part helped
    pub others : AreHelped lock jobs later rest

  pub taken-first : (parts later : List Part) (group rest : List (Helped K O)) (part : Part) (helped : Helped K O)
      → AreHelped lock jobs parts group → 0 < length group
      → part ≡ slice_index_or parts 0 part → later ≡ remove parts 0
      → helped ≡ slice_index_or group 0 helped → rest ≡ remove group 0
      → IsTakenFirst parts part later helped rest
  taken-first [] later [] rest part helped are some p ps h hs = absurd (omega (arith, some))
  taken-first [] later (y ∷ group) rest part helped are some p ps h hs = absurd are
  taken-first (x ∷ parts) later [] rest part helped are some p ps h hs = absurd are
  taken-first (x ∷ parts) later (y ∷ group) rest part helped are some p ps h hs = record {
    parts_are = ap (λ (q : Part). q ∷ parts) (sym p) ∙ ap (λ (l : List Part). part ∷ l) (sym ps);
    first = subst (λ (q : Part). IsHelped lock jobs q helped) (sym p)
        (subst (λ (k : Helped K O). IsHelped lock jobs x k) (sym h) are.0);
    others = subst (λ (l : List Part). AreHelped lock jobs l rest) (sym ps)
        (subst (λ (l : List (Helped K O)). AreHelped lock jobs parts l) (sym hs) are.1);
  }

  -- there are as many parts as errands
  pub helped-none : (parts : List Part) (group : List (Helped K O)) → AreHelped lock jobs parts group → length group ≡ 0
      → parts ≡ []
  helped-none [] group are none = refl
  helped-none (part ∷ parts) [] are none = absurd are
  helped-none (part ∷ parts) (helped ∷ group) are none = absurd (omega (arith, none))

  pub helped-errands : (parts : List Part) (group : List (Helped K O)) → AreHelped lock jobs parts group
      → AreErrands lock parts (map (λ (h : Helped K O). h.taken.job) group)
  helped-errands [] [] are = record { each = All-nil (IsErrand lock); asks = refl; count = refl }
  helped-errands [] (h ∷ group) are = absurd are
  helped-errands (p ∷ parts) [] are = absurd are
  helped-errands (p ∷ parts) (h ∷ group) are =
      let rest = helped-errands parts group are.1 in
      record {
        each = All-cons (IsErrand lock) h.taken.job (map (λ (k : Helped K O). k.taken.job) group) are.0.errand
            rest.each;
        asks = ap (λ (l : List Ask). l ++ all_asks parts) are.0.asks
            ∙ ap (λ (l : List Ask). h.taken.job.asks.items ++ l) rest.asks;
        count = ap (λ (n : ℕ). suc n) rest.count;
      }

-- where no part is left, all entries were shown
all-shown : {D : Type 0} (store : StoreState D) (shown : ℕ) (parts : List Part) → IsShared store shown parts
    → parts ≡ [] → take shown store.history ≡ store.history
all-shown store shown parts s none =
    sym (s.history ∙ ap (λ (l : List Part). history_after (take shown store.history) (all_asks l)) none)

module _ {K O D : Type 0} (lock : TableId) (jobs : Jobs K) (store : StoreState D) (shown : ℕ) (parts : Vec Part Global)
    (group : Vec (Helped K O) Global) where
  -- where no errand is left, the whole history was shown
  pub whole-shown : (none : Bool) → IsShared store shown parts.items → AreHelped lock jobs parts.items group.items
      → none ≡ (group.len == 0) → none ≡ true → take shown store.history ≡ store.history
  whole-shown none shared helped is holds =
      let empty : length group.items ≡ 0 = sym group.ok.0 ∙ grind (arith, nat_tests, is, holds) in
      all-shown store shown parts.items shared (helped-none lock jobs parts.items group.items helped empty)

-- the parts as they were lent, when they come back
pub lent-back : (v : Vec Part Global) (new : List Part) → length new ≡ length v.items
    → take v.len (new ++ drop (length new) v.items) ≡ new
lent-back v new same = take_at new (drop (length new) v.items) v.len (same ∙ sym v.ok.0)

asks_part : (p q : Vec Ask Global) (ps qs : List (Vec Ask Global)) → p ∷ ps ≡ q ∷ qs → (p ≡ q) × (ps ≡ qs)
asks_part p q ps qs e = (cc, cc)

-- parts that keep their asks are those of the same errands
pub helped-same : {K O : Type 0} (lock : TableId) (jobs : Jobs K) (ps qs : List Part) (group : List (Helped K O))
    → map (λ (part : Part). part.asks) qs ≡ map (λ (part : Part). part.asks) ps
    → AreHelped lock jobs ps group → AreHelped lock jobs qs group
helped-same lock jobs [] [] group same are = are
helped-same lock jobs [] (q ∷ qs) group same are =
    absurd (omega (arith, ap (λ (l : List (Vec Ask Global)). length l) same))
helped-same lock jobs (p ∷ ps) [] group same are =
    absurd (omega (arith, ap (λ (l : List (Vec Ask Global)). length l) same))
helped-same lock jobs (p ∷ ps) (q ∷ qs) [] same are = absurd are
helped-same {K} {O} lock jobs (p ∷ ps) (q ∷ qs) (h ∷ group) same are =
    let both = asks_part q.asks p.asks (map (λ (part : Part). part.asks) qs) (map (λ (part : Part). part.asks) ps) same
    in (
      record {
        table = are.0.table;
        errand = are.0.errand;
        pass = are.0.pass;
        asks = ap (λ (v : Vec Ask Global). v.items) both.0 ∙ are.0.asks;
      },
      helped-same lock jobs ps qs group both.1 are.1,
    )

-- and the first of them asks the same
pub first-same : (ps qs : List Part) → map (λ (part : Part). part.asks) qs ≡ map (λ (part : Part). part.asks) ps
    → first_asks qs ≡ first_asks ps
first-same [] [] same = refl
first-same [] (q ∷ qs) same = absurd (omega (arith, ap (λ (l : List (Vec Ask Global)). length l) same))
first-same (p ∷ ps) [] same = absurd (omega (arith, ap (λ (l : List (Vec Ask Global)). length l) same))
first-same (p ∷ ps) (q ∷ qs) same =
    ap (λ (v : Vec Ask Global). v.items)
    (asks_part q.asks p.asks (map (λ (part : Part). part.asks) qs) (map (λ (part : Part). part.asks) ps) same).0

-- all parts but the first keep their asks where all do
pub rest-same : (ps qs : List Part) → map (λ (part : Part). part.asks) qs ≡ map (λ (part : Part). part.asks) ps
    → map (λ (part : Part). part.asks) (drop 1 qs) ≡ map (λ (part : Part). part.asks) (drop 1 ps)
rest-same [] [] same = refl
rest-same [] (q ∷ qs) same = absurd (omega (arith, ap (λ (l : List (Vec Ask Global)). length l) same))
rest-same (p ∷ ps) [] same = absurd (omega (arith, ap (λ (l : List (Vec Ask Global)). length l) same))
rest-same (p ∷ ps) (q ∷ qs) same =
    (asks_part q.asks p.asks (map (λ (part : Part). part.asks) qs) (map (λ (part : Part). part.asks) ps) same).1

-- what all parts ask is what the first one asks, and then the others
pub all-first : (ps : List Part) → first_asks ps ++ all_asks (drop 1 ps) ≡ all_asks ps
all-first [] = refl
all-first (p ∷ ps) = refl

length-asks : (ps : List Part) → length (map (λ (part : Part). part.asks) ps) ≡ length ps
length-asks [] = refl
length-asks (p ∷ ps) = ap (λ (n : ℕ). suc n) (length-asks ps)

pub length-same : (ps qs : List Part) → map (λ (part : Part). part.asks) qs ≡ map (λ (part : Part). part.asks) ps
    → length qs ≡ length ps
length-same ps qs same =
    sym (length-asks qs) ∙ ap (λ (l : List (Vec Ask Global)). length l) same ∙ length-asks ps
