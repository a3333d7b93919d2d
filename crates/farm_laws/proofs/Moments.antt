-- Moments never fall: each entry comes at the last moment or later.
use Rattle.std.proofs.Common.{◌≡◌, ◌≤◌, Bool, true, false, List, [], ◌∷◌, ◌++◌, AllPairs, if◌then◌else◌, refl, sym, ap, subst, arith}
use Rattle.std.proofs.lemmas.Bool.{leb-true}
use Rattle.std.proofs.lemmas.List.Elements.{All-cons, All-nil, All-push, All-weaker}
use Rattle.std.proofs.lemmas.List.Quantifiers.{all_pairs_push}
use Rattle.farm_types.specs.Moment.{moment_ms}
use Rattle.farm_types.specs.declared.moment.Moment.{Moment}
use Rattle.farm_entry.specs.Decision.{last_moment, moment_used}
use Rattle.farm_laws.specs.Laws.{IsNotBefore}
use Rattle.farm_entry.specs.Legal.{IsLegal}
use Rattle.farm_entry.specs.declared.entry.Entry.{Entry}
use Rattle.farm_entry.proofs.Growing.{last_moment-push}
use Rattle.farm_laws.proofs.Induct.{each_legal}
use Rattle.farm_laws.proofs.Pairs.{AllPairs-nil}

-- a moment that is the later of two is not before the other
from_later : (a b : Moment) (test : Bool) → (test ≡ true → moment_ms a ≤ moment_ms b) → (if test then b else a) ≡ b → moment_ms a ≤ moment_ms b
from_later a b true tells same = tells refl
from_later a b false tells same = let numbers : moment_ms a ≡ moment_ms b = ap (λ (m : Moment). moment_ms m) same in omega arith

pub not_before-last : (H : List Entry) (m : Moment) → moment_used H m ≡ m → moment_ms (last_moment m H) ≤ moment_ms m
not_before-last H m used = from_later (last_moment m H) m _ (leb-true (moment_ms (last_moment m H)) (moment_ms m)) used

-- each two moments in order, and none after the last
record InOrder (H : List Entry) : Type 0 where
  pub pairs : AllPairs (λ (a b : Entry). moment_ms a.at ≤ moment_ms b.at) H
  pub last : (m : Moment) → IsNotBefore H (moment_ms (last_moment m H))

-- an entry at the last moment or later isn't before any entry
pub not_before-entries : (H : List Entry) (m : Moment) → IsNotBefore H (moment_ms (last_moment m H)) → moment_used H m ≡ m → IsNotBefore H (moment_ms m)
not_before-entries H m last used =
    let later_than : moment_ms (last_moment m H) ≤ moment_ms m = not_before-last H m used in
    All-weaker (λ (x : Entry). moment_ms x.at ≤ moment_ms (last_moment m H)) (λ (x : Entry). moment_ms x.at ≤ moment_ms m)
    (λ x before. omega arith) H last

InOrder-founded : (e : Entry) → InOrder (e ∷ [])
InOrder-founded e =
    let R : Entry → Entry → Type 0 = λ a b. moment_ms a.at ≤ moment_ms b.at in
    record {
      pairs = all_pairs_push R [] e (AllPairs-nil R) (All-nil (λ (x : Entry). R x e));
      last = λ m. All-cons (λ (x : Entry). R x e) e [] (omega arith) (All-nil (λ (x : Entry). R x e));
    }

InOrder-push : (H : List Entry) (e : Entry) → InOrder H → moment_used H e.at ≡ e.at → InOrder (H ++ e ∷ [])
InOrder-push H e ordered used =
    let R : Entry → Entry → Type 0 = λ a b. moment_ms a.at ≤ moment_ms b.at in
    let before : IsNotBefore H (moment_ms e.at) = not_before-entries H e.at (ordered.last e.at) used in
    record {
      pairs = all_pairs_push R H e ordered.pairs before;
      last = λ m. subst (λ (l : Moment). IsNotBefore (H ++ e ∷ []) (moment_ms l)) (sym (last_moment-push m H e))
          (All-push (λ (x : Entry). R x e) H e before (omega arith));
    }

in_order : (H : List Entry) → IsLegal H → InOrder H
in_order = each_legal InOrder (λ e founding. InOrder-founded e) (λ H e legal ordered step. InOrder-push H e ordered step.at)

pub moments-in_order : (H : List Entry) → IsLegal H → AllPairs (λ (a b : Entry). moment_ms a.at ≤ moment_ms b.at) H
moments-in_order H legal = (in_order H legal).pairs

-- no entry is after the last moment
pub moments-until_last : (H : List Entry) (m : Moment) → IsLegal H → IsNotBefore H (moment_ms (last_moment m H))
moments-until_last H m legal = (in_order H legal).last m
