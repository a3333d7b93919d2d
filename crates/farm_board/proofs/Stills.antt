-- What a pass keeps, made again where its seat or its totals changed.
use Rattle.std.proofs.Common.{◌≡◌, ◌<◌, ◌≤◌, ◌+◌, ◌*◌, ◌++◌, ◌∷◌, [], List, ℕ, true, false, length, get_or, sym, refl, ap, ◌∙◌, subst, ⊎_elim, arith}
use Rattle.atomic_table.specs.Table.{Me}
use Rattle.farm_entry.specs.Legal.{IsLegal}
use Rattle.farm_entry.specs.Pages.{totals}
use Rattle.farm_entry.specs.declared.entry.Entry.{Entry}
use Rattle.farm_entry.specs.declared.reply.Totals.{Totals}
use Rattle.common_types.specs.Prefix.{IsPrefix}
use Rattle.common_types.proofs.Prefixes.{IsPrefix-length}
use mathlib.Core.Logic.{dite}
use native.Mathlib.Decide.{dec_le}
use Rattle.farm_board.specs.Row.{number_of, totals_from}
use Rattle.farm_board.specs.Rule.{AreOf, IsPosted}
use Rattle.farm_board.specs.Views.{IsStill, idle, resting}
use Rattle.farm_board.specs.declared.row.View.{View}

pub IsStill-reader : {S : Type 0} (me : Me S View) (seen : List Entry) (last : Totals) → me ≡ (idle seen, [])
    → IsLegal seen
    → last ≡ totals seen → IsStill false me last
IsStill-reader {S} me seen last is legal are =
    subst (λ (m : Me S View). IsStill false m last) (sym is)
    record { me_is = refl; legal = legal; totals_are = are; reader = λ _. refl; few = omega arith }

pub IsStill-poster : {S : Type 0} (me : Me S View) (version : ℕ) (seen : List Entry) (last : Totals) → me ≡
    (resting version seen, [])
    → IsLegal seen → last ≡ totals seen → version ≤ 2 * length seen → IsStill true me last
IsStill-poster {S} me version seen last is legal are few =
    subst (λ (m : Me S View). IsStill true m last) (sym is)
    record { me_is = refl; legal = legal; totals_are = are; reader = λ f. absurd (true_isnt_false f); few = few }
  where
    true_isnt_false : true ≡ false → ⊥
    true_isnt_false e = cc

-- a posted history that begins with a legal one is legal
pub IsLegal-posted : (seen at : List Entry) → IsLegal seen → IsPrefix seen at → IsPosted at → IsLegal at
IsLegal-posted [] at legal begins posted = absurd legal
IsLegal-posted (e ∷ more) at legal begins posted = ⊎_elim
    (λ empty. absurd (nil_isnt_cons (sym empty ∙ begins.1)))
    (λ is. is)
    posted
  where
    nil_isnt_cons : [] ≡ e ∷ (more ++ begins.0) → ⊥
    nil_isnt_cons x = let n : 0 ≡ length (e ∷ (more ++ begins.0)) = ap (λ (l : List Entry). length l) x in omega arith

-- numbers that are those of a history are its totals
pub totals_from-AreOf : (row : List ℕ) (H : List Entry) → length row ≡ 8 → AreOf number_of H row
    → totals_from row ≡ totals H
totals_from-AreOf row H long are =
    let at : (k : ℕ) → k < 8 → get_or row k 0 ≡ number_of H k = λ k h. are k (omega (arith, long, h)) in
    λ i. record {
      entries = at 0 (omega arith) i;
      searches = at 1 (omega arith) i;
      searching = at 2 (omega arith) i;
      verifying = at 3 (omega arith) i;
      confirmed = at 4 (omega arith) i;
      ended = at 5 (omega arith) i;
      counted = at 6 (omega arith) i;
      orders = at 7 (omega arith) i;
    }

-- a legal history has an entry
pub IsLegal-length : (H : List Entry) → IsLegal H → 1 ≤ length H
IsLegal-length [] legal = absurd legal
IsLegal-length (e ∷ more) legal = omega arith

-- a history with other totals that begins with one is longer
pub longer_by_totals : (seen H : List Entry) (last now : Totals) → last ≡ totals seen → now ≡ totals H
    → (now.entries ≡ last.entries → ⊥) → IsPrefix seen H → length seen + 1 ≤ length H
longer_by_totals seen H last now are_last are_now differ begins =
    let le = IsPrefix-length seen H begins in
    dite (dec_le (length seen + 1) (length H))
    (λ d. d)
    (λ n.
    let same : length H ≡ length seen = omega (arith, le, n) in
    absurd (differ (ap (λ (t : Totals). t.entries) are_now ∙ (same ∙ sym (ap (λ (t : Totals). t.entries) are_last)))))
