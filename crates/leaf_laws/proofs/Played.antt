-- Commands that are decided one after the other keep a history legal and only extend it.
use Rattle.std.proofs.Common.{◌≡◌, ℕ, ◌+◌, ◌≤◌, List, [], ◌∷◌, ◌++◌, length, length-append, refl, sym, ap, ◌∙◌, append_assoc, append-nil, arith}
use Rattle.farm_types.specs.declared.moment.Moment.{Moment}
use Rattle.farm_entry.specs.Decision.{decide}
use Rattle.farm_entry.specs.Legal.{IsLegal, IsNext}
use Rattle.farm_entry.specs.Playing.{after, played}
use Rattle.farm_entry.specs.declared.command.Command.{Command}
use Rattle.farm_entry.specs.declared.decision.Decision.{Decision}
use Rattle.farm_entry.specs.declared.decision.Decision.TheVariants.{New, Refuse, Repeat, Show}
use Rattle.farm_entry.specs.declared.entry.Entry.{Entry}
use Rattle.farm_laws.proofs.Induct.{IsLegal-push}
use Rattle.farm_laws.proofs.Recorded.{recorded}

after-legal : (H : List Entry) (d : Decision) → IsLegal H → ((e : Entry) → d ≡ New e → IsNext H e) → IsLegal (after H d)
after-legal H (Refuse r) legal next = legal
after-legal H (Repeat place) legal next = legal
after-legal H (Show r) legal next = legal
after-legal H (New e) legal next = IsLegal-push H e legal (next e refl)

pub decided-legal : (H : List Entry) (q : Command) (m : Moment) → IsLegal H → IsLegal (after H (decide H q m))
decided-legal H q m legal = after-legal H (decide H q m) legal (λ e h. recorded H q m e h)

pub played-legal : (H : List Entry) (asked : List (Command × Moment)) → IsLegal H → IsLegal (played H asked)
played-legal H [] legal = legal
played-legal H (a ∷ more) legal = played-legal (after H (decide H a.0 a.1)) more (decided-legal H a.0 a.1 legal)

-- a history and what was added to it, at most so much
pub record Extends (H G : List Entry) (most : ℕ) : Type 0 where
  pub more : List Entry
  pub is : G ≡ H ++ more
  pub few : length more ≤ most

after-extends : (H : List Entry) (d : Decision) → Extends H (after H d) 1
after-extends H (Refuse r) = record { more = []; is = sym (append-nil H); few = omega arith }
after-extends H (Repeat place) = record { more = []; is = sym (append-nil H); few = omega arith }
after-extends H (Show r) = record { more = []; is = sym (append-nil H); few = omega arith }
after-extends H (New e) = record { more = e ∷ []; is = refl; few = omega arith }

pub played-extends : (H : List Entry) (asked : List (Command × Moment)) → Extends H (played H asked) (length asked)
played-extends H [] = record { more = []; is = sym (append-nil H); few = omega arith }
played-extends H (a ∷ rest) =
    let first = after-extends H (decide H a.0 a.1) in
    let later = played-extends (after H (decide H a.0 a.1)) rest in
    let longer : length (first.more ++ later.more) ≡ length first.more + length later.more =
    length-append first.more later.more in
    record {
      more = first.more ++ later.more;
      is = later.is ∙ ap (λ (G : List Entry). G ++ later.more) first.is ∙ append_assoc H first.more later.more;
      few = let a1 = first.few in let a2 = later.few in omega arith;
    }
