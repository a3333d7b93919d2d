-- The moment at which a command is decided isn't before any entry.
use Rattle.std.proofs.Common.{◌≡◌, ◌≤◌, nat_le, Bool, true, false, if◌then◌else◌, List, refl, arith}
use Rattle.std.proofs.lemmas.Bool.{leb-true}
use Rattle.std.proofs.lemmas.List.Elements.{All-weaker}
use Rattle.farm_types.specs.Moment.{moment_ms}
use Rattle.farm_types.specs.declared.moment.Moment.{Moment}
use Rattle.farm_entry.specs.Decision.{last_moment, moment_used}
use Rattle.farm_entry.specs.Legal.{IsLegal}
use Rattle.farm_entry.specs.declared.entry.Entry.{Entry}
use Rattle.farm_laws.specs.Laws.{IsNotBefore}
use Rattle.farm_laws.proofs.Moments.{moments-until_last}

later-not_before : (H : List Entry) (a b : Moment) (test : Bool) → nat_le (moment_ms a) (moment_ms b) ≡ test →
    IsNotBefore H (moment_ms a) → IsNotBefore H (moment_ms (if test then b else a))
later-not_before H a b true tells before =
    let up : moment_ms a ≤ moment_ms b = leb-true (moment_ms a) (moment_ms b) tells in
    All-weaker (λ (x : Entry). moment_ms x.at ≤ moment_ms a) (λ (x : Entry). moment_ms x.at ≤ moment_ms b)
    (λ x until. omega arith) H before
later-not_before H a b false tells before = before

pub used-not_before : (H : List Entry) (m : Moment) → IsLegal H → IsNotBefore H (moment_ms (moment_used H m))
used-not_before H m legal =
    later-not_before H (last_moment m H) m (nat_le (moment_ms (last_moment m H)) (moment_ms m)) refl
    (moments-until_last H m legal)
