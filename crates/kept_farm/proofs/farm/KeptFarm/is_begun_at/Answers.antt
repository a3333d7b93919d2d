use Rattle.std.proofs.Common.{◌≡◌, ℕ, ◌+◌, ◌==◌, false, List, length, sym, ap, ◌∙◌, arith}
use Rattle.std.specs.List.{list_all}
use Rattle.std.proofs.lemmas.Bool.Decides.{nat_tests}
use Rattle.farm_types.specs.Moment.{moment_ms}
use Rattle.farm_types.specs.declared.moment.Moment.{Moment}
use Rattle.farm_entry.specs.Closing.{begins_at}
use Rattle.farm_entry.specs.Decision.{last_moment}
use Rattle.farm_entry.specs.Orders.{carried}
use Rattle.farm_entry.specs.declared.entry.Entry.{Entry}
use Rattle.farm_laws.proofs.CarriedOver.{begun-by_length}
use Rattle.kept_farm.proofs.Begun.{both-first, both-second}
use Rattle.kept_farm.proofs.farm.KeptFarm.is_begun_at.Goals as goal

pub returns-then-history-carried : goal.returns-then-history-carried
returns-then-history-carried c =
    let H : List Entry = c.args.self.now in
    let at : Moment = c.args.at in
    let same = c.history-history.ensures.history in
    let long : length c.history-history.result.now ≡ length H = ap length same in
    let count : c.carried_count-carried.result ≡ length (carried H) =
    c.carried_count-carried.ensures ∙ ap (λ (X : List Entry). length (carried X)) c.self.view_is in
    let last : c.ms.result ≡ moment_ms (last_moment at H) =
    c.ms.ensures.number
    ∙ ap (λ (m : Moment). moment_ms m) c.last_moment.ensures
    ∙ ap (λ (X : List Entry). moment_ms (last_moment at X)) same in
    let as_many : length H ≡ 1 + length (carried H) = omega (arith, c.if-history-carried.true, long, count) in
    ap (λ (k : ℕ). k == c.ms-then-history-carried.result) last
    ∙ ap (λ (k : ℕ). moment_ms (last_moment at H) == k) c.ms-then-history-carried.ensures.number
    ∙ both-first (length H) (1 + length (carried H)) (moment_ms (last_moment at H)) (moment_ms at)
    (list_all (begins_at at) H) as_many (sym (begun-by_length H at c.history-history.ensures.legal))

pub returns-else-history-carried : goal.returns-else-history-carried
returns-else-history-carried c =
    let H : List Entry = c.args.self.now in
    let at : Moment = c.args.at in
    let long : length c.history-history.result.now ≡ length H = ap length c.history-history.ensures.history in
    let count : c.carried_count-carried.result ≡ length (carried H) =
    c.carried_count-carried.ensures ∙ ap (λ (X : List Entry). length (carried X)) c.self.view_is in
    let other : length H == 1 + length (carried H) ≡ false =
    grind (arith, nat_tests, c.if-history-carried.false, long, count) in
    ap (λ (k : ℕ). k == 1 + c.carried_count-carried.result) long
    ∙ ap (λ (k : ℕ). length H == 1 + k) count
    ∙ both-second (length H) (1 + length (carried H)) (moment_ms (last_moment at H)) (moment_ms at)
    (list_all (begins_at at) H) other (sym (begun-by_length H at c.history-history.ensures.legal))
