use Rattle.std.proofs.Common.{◌≡◌, ◌-◌, ℕ, List, length, take, drop, sym, ap, ◌∙◌}
use Rattle.std.proofs.lemmas.List.{length-take-le}
use Rattle.farm_entry.specs.declared.entry.Entry.{Entry}
use Rattle.farm_core.specs.FarmView.{FarmView}
use Rattle.farm_core.proofs.Fronts.{all-front}
use Rattle.farm_core.proofs.farm.Farm.retract.Goals as goal

pub returns-clause-ready : goal.returns-clause-ready
returns-clause-ready c =
    let L = c.self.inside.kept in
    let n = c.self.inside.committed in
    let H = c.args.self.now.history in
    let front : take n L ≡ H = ap (λ (f : FarmView). f.history) c.self.view_is ∙ c.forget_ready.ensures.history in
    let rest = ap (λ (f : FarmView). f.ready) c.self.view_is in
    let all : L ≡ H = all-front L H c.forget_ready.new.self.ready n front rest c.forget_ready.ensures.ready in
    let long : length H ≡ n = ap length (sym front) ∙ length-take-le n L c.self.invariant.within in
    ap (λ (l : List Entry). drop (n - c.args.count) l) all
    ∙ ap (λ (k : ℕ). drop (k - c.args.count) H) (sym long)
