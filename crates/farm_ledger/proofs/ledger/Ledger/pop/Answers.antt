use Rattle.std.proofs.Common.{◌≡◌, ◌<◌, List, length, sym, subst, arith}
use Rattle.std.specs.Vec.{vec_len}
use Rattle.farm_entry.specs.Legal.{IsLegal}
use Rattle.farm_entry.specs.declared.entry.Entry.{Entry}
use Rattle.farm_ledger.proofs.Changed.{popped-legal}
use Rattle.farm_ledger.proofs.Lows.{lows-popped}
use Rattle.farm_ledger.proofs.ledger.Ledger.pop.Goals as goal

pub invariant_of-self : goal.invariant_of-self
invariant_of-self c =
    let H : List Entry = c.self.inside.register in
    let h = c.self.invariant in
    let some : 1 < length H = subst (λ (X : List Entry). 1 < length X) (sym c.self.view_is) c.requires in
    let count : vec_len c.self.inside.lows ≡ length c.self.inside.lows.items = omega arith in
    record {
      legal = subst IsLegal (sym c.pop.ensures) (popped-legal H h.legal some);
      lows = lows-popped H _ c.self.inside.lows.items _ (vec_len c.self.inside.lows) h.lows count c.pop.ensures
          c.pop-low.ensures.rest;
    }
