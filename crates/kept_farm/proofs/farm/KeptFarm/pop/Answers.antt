use Rattle.std.proofs.Common.{◌≡◌, ◌-◌, ◌<◌, List, length, take, refl, sym, ap, subst, ◌∙◌, arith, length-take-le}
use Rattle.std.specs.Option.{is_some}
use Rattle.std.specs.Vec.{vec_len}
use Rattle.farm_entry.specs.History.{order_in}
use Rattle.farm_entry.specs.Legal.{IsLegal}
use Rattle.farm_entry.specs.declared.entry.Entry.{Entry}
use Rattle.farm_books.proofs.Entries.{IsLast}
use Rattle.farm_laws.proofs.Bounds.{entries-bounded}
use Rattle.farm_state.proofs.Popping.{end-at}
use Rattle.kept_farm.specs.Places.{order_places, without_place}
use Rattle.kept_farm.specs.Rows.{row_of}
use Rattle.kept_farm.specs.Searches.{kind_of, search_rows}
use Rattle.kept_farm.proofs.Keeping.{beside-popped, legal-front}
use Rattle.kept_farm.proofs.Places.{popped-places}
use Rattle.kept_farm.proofs.Searches.{searches-popped}
use Rattle.kept_farm.proofs.farm.KeptFarm.pop.Goals as goal

pub invariant_of-self : goal.invariant_of-self
invariant_of-self c =
    let s = c.self.inside in
    let H : List Entry = s.ledger in
    let G : List Entry = take (length H - 1) H in
    let h = c.self.invariant in
    let some : 1 < length H = subst (λ (X : List Entry). 1 < length X) (sym c.self.view_is) c.requires in
    let all : vec_len s.rows ≡ length s.rows.items = omega arith in
    let L : List Entry = c.history-history.result.now in
    let e : Entry = c.index-history-place.result in
    let read = c.index-history-place.is in
    let l : IsLast H G e = end-at H L e (length L - 1) h.legal some
    (c.history-history.ensures.history ∙ sym c.self.view_is) refl read in
    let is : c.is_order-is_order.result ≡ is_some (order_in e.what) =
    c.is_order-is_order.ensures ∙ sym (ap (λ (x : Entry). is_some (order_in x.what)) read) in
    let kind : c.kind_of-kind.result ≡ kind_of e.what =
    c.kind_of-kind.ensures ∙ sym (ap (λ (x : Entry). kind_of x.what) read) in
    let as_long : length L ≡ length H = ap length (c.history-history.ensures.history ∙ sym c.self.view_is) in
    let at : length L - 1 ≡ length G = omega (arith, as_long, length-take-le (length H - 1) H (omega arith)) in
    record {
      legal =
          subst IsLegal (sym c.pop.ensures)
          (legal-front H (length H - 1) h.legal (omega (arith, some)) (omega arith));
      rows = beside-popped row_of H _ s.rows.items _ (vec_len s.rows) h.rows all c.pop.ensures c.pop-row.ensures.rest;
      places =
          c.take_place.ensures
          ∙ ap (without_place s.places.items) is
          ∙ popped-places G e s.places.items (h.places ∙ ap (order_places 0) l.split)
          ∙ ap (order_places 0) (sym c.pop.ensures);
      searches =
          searches-popped G e s.searches c.take_back.new.self c.kind_of-kind.result (length L - 1)
          (h.searches ∙ ap search_rows l.split) kind at c.take_back.ensures
          ∙ ap search_rows (sym c.pop.ensures);
    }

pub overflow_cast-place : goal.overflow_cast-place
overflow_cast-place c =
    let H : List Entry = c.self.inside.ledger in
    let long : length c.history-history.result.now ≡ length H =
    ap length (c.history-history.ensures.history ∙ sym c.self.view_is) in
    omega (arith, long, entries-bounded H c.self.invariant.legal)
