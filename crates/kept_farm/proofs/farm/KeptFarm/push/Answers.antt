use Rattle.std.proofs.Common.{◌≡◌, ◌<◌, Bool, List, [], ◌∷◌, ◌++◌, length, sym, ap, subst, ◌∙◌, arith}
use Rattle.farm_entry.specs.Legal.{IsLegal}
use Rattle.farm_entry.specs.Pages.{totals}
use Rattle.farm_entry.specs.declared.entry.Entry.{Entry}
use Rattle.farm_entry.specs.declared.reply.Totals.{Totals}
use Rattle.farm_laws.proofs.Bounds.{entries-bounded}
use Rattle.kept_farm.specs.Changes.{AreFew, with_entry}
use Rattle.kept_farm.specs.Places.{order_places, with_place}
use Rattle.kept_farm.specs.Rows.{row_of}
use Rattle.kept_farm.specs.Searches.{search_rows}
use Rattle.kept_farm.specs.declared.row.Row.{Row}
use Rattle.kept_farm.proofs.Counting.{IsChange, change-moves, change-row, change-small, few, row-totals}
use Rattle.kept_farm.proofs.Keeping.{beside-last, beside-pushed, beside-same, some-legal}
use Rattle.kept_farm.proofs.Places.{pushed-places}
use Rattle.kept_farm.proofs.Searches.{searches-popped, searches-pushed}
use Rattle.kept_farm.proofs.farm.KeptFarm.push.Goals as goal

pub overflow_cast-place : goal.overflow_cast-place
overflow_cast-place c =
    omega (
      arith,
      c.len-entries.ensures,
      c.self.invariant.rows.as_many,
      entries-bounded c.self.inside.ledger c.self.invariant.legal,
    )

pub overflow_sub-entries : goal.overflow_sub-entries
overflow_sub-entries c =
    let some = some-legal c.self.inside.ledger c.self.invariant.legal in
    omega (arith, some, c.self.invariant.rows.as_many, c.len-entries.ensures)

pub index-requires : goal.index-requires
index-requires c =
    let some = some-legal c.self.inside.ledger c.self.invariant.legal in
    omega (arith, some, c.self.invariant.rows.as_many, c.len-entries.ensures)

pub with_entry-counted-requires : goal.with_entry-counted-requires
with_entry-counted-requires c =
    let s = c.self.inside in
    let H : List Entry = s.ledger in
    let e : Entry = c.args.entry in
    let h = c.self.invariant in
    let some : 0 < length H = some-legal H h.legal in
    let count : c.len-entries.result ≡ length s.rows.items = omega (arith, c.len-entries.ensures) in
    let row : c.index.result.now ≡ row_of H =
    c.index.ensures
    ∙ beside-last row_of H s.rows.items c.len-entries.result c.index.result.now h.rows count
    (omega (arith, some, count, h.rows.as_many)) in
    let is : c.totals.result ≡ totals H =
    c.totals.ensures ∙ row-totals H c.index.result.now c.len-entries.result row (count ∙ h.rows.as_many) in
    subst AreFew (sym is)
    (few H e h.legal (subst (λ (X : List Entry). IsLegal (X ++ e ∷ [])) (sym c.self.view_is) c.requires))

pub with_standings-totals-requires : goal.with_standings-totals-requires
with_standings-totals-requires c =
    let s = c.self.inside in
    let H : List Entry = s.ledger in
    let e : Entry = c.args.entry in
    let h = c.self.invariant in
    let some : 0 < length H = some-legal H h.legal in
    let count : c.len-entries.result ≡ length s.rows.items = omega (arith, c.len-entries.ensures) in
    let row : c.index.result.now ≡ row_of H =
    c.index.ensures
    ∙ beside-last row_of H s.rows.items c.len-entries.result c.index.result.now h.rows count
    (omega (arith, some, count, h.rows.as_many)) in
    let is : c.totals.result ≡ totals H =
    c.totals.ensures ∙ row-totals H c.index.result.now c.len-entries.result row (count ∙ h.rows.as_many) in
    change-moves H _ e c.with_entry-counted.result c.search_in-search.result c.standing_of-before.result
    c.standing_of-after.result
    (record {
      legal = h.legal;
      longer = subst (λ (X : List Entry). IsLegal (X ++ e ∷ [])) (sym c.self.view_is) c.requires;
      pushed = c.in_default.ensures.pushed;
      counted = c.with_entry-counted.ensures ∙ ap (λ (t : Totals). with_entry t e.what) is;
      of_search = c.search_in-search.ensures;
      stood = c.standing_of-before.ensures;
      stands = c.standing_of-after.ensures;
    })

pub of-requires : goal.of-requires
of-requires c =
    let s = c.self.inside in
    let H : List Entry = s.ledger in
    let e : Entry = c.args.entry in
    let h = c.self.invariant in
    let some : 0 < length H = some-legal H h.legal in
    let count : c.len-entries.result ≡ length s.rows.items = omega (arith, c.len-entries.ensures) in
    let row : c.index.result.now ≡ row_of H =
    c.index.ensures
    ∙ beside-last row_of H s.rows.items c.len-entries.result c.index.result.now h.rows count
    (omega (arith, some, count, h.rows.as_many)) in
    let is : c.totals.result ≡ totals H =
    c.totals.ensures ∙ row-totals H c.index.result.now c.len-entries.result row (count ∙ h.rows.as_many) in
    change-small H _ e c.with_entry-counted.result c.with_standings-totals.result c.search_in-search.result
    c.standing_of-before.result c.standing_of-after.result
    (record {
      legal = h.legal;
      longer = subst (λ (X : List Entry). IsLegal (X ++ e ∷ [])) (sym c.self.view_is) c.requires;
      pushed = c.in_default.ensures.pushed;
      counted = c.with_entry-counted.ensures ∙ ap (λ (t : Totals). with_entry t e.what) is;
      of_search = c.search_in-search.ensures;
      stood = c.standing_of-before.ensures;
      stands = c.standing_of-after.ensures;
    })
    c.with_standings-totals.ensures

pub invariant_of-self-2 : goal.invariant_of-self-2
invariant_of-self-2 c =
    let s = c.self.inside in
    let H : List Entry = s.ledger in
    let e : Entry = c.args.entry in
    let h = c.self.invariant in
    let some : 0 < length H = some-legal H h.legal in
    let count : c.len-entries.result ≡ length s.rows.items = omega (arith, c.len-entries.ensures) in
    let row : c.index.result.now ≡ row_of H =
    c.index.ensures
    ∙ beside-last row_of H s.rows.items c.len-entries.result c.index.result.now h.rows count
    (omega (arith, some, count, h.rows.as_many)) in
    let is : c.totals.result ≡ totals H =
    c.totals.ensures ∙ row-totals H c.index.result.now c.len-entries.result row (count ∙ h.rows.as_many) in
    let longer : IsLegal (H ++ e ∷ []) =
    subst (λ (X : List Entry). IsLegal (X ++ e ∷ [])) (sym c.self.view_is) c.requires in
    let more = c.in_default.ensures.pushed in
    let change : IsChange H _ e c.with_entry-counted.result c.search_in-search.result c.standing_of-before.result
    c.standing_of-after.result = record {
      legal = h.legal;
      longer = longer;
      pushed = more;
      counted = c.with_entry-counted.ensures ∙ ap (λ (t : Totals). with_entry t e.what) is;
      of_search = c.search_in-search.ensures;
      stood = c.standing_of-before.ensures;
      stands = c.standing_of-after.ensures;
    } in
    record {
      legal = subst IsLegal (sym more) longer;
      rows =
          beside-pushed row_of H _ s.rows.items _ e c.of.result h.rows more
          (c.push_reserved.ensures.items
          ∙ ap (λ (xs : List Row). xs ++ c.of.result ∷ []) c.in_ok-reserve.ensures.items)
          (c.of.ensures
          ∙ change-row H _ e c.with_entry-counted.result c.with_standings-totals.result c.unwrap_or-stands.result
          c.search_in-search.result c.standing_of-before.result c.standing_of-after.result change
          c.with_standings-totals.ensures c.unwrap_or-stands.ensures);
      places =
          c.put_place.ensures
          ∙ ap (λ (b : Bool). with_place c.reserve-2.new.self.items b c.len-entries.result) c.is_order-is_order.ensures
          ∙ pushed-places H e c.reserve-2.new.self.items c.len-entries.result (count ∙ h.rows.as_many)
          (c.in_ok-reserve-2.ensures.items ∙ h.places)
          ∙ ap (order_places 0) (sym more);
      searches =
          searches-pushed H e s.searches c.add.new.self c.kind_of-kind.result c.len-entries.result h.searches
          c.kind_of-kind.ensures (count ∙ h.rows.as_many) c.in_ok-add.ensures.added
          ∙ ap search_rows (sym more);
    }

pub invariant_of-self-in-Err : goal.invariant_of-self-in-Err
invariant_of-self-in-Err c =
    let s = c.self.inside in
    let H : List Entry = s.ledger in
    let e : Entry = c.args.entry in
    let h = c.self.invariant in
    let count : c.len-entries.result ≡ length s.rows.items = omega (arith, c.len-entries.ensures) in
    let at : c.len-entries.result ≡ length H = count ∙ h.rows.as_many in
    let kept : c.push.new.self ≡ H = c.in-Err.ensures.kept in
    let more = searches-pushed H e s.searches c.add.new.self c.kind_of-kind.result c.len-entries.result h.searches
    c.kind_of-kind.ensures at c.in_ok-add.ensures.added in
    record {
      legal = subst IsLegal (sym kept) h.legal;
      rows =
          beside-same row_of H c.push.new.self s.rows.items c.reserve.new.self.items h.rows kept
          c.in_ok-reserve.ensures.items;
      places = c.in_ok-reserve-2.ensures.items ∙ h.places ∙ ap (order_places 0) (sym kept);
      searches =
          searches-popped H e c.add.new.self c.take_back.new.self c.kind_of-kind.result c.len-entries.result more
          c.kind_of-kind.ensures at c.take_back.ensures
          ∙ ap search_rows (sym kept);
    }
