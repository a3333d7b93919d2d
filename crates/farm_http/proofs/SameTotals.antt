-- Totals whose counts are the same are the same.
use Rattle.std.proofs.Common.{◌≡◌, ◌==◌, true}
use Rattle.std.proofs.lemmas.Bool.{and_parts, eqb-true}
use Rattle.farm_entry.specs.declared.reply.Totals.{Totals}
use Rattle.farm_http.specs.Told.{same_totals}

pub same_totals-is : (a b : Totals) → same_totals a b ≡ true → a ≡ b
same_totals-is a b same =
    let one = and_parts (a.entries == b.entries) _ same in
    let two = and_parts (a.searches == b.searches) _ one.1 in
    let three = and_parts (a.searching == b.searching) _ two.1 in
    let four = and_parts (a.verifying == b.verifying) _ three.1 in
    let five = and_parts (a.confirmed == b.confirmed) _ four.1 in
    let six = and_parts (a.ended == b.ended) _ five.1 in
    let seven = and_parts (a.counted == b.counted) _ six.1 in
    λ k. record {
      entries = eqb-true a.entries b.entries one.0 k;
      searches = eqb-true a.searches b.searches two.0 k;
      searching = eqb-true a.searching b.searching three.0 k;
      verifying = eqb-true a.verifying b.verifying four.0 k;
      confirmed = eqb-true a.confirmed b.confirmed five.0 k;
      ended = eqb-true a.ended b.ended six.0 k;
      counted = eqb-true a.counted b.counted seven.0 k;
      orders = eqb-true a.orders b.orders seven.1 k;
    }
