use Rattle.std.proofs.Common.{◌≡◌, List, slice_get, Some, sym, ap, subst, ◌∙◌}
use Rattle.std.specs.Option.{option_copied}
use Rattle.farm_entry.specs.History.{opening_in}
use Rattle.farm_entry.specs.Legal.{IsLegal}
use Rattle.farm_entry.specs.declared.entry.Entry.{Entry}
use Rattle.farm_entry.specs.declared.opening.Opening.{Opening}
use Rattle.kept_farm.proofs.Paged.{line-there, opened-known}
use Rattle.kept_farm.proofs.search_list.search_line_at.Goals as goal

pub search_line-requires-clause-some : goal.search_line-requires-clause-some
search_line-requires-clause-some c =
    let H : List Entry = c.args.ledger.now in
    let e : Entry = c.in-Some.entry.now in
    let o : Opening = c.in-Some-opening.opening.now in
    let farm : c.books.result.now ≡ H = c.books.ensures ∙ c.state.ensures ∙ c.turns.ensures in
    let legal : IsLegal H = subst IsLegal farm c.history-history.ensures.legal in
    let at : slice_get H c.args.place ≡ Some e =
    subst (λ (X : List Entry). slice_get X c.args.place ≡ Some e) (c.history-history.ensures.history ∙ farm)
    (sym c.entry_at.ensures ∙ ap option_copied c.in-Some.is) in
    let opens : opening_in e.what ≡ Some o = sym c.opening.ensures ∙ ap option_copied c.in-Some-opening.is in
    (opened-known H c.args.place e o legal at opens).1

pub search_line-requires-clause-opened : goal.search_line-requires-clause-opened
search_line-requires-clause-opened c =
    let H : List Entry = c.args.ledger.now in
    let e : Entry = c.in-Some.entry.now in
    let o : Opening = c.in-Some-opening.opening.now in
    let farm : c.books.result.now ≡ H = c.books.ensures ∙ c.state.ensures ∙ c.turns.ensures in
    let legal : IsLegal H = subst IsLegal farm c.history-history.ensures.legal in
    let at : slice_get H c.args.place ≡ Some e =
    subst (λ (X : List Entry). slice_get X c.args.place ≡ Some e) (c.history-history.ensures.history ∙ farm)
    (sym c.entry_at.ensures ∙ ap option_copied c.in-Some.is) in
    let opens : opening_in e.what ≡ Some o = sym c.opening.ensures ∙ ap option_copied c.in-Some-opening.is in
    (opened-known H c.args.place e o legal at opens).0

pub returns : goal.returns
returns c =
    let H : List Entry = c.args.ledger.now in
    let e : Entry = c.in-Some.entry.now in
    let o : Opening = c.in-Some-opening.opening.now in
    let farm : c.books.result.now ≡ H = c.books.ensures ∙ c.state.ensures ∙ c.turns.ensures in
    let at : slice_get H c.args.place ≡ Some e =
    subst (λ (X : List Entry). slice_get X c.args.place ≡ Some e) (c.history-history.ensures.history ∙ farm)
    (sym c.entry_at.ensures ∙ ap option_copied c.in-Some.is) in
    let opens : opening_in e.what ≡ Some o = sym c.opening.ensures ∙ ap option_copied c.in-Some-opening.is in
    ap Some c.in_ok-line.ensures ∙ sym (line-there H c.args.place e o at opens)
