use Rattle.std.proofs.Common.{◌≡◌, List, [], ◌∷◌, ◌++◌, sym, ap, ◌∙◌}
use Rattle.farm_entry.specs.History.{opening_numbered}
use Rattle.farm_entry.specs.Standing.{standing}
use Rattle.farm_entry.specs.declared.entry.Entry.{Entry}
use Rattle.rates_report.proofs.replay.go_on.Goals as goal

pub note-requires-clause-stands : goal.note-requires-clause-stands
note-requires-clause-stands c = λ search o about numbered.
    let all : c.admit.new.farm.history ≡ c.args.book.now ++ c.args.entry.now ∷ [] =
    c.in_ok-admit.ensures ∙ (λ i. sym c.requires.same i ++ c.in_ok-copy.ensures i ∷ []) in
    ap (λ (X : List Entry). standing X o) (sym all)
    ∙ c.in_ok-standing.ensures.standing search o (c.search_of-search.ensures ∙ about)
    (ap (λ (X : List Entry). opening_numbered X search) all ∙ numbered)
