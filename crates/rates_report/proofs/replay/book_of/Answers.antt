use Rattle.std.proofs.Common.{◌≡◌, ◌+◌, ◌≤◌, ℕ, [], ◌∷◌, ◌++◌, List, length, drop, sym, ap, subst, ◌∙◌, append-nil, append_assoc, arith}
use Rattle.std.proofs.lemmas.List.{drop_all}
use Rattle.farm_entry.specs.Legal.{IsLegal}
use Rattle.farm_entry.specs.declared.entry.Entry.{Entry}
use Rattle.farm_entry.specs.declared.standing.Standing.TheVariants.{Searching}
use Rattle.rates_report.specs.Tally.{StandsAfter}
use Rattle.rates_report.proofs.Fronts.{drop-next, founding-stands, front-legal}
use Rattle.rates_report.proofs.replay.book_of.Goals as goal

pub founded-requires : goal.founded-requires
founded-requires c =
    let legal : IsLegal (c.in-Some.first.now ∷ c.in-Some.others.now) = subst IsLegal c.in-Some.ensures.cases.0 c.requires in
    (legal.0, tt)

pub note-requires-clause-legal : goal.note-requires-clause-legal
note-requires-clause-legal c =
    let legal : IsLegal (c.in-Some.first.now ∷ c.in-Some.others.now) = subst IsLegal c.in-Some.ensures.cases.0 c.requires in
    subst (λ (H : List Entry). IsLegal (H ++ c.in-Some.first.now ∷ [])) (sym c.start-book.ensures) (legal.0, tt)

pub note-requires-clause-stands : goal.note-requires-clause-stands
note-requires-clause-stands c =
    let legal : IsLegal (c.in-Some.first.now ∷ c.in-Some.others.now) = subst IsLegal c.in-Some.ensures.cases.0 c.requires in
    subst (λ (H : List Entry). StandsAfter H c.in-Some.first.now Searching) (sym c.start-book.ensures)
    (founding-stands c.in-Some.first.now Searching legal.0)

pub loop-entry-init : goal.loop-entry-init
loop-entry-init c = record {
  book =
      c.in_ok-note.ensures.noted
      ∙ ap (λ (H : List Entry). H ++ c.in-Some.first.now ∷ []) c.start-book.ensures
      ∙ sym c.in_ok-farm.ensures;
  all = ap (λ (H : List Entry). H ++ c.in-Some.others.now) c.in_ok-farm.ensures ∙ sym c.in-Some.ensures.cases.0;
}

pub go_on-requires-clause-same : goal.go_on-requires-clause-same
go_on-requires-clause-same c = c.loop-entry.invariant.book

pub go_on-requires-clause-legal : goal.go_on-requires-clause-legal
go_on-requires-clause-legal c =
    let H : List Entry = c.loop-entry.farm.history in
    let i : ℕ = c.loop-entry.entry-index in
    let e : Entry = c.entry-item.result in
    let others : List Entry = c.in-Some.others.now in
    let split : c.args.history.now ≡ H ++ e ∷ drop (i + 1) others =
    sym c.loop-entry.invariant.all
    ∙ ap (λ (l : List Entry). H ++ l) (drop-next others i e c.loop-entry-test.true c.entry-item.is) in
    front-legal H (drop (i + 1) others) e (subst IsLegal split c.requires)

pub loop-entry-preserved : goal.loop-entry-preserved
loop-entry-preserved c =
    let H : List Entry = c.loop-entry.farm.history in
    let i : ℕ = c.loop-entry.entry-index in
    let e : Entry = c.entry-item.result in
    let others : List Entry = c.in-Some.others.now in
    record {
      book = c.in_ok-go_on.ensures.book ∙ sym c.in_ok-go_on.ensures.farm;
      all =
          ap (λ (l : List Entry). l ++ drop (i + 1) others) c.in_ok-go_on.ensures.farm
          ∙ append_assoc H (e ∷ []) (drop (i + 1) others)
          ∙ ap (λ (l : List Entry). H ++ l) (sym (drop-next others i e c.loop-entry-test.true c.entry-item.is))
          ∙ c.loop-entry.invariant.all;
    }

pub returns : goal.returns
returns c =
    let H : List Entry = c.loop-entry.farm.history in
    let i : ℕ = c.loop-entry.entry-index in
    let others : List Entry = c.in-Some.others.now in
    let out = c.loop-entry-test.false in
    let past : length others ≤ i = omega (arith, out) in
    c.loop-entry.invariant.book
    ∙ sym (append-nil H)
    ∙ ap (λ (l : List Entry). H ++ l) (sym (drop_all i others past))
    ∙ c.loop-entry.invariant.all
