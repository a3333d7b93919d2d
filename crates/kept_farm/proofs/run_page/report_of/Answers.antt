use Rattle.std.proofs.Common.{◌≡◌, ℕ, List, slice_get, Option, None, sym, ap, ◌∙◌}
use Rattle.std.specs.Option.{option_and_then}
use Rattle.farm_entry.specs.RunPages.{report_shown}
use Rattle.farm_entry.specs.declared.entry.Entry.{Entry}
use Rattle.farm_entry.specs.declared.run_page.RunReport.{RunReport}
use Rattle.kept_farm.proofs.Paged.{report-looked_up}
use Rattle.kept_farm.proofs.run_page.report_of.Goals as goal

-- what is read at a place, if there is one
abbrev look : List Entry → Option ℕ → Option RunReport
look H place = option_and_then (λ p. option_and_then report_shown (slice_get H p)) place

pub returns-in-None : goal.returns-in-None
returns-in-None c =
    let H : List Entry = c.args.books.now in
    sym (ap (look H) (sym c.place_of_report.ensures ∙ c.in-None.is)) ∙ report-looked_up H c.args.run

pub returns-in-Some : goal.returns-in-Some
returns-in-Some c =
    let H : List Entry = c.args.books.now in
    c.report_at.ensures
    ∙ ap (λ (L : List Entry). option_and_then report_shown (slice_get L c.in-Some.place)) c.history.ensures.history
    ∙ sym (ap (look H) (sym c.place_of_report.ensures ∙ c.in-Some.is))
    ∙ report-looked_up H c.args.run
