-- What each end of storing new entries leaves, by the lemmas of `Ahead`.
use Rattle.std.proofs.Common.{◌∙◌, ◌-◌, ◌≤◌, ℕ, List, length, take, drop, All, refl, sym, ap, subst}
use Rattle.std.proofs.lemmas.List.{take_rest}
use Rattle.std.proofs.lemmas.List.Elements.{All-take}
use Rattle.std.specs.Prelude.{Ok, Err}
use Rattle.entry_codec.specs.Grammar.{AreSpelled, IsWithinLimits}
use Rattle.entry_codec.specs.Spelling.{spelling}
use Rattle.farm_entry.specs.declared.entry.Entry.{Entry}
use Rattle.farm_store.specs.Recorded.{Wrote}
use Rattle.farm_store.specs.declared.asking.TheConstants.{MAX_RECORD_BYTES}
use Rattle.farm_store.proofs.Ahead.{back-start, kept-missed, kept-stored, leaves-missed, leaves-stored, opened, within}
use Rattle.farm_store.proofs.recording.record_from.Goals as goal

pub write_new-requires-clause-open : goal.write_new-requires-clause-open
write_new-requires-clause-open g c =
    opened g.D.Disk.tells g.D.Disk.told c.args.start c.args.farm.now c.args.journal.now c.requires.ahead

pub write_new-requires-clause-within : goal.write_new-requires-clause-within
write_new-requires-clause-within g c =
    let start = c.args.start in
    let P : Entry → Type 0 = λ e. IsWithinLimits e.what in
    subst (λ (l : List Entry). All P (take (length l - start) (drop start l))) (sym c.history.ensures.value)
    (All-take P (length c.args.farm.now.history - start) (drop start c.args.farm.now.history)
    (within g.D.Disk.tells g.D.Disk.told start c.args.farm.now c.args.journal.now c.requires.ahead))

pub write_new-requires-clause-fits : goal.write_new-requires-clause-fits
write_new-requires-clause-fits g c =
    let start = c.args.start in
    let H = c.args.farm.now.history in
    let same = ap (λ (l : List Entry). take (length l - start) (drop start l)) c.history.ensures.value
    ∙ take_rest H start in
    subst (λ (l : List Entry). AreSpelled l → length (spelling l) ≤ MAX_RECORD_BYTES) (sym same) c.requires.ahead.fits

pub returns-in-Ok-clause-kept : goal.returns-in-Ok-clause-kept
returns-in-Ok-clause-kept g c =
    let start = c.args.start in
    let H = c.args.farm.now.history in
    let same = ap (λ (l : List Entry). take (length l - start) (drop start l)) c.history.ensures.value
    ∙ take_rest H start in
    kept-stored g.D.Disk.tells g.D.Disk.told start c.args.farm.now c.args.journal.now c.requires.ahead
    c.args.farm.now c.write_new.new.journal refl c.write_new.ensures.same
    (subst (λ (l : List Entry). Wrote g.D.Disk.tells g.D.Disk.told l (Ok tt) c.args.journal.now c.write_new.new.journal)
    same c.in-Ok.ensures.wrote)

pub returns-in-Ok-clause-any_moment : goal.returns-in-Ok-clause-any_moment
returns-in-Ok-clause-any_moment g c =
    let start = c.args.start in
    let H = c.args.farm.now.history in
    let same = ap (λ (l : List Entry). take (length l - start) (drop start l)) c.history.ensures.value
    ∙ take_rest H start in
    leaves-stored g.D.Disk.tells g.D.Disk.told start c.args.farm.now c.args.journal.now c.requires.ahead
    c.write_new.new.journal
    (subst (λ (l : List Entry). Wrote g.D.Disk.tells g.D.Disk.told l (Ok tt) c.args.journal.now c.write_new.new.journal)
    same c.in-Ok.ensures.wrote)

pub returns-in-Err-clause-kept : goal.returns-in-Err-clause-kept
returns-in-Err-clause-kept g c =
    let start = c.args.start in
    let H = c.args.farm.now.history in
    let same = ap (λ (l : List Entry). take (length l - start) (drop start l)) c.history.ensures.value
    ∙ take_rest H start in
    let back = ap (λ (l : List Entry). length H - (length l - start)) c.history-in-Err.ensures.value
    ∙ back-start g.D.Disk.tells g.D.Disk.told start c.args.farm.now c.args.journal.now c.requires.ahead in
    kept-missed g.D.Disk.tells g.D.Disk.told start c.args.farm.now c.args.journal.now c.requires.ahead
    c.retract.new.self c.write_new.new.journal c.in-Err.fault
    (c.retract.ensures.history ∙ ap (λ (k : ℕ). take k H) back)
    (c.retract.ensures.ready ∙ ap (λ (k : ℕ). drop k H) back)
    c.write_new.ensures.same
    (subst (λ (l : List Entry). Wrote g.D.Disk.tells g.D.Disk.told l (Err c.in-Err.fault) c.args.journal.now
    c.write_new.new.journal) same c.in-Err.ensures.wrote)

pub returns-in-Err-clause-any_moment : goal.returns-in-Err-clause-any_moment
returns-in-Err-clause-any_moment g c =
    let start = c.args.start in
    let H = c.args.farm.now.history in
    let same = ap (λ (l : List Entry). take (length l - start) (drop start l)) c.history.ensures.value
    ∙ take_rest H start in
    leaves-missed g.D.Disk.tells g.D.Disk.told start c.args.farm.now c.args.journal.now c.requires.ahead
    c.write_new.new.journal c.in-Err.fault
    (subst (λ (l : List Entry). Wrote g.D.Disk.tells g.D.Disk.told l (Err c.in-Err.fault) c.args.journal.now
    c.write_new.new.journal) same c.in-Err.ensures.wrote)

pub returns-in-Ok-clause-new_version : goal.returns-in-Ok-clause-new_version
returns-in-Ok-clause-new_version g c some t =
    let start = c.args.start in
    let H = c.args.farm.now.history in
    let same = ap (λ (l : List Entry). take (length l - start) (drop start l)) c.history.ensures.value
    ∙ take_rest H start in
    c.in-Ok.ensures.new_version (λ none. some (sym same ∙ none)) t
