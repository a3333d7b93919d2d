-- What closing a store comes to, by the lemmas of `AtClose`.
use Rattle.std.proofs.Common.{◌≡◌, ◌≤◌, ℕ, List, [], ◌∷◌, ◌∙◌, ap, length, sym, subst}
use Rattle.std.specs.Prelude.{Result, Err}
use Rattle.entry_codec.specs.Spelling.{spelling}
use Rattle.farm_entry.specs.History.{is_closed}
use Rattle.farm_entry.specs.declared.entry.Entry.{Entry}
use Rattle.farm_store.specs.Closed.{Closes, HasCloseCause, OnClosedOrBusy, closing_at}
use Rattle.farm_store.specs.Keeping.{KeepsStore}
use Rattle.farm_store.specs.declared.asking.TheConstants.{MAX_RECORD_BYTES}
use Rattle.farm_store.specs.declared.closing.CloseFault.{CloseFault}
use Rattle.farm_store.proofs.AtAdmission.{admitted-of, refused-of}
use Rattle.farm_store.proofs.AtClose.{cause-close, closes-busy, closes-closed, closes-missed, closes-stored}
use Rattle.farm_store.proofs.AtClose.{closing-fits, keeps-close}
use Rattle.farm_store.proofs.store.Store.close.Goals as goal

pub admit_all-requires-clause-fits : goal.admit_all-requires-clause-fits
admit_all-requires-clause-fits g c =
    subst (λ (e : Entry). length (spelling (e ∷ [])) ≤ MAX_RECORD_BYTES) (sym c.closing-entry.ensures)
    (closing-fits c.history.result.now c.args.at)

pub returns-in-Ok-Ok-clause-closes : goal.returns-in-Ok-Ok-clause-closes
returns-in-Ok-Ok-clause-closes g c =
    let old = c.args.self.now in
    let new = c.admit_all.new.self in
    let entries : List Entry = c.closing-entry.result ∷ [] in
    let is : entries ≡ closing_at old.history c.args.at ∷ [] =
    ap (λ (e : Entry). e ∷ []) (c.closing-entry.ensures
    ∙ ap (λ (l : List Entry). closing_at l c.args.at) c.history.ensures.value) in
    closes-stored c.args.at old new entries is c.history.ensures.legal c.admit_all.ensures.keeps.legal
    (admitted-of entries old new c.in-Ok-Ok.field-0 c.in-Ok-Ok.field-0-0 c.in-Ok-Ok.field-0-is
    c.in-Ok-Ok.ensures.admits)

pub returns-in-Ok-Ok-clause-keeps : goal.returns-in-Ok-Ok-clause-keeps
returns-in-Ok-Ok-clause-keeps g c =
    c.in-Ok-Ok.ensures.keeps

pub returns-then-is_closed-clause-closes : goal.returns-then-is_closed-clause-closes
returns-then-is_closed-clause-closes g c =
    let old = c.args.self.now in
    let new = c.admit_all.new.self in
    let entries : List Entry = c.closing-entry.result ∷ [] in
    let is : entries ≡ closing_at old.history c.args.at ∷ [] =
    ap (λ (e : Entry). e ∷ []) (c.closing-entry.ensures
    ∙ ap (λ (l : List Entry). closing_at l c.args.at) c.history.ensures.value) in
    let says = refused-of entries old new c.in-Ok-Err.field-0 c.in-Ok-Err.field-0-0 c.in-Ok-Err.field-0-is
    c.in-Ok-Err.ensures.admits in
    let tells = ap is_closed (sym c.history-in-Ok-Err.ensures.value) ∙ sym c.is_closed.ensures in
    closes-closed c.args.at old new entries is c.history.ensures.legal says.1 (tells ∙ c.if-is_closed.true)

pub returns-then-is_closed-clause-keeps : goal.returns-then-is_closed-clause-keeps
returns-then-is_closed-clause-keeps g c =
    c.in-Ok-Err.ensures.keeps

pub returns-in-Ok-Err-clause-closes : goal.returns-in-Ok-Err-clause-closes
returns-in-Ok-Err-clause-closes g c =
    let old = c.args.self.now in
    let new = c.admit_all.new.self in
    let entries : List Entry = c.closing-entry.result ∷ [] in
    let is : entries ≡ closing_at old.history c.args.at ∷ [] =
    ap (λ (e : Entry). e ∷ []) (c.closing-entry.ensures
    ∙ ap (λ (l : List Entry). closing_at l c.args.at) c.history.ensures.value) in
    let says = refused-of entries old new c.in-Ok-Err.field-0 c.in-Ok-Err.field-0-0 c.in-Ok-Err.field-0-is
    c.in-Ok-Err.ensures.admits in
    let tells = ap is_closed (sym c.history-in-Ok-Err.ensures.value) ∙ sym c.is_closed.ensures in
    closes-busy c.args.at old new entries is c.history.ensures.legal c.in-Ok-Err.field-0-0 says.0 says.1
    (tells ∙ c.if-is_closed.false) (c.in-Ok-Err.ensures.keeps.untouched c.requires says.1.history)

pub returns-in-Ok-Err-clause-keeps : goal.returns-in-Ok-Err-clause-keeps
returns-in-Ok-Err-clause-keeps g c =
    c.in-Ok-Err.ensures.keeps

pub returns-clause-closes : goal.returns-clause-closes
returns-clause-closes g c =
    let old = c.args.self.now in
    let new = c.admit_all.new.self in
    let entries : List Entry = c.closing-entry.result ∷ [] in
    let is : entries ≡ closing_at old.history c.args.at ∷ [] =
    ap (λ (e : Entry). e ∷ []) (c.closing-entry.ensures
    ∙ ap (λ (l : List Entry). closing_at l c.args.at) c.history.ensures.value) in
    subst (λ (f : CloseFault). Closes c.args.at (Err f) old new) (sym c.from.ensures)
    (closes-missed c.args.at old new entries is c.history.ensures.legal c.in-Err.fault c.admit_all.ensures.keeps.legal
    c.in-Err.ensures.admits)

pub returns-clause-keeps : goal.returns-clause-keeps
returns-clause-keeps g c =
    subst (λ (f : CloseFault). KeepsStore g.D.Disk (λ (P : Type 0). OnClosedOrBusy (Err f) P) c.args.self.now
    c.admit_all.new.self) (sym c.from.ensures)
    (keeps-close (Result (Unit {0}) ℕ) g.D.Disk c.in-Err.fault c.args.self.now c.admit_all.new.self c.in-Err.ensures.keeps)

pub returns-clause-cause : goal.returns-clause-cause
returns-clause-cause g c =
    subst (λ (f : CloseFault). HasCloseCause (Err f) (g.D.Disk.count c.args.self.now.disk)
    (g.D.Disk.count c.admit_all.new.self.disk)) (sym c.from.ensures)
    (cause-close (Result (Unit {0}) ℕ) c.in-Err.fault (g.D.Disk.count c.args.self.now.disk) (g.D.Disk.count c.admit_all.new.self.disk)
    c.in-Err.ensures.cause)
