-- What each end of admitting entries came to, by the lemmas of `AtAdmission` and `Decided`.
use Rattle.std.proofs.Common.{◌≡◌, ◌≤◌, ◌∙◌, List, length, ap, refl, sym, subst}
use Rattle.std.specs.Prelude.{Err}
use Rattle.entry_codec.specs.Spelling.{spelling}
use Rattle.farm_entry.specs.declared.entry.Entry.{Entry}
use Rattle.farm_journal.specs.State.{JournalState}
use Rattle.farm_store.specs.Admitted.{IsStuckAt}
use Rattle.farm_store.specs.State.{StoreState}
use Rattle.farm_store.specs.StoreInside.{store_view}
use Rattle.farm_store.specs.declared.asking.TheConstants.{MAX_RECORD_BYTES}
use Rattle.farm_store.proofs.Admissions.{added-of, stuck-of}
use Rattle.farm_store.proofs.AtAdmission.{admits-missed, admits-none, admits-stored, admitted-grows, admitted-more}
use Rattle.farm_store.proofs.Decided.{ahead-by, kept-same, leaves-missed, leaves-still, leaves-stored, newer, untouched}
use Rattle.farm_store.proofs.store.Store.admit_next.Goals as goal

pub record_from-requires : goal.record_from-requires
record_from-requires g c =
    let t = g.D.Disk.tells in
    let d = g.D.Disk.told in
    let farm = c.self.inside.farm in
    let journal = c.self.inside.journal in
    let s = c.args.self.now in
    let farm' = c.add_all.new.farm in
    let entries = c.args.entries.now in
    let added = added-of entries farm.history farm'.history c.in-Ok-Ok.field-0 c.in-Ok-Ok.field-0-0
    c.in-Ok-Ok.field-0-is c.in-Ok-Ok.ensures.adds in
    let grows = admitted-grows farm.history farm'.history entries added in
    let start = length c.history-start.result.now in
    let is : start ≡ length farm.history = ap length c.history-start.ensures.value in
    record {
      ahead = ahead-by t d farm journal c.self.invariant c.self.inside.recorded s c.self.view_is c.requires.decided
          farm' (length entries) grows start is (λ spelled. subst (λ (l : List Entry). length (spelling l) ≤ MAX_RECORD_BYTES)
          (sym (admitted-more farm.history farm'.history entries added)) c.requires.fits) c.add_all.ensures.legal;
    }

pub returns-in-Ok-clause-admits : goal.returns-in-Ok-clause-admits
returns-in-Ok-clause-admits g c =
    let t = g.D.Disk.tells in
    let d = g.D.Disk.told in
    let farm = c.self.inside.farm in
    let journal = c.self.inside.journal in
    let s = c.args.self.now in
    let farm' = c.add_all.new.farm in
    let entries = c.args.entries.now in
    let added = added-of entries farm.history farm'.history c.in-Ok-Ok.field-0 c.in-Ok-Ok.field-0-0
    c.in-Ok-Ok.field-0-is c.in-Ok-Ok.ensures.adds in
    let grows = admitted-grows farm.history farm'.history entries added in
    let start = length c.history-start.result.now in
    let is : start ≡ length farm.history = ap length c.history-start.ensures.value in
    admits-stored t d farm journal c.self.invariant c.self.inside.recorded s c.self.view_is c.requires.decided
    entries farm' added c.record_from.new.farm c.record_from.new.journal (length entries) refl c.in-Ok.ensures.stored
    c.in-Ok.ensures.decided

pub returns-in-Ok-clause-any_moment : goal.returns-in-Ok-clause-any_moment
returns-in-Ok-clause-any_moment g c =
    let t = g.D.Disk.tells in
    let d = g.D.Disk.told in
    let farm = c.self.inside.farm in
    let journal = c.self.inside.journal in
    let s = c.args.self.now in
    let farm' = c.add_all.new.farm in
    let entries = c.args.entries.now in
    let added = added-of entries farm.history farm'.history c.in-Ok-Ok.field-0 c.in-Ok-Ok.field-0-0
    c.in-Ok-Ok.field-0-is c.in-Ok-Ok.ensures.adds in
    let grows = admitted-grows farm.history farm'.history entries added in
    let start = length c.history-start.result.now in
    let is : start ≡ length farm.history = ap length c.history-start.ensures.value in
    leaves-stored t d farm journal c.self.invariant c.self.inside.recorded s c.self.view_is c.requires.decided
    farm' (length entries) grows start is c.record_from.new.farm c.record_from.new.journal (length entries) c.in-Ok.ensures.stored
    c.in-Ok.ensures.decided c.in-Ok.ensures.any_moment

pub returns-in-Ok-clause-untouched : goal.returns-in-Ok-clause-untouched
returns-in-Ok-clause-untouched g c =
    let t = g.D.Disk.tells in
    let d = g.D.Disk.told in
    let farm = c.self.inside.farm in
    let journal = c.self.inside.journal in
    let s = c.args.self.now in
    let farm' = c.add_all.new.farm in
    let entries = c.args.entries.now in
    let added = added-of entries farm.history farm'.history c.in-Ok-Ok.field-0 c.in-Ok-Ok.field-0-0
    c.in-Ok-Ok.field-0-is c.in-Ok-Ok.ensures.adds in
    let grows = admitted-grows farm.history farm'.history entries added in
    let start = length c.history-start.result.now in
    let is : start ≡ length farm.history = ap length c.history-start.ensures.value in
    λ same. ap (λ (j : JournalState g.row.D.Denot). j.disk) (c.in-Ok.ensures.nothing
    (untouched t d farm journal c.self.invariant c.self.inside.recorded s c.self.view_is c.requires.decided
    farm' (length entries) grows start is c.record_from.new.farm c.record_from.new.journal c.in-Ok.ensures.stored same))
    ∙ ap (λ (x : StoreState g.row.D.Denot). x.disk) c.self.view_is

pub returns-in-Ok-clause-new_version : goal.returns-in-Ok-clause-new_version
returns-in-Ok-clause-new_version g c =
    let t = g.D.Disk.tells in
    let d = g.D.Disk.told in
    let farm = c.self.inside.farm in
    let journal = c.self.inside.journal in
    let s = c.args.self.now in
    let farm' = c.add_all.new.farm in
    let entries = c.args.entries.now in
    let added = added-of entries farm.history farm'.history c.in-Ok-Ok.field-0 c.in-Ok-Ok.field-0-0
    c.in-Ok-Ok.field-0-is c.in-Ok-Ok.ensures.adds in
    let grows = admitted-grows farm.history farm'.history entries added in
    let start = length c.history-start.result.now in
    let is : start ≡ length farm.history = ap length c.history-start.ensures.value in
    newer t d farm journal c.self.invariant c.self.inside.recorded s c.self.view_is c.requires.decided
    farm' (length entries) grows start is c.record_from.new.farm c.record_from.new.journal c.in-Ok.ensures.stored
    c.in-Ok.ensures.new_version

pub returns-in-Err-record_from-clause-admits : goal.returns-in-Err-record_from-clause-admits
returns-in-Err-record_from-clause-admits g c =
    let t = g.D.Disk.tells in
    let d = g.D.Disk.told in
    let farm = c.self.inside.farm in
    let journal = c.self.inside.journal in
    let s = c.args.self.now in
    let farm' = c.add_all.new.farm in
    let entries = c.args.entries.now in
    let added = added-of entries farm.history farm'.history c.in-Ok-Ok.field-0 c.in-Ok-Ok.field-0-0
    c.in-Ok-Ok.field-0-is c.in-Ok-Ok.ensures.adds in
    let grows = admitted-grows farm.history farm'.history entries added in
    let start = length c.history-start.result.now in
    let is : start ≡ length farm.history = ap length c.history-start.ensures.value in
    admits-missed t d farm journal c.self.invariant c.self.inside.recorded s c.self.view_is c.requires.decided
    entries farm' added c.record_from.new.farm c.record_from.new.journal start is c.in-Err-record_from.fault c.in-Err-record_from.ensures.taken_back
    c.in-Err-record_from.ensures.undecided c.in-Err-record_from.ensures.pending c.in-Err-record_from.ensures.memory

pub returns-in-Err-record_from-clause-any_moment : goal.returns-in-Err-record_from-clause-any_moment
returns-in-Err-record_from-clause-any_moment g c =
    let t = g.D.Disk.tells in
    let d = g.D.Disk.told in
    let farm = c.self.inside.farm in
    let journal = c.self.inside.journal in
    let s = c.args.self.now in
    let farm' = c.add_all.new.farm in
    let entries = c.args.entries.now in
    let added = added-of entries farm.history farm'.history c.in-Ok-Ok.field-0 c.in-Ok-Ok.field-0-0
    c.in-Ok-Ok.field-0-is c.in-Ok-Ok.ensures.adds in
    let grows = admitted-grows farm.history farm'.history entries added in
    let start = length c.history-start.result.now in
    let is : start ≡ length farm.history = ap length c.history-start.ensures.value in
    leaves-missed t d farm journal c.self.invariant c.self.inside.recorded s c.self.view_is c.requires.decided
    farm' (length entries) grows start is c.record_from.new.farm c.record_from.new.journal c.in-Err-record_from.fault
    c.in-Err-record_from.ensures.taken_back c.in-Err-record_from.ensures.undecided c.in-Err-record_from.ensures.pending
    c.in-Err-record_from.ensures.any_moment

pub invariant_of-self-in-Ok-Err : goal.invariant_of-self-in-Ok-Err
invariant_of-self-in-Ok-Err g c =
    let t = g.D.Disk.tells in
    let d = g.D.Disk.told in
    let farm = c.self.inside.farm in
    let journal = c.self.inside.journal in
    let s = c.args.self.now in
    let farm' = c.add_all.new.farm in
    let entries = c.args.entries.now in
    let none = stuck-of entries farm.history farm'.history c.in-Ok-Err.field-0 c.in-Ok-Err.index c.in-Ok-Err.field-0-is
    c.in-Ok-Err.ensures.adds in
    kept-same t d farm journal c.self.invariant c.self.inside.recorded s c.self.view_is c.requires.decided farm' none.0

pub returns-in-Ok-Err-clause-admits : goal.returns-in-Ok-Err-clause-admits
returns-in-Ok-Err-clause-admits g c =
    let t = g.D.Disk.tells in
    let d = g.D.Disk.told in
    let farm = c.self.inside.farm in
    let journal = c.self.inside.journal in
    let s = c.args.self.now in
    let farm' = c.add_all.new.farm in
    let entries = c.args.entries.now in
    let none = stuck-of entries farm.history farm'.history c.in-Ok-Err.field-0 c.in-Ok-Err.index c.in-Ok-Err.field-0-is
    c.in-Ok-Err.ensures.adds in (
      subst (λ (l : List Entry). IsStuckAt l entries c.in-Ok-Err.index)
          (ap (λ (x : StoreState g.row.D.Denot). x.history) c.self.view_is) none.1,
      admits-none t d farm journal c.self.invariant c.self.inside.recorded s c.self.view_is c.requires.decided farm'
          none.0,
    )

pub returns-in-Ok-Err-clause-any_moment : goal.returns-in-Ok-Err-clause-any_moment
returns-in-Ok-Err-clause-any_moment g c =
    let t = g.D.Disk.tells in
    let d = g.D.Disk.told in
    let farm = c.self.inside.farm in
    let journal = c.self.inside.journal in
    let s = c.args.self.now in
    let farm' = c.add_all.new.farm in
    leaves-still t d farm journal c.self.invariant c.self.inside.recorded s c.self.view_is c.requires.decided
    (store_view farm' journal 0)

pub returns-in-Ok-Err-clause-untouched : goal.returns-in-Ok-Err-clause-untouched
returns-in-Ok-Err-clause-untouched g c =
    λ same. ap (λ (x : StoreState g.row.D.Denot). x.disk) c.self.view_is

pub invariant_of-self-in-Err : goal.invariant_of-self-in-Err
invariant_of-self-in-Err g c =
    let t = g.D.Disk.tells in
    let d = g.D.Disk.told in
    let farm = c.self.inside.farm in
    let journal = c.self.inside.journal in
    let s = c.args.self.now in
    let farm' = c.add_all.new.farm in
    kept-same t d farm journal c.self.invariant c.self.inside.recorded s c.self.view_is c.requires.decided farm'
    c.in-Err.ensures.adds

pub returns-in-Err-clause-admits : goal.returns-in-Err-clause-admits
returns-in-Err-clause-admits g c =
    let t = g.D.Disk.tells in
    let d = g.D.Disk.told in
    let farm = c.self.inside.farm in
    let journal = c.self.inside.journal in
    let s = c.args.self.now in
    let farm' = c.add_all.new.farm in
    admits-none t d farm journal c.self.invariant c.self.inside.recorded s c.self.view_is c.requires.decided farm'
    c.in-Err.ensures.adds

pub returns-in-Err-clause-any_moment : goal.returns-in-Err-clause-any_moment
returns-in-Err-clause-any_moment g c =
    let t = g.D.Disk.tells in
    let d = g.D.Disk.told in
    let farm = c.self.inside.farm in
    let journal = c.self.inside.journal in
    let s = c.args.self.now in
    let farm' = c.add_all.new.farm in
    leaves-still t d farm journal c.self.invariant c.self.inside.recorded s c.self.view_is c.requires.decided
    (store_view farm' journal 0)
