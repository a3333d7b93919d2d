-- What each end of a decision came to, by the lemmas of `Decided`.
use Rattle.std.proofs.Common.{◌≡◌, ◌-◌, length, sym, ap, subst}
use Rattle.farm_entry.specs.Legal.{IsLegal}
use Rattle.farm_store.specs.StoreInside.{store_view}
use Rattle.farm_store.proofs.Decided.{ahead, grows-by, history_after-legal, leaves-missed, leaves-still, leaves-stored, newer}
use Rattle.farm_store.proofs.Sizes.{asks-fit}
use Rattle.farm_store.proofs.store.Store.decide.Goals as goal

pub record_from-requires : goal.record_from-requires
record_from-requires g c =
    let t = g.D.Disk.tells in
    let d = g.D.Disk.told in
    let farm = c.self.inside.farm in
    let journal = c.self.inside.journal in
    let s = c.args.self.now in
    let farm' = c.decide.new.farm in
    let asks = g.A.Deciding.asks c.args.asked.now in
    let most = length asks in
    let grows = grows-by farm.history farm'.history asks c.in-Ok.ensures.history in
    let start = length c.history-start.result.now in
    let is : start ≡ length farm.history = ap length c.history-start.ensures.value in
    let legal : IsLegal farm'.history = subst IsLegal (sym c.in-Ok.ensures.history)
    (history_after-legal farm.history asks c.self.invariant.keeps.legal) in
    let fits = asks-fit farm.history farm'.history asks c.in-Ok.ensures.history c.requires.fits in
    record {
      ahead = ahead t d farm journal c.self.invariant c.self.inside.recorded s c.self.view_is c.requires.decided
          farm' most grows start is fits legal;
    }

pub returns-in-Err-record_from-clause-any_moment : goal.returns-in-Err-record_from-clause-any_moment
returns-in-Err-record_from-clause-any_moment g c =
    let t = g.D.Disk.tells in
    let d = g.D.Disk.told in
    let farm = c.self.inside.farm in
    let journal = c.self.inside.journal in
    let s = c.args.self.now in
    let farm' = c.decide.new.farm in
    let asks = g.A.Deciding.asks c.args.asked.now in
    let most = length asks in
    let grows = grows-by farm.history farm'.history asks c.in-Ok.ensures.history in
    let start = length c.history-start.result.now in
    let is : start ≡ length farm.history = ap length c.history-start.ensures.value in
    let f = c.in-Err-record_from.fault in
    leaves-missed t d farm journal c.self.invariant c.self.inside.recorded s c.self.view_is c.requires.decided
    farm' most grows start is c.record_from.new.farm c.record_from.new.journal f
    c.in-Err-record_from.ensures.taken_back
    c.in-Err-record_from.ensures.undecided c.in-Err-record_from.ensures.pending
    c.in-Err-record_from.ensures.any_moment

pub returns-in-Ok-record_from-clause-any_moment : goal.returns-in-Ok-record_from-clause-any_moment
returns-in-Ok-record_from-clause-any_moment g c =
    let t = g.D.Disk.tells in
    let d = g.D.Disk.told in
    let farm = c.self.inside.farm in
    let journal = c.self.inside.journal in
    let s = c.args.self.now in
    let farm' = c.decide.new.farm in
    let asks = g.A.Deciding.asks c.args.asked.now in
    let most = length asks in
    let grows = grows-by farm.history farm'.history asks c.in-Ok.ensures.history in
    let start = length c.history-start.result.now in
    let is : start ≡ length farm.history = ap length c.history-start.ensures.value in
    leaves-stored t d farm journal c.self.invariant c.self.inside.recorded s c.self.view_is c.requires.decided
    farm' most grows start is c.record_from.new.farm c.record_from.new.journal (length c.history.result.now - start)
    c.in-Ok-record_from.ensures.stored
    c.in-Ok-record_from.ensures.decided c.in-Ok-record_from.ensures.any_moment

pub returns-in-Err-clause-any_moment : goal.returns-in-Err-clause-any_moment
returns-in-Err-clause-any_moment g c =
    let t = g.D.Disk.tells in
    let d = g.D.Disk.told in
    let farm = c.self.inside.farm in
    let journal = c.self.inside.journal in
    let s = c.args.self.now in
    leaves-still t d farm journal c.self.invariant c.self.inside.recorded s c.self.view_is c.requires.decided
    (store_view c.retract.new.self journal c.self.inside.recorded)

pub returns-in-Ok-record_from-clause-new_version : goal.returns-in-Ok-record_from-clause-new_version
returns-in-Ok-record_from-clause-new_version g c =
    let t = g.D.Disk.tells in
    let d = g.D.Disk.told in
    let farm = c.self.inside.farm in
    let journal = c.self.inside.journal in
    let s = c.args.self.now in
    let farm' = c.decide.new.farm in
    let asks = g.A.Deciding.asks c.args.asked.now in
    let most = length asks in
    let grows = grows-by farm.history farm'.history asks c.in-Ok.ensures.history in
    let start = length c.history-start.result.now in
    let is : start ≡ length farm.history = ap length c.history-start.ensures.value in
    newer t d farm journal c.self.invariant c.self.inside.recorded s c.self.view_is c.requires.decided
    farm' most grows start is c.record_from.new.farm c.record_from.new.journal
    c.in-Ok-record_from.ensures.stored c.in-Ok-record_from.ensures.new_version
