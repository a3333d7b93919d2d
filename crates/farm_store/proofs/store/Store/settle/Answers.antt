-- What each call keeps, by the lemmas of `Calls`.
use Rattle.std.proofs.Common.{◌≡◌, ◌+◌, ◌∙◌, List, arith}
use Rattle.farm_disk.specs.Images.{moment}
use Rattle.farm_entry.specs.declared.entry.Entry.{Entry}
use Rattle.farm_journal.specs.ReadsOnly.{ReadsOnly}
use Rattle.farm_store.proofs.Calls.{disk-repaired, leaves-on, newer-on, repaired-idle, says-longer, says-on, untouched-on}
use Rattle.farm_store.proofs.Missed.{settles-unrepaired}
use Rattle.farm_store.proofs.store.Store.settle.Goals as goal

pub returns-in-Err-clause-says : goal.returns-in-Err-clause-says
returns-in-Err-clause-says g c =
    settles-unrepaired (g.A.Deciding.asks c.args.asked.now)
    (λ (given : g.row.A-Given.Denot) (H : List Entry). g.A.Deciding.gives H c.args.asked.now given c.args.asked.now)
    c.in-Err.fault c.args.self.now c.repair.new.self
    c.in-Err.ensures.repairs

pub returns-in-Err-clause-stays : goal.returns-in-Err-clause-stays
returns-in-Err-clause-stays g c = g.met.A.Deciding.still c.args.asked.now

pub returns-in-Err-clause-keeps : goal.returns-in-Err-clause-keeps
returns-in-Err-clause-keeps g c =
    let kept = c.repair.ensures.keeps in
    record {
      same = kept.same;
      longer = kept.longer;
      legal = kept.legal;
      any_moment = kept.any_moment;
      stored = kept.stored;
      untouched = λ rests same. tt;
      only = λ t zero. tt;
      two_calls = λ t some zero. tt;
      new_version = λ t more. tt;
      never_falls = kept.never_falls;
    }

pub returns-clause-says : goal.returns-clause-says
returns-clause-says g c =
    let mended = c.in_default.ensures.repairs in
    says-on c.args.self.now c.repair.new.self c.decide-decided.new.self mended.decided mended.found
    (g.A.Deciding.asks c.args.asked.now)
    (λ (given : g.row.A-Given.Denot) (H : List Entry).
    g.A.Deciding.gives H c.args.asked.now given c.decide-decided.new.asked)
    c.decide-decided.result c.decide-decided.ensures.says

pub returns-clause-keeps : goal.returns-clause-keeps
returns-clause-keeps g c =
    let old = c.args.self.now in
    let mid = c.repair.new.self in
    let new = c.decide-decided.new.self in
    let mended = c.in_default.ensures.repairs in
    let kept = c.in_default.ensures.keeps in
    let said = c.decide-decided.ensures in
    let result = c.decide-decided.result in
    let asks = g.A.Deciding.asks c.args.asked.now in
    let Given = λ (given : g.row.A-Given.Denot) (H : List Entry).
    g.A.Deciding.gives H c.args.asked.now given c.decide-decided.new.asked in
    record {
      same = said.same ∙ kept.same;
      longer = says-longer asks Given result old new
          (says-on old mid new mended.decided mended.found asks Given result said.says);
      legal = c.tell.ensures.legal;
      any_moment = λ t. leaves-on old mid new mended.decided mended.found (g.D.Disk.told old.disk)
          (g.D.Disk.told mid.disk) (g.D.Disk.told new.disk) (kept.any_moment t)
          (said.any_moment (kept.same ∙ t));
      stored = λ t. c.tell.ensures.stored (said.same ∙ kept.same ∙ t);
      untouched = untouched-on old mid new mended.decided mended.found asks Given result said.untouched
          (λ rests. kept.untouched rests (repaired-idle old mid.history rests mended.found));
      only = λ t zero. disk-repaired old mid new mended.decided mended.found asks Given result said.says
          said.untouched (λ (d : g.row.D.Denot). ReadsOnly (g.D.Disk.told old.disk) (g.D.Disk.told d))
          (kept.only t mended.none) zero;
      two_calls = λ t some zero. disk-repaired old mid new mended.decided mended.found asks Given result said.says
          said.untouched (λ (d : g.row.D.Denot). moment (g.D.Disk.told d) ≡ moment (g.D.Disk.told old.disk) + 2)
          (kept.two_calls t some mended.none) zero;
      new_version = λ t more. newer-on old mid new mended.decided mended.found asks Given result g.D.Disk.told
          said.says said.untouched (kept.new_version t) (said.new_version (kept.same ∙ t)) more;
      never_falls = omega (arith, kept.never_falls, said.never_falls);
    }
