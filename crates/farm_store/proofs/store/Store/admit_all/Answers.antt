-- What admitting entries keeps, by the lemmas of `AtAdmission`.
use Rattle.std.proofs.Common.{◌∙◌}
use Rattle.farm_journal.proofs.OpeningSteps.{reads-none}
use Rattle.farm_journal.specs.ReadsOnly.{ReadsOnly}
use Rattle.farm_store.proofs.AtAdmission.{admits-longer, admits-only}
use Rattle.farm_store.proofs.store.Store.admit_all.Goals as goal

pub returns-clause-keeps : goal.returns-clause-keeps
returns-clause-keeps g c =
    let old = c.args.self.now in
    let new = c.admit_next-admitted.new.self in
    let said = c.admit_next-admitted.ensures in
    let result = c.admit_next-admitted.result in
    let entries = c.args.entries.now in
    record {
      same = said.same;
      longer = admits-longer entries old new result said.admits;
      legal = c.tell.ensures.legal;
      any_moment = said.any_moment;
      stored = λ t. c.tell.ensures.stored (said.same ∙ t);
      untouched = λ rests still. said.untouched still;
      only = λ t zero. admits-only entries old new result said.admits said.untouched
          (λ (d : g.row.D.Denot). ReadsOnly (g.D.Disk.told old.disk) (g.D.Disk.told d))
          (reads-none (g.D.Disk.told old.disk)) zero;
      two_calls = λ t some zero. absurd (some c.requires.decided);
      new_version = said.new_version;
      never_falls = said.never_falls;
    }
