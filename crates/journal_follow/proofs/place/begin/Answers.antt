-- What beginning a history comes to.
use Rattle.std.proofs.Common.{◌≡◌, ◌∙◌, ◌≤◌, ◌+◌, ◌<◌, List, [], length, refl, subst, sym, arith}
use Rattle.std.specs.Prelude.{Err}
use Rattle.entry_codec.specs.Spelling.{spelling}
use Rattle.farm_entry.specs.declared.entry.Entry.{Entry}
use Rattle.farm_store.specs.declared.asking.TheConstants.{MAX_RECORD_BYTES}
use Rattle.farm_store.proofs.Admissions.{farm-of, no-farm-of, stuck-below}
use Rattle.journal_follow.specs.Inside.{Puts, on_disk, place_state}
use Rattle.journal_follow.specs.declared.fault.FollowFault.TheVariants as fault
use Rattle.journal_follow.proofs.Legals.{spelling-long}
use Rattle.journal_follow.proofs.Placing.{unborn-puts}
use Rattle.journal_follow.proofs.place.begin.Goals as goal

pub returns-in_default-clause-puts : goal.returns-in_default-clause-puts
returns-in_default-clause-puts g c =
    unborn-puts g.D.Disk c.args.before c.args.disk c.args.entries.now (Err fault.Memory) c.requires.unborn refl tt

pub create-requires : goal.create-requires
create-requires g c =
    let same = c.of.ensures ∙ c.in-Ok.ensures in
    record {
      unborn = c.requires.unborn;
      history = farm-of c.args.entries.now c.in-Ok-Ok.field-0 c.in-Ok-Ok.farm c.in-Ok-Ok.field-0-is c.in-Ok-Ok.ensures
          ∙ sym same;
      fits = subst (λ (l : List Entry). length (spelling l) ≤ MAX_RECORD_BYTES) (sym same) c.requires.fits;
    }

pub returns-in-Ok-Ok-clause-puts : goal.returns-in-Ok-Ok-clause-puts
returns-in-Ok-Ok-clause-puts g c =
    subst (λ (l : List Entry). Puts c.args.before 0 l c.create.result.1
    (on_disk g.D.Disk.tells g.D.Disk.told g.D.Disk.count c.args.disk [] [])
    (place_state g.D.Disk.tells g.D.Disk.told g.D.Disk.count c.create.result.0)) (c.of.ensures ∙ c.in-Ok.ensures)
    c.create.ensures.puts

pub returns-in-Ok-Err-clause-puts : goal.returns-in-Ok-Err-clause-puts
returns-in-Ok-Err-clause-puts g c =
    unborn-puts g.D.Disk c.args.before c.args.disk c.args.entries.now (Err (fault.Foreign c.in-Ok-Err.index))
    c.requires.unborn (
      refl,
      c.in-Ok-Err.index,
      omega arith,
      no-farm-of c.args.entries.now c.in-Ok-Err.field-0 c.in-Ok-Err.index
          c.in-Ok-Err.field-0-is c.in-Ok-Err.ensures,
    ) tt

pub overflow_cast-result : goal.overflow_cast-result
overflow_cast-result g c =
    let below = stuck-below [] c.args.entries.now c.in-Ok-Err.index (no-farm-of c.args.entries.now c.in-Ok-Err.field-0
    c.in-Ok-Err.index c.in-Ok-Err.field-0-is c.in-Ok-Err.ensures) in
    let long = spelling-long c.args.entries.now in
    let most = c.requires.fits in
    omega (arith, below, long, most)

pub returns-in-Err-clause-puts : goal.returns-in-Err-clause-puts
returns-in-Err-clause-puts g c =
    unborn-puts g.D.Disk c.args.before c.args.disk c.args.entries.now (Err fault.Memory) c.requires.unborn refl tt
