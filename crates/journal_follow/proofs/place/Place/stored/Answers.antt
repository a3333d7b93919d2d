-- What storing entries leaves of each place.
use Rattle.std.proofs.Common.{◌≡◌, ℕ, [], ◌∙◌, ap, length, sym, subst}
use Rattle.journal_follow.specs.Inside.{IsPlace, Puts, place_state}
use Rattle.journal_follow.specs.State.{FollowerState}
use Rattle.journal_follow.specs.declared.place.Place.{Place}
use Rattle.farm_store.proofs.Admissions.{legal-not_nil}
use Rattle.journal_follow.proofs.place.Place.stored.Goals as goal

pub begin-requires-clause-unborn : goal.begin-requires-clause-unborn
begin-requires-clause-unborn g c =
    subst (λ (p : Place g.row.D.Denot). IsPlace g.D.Disk.tells g.D.Disk.told g.D.Disk.count p) c.in-Unborn.is
    c.requires.holds

pub go_on-requires-clause-holds : goal.go_on-requires-clause-holds
go_on-requires-clause-holds g c =
    subst (λ (p : Place g.row.D.Denot). IsPlace g.D.Disk.tells g.D.Disk.told g.D.Disk.count p) c.in-Open.is
    c.requires.holds

pub go_on-requires-clause-decided : goal.go_on-requires-clause-decided
go_on-requires-clause-decided g c =
    sym (ap (λ (p : Place g.row.D.Denot).
    (place_state g.D.Disk.tells g.D.Disk.told g.D.Disk.count p).held.pending) c.in-Open.is) ∙ c.requires.decided

pub go_on-requires-clause-place : goal.go_on-requires-clause-place
go_on-requires-clause-place g c =
    c.requires.place ∙ ap (λ (p : Place g.row.D.Denot).
    length (place_state g.D.Disk.tells g.D.Disk.told g.D.Disk.count p).held.history) c.in-Open.is

pub unreachable-requires : goal.unreachable-requires
unreachable-requires g c =
    let holds = subst (λ (p : Place g.row.D.Denot). IsPlace g.D.Disk.tells g.D.Disk.told g.D.Disk.count p) c.in-Begun.is
    c.requires.holds in
    legal-not_nil c.in-Begun.field-0.entries holds.0
    (sym (ap (λ (p : Place g.row.D.Denot).
    (place_state g.D.Disk.tells g.D.Disk.told g.D.Disk.count p).held.pending) c.in-Begun.is) ∙ c.requires.decided)

pub returns-in-Unborn-clause-place : goal.returns-in-Unborn-clause-place
returns-in-Unborn-clause-place g c = c.begin.ensures.place

pub returns-in-Unborn-clause-puts : goal.returns-in-Unborn-clause-puts
returns-in-Unborn-clause-puts g c =
    let after = place_state g.D.Disk.tells g.D.Disk.told g.D.Disk.count c.begin.result.0 in
    let zero : c.args.place ≡ 0 = c.requires.place ∙ ap (λ (p : Place g.row.D.Denot).
    length (place_state g.D.Disk.tells g.D.Disk.told g.D.Disk.count p).held.history) c.in-Unborn.is in
    subst (λ (n : ℕ). Puts c.args.before n c.args.entries.now c.begin.result.1
    (place_state g.D.Disk.tells g.D.Disk.told g.D.Disk.count c.args.self) after) (sym zero)
    (subst (λ (p : Place g.row.D.Denot). Puts c.args.before 0 c.args.entries.now c.begin.result.1
    (place_state g.D.Disk.tells g.D.Disk.told g.D.Disk.count p) after) (sym c.in-Unborn.is) c.begin.ensures.puts)

pub returns-in-Open-clause-place : goal.returns-in-Open-clause-place
returns-in-Open-clause-place g c = c.go_on.ensures.place

pub returns-in-Open-clause-puts : goal.returns-in-Open-clause-puts
returns-in-Open-clause-puts g c =
    subst (λ (p : Place g.row.D.Denot). Puts c.args.before c.args.place c.args.entries.now c.go_on.result.1
    (place_state g.D.Disk.tells g.D.Disk.told g.D.Disk.count p)
    (place_state g.D.Disk.tells g.D.Disk.told g.D.Disk.count c.go_on.result.0)) (sym c.in-Open.is) c.go_on.ensures.puts
