use Rattle.std.proofs.Common.{◌≡◌, ◌++◌, Bool, Ok, true, false, slice_range, ◌∙◌, le_trans, subst}
use Rattle.std.proofs.lemmas.Result.{err_from_is_err_and}
use Rattle.http_exchange.specs.Reading.{IsUnfinished, Says}
use Rattle.http_exchange.specs.declared.progress.ResponseProgress.TheVariants as progress
use Rattle.http_exchange.specs.Received.{TakesUntil}
use Rattle.http_exchange.proofs.Held.{comes-fault, comes-never, comes-short, comes-made, comes-whole, held-until, just-until, on_ok}
use Rattle.http_exchange.proofs.Takes.{known-on}
use Rattle.http_exchange.proofs.response.take_response.Goals as goal

pub returns-in-Never-clause-comes : goal.returns-in-Never-clause-comes
returns-in-Never-clause-comes g c =
    let before = c.loop-found.invariant.taken in (
      before.0,
      before.1,
      comes-never before.0 c.loop-found.received (g.S.Source.ended c.loop-found.link) before.2
          (subst (λ l. Says l progress.Never) c.held.ensures.held c.in-Never.ensures),
    )

pub returns-in_err-take_until-in-More-clause-comes : goal.returns-in_err-take_until-in-More-clause-comes
returns-in_err-take_until-in-More-clause-comes g c =
    let before = c.loop-found.invariant.taken in
    let takes = c.in_err-take_until-in-More.ensures.takes in
    let p = err_from_is_err_and c.from_residual.result c.from_residual.ensures.1 in
    let waits = subst (λ l. IsUnfinished l c.in-More.size) c.held.ensures.held c.in-More.ensures in (
      before.0 ++ takes.0,
      known-on _ _ _ before.0 takes.0 before.1 takes.1,
      rw (p.1, p.2)
          (comes-fault before.0 c.loop-found.received c.take_until.new.self takes.0 c.in-More.size
          (g.S.Source.ended c.take_until.new.link) c.in_err-take_until-in-More.field-0.0 before.2 waits takes.2),
    )

pub returns-then-not-branch-clause-comes : goal.returns-then-not-branch-clause-comes
returns-then-not-branch-clause-comes g c =
    let before = c.loop-found.invariant.taken in
    let takes = c.in_ok-take_until-in-More.ensures.takes in
    let none : c.in_ok-take_until-in-More.field-0 ≡ false = c.if-not-branch.true in
    let waits = subst (λ l. IsUnfinished l c.in-More.size) c.held.ensures.held c.in-More.ensures in (
      before.0 ++ takes.0,
      known-on _ _ _ before.0 takes.0 before.1 takes.1,
      comes-short before.0 c.loop-found.received c.take_until.new.self takes.0 c.in-More.size
          (g.S.Source.ended c.take_until.new.link) before.2 waits
          (subst
          (λ (b : Bool). TakesUntil c.in-More.size c.loop-found.received c.take_until.new.self takes.0
          (g.S.Source.ended c.take_until.new.link) (Ok b))
          none takes.2),
    )

pub loop-found-preserved : goal.loop-found-preserved
loop-found-preserved g c =
    let before = c.loop-found.invariant.taken in
    let takes = c.in_ok-take_until-in-More.ensures.takes in
    let some : c.in_ok-take_until-in-More.field-0 ≡ true = c.if-not-branch.false in
    record {
      taken = (
        before.0 ++ takes.0,
        known-on _ _ _ before.0 takes.0 before.1 takes.1,
        held-until before.0 c.loop-found.received c.take_until.new.self takes.0 c.in-More.size
            (g.S.Source.ended c.take_until.new.link) before.2
            (subst
            (λ (b : Bool). TakesUntil c.in-More.size c.loop-found.received c.take_until.new.self takes.0
            (g.S.Source.ended c.take_until.new.link) (Ok b))
            some takes.2),
        just-until before.0 c.loop-found.received c.take_until.new.self takes.0 c.in-More.size
            (g.S.Source.ended c.take_until.new.link) before.2
            (subst (λ l. IsUnfinished l c.in-More.size) c.held.ensures.held c.in-More.ensures)
            (subst
            (λ (b : Bool). TakesUntil c.in-More.size c.loop-found.received c.take_until.new.self takes.0
            (g.S.Source.ended c.take_until.new.link) (Ok b))
            some takes.2)
            c.in_ok-take_until-in-More.ensures.few,
      );
      aside = c.take_until.ensures.aside ∙ c.loop-found.invariant.aside;
      never_fell = le_trans c.loop-found.invariant.never_fell c.take_until.ensures.never_falls;
    }

pub returns-in-Whole-clause-comes : goal.returns-in-Whole-clause-comes
returns-in-Whole-clause-comes g c =
    let before = c.loop-found.invariant.taken in
    let says = subst (λ l. Says l (progress.Whole c.in-Whole.found)) c.held.ensures.held c.in-Whole.ensures in (
      before.0,
      before.1,
      comes-made before.0 (g.S.Source.ended c.loop-found.link) c.response.result c.in-Whole.found.status
          (slice_range c.loop-found.received.held c.in-Whole.found.body c.in-Whole.found.end)
          c.response.ensures.status c.response.ensures.body c.response.ensures.short
          (comes-whole before.0 c.loop-found.received c.in-Whole.found before.2 says),
    )

pub returns-in-Whole-clause-enough : goal.returns-in-Whole-clause-enough
returns-in-Whole-clause-enough g c =
    let before = c.loop-found.invariant.taken in
    on_ok c.response.result (before.0, before.1, before.3)
