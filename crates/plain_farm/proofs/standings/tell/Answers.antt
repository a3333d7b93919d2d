use Rattle.std.proofs.Common.{sym, subst, ◌∙◌}
use Rattle.weight_exact.specs.Weights.{Setup}
use Rattle.weight_exact.specs.declared.run.Verdict.TheVariants.{Pass}
use Rattle.farm_laws.specs.Loads.{LoadsFit}
use Rattle.plain_farm.proofs.Telling.{told-more}
use Rattle.plain_farm.proofs.standings.tell.Goals as goal

pub loop-run-preserved : goal.loop-run-preserved
loop-run-preserved c =
    let told = c.args.told.now in
    let noted = c.note_uncounted-noted in
    record {
      setup = noted.ensures.setup ∙ c.loop-run.invariant.setup;
      told = told-more c.loop-run.belief noted.new.self noted.result told c.loop-run.run-index (record { position = 0; verdict = Pass })
          c.loop-run-test.true (subst (λ (s : Setup). LoadsFit s told) (sym c.loop-run.invariant.setup) c.requires.fit)
          (noted.ensures.over _ c.loop-run.invariant.told) (noted.ensures.counted _ c.loop-run.invariant.told);
    }
