use Rattle.std.proofs.Common.{length, ap, arith}
use Rattle.farm_types.specs.declared.stage.Stage.TheVariants.{Search, Verify}
use Rattle.plain_farm.proofs.Few.{few_counted, few_of_search}
use Rattle.plain_farm.proofs.Histories.{opened_miss}
use Rattle.plain_farm.proofs.pages.page_of.Goals as goal

pub budget-requires : goal.budget-requires
budget-requires c = record { told = opened_miss c.args.history.now c.args.opening.now c.requires.legal c.requires.opened }

pub overflow_cast-result : goal.overflow_cast-result
overflow_cast-result c =
    omega (arith, c.len.ensures, ap length c.in_ok-leases.ensures, few_of_search c.args.history.now c.args.opening.now.search c.requires.legal)

pub overflow_cast-result-2 : goal.overflow_cast-result-2
overflow_cast-result-2 c =
    omega (arith, c.len-2.ensures, ap length c.in_ok-runs.ensures, few_counted c.args.history.now c.args.opening.now.search Search c.requires.legal)

pub overflow_cast-result-3 : goal.overflow_cast-result-3
overflow_cast-result-3 c =
    omega (arith, c.len-3.ensures, ap length c.in_ok-reruns.ensures, few_counted c.args.history.now c.args.opening.now.search Verify c.requires.legal)
