use Rattle.farm_http.proofs.BatchSteps.{same-holding}
use Rattle.farm_http.proofs.log_page.page_text.Goals as goal

pub returns-clause-holds : goal.returns-clause-holds
returns-clause-holds g c =
    same-holding c.args.pass.now c.tail-page.new.pass c.tail-page.ensures.mine c.tail-page.ensures.look.stake
