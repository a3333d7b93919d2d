use Rattle.http_exchange.proofs.sending.send_once.Goals as goal

pub returns-clause-sends : goal.returns-clause-sends
returns-clause-sends g c =
    let told = c.in_ok-came.ensures.told in
    (record { exchange = told.0; answer = c.in_ok-came.came }, told.1, told.2, c.outcome_of.ensures)
