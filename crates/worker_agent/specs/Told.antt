-- What the network, the runner and the source of keys tell of a worker's steps.
use Rattle.std.specs.Prelude.{List, [], ◌∷◌, Option}
use Rattle.farm_types.specs.declared.key.Key.{Key}
use Rattle.http_exchange.specs.Exchanges.{Exchange, exchange_events, tell_all}
use Rattle.link_io.specs.Telling.{add_told}
use Rattle.link_io.specs.Events.{NetworkEvent}
use Rattle.worker_core.specs.Runs.{Asked}
use Rattle.worker_agent.specs.Steps.{Step, drew, ran, sent}

-- what they have told so far, where they tell
pub record Told : Type 0 where
  pub network : Option (List NetworkEvent)
  pub runner : Option (List Asked)
  pub keys : Option (List Key)

abbrev pub told_exchange : Exchange → Told → Told
told_exchange x told = record told { network = tell_all (exchange_events x) told.network }

-- one step more
abbrev pub told_step : Step → Told → Told
told_step (drew key) told = record told { keys = add_told key told.keys }
told_step (sent t) told = told_exchange t.exchange told
told_step (ran asked) told = record told { runner = add_told asked told.runner }

-- several steps more
abbrev pub told_steps : List Step → Told → Told
told_steps [] told = told
told_steps (step ∷ steps) told = told_steps steps (told_step step told)
