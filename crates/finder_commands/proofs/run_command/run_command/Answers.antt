use Rattle.finder_commands.proofs.run_command.run_command.Goals as goal

pub returns-clause-ends : goal.returns-clause-ends
returns-clause-ends g c = (
  c.memory_settings.result,
  c.memory_moment.result,
  record {
    lease = c.memory_settings.ensures.lease;
    daily = c.memory_settings.ensures.daily;
    zone = c.memory_settings.ensures.zone;
    moment = c.memory_moment.ensures;
  },
  (c.run_founded-end.result, c.status_of_script.ensures, c.run_founded-end.ensures.ends),
)

pub returns-clause-completes : goal.returns-clause-completes
returns-clause-completes g c =
    (c.run_founded-end.result, c.status_of_script.ensures, c.run_founded-end.ensures.completes)
