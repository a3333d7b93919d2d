use Rattle.http_requests.proofs.next.next_of.Given as goal

abbrev pub ghosts-next_on : goal.ghosts-next_on
ghosts-next_on a = record { name = a.blank.name; parts = a.blank.parts }
