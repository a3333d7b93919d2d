use Rattle.farm_board.proofs.board.Board.post.Given as goal

abbrev pub ghosts-write : goal.ghosts-write
ghosts-write a = record { entries = a.history.now }
