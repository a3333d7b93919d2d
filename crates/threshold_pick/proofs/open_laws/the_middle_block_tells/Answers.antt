use Rattle.threshold_pick.proofs.HiddenBlocks.{IsHidden-from_test, is_hidden-from_IsHidden, is_hidden-none_open, is_hidden-nothing_skipped}
use Rattle.threshold_pick.proofs.open_laws.the_middle_block_tells.Goals as goal

pub returns-clause-hides : goal.returns-clause-hides
returns-clause-hides c = IsHidden-from_test

pub returns-clause-hidden : goal.returns-clause-hidden
returns-clause-hidden c = is_hidden-from_IsHidden

pub returns-clause-all_skipped : goal.returns-clause-all_skipped
returns-clause-all_skipped c = is_hidden-none_open

pub returns-clause-none_skipped : goal.returns-clause-none_skipped
returns-clause-none_skipped c = is_hidden-nothing_skipped
