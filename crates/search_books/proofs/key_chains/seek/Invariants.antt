use Rattle.std.proofs.Common.{length}
use Rattle.search_books.specs.Bucket.{home_of}
use Rattle.search_books.proofs.KeyWalks.{IsSought}
use Rattle.search_books.proofs.key_chains.seek.Given as goal

abbrev pub invariant-loop-at : goal.invariant-loop-at
invariant-loop-at l = IsSought l.key (home_of (length l.heads) l.key) l.heads l.items l.at

abbrev pub decreases-loop-at : goal.decreases-loop-at
decreases-loop-at l = l.at
