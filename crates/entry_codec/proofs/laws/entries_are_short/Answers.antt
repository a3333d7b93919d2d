use Rattle.entry_codec.proofs.Sizes.{carried-length, entry-long, entry-short, founded-length, spelling-short}
use Rattle.entry_codec.proofs.laws.entries_are_short.Goals as goal

pub returns-clause-entry : goal.returns-clause-entry
returns-clause-entry c = λ entry spelled. (entry-long entry, entry-short entry spelled)

pub returns-clause-entries : goal.returns-clause-entries
returns-clause-entries c = spelling-short

pub returns-clause-founded : goal.returns-clause-founded
returns-clause-founded c = founded-length

pub returns-clause-carried : goal.returns-clause-carried
returns-clause-carried c = carried-length
