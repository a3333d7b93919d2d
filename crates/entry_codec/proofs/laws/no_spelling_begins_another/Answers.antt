use Rattle.entry_codec.proofs.ListLaws.{heads_agree, spelling-injective}
use Rattle.entry_codec.proofs.laws.no_spelling_begins_another.Goals as goal

pub returns-clause-entries : goal.returns-clause-entries
returns-clause-entries c = heads_agree

pub returns-clause-lists : goal.returns-clause-lists
returns-clause-lists c = spelling-injective
