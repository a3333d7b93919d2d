-- What is seen of the words that name something outside.
use Rattle.finder_words.specs.Words.{PlacesNamed}
use Rattle.finder_words.specs.declared.places.Named.{Named}

abbrev pub seen : Named → PlacesNamed
seen named = record { journal = named.journal.now; address = named.address.now; runner = named.runner.now }
