-- What the rules ask of the fields of a head, and how it is gathered of some fields and of those behind them.
use Rattle.std.specs.Prelude.{ℕ, zero, suc, ◌≡◌, Bool, true, false, ◌||◌, List, [], ◌∷◌, length, codes}
use Rattle.http_requests.specs.FieldTexts.{FieldText, named_values, has_close, expects_continue, lists_close}
use Rattle.http_requests.specs.Lengths.{length_in, stated_length}
use Rattle.http_requests.specs.Texts.{same_text}
use Rattle.http_requests.specs.declared.lengths.StatedLength.{StatedLength}
use Rattle.http_requests.specs.declared.lengths.StatedLength.TheVariants.{Absent, Bytes, TooLong, Malformed}
use Rattle.http_requests.specs.Framing.{has_coding, has_origin}
use Rattle.http_requests.specs.declared.facts.Asked.{Asked}
use Rattle.http_requests.specs.declared.facts.Asked.TheVariants as asked
use Rattle.http_requests.specs.declared.facts.Facts.{Facts}
use Rattle.http_requests.specs.declared.facts.Seen.{Seen}
use Rattle.http_requests.specs.declared.facts.Seen.TheVariants as seen

-- how many these are
abbrev pub seen_of : ℕ → Seen
seen_of zero = seen.Never
seen_of (suc zero) = seen.Once
seen_of (suc (suc n)) = seen.Often

-- the facts of these fields
abbrev pub facts_of : List FieldText → Facts
facts_of fields = record {
  hosts = seen_of (length (named_values (codes "host") fields));
  origin = has_origin fields;
  coding = has_coding fields;
  stated = stated_length fields;
  expects = expects_continue fields;
  closes = has_close fields;
}

-- there is one
abbrev pub is_once : Seen → Bool
is_once seen.Never = false
is_once seen.Once = true
is_once seen.Often = false

-- how many there are of both
abbrev pub seen_both : Seen → Seen → Seen
seen_both seen.Never others = others
seen_both seen.Once seen.Never = seen.Once
seen_both seen.Once seen.Once = seen.Often
seen_both seen.Once seen.Often = seen.Often
seen_both seen.Often others = seen.Often

-- the length that is stated, where one is stated already
abbrev pub stated_again : StatedLength → StatedLength → StatedLength
stated_again some Absent = some
stated_again some (Bytes len) = Malformed
stated_again some TooLong = Malformed
stated_again some Malformed = Malformed

-- the length that some fields and others state together
abbrev pub stated_both : StatedLength → StatedLength → StatedLength
stated_both Absent others = others
stated_both (Bytes len) others = stated_again (Bytes len) others
stated_both TooLong others = stated_again TooLong others
stated_both Malformed others = stated_again Malformed others

-- the facts of some fields and of those behind them
abbrev pub joined : Facts → Facts → Facts
joined some others = record {
  hosts = seen_both some.hosts others.hosts;
  origin = some.origin || others.origin;
  coding = some.coding || others.coding;
  stated = stated_both some.stated others.stated;
  expects = some.expects || others.expects;
  closes = some.closes || others.closes;
}

-- these facts with a field of such a value, where this is asked of those that have its name
abbrev pub with_field : Asked → Facts → List ℕ → Facts
with_field asked.Nothing facts value = facts
with_field asked.Host facts value = record {
  hosts = seen_both facts.hosts seen.Once;
  origin = facts.origin;
  coding = facts.coding;
  stated = facts.stated;
  expects = facts.expects;
  closes = facts.closes;
}
with_field asked.Origin facts value = record {
  hosts = facts.hosts;
  origin = true;
  coding = facts.coding;
  stated = facts.stated;
  expects = facts.expects;
  closes = facts.closes;
}
with_field asked.Coding facts value = record {
  hosts = facts.hosts;
  origin = facts.origin;
  coding = true;
  stated = facts.stated;
  expects = facts.expects;
  closes = facts.closes;
}
with_field asked.Length facts value = record {
  hosts = facts.hosts;
  origin = facts.origin;
  coding = facts.coding;
  stated = stated_both facts.stated (length_in value);
  expects = facts.expects;
  closes = facts.closes;
}
with_field asked.Expect facts value = record {
  hosts = facts.hosts;
  origin = facts.origin;
  coding = facts.coding;
  stated = facts.stated;
  expects = facts.expects || same_text value (codes "100-continue");
  closes = facts.closes;
}
with_field asked.Connection facts value = record {
  hosts = facts.hosts;
  origin = facts.origin;
  coding = facts.coding;
  stated = facts.stated;
  expects = facts.expects;
  closes = facts.closes || lists_close value;
}

-- this is asked of the fields that have the name
abbrev pub IsAsked : Asked → List ℕ → Type 0
IsAsked asked name =
    (facts : Facts) (value : List ℕ) → joined facts (facts_of ((name, value) ∷ [])) ≡ with_field asked facts value
