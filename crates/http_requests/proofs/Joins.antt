-- The facts of fields, gathered of some and of those behind them.
use Rattle.std.proofs.Common.{ℕ, zero, suc, ◌≡◌, ◌≤◌, ◌<◌, drop, get_or, arith, Bool, true, false, cond, List, [], ◌∷◌, ◌++◌, length, map, filter, codes, refl, sym, ap, subst, ◌∙◌, nat_lt, ⊎_elim}
use Rattle.std.specs.Prelude.{◌||◌, ◌==◌, bytes_eq}
use Rattle.std.specs.List.{All, list_any}
use Rattle.std.specs.Char.{to_ascii_lowercase}
use Rattle.std.proofs.Math.Bool.{or-false, or-true}
use Rattle.std.proofs.lemmas.Bool.{cases_Bool, eqb-false, false≢true, ltb-false, lt-ltb}
use Rattle.std.proofs.lemmas.List.{length-map}
use Rattle.std.proofs.lemmas.Slice.Eq.{bytes_eq-Decides}
use Rattle.std.proofs.lemmas.List.Elements.{All-tail}
use Rattle.std.proofs.lemmas.List.Folds.{list_any-append}
use Rattle.http_words.specs.declared.limits.TheConstants.{MAX_BODY_BYTES}
use Rattle.http_requests.specs.FieldTexts.{FieldText, is_named, named_values, lists_close, has_close, expects_continue}
use Rattle.http_requests.specs.Lengths.{StatesWithin, length_by, length_in, stated_length}
use Rattle.http_requests.specs.Texts.{same_text}
use Rattle.http_requests.specs.declared.lengths.StatedLength.{StatedLength}
use Rattle.http_requests.specs.declared.lengths.StatedLength.TheVariants.{Absent, Bytes, TooLong, Malformed}
use Rattle.httparse.specs.Spans.{IsHeaderWithin, header_bytes}
use Rattle.httparse.specs.declared.spans.HeaderSpan.{HeaderSpan}
use Rattle.http_requests.specs.Facts.{IsAsked, facts_of, joined, seen_both, seen_of, stated_again, stated_both, with_field}
use Rattle.http_requests.specs.declared.facts.Asked.{Asked}
use Rattle.http_requests.specs.declared.facts.Asked.TheVariants as asked
use Rattle.http_requests.specs.declared.facts.Facts.{Facts}
use Rattle.http_requests.specs.declared.facts.Seen.{Seen}
use Rattle.http_requests.specs.declared.facts.Seen.TheVariants as seen

-- ---- joining facts

or-assoc : (a b c : Bool) → ((a || b) || c) ≡ (a || (b || c))
or-assoc true b c = refl
or-assoc false b c = refl

seen_both-assoc : (a b c : Seen) → seen_both (seen_both a b) c ≡ seen_both a (seen_both b c)
seen_both-assoc seen.Never b c = refl
seen_both-assoc seen.Often b c = refl
seen_both-assoc seen.Once seen.Never c = refl
seen_both-assoc seen.Once seen.Often c = refl
seen_both-assoc seen.Once seen.Once seen.Never = refl
seen_both-assoc seen.Once seen.Once seen.Once = refl
seen_both-assoc seen.Once seen.Once seen.Often = refl

seen_both-none : (a : Seen) → seen_both a seen.Never ≡ a
seen_both-none seen.Never = refl
seen_both-none seen.Once = refl
seen_both-none seen.Often = refl

-- what was stated twice stays malformed
again-malformed : (c : StatedLength) → stated_again Malformed c ≡ Malformed
again-malformed Absent = refl
again-malformed (Bytes n) = refl
again-malformed TooLong = refl
again-malformed Malformed = refl

again-again : (a b c : StatedLength) → ((d : StatedLength) → stated_again d b ≡ Malformed) → stated_again a (stated_again b c) ≡ Malformed
again-again a b Absent some = some a
again-again a b (Bytes n) some = refl
again-again a b TooLong some = refl
again-again a b Malformed some = refl

again-assoc : (a b c : StatedLength) → stated_both a c ≡ stated_again a c → stated_both (stated_again a b) c ≡ stated_again a (stated_both b c)
again-assoc a Absent c is = is
again-assoc a (Bytes n) c is = again-malformed c ∙ sym (again-again a (Bytes n) c (λ d. refl))
again-assoc a TooLong c is = again-malformed c ∙ sym (again-again a TooLong c (λ d. refl))
again-assoc a Malformed c is = again-malformed c ∙ sym (again-again a Malformed c (λ d. refl))

stated_both-assoc : (a b c : StatedLength) → stated_both (stated_both a b) c ≡ stated_both a (stated_both b c)
stated_both-assoc Absent b c = refl
stated_both-assoc (Bytes n) b c = again-assoc (Bytes n) b c refl
stated_both-assoc TooLong b c = again-assoc TooLong b c refl
stated_both-assoc Malformed b c = again-assoc Malformed b c refl

stated_both-absent : (a : StatedLength) → stated_both a Absent ≡ a
stated_both-absent Absent = refl
stated_both-absent (Bytes n) = refl
stated_both-absent TooLong = refl
stated_both-absent Malformed = refl

pub joined-assoc : (a b c : Facts) → joined (joined a b) c ≡ joined a (joined b c)
joined-assoc a b c = λ k. record {
  hosts = seen_both-assoc a.hosts b.hosts c.hosts k;
  origin = or-assoc a.origin b.origin c.origin k;
  coding = or-assoc a.coding b.coding c.coding k;
  stated = stated_both-assoc a.stated b.stated c.stated k;
  expects = or-assoc a.expects b.expects c.expects k;
  closes = or-assoc a.closes b.closes c.closes k;
}

pub facts-none : record {
  hosts = seen.Never;
  origin = false;
  coding = false;
  stated = Absent;
  expects = false;
  closes = false;
} ≡ facts_of []
unfolding has_close expects_continue stated_length
facts-none = refl

pub joined-none : (a : Facts) → joined a (facts_of []) ≡ a
unfolding has_close expects_continue stated_length
joined-none a = λ k. record {
  hosts = seen_both-none a.hosts k;
  origin = or-false a.origin k;
  coding = or-false a.coding k;
  stated = stated_both-absent a.stated k;
  expects = or-false a.expects k;
  closes = or-false a.closes k;
}

pub none-joined : (a : Facts) → joined (facts_of []) a ≡ a
unfolding has_close expects_continue stated_length
none-joined a = refl

-- ---- the facts of a field and of those behind it

named-cons : (name : List ℕ) (f : FieldText) (fields : List FieldText)
    → named_values name (f ∷ fields) ≡ named_values name (f ∷ []) ++ named_values name fields
named-cons name f fields =
    elim (is_named name f) as (λ b. map (λ (g : FieldText). g.1) (cond b (f ∷ filter (is_named name) fields) (filter (is_named name) fields))
    ≡ map (λ (g : FieldText). g.1) (cond b (f ∷ []) []) ++ named_values name fields) [
      | true ↦ refl
      | false ↦ refl
    ]

any-cons : (p : List ℕ → Bool) (name : List ℕ) (f : FieldText) (fields : List FieldText)
    → list_any p (named_values name (f ∷ fields)) ≡ (list_any p (named_values name (f ∷ [])) || list_any p (named_values name fields))
any-cons p name f fields =
    ap (list_any p) (named-cons name f fields) ∙ list_any-append p (named_values name (f ∷ [])) (named_values name fields)

once-more : (n : ℕ) → seen_of (suc n) ≡ seen_both seen.Once (seen_of n)
once-more zero = refl
once-more (suc zero) = refl
once-more (suc (suc n)) = refl

-- the length that one value states, by what is tested of it
abbrev stated_by : Bool → Bool → ℕ → StatedLength
stated_by malformed long n = cond malformed Malformed (cond long TooLong (Bytes n))

stated_by-again : (malformed long : Bool) (n : ℕ) (others : StatedLength)
    → stated_both (stated_by malformed long n) others ≡ stated_again (stated_by malformed long n) others
stated_by-again true long n others = refl
stated_by-again false true n others = refl
stated_by-again false false n others = refl

stated_by-twice : (malformed long : Bool) (n : ℕ) (some : StatedLength) → stated_again some (stated_by malformed long n) ≡ Malformed
stated_by-twice true long n some = refl
stated_by-twice false true n some = refl
stated_by-twice false false n some = refl

-- a stated length is not absent
length_in-again : (value : List ℕ) (others : StatedLength) → stated_both (length_in value) others ≡ stated_again (length_in value) others
length_in-again value others = stated_by-again _ _ _ others

length_in-twice : (value : List ℕ) (some : StatedLength) → stated_again some (length_in value) ≡ Malformed
length_in-twice value some = stated_by-twice _ _ _ some

length_by-cons : (value : List ℕ) (values : List (List ℕ)) → length_by (value ∷ values) ≡ stated_both (length_in value) (length_by values)
length_by-cons value [] = sym (stated_both-absent (length_in value))
length_by-cons value (second ∷ []) = sym (length_in-again value (length_in second) ∙ length_in-twice second (length_in value))
length_by-cons value (second ∷ third ∷ values) = sym (length_in-again value Malformed)

stated-cons : (f : FieldText) (fields : List FieldText) → stated_length (f ∷ fields) ≡ stated_both (stated_length (f ∷ [])) (stated_length fields)
unfolding stated_length
stated-cons f fields =
    let name = codes "content-length" in
    elim (is_named name f) as (λ b. length_by (map (λ (g : FieldText). g.1) (cond b (f ∷ filter (is_named name) fields) (filter (is_named name) fields)))
    ≡ stated_both (length_by (map (λ (g : FieldText). g.1) (cond b (f ∷ []) []))) (length_by (named_values name fields))) [
      | true ↦ length_by-cons f.1 (named_values name fields)
      | false ↦ refl
    ]

hosts-cons : (name : List ℕ) (f : FieldText) (fields : List FieldText)
    → seen_of (length (named_values name (f ∷ fields)))
    ≡ seen_both (seen_of (length (named_values name (f ∷ [])))) (seen_of (length (named_values name fields)))
hosts-cons name f fields =
    elim (is_named name f) as (λ b. seen_of (length (map (λ (g : FieldText). g.1) (cond b (f ∷ filter (is_named name) fields) (filter (is_named name) fields))))
    ≡ seen_both (seen_of (length (map (λ (g : FieldText). g.1) (cond b (f ∷ []) [])))) (seen_of (length (named_values name fields)))) [
      | true ↦ once-more (length (named_values name fields))
      | false ↦ refl
    ]

-- some fields have a name where one of the first or one of those behind has it
any_named-cons : (name : List ℕ) (f : FieldText) (fields : List FieldText)
    → nat_lt 0 (length (named_values name (f ∷ fields)))
    ≡ (nat_lt 0 (length (named_values name (f ∷ []))) || nat_lt 0 (length (named_values name fields)))
any_named-cons name f fields =
    elim (is_named name f) as (λ b. nat_lt 0 (length (map (λ (g : FieldText). g.1) (cond b (f ∷ filter (is_named name) fields) (filter (is_named name) fields))))
    ≡ (nat_lt 0 (length (map (λ (g : FieldText). g.1) (cond b (f ∷ []) [])))
    || nat_lt 0 (length (named_values name fields)))) [
      | true ↦ lt-ltb 0 (suc (length (named_values name fields))) (omega arith)
      | false ↦ refl
    ]

pub facts-cons : (f : FieldText) (fields : List FieldText) → facts_of (f ∷ fields) ≡ joined (facts_of (f ∷ [])) (facts_of fields)
unfolding has_close expects_continue
facts-cons f fields = λ k. record {
  hosts = hosts-cons (codes "host") f fields k;
  origin = any_named-cons (codes "origin") f fields k;
  coding = any_named-cons (codes "transfer-encoding") f fields k;
  stated = stated-cons f fields k;
  expects = any-cons (λ value. same_text value (codes "100-continue")) (codes "expect") f fields k;
  closes = any-cons lists_close (codes "connection") f fields k;
}

-- the facts so far and those of a field are those of both
pub facts-on : (facts : Facts) (f : FieldText) (fields all : List FieldText) → joined facts (facts_of (f ∷ fields)) ≡ facts_of all
    → joined (joined facts (facts_of (f ∷ []))) (facts_of fields) ≡ facts_of all
facts-on facts f fields all is =
    joined-assoc facts (facts_of (f ∷ [])) (facts_of fields) ∙ ap (joined facts) (sym (facts-cons f fields)) ∙ is

-- ---- what the facts say

stated_by-within : (malformed long : Bool) (n : ℕ) → (long ≡ false → n ≤ MAX_BODY_BYTES) → StatesWithin (stated_by malformed long n)
stated_by-within true long n fits = tt
stated_by-within false true n fits = tt
stated_by-within false false n fits = fits refl

is-within : (stated : StatedLength) (malformed long : Bool) (n : ℕ) → stated ≡ stated_by malformed long n → (long ≡ false → n ≤ MAX_BODY_BYTES)
    → StatesWithin stated
is-within stated malformed long n is fits = subst StatesWithin (sym is) (stated_by-within malformed long n fits)

length_in-within : (value : List ℕ) → StatesWithin (length_in value)
length_in-within value = is-within (length_in value) _ _ _ refl (λ fits. ltb-false _ _ fits)

length_by-within : (values : List (List ℕ)) → StatesWithin (length_by values)
length_by-within [] = tt
length_by-within (value ∷ []) = length_in-within value
length_by-within (value ∷ second ∷ values) = tt

pub facts-within : (facts : Facts) (fields : List FieldText) → facts ≡ facts_of fields → StatesWithin facts.stated
unfolding stated_length
facts-within facts fields is =
    subst (λ (f : Facts). StatesWithin f.stated) (sym is) (length_by-within (named_values (codes "content-length") fields))

-- ---- the first of some spans

-- the facts with those of the first field, and the fields behind it
pub on-first : (bytes : List ℕ) (facts now : Facts) (spans rest : List HeaderSpan) (d : HeaderSpan)
    (all : List FieldText) → 1 ≤ length spans
    → now ≡ joined facts (facts_of (header_bytes bytes (get_or spans 0 d) ∷ [])) → rest ≡ drop 1 spans
    → joined facts (facts_of (map (header_bytes bytes) spans)) ≡ facts_of all
    → joined now (facts_of (map (header_bytes bytes) rest)) ≡ facts_of all
on-first bytes facts now [] rest d all some reads behind is = absurd (omega (arith, some))
on-first bytes facts now (s ∷ spans) rest d all some reads behind is =
    ap (λ (f : Facts). joined f (facts_of (map (header_bytes bytes) rest))) reads
    ∙ ap
    (λ (l : List HeaderSpan).
    joined (joined facts (facts_of (header_bytes bytes s ∷ []))) (facts_of (map (header_bytes bytes) l)))
    behind
    ∙ facts-on facts (header_bytes bytes s) (map (header_bytes bytes) spans) all is

-- ---- the facts of one field

-- the values of a name among one field
abbrev pub one_named : Bool → List ℕ → List (List ℕ)
one_named true value = value ∷ []
one_named false value = []

named-one : (word name value : List ℕ) → named_values word ((name, value) ∷ []) ≡ one_named (same_text name word) value
named-one word name value =
    elim (same_text name word) as (λ b. map (λ (g : FieldText). g.1) (cond b ((name, value) ∷ []) []) ≡ one_named b value) [
      | true ↦ refl
      | false ↦ refl
    ]

-- what the values of a name come to, by whether the one field has it
named-by : {X : Type 0} (f : List (List ℕ) → X) (word name value : List ℕ) (b : Bool) → same_text name word ≡ b
    → f (named_values word ((name, value) ∷ [])) ≡ f (one_named b value)
named-by f word name value b tells = ap f (named-one word name value) ∙ ap (λ (t : Bool). f (one_named t value)) tells

-- the facts of one field, by which of the words is its name
abbrev one_facts : Bool → Bool → Bool → Bool → Bool → Bool → List ℕ → Facts
one_facts host origin coding stated expect connection value = record {
  hosts = seen_of (length (one_named host value));
  origin = nat_lt 0 (length (one_named origin value));
  coding = nat_lt 0 (length (one_named coding value));
  stated = length_by (one_named stated value);
  expects = list_any (λ text. same_text text (codes "100-continue")) (one_named expect value);
  closes = list_any lists_close (one_named connection value);
}

facts-one : (name value : List ℕ) (h o t l e c : Bool) → same_text name (codes "host") ≡ h
    → same_text name (codes "origin") ≡ o → same_text name (codes "transfer-encoding") ≡ t
    → same_text name (codes "content-length") ≡ l → same_text name (codes "expect") ≡ e
    → same_text name (codes "connection") ≡ c
    → facts_of ((name, value) ∷ []) ≡ one_facts h o t l e c value
unfolding has_close expects_continue stated_length
facts-one name value h o t l e c host origin coding stated expect connection = λ k. record {
  hosts = named-by (λ values. seen_of (length values)) (codes "host") name value h host k;
  origin = named-by (λ values. nat_lt 0 (length values)) (codes "origin") name value o origin k;
  coding = named-by (λ values. nat_lt 0 (length values)) (codes "transfer-encoding") name value t coding k;
  stated = named-by length_by (codes "content-length") name value l stated k;
  expects = named-by (list_any (λ text. same_text text (codes "100-continue"))) (codes "expect") name value e expect k;
  closes = named-by (list_any lists_close) (codes "connection") name value c connection k;
}

-- ---- what is asked of the fields of a name

-- texts of two lengths are two
other-length : (name word : List ℕ) → (length name ≡ length word → ⊥) → same_text name word ≡ false
unfolding same_text
other-length name word differ =
    ⊎_elim
    (λ (same : same_text name word ≡ true).
    let all = (bytes_eq-Decides (map to_ascii_lowercase name) (map to_ascii_lowercase word)).0 same in
    absurd (differ (sym (length-map name to_ascii_lowercase) ∙ ap length all ∙ length-map word to_ascii_lowercase)))
    (λ (other : same_text name word ≡ false). other)
    (cases_Bool (same_text name word))

-- the same, of a word whose length isn't this
not-word : (name word : List ℕ) (n : ℕ) → length name ≡ n → (length word == n) ≡ false → same_text name word ≡ false
not-word name word n is other = other-length name word (λ same. eqb-false (length word) n other (sym same ∙ is))

on-none : (facts : Facts) (value : List ℕ) → joined facts (one_facts false false false false false false value) ≡ facts
on-none facts value = λ k. record {
  hosts = seen_both-none facts.hosts k;
  origin = or-false facts.origin k;
  coding = or-false facts.coding k;
  stated = stated_both-absent facts.stated k;
  expects = or-false facts.expects k;
  closes = or-false facts.closes k;
}

on-host : (b : Bool) (facts : Facts) (value : List ℕ)
    → joined facts (one_facts b false false false false false value)
    ≡ with_field (cond b asked.Host asked.Nothing) facts value
on-host false facts value = on-none facts value
on-host true facts value = λ k. record {
  hosts = seen_both facts.hosts seen.Once;
  origin = or-false facts.origin k;
  coding = or-false facts.coding k;
  stated = stated_both-absent facts.stated k;
  expects = or-false facts.expects k;
  closes = or-false facts.closes k;
}

on-coding : (b : Bool) (facts : Facts) (value : List ℕ)
    → joined facts (one_facts false false b false false false value)
    ≡ with_field (cond b asked.Coding asked.Nothing) facts value
on-coding false facts value = on-none facts value
on-coding true facts value = λ k. record {
  hosts = seen_both-none facts.hosts k;
  origin = or-false facts.origin k;
  coding = or-true facts.coding k;
  stated = stated_both-absent facts.stated k;
  expects = or-false facts.expects k;
  closes = or-false facts.closes k;
}

on-length : (b : Bool) (facts : Facts) (value : List ℕ)
    → joined facts (one_facts false false false b false false value)
    ≡ with_field (cond b asked.Length asked.Nothing) facts value
on-length false facts value = on-none facts value
on-length true facts value = λ k. record {
  hosts = seen_both-none facts.hosts k;
  origin = or-false facts.origin k;
  coding = or-false facts.coding k;
  stated = stated_both facts.stated (length_in value);
  expects = or-false facts.expects k;
  closes = or-false facts.closes k;
}

-- a name that is one of two words isn't the other
on-six : (e o : Bool) → (e ≡ true → o ≡ false) → (facts : Facts) (value : List ℕ)
    → joined facts (one_facts false o false false e false value)
    ≡ with_field (cond e asked.Expect (cond o asked.Origin asked.Nothing)) facts value
on-six false false other facts value = on-none facts value
on-six false true other facts value = λ k. record {
  hosts = seen_both-none facts.hosts k;
  origin = or-true facts.origin k;
  coding = or-false facts.coding k;
  stated = stated_both-absent facts.stated k;
  expects = or-false facts.expects k;
  closes = or-false facts.closes k;
}
on-six true true other facts value = absurd (false≢true (sym (other refl)))
on-six true false other facts value = λ k. record {
  hosts = seen_both-none facts.hosts k;
  origin = or-false facts.origin k;
  coding = or-false facts.coding k;
  stated = stated_both-absent facts.stated k;
  expects = facts.expects || or-false (same_text value (codes "100-continue")) k;
  closes = or-false facts.closes k;
}

on-connection : (b : Bool) (facts : Facts) (value : List ℕ)
    → joined facts (one_facts false false false false false b value)
    ≡ with_field (cond b asked.Connection asked.Nothing) facts value
on-connection false facts value = on-none facts value
on-connection true facts value = λ k. record {
  hosts = seen_both-none facts.hosts k;
  origin = or-false facts.origin k;
  coding = or-false facts.coding k;
  stated = stated_both-absent facts.stated k;
  expects = or-false facts.expects k;
  closes = facts.closes || or-false (lists_close value) k;
}

-- what is asked by the facts of a field and by the word that its name may be
asked-by : (name : List ℕ) (r a : Asked) (some : List ℕ → Facts)
    → ((value : List ℕ) → facts_of ((name, value) ∷ []) ≡ some value)
    → ((facts : Facts) (value : List ℕ) → joined facts (some value) ≡ with_field a facts value) → r ≡ a → IsAsked r name
asked-by name r a some are on is facts value =
    ap (joined facts) (are value) ∙ on facts value ∙ ap (λ (x : Asked). with_field x facts value) (sym is)

pub asked-host : (name : List ℕ) (r : Asked) → length name ≡ 4
    → r ≡ cond (same_text name (codes "host")) asked.Host asked.Nothing → IsAsked r name
asked-host name r len =
    let b = same_text name (codes "host") in
    asked-by name r (cond b asked.Host asked.Nothing) (one_facts b false false false false false)
    (λ value. facts-one name value b false false false false false refl (not-word name _ 4 len refl)
    (not-word name _ 4 len refl) (not-word name _ 4 len refl)
    (not-word name _ 4 len refl) (not-word name _ 4 len refl))
    (on-host b)

pub asked-coding : (name : List ℕ) (r : Asked) → length name ≡ 17
    → r ≡ cond (same_text name (codes "transfer-encoding")) asked.Coding asked.Nothing → IsAsked r name
asked-coding name r len =
    let b = same_text name (codes "transfer-encoding") in
    asked-by name r (cond b asked.Coding asked.Nothing) (one_facts false false b false false false)
    (λ value. facts-one name value false false b false false false (not-word name _ 17 len refl)
    (not-word name _ 17 len refl) refl (not-word name _ 17 len refl)
    (not-word name _ 17 len refl) (not-word name _ 17 len refl))
    (on-coding b)

pub asked-length : (name : List ℕ) (r : Asked) → length name ≡ 14
    → r ≡ cond (same_text name (codes "content-length")) asked.Length asked.Nothing → IsAsked r name
asked-length name r len =
    let b = same_text name (codes "content-length") in
    asked-by name r (cond b asked.Length asked.Nothing) (one_facts false false false b false false)
    (λ value. facts-one name value false false false b false false (not-word name _ 14 len refl)
    (not-word name _ 14 len refl) (not-word name _ 14 len refl) refl
    (not-word name _ 14 len refl) (not-word name _ 14 len refl))
    (on-length b)

-- the two words of six letters are two
expect-not-origin : (name : List ℕ) → same_text name (codes "expect") ≡ true → same_text name (codes "origin") ≡ false
unfolding same_text
expect-not-origin name same =
    ap (λ (l : List ℕ). bytes_eq l (map to_ascii_lowercase (codes "origin")))
    ((bytes_eq-Decides (map to_ascii_lowercase name) (map to_ascii_lowercase (codes "expect"))).0 same)

pub asked-six : (name : List ℕ) (r : Asked) → length name ≡ 6
    → r ≡ cond (same_text name (codes "expect")) asked.Expect
    (cond (same_text name (codes "origin")) asked.Origin asked.Nothing) → IsAsked r name
asked-six name r len =
    let e = same_text name (codes "expect") in
    let o = same_text name (codes "origin") in
    asked-by name r (cond e asked.Expect (cond o asked.Origin asked.Nothing)) (one_facts false o false false e false)
    (λ value. facts-one name value false o false false e false (not-word name _ 6 len refl) refl
    (not-word name _ 6 len refl) (not-word name _ 6 len refl) refl (not-word name _ 6 len refl))
    (on-six e o (expect-not-origin name))

pub asked-connection : (name : List ℕ) (r : Asked) → length name ≡ 10
    → r ≡ cond (same_text name (codes "connection")) asked.Connection asked.Nothing → IsAsked r name
asked-connection name r len =
    let b = same_text name (codes "connection") in
    asked-by name r (cond b asked.Connection asked.Nothing) (one_facts false false false false false b)
    (λ value. facts-one name value false false false false false b (not-word name _ 10 len refl)
    (not-word name _ 10 len refl) (not-word name _ 10 len refl)
    (not-word name _ 10 len refl) (not-word name _ 10 len refl) refl)
    (on-connection b)

-- a name of another length
pub asked-nothing : (name : List ℕ) → (length name ≡ 4 → ⊥) → (length name ≡ 6 → ⊥) → (length name ≡ 10 → ⊥)
    → (length name ≡ 14 → ⊥)
    → (length name ≡ 17 → ⊥) → IsAsked asked.Nothing name
asked-nothing name four six ten fourteen seventeen =
    asked-by name asked.Nothing asked.Nothing (one_facts false false false false false false)
    (λ value. facts-one name value false false false false false false (other-length name _ four)
    (other-length name _ six) (other-length name _ seventeen)
    (other-length name _ fourteen) (other-length name _ six) (other-length name _ ten))
    on-none refl

pub all-gathered : (bytes : List ℕ) (facts : Facts) (spans : List HeaderSpan) (all : List FieldText) → length spans < 1
    → joined facts (facts_of (map (header_bytes bytes) spans)) ≡ facts_of all → facts ≡ facts_of all
all-gathered bytes facts [] all none is = sym (joined-none facts) ∙ is
all-gathered bytes facts (s ∷ spans) all none is = absurd (omega (arith, none))

pub rest-within : (n : ℕ) (spans : List HeaderSpan) → 1 ≤ length spans → All (IsHeaderWithin n) spans → All (IsHeaderWithin n) (drop 1 spans)
rest-within n [] some all = absurd (omega (arith, some))
rest-within n (s ∷ spans) some all = All-tail (IsHeaderWithin n) s spans all
