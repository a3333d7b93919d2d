-- How many entries and searches a legal history has.
use Rattle.std.proofs.Common.{◌≡◌, ◌≤◌, ◌<◌, ◌+◌, ℕ, true, false, List, [], ◌∷◌, ◌++◌, length, length-append, Option, None, ap, ◌∙◌, ⊎_elim, arith}
use Rattle.std.specs.List.{cons_option, filter_map}
use Rattle.std.proofs.lemmas.Bool.{cases_Bool}
use Rattle.farm_types.specs.declared.moment.Moment.{Moment}
use Rattle.farm_entry.specs.History.{is_closed, is_closing, opening_in, openings}
use Rattle.farm_entry.specs.Legal.{IsLegal}
use Rattle.farm_entry.specs.declared.entry.Entry.{Entry}
use Rattle.farm_entry.specs.declared.entry.What.{What}
use Rattle.farm_entry.specs.declared.entry.What.TheVariants.{Founded, Opened, Leased, Reported, Skipped, Cancelled, Ordered, Carried, Closed}
use Rattle.farm_entry.specs.declared.limits.TheConstants.{MAX_ENTRIES, MAX_SEARCHES}
use Rattle.farm_entry.proofs.Growing.{openings-grow, parts-grow}
use Rattle.farm_laws.proofs.Closings.{is_closed-parts}
use Rattle.farm_laws.proofs.EntryParts.{closing-is}
use Rattle.farm_laws.proofs.Induct.{each_legal}
use Rattle.farm_laws.proofs.Lists.{length-cons_option-le, length-filter_map-le}
use Rattle.farm_laws.proofs.Stepped.{KindFacts}

-- What isn't closed has at most a million entries, and with its closing a history has one more.

pub entries-unclosed : (H : List Entry) → IsLegal H → is_closed H ≡ false → length H ≤ MAX_ENTRIES
entries-unclosed =
    each_legal (λ (H : List Entry). is_closed H ≡ false → length H ≤ MAX_ENTRIES) (λ e founding unclosed. omega arith)
    (λ H e legal few step unclosed.
    let room : length H < MAX_ENTRIES = step.room (is_closed-parts H e unclosed).1 in
    omega (arith, length-append H (e ∷ [])))

pub entries-bounded : (H : List Entry) → IsLegal H → length H ≤ MAX_ENTRIES + 1
entries-bounded =
    each_legal (λ (H : List Entry). length H ≤ MAX_ENTRIES + 1) (λ e founding. omega arith)
    (λ H e legal few step.
    let before : length H ≤ MAX_ENTRIES = entries-unclosed H legal step.unclosed in
    omega (arith, length-append H (e ∷ [])))

-- An entry that closes a farm is none of the parts, so of these there are at most a million.

-- a part more, where there is room for it
part-room : {X : Type 0} (part : What → Option X) (w : What) (n : ℕ) → part Closed ≡ None → n ≤ MAX_ENTRIES →
    (is_closing w ≡ false → n < MAX_ENTRIES) → n + length (cons_option (part w) []) ≤ MAX_ENTRIES
part-room part w n none few room =
    ⊎_elim
    (λ (closes : is_closing w ≡ true).
    let nothing : part w ≡ None = ap part (closing-is w closes) ∙ none in
    let empty : length (cons_option (part w) []) ≡ 0 = ap (λ (o : Option _). length (cons_option o [])) nothing in
    omega arith)
    (λ (goes : is_closing w ≡ false).
    let below : n < MAX_ENTRIES = room goes in
    let one : length (cons_option (part w) []) ≤ 1 = length-cons_option-le (part w) in
    omega arith)
    (cases_Bool (is_closing w))

pub parts-bounded : {X : Type 0} (part : What → Option X) (H : List Entry) → part Closed ≡ None → IsLegal H →
    length (filter_map (λ (e : Entry). part e.what) H) ≤ MAX_ENTRIES
parts-bounded part H none =
    each_legal (λ (G : List Entry). length (filter_map (λ (e : Entry). part e.what) G) ≤ MAX_ENTRIES)
    (λ e founding.
    let one : length (cons_option (part e.what) []) ≤ 1 = length-cons_option-le (part e.what) in omega arith)
    (λ G e legal few step.
    let there = filter_map (λ (x : Entry). part x.what) G in
    let as_entries : length there ≤ length G = length-filter_map-le (λ (x : Entry). part x.what) G in
    let room : length there + length (cons_option (part e.what) []) ≤ MAX_ENTRIES =
    part-room part e.what (length there) none few
    (λ goes. let below : length G < MAX_ENTRIES = step.room goes in omega arith) in
    let longer : length (filter_map (λ (x : Entry). part x.what) (G ++ e ∷ []))
    ≡ length there + length (cons_option (part e.what) []) =
    ap length (parts-grow part G e) ∙ length-append there (cons_option (part e.what) []) in
    omega arith)
    H

-- a search that is opened has room, and other entries open none
openings-room : (H : List Entry) (m : Moment) (what : What) → KindFacts H m what → length (openings H) ≤ MAX_SEARCHES →
    length (openings H) + length (cons_option (opening_in what) []) ≤ MAX_SEARCHES
openings-room H m (Founded settings) facts few = omega arith
openings-room H m (Opened o) facts few = let room : length (openings H) < MAX_SEARCHES = facts.few in omega arith
openings-room H m (Leased key worker run search stage position deadline) facts few = omega arith
openings-room H m (Reported run verdict _) facts few = omega arith
openings-room H m (Skipped run _) facts few = omega arith
openings-room H m (Cancelled key search) facts few = omega arith
openings-room H m (Ordered key agent order commit search day) facts few = omega arith
openings-room H m (Carried c t) facts few = omega arith
openings-room H m Closed facts few = omega arith

pub openings-bounded : (H : List Entry) → IsLegal H → length (openings H) ≤ MAX_SEARCHES
openings-bounded =
    each_legal (λ (H : List Entry). length (openings H) ≤ MAX_SEARCHES)
    (λ e founding.
    let one : length (cons_option (opening_in e.what) []) ≤ 1 = length-cons_option-le (opening_in e.what) in omega arith)
    (λ H e legal few step.
    let room : length (openings H) + length (cons_option (opening_in e.what) []) ≤ MAX_SEARCHES = openings-room H e.at e.what step.facts few in
    let longer : length (openings (H ++ e ∷ [])) ≡ length (openings H) + length (cons_option (opening_in e.what) []) =
    ap length (openings-grow H e) ∙ length-append (openings H) (cons_option (opening_in e.what) []) in
    omega arith)
