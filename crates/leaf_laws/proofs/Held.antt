-- The entry at the place of a key or of a report, and whether it is what a command asks for.
use Rattle.std.proofs.Common.{◌≡◌, ℕ, Bool, true, List, [], ◌∷◌, slice_get, position, get_or, Option, Some, None, Result, Ok, Err, refl, sym, ap, subst, ◌∙◌, true≢false}
use Rattle.std.proofs.lemmas.Bool.Decides.{Decides-eqb}
use Rattle.std.proofs.lemmas.List.Quantifiers.{position-Some}
use Rattle.std.proofs.lemmas.Option.{none-some, same_Some, slice_get-get_or}
use Rattle.std.proofs.lemmas.Slice.Eq.{bytes_eq-Decides}
use Rattle.farm_types.specs.declared.key.Key.{Key}
use Rattle.farm_entry.specs.Ask.{asked_bar, asked_miss, asked_range, asked_rate, asked_reruns, asked_width, opening_of}
use Rattle.farm_entry.specs.Decision.{asks_for, key_of, makes_opening}
use Rattle.farm_entry.specs.History.{has_key, is_key, is_of_run, is_report_of, key_in, place_of_key, place_of_report, told_in}
use Rattle.farm_entry.specs.Legal.{IsLegal, ask_of, command_of}
use Rattle.farm_entry.specs.declared.command.Command.{Command}
use Rattle.farm_entry.specs.declared.command.Command.TheVariants as command
use Rattle.farm_entry.specs.declared.command.OpenAsk.{OpenAsk}
use Rattle.farm_entry.specs.declared.entry.Entry.{Entry}
use Rattle.farm_entry.specs.declared.entry.What.{What}
use Rattle.farm_entry.specs.declared.entry.What.TheVariants.{Founded, Opened, Leased, Reported, Skipped, Cancelled, Ordered, Carried, Closed}
use Rattle.farm_entry.specs.declared.opening.Opening.{Opening}
use Rattle.farm_entry.specs.declared.refusal.OpenFault.{OpenFault}
use Rattle.farm_laws.proofs.Again.{all_there, under}
use Rattle.farm_laws.proofs.Made.{is_made}
use Rattle.farm_laws.proofs.Repeats.{Placed, all-placed, same_text}
use Rattle.farm_laws.proofs.SameEntries.{same_opening-Decides}
use Rattle.leaf_laws.specs.Causes.{AsksTheSame, IsWhat, run_told}

-- The entry at a place.

-- an entry stands at a place
pub record StandsAt (H : List Entry) (place : ℕ) (P : Entry → Type 0) : Type 0 where
  pub entry : Entry
  pub there : slice_get H place ≡ Some entry
  pub is : P entry

-- of a list without entries there is no place
place-nil : (test : Entry → Bool) (place : ℕ) → position test [] ≡ Some place → ⊥
place-nil test place h = none-some place h

found-at : (test : Entry → Bool) (e : Entry) (H : List Entry) (place : ℕ) → position test (e ∷ H) ≡ Some place →
    StandsAt (e ∷ H) place (λ (x : Entry). test x ≡ true)
found-at test e H place h =
    let at = position-Some test (e ∷ H) place e h in
    record { entry = get_or (e ∷ H) place e; there = slice_get-get_or (e ∷ H) place e at.0; is = at.1 }

-- the first place at which a test passes holds an entry that passes
stands-at : (test : Entry → Bool) (H : List Entry) (place : ℕ) → position test H ≡ Some place →
    StandsAt H place (λ (x : Entry). test x ≡ true)
stands-at test [] place h = absurd (place-nil test place h)
stands-at test (e ∷ H) place h = found-at test e H place h

-- a key that is there
key-is : (key : Key) (o : Option Key) → is_key key o ≡ true → o ≡ Some key
key-is key None h = absurd (true≢false (sym h))
key-is key (Some other) h =
    let number : other.0 ≡ key.0 = (Decides-eqb other.0 key.0).0 h in
    let same : other ≡ key = λ i. record { 0 = number i } in
    ap Some same

pub at-key : (H : List Entry) (key : Key) (place : ℕ) → place_of_key H key ≡ Some place →
    StandsAt H place (λ (e : Entry). key_in e.what ≡ Some key)
at-key H key place h =
    let at = stands-at (has_key key) H place h in
    record { entry = at.entry; there = at.there; is = key-is key (key_in at.entry.what) at.is }

-- the run of a report that is there
run-is : (run : ℕ) (o : Option ℕ) → is_of_run run o ≡ true → o ≡ Some run
run-is run None h = absurd (true≢false (sym h))
run-is run (Some other) h = ap Some ((Decides-eqb other run).0 h)

pub at-report : (H : List Entry) (run : ℕ) (place : ℕ) → place_of_report H run ≡ Some place →
    StandsAt H place (λ (e : Entry). told_in e.what ≡ Some run)
at-report H run place h =
    let at = stands-at (is_report_of run) H place h in
    record { entry = at.entry; there = at.there; is = run-is run (told_in at.entry.what) at.is }

-- the command that a report names reports the run
pub report-named : (run : ℕ) (what : What) (q : Command) → told_in what ≡ Some run → run_told q ≡ Some run →
    (p : Command) × (command_of what ≡ Some p) × AsksTheSame p q
report-named run (Reported r verdict _) q h says =
    (command.Report r verdict, refl, says ∙ sym h)
report-named run (Skipped r _) q h says = (command.Skip r, refl, says ∙ sym h)
report-named run (Founded settings) q h says = absurd (none-some run h)
report-named run (Opened o) q h says = absurd (none-some run h)
report-named run (Leased key worker r search stage position deadline) q h says = absurd (none-some run h)
report-named run (Cancelled key search) q h says = absurd (none-some run h)
report-named run (Ordered key agent order commit search day) q h says = absurd (none-some run h)
report-named run (Carried c t) q h says = absurd (none-some run h)
report-named run Closed q h says = absurd (none-some run h)

-- What an entry is.

-- what is made under one number is made under each, and is the same but for it
pub made_under : (ask : OpenAsk) (search number : ℕ) (o : Opening) → opening_of ask search ≡ Ok o →
    opening_of ask number ≡ Ok (under o number)
made_under ask search number o h =
    let made = is_made ask search o h in
    let same_key : ask.key ≡ o.key = made.key in
    let same_test : ask.test ≡ o.test = made.test in
    all_there ask.key ask.test number o (asked_range ask) (asked_rate ask) (asked_miss ask) (asked_bar ask)
    (asked_width ask) (asked_reruns ask)
    made.range made.rate made.miss made.bar made.width made.reruns
    ∙ (λ i. Ok (record {
      key = same_key i;
      search = number;
      test = same_test i;
      range = o.range;
      rate = o.rate;
      miss = o.miss;
      bar = o.bar;
      width = o.width;
      reruns = o.reruns;
    }))

-- an opening that a legal history holds is made by its own open
pub own-open : (H : List Entry) (place : ℕ) (e : Entry) (o : Opening) → IsLegal H → slice_get H place ≡ Some e →
    e.what ≡ Opened o →
    opening_of (ask_of o) o.search ≡ Ok o
own-open H place e o legal there is =
    let placed = all-placed H legal place e there in
    let p : Placed H place (Opened o) = subst (Placed H place) is placed in
    p.made o refl

makes-same : (o : Opening) (r : Result Opening OpenFault) → makes_opening o r ≡ true → r ≡ Ok o
makes-same o (Ok made) h = ap Ok ((same_opening-Decides made o).0 h)
makes-same o (Err f) h = absurd (true≢false (sym h))

pub ok-same : (r : Result Opening OpenFault) (a b : Opening) → r ≡ Ok a → r ≡ Ok b → a ≡ b
ok-same r a b h k = cc

-- an open that an opening is what it asks for asks for the same as the opening's own
open-asks : (o : Opening) (ask : OpenAsk) → opening_of (ask_of o) o.search ≡ Ok o →
    makes_opening o (opening_of ask o.search) ≡ true →
    AsksTheSame (command.Open (ask_of o)) (command.Open ask)
open-asks o ask own h =
    let made = makes-same o (opening_of ask o.search) h in
    (ask, refl, under o 0, made_under (ask_of o) o.search 0 o own, made_under ask o.search 0 o made)

-- and back
asks-open : (o x : Opening) (ask : OpenAsk) → opening_of (ask_of o) o.search ≡ Ok o →
    opening_of (ask_of o) 0 ≡ Ok x → opening_of ask 0 ≡ Ok x →
    makes_opening o (opening_of ask o.search) ≡ true
asks-open o x ask own mine other =
    let same : under o 0 ≡ x =
    ok-same (opening_of (ask_of o) 0) (under o 0) x (made_under (ask_of o) o.search 0 o own) mine in
    let made : opening_of ask o.search ≡ Ok (under x o.search) = made_under ask 0 o.search x other in
    let again : opening_of ask o.search ≡ Ok o = made ∙ ap (λ (y : Opening). Ok (under y o.search)) (sym same) in
    ap (makes_opening o) again ∙ (same_opening-Decides o o).1 refl

-- what an entry records is what a command asks for, where both hold one key
asked-as : (what : What) (q : Command) (key : Key) → ((o : Opening) → what ≡ Opened o →
    opening_of (ask_of o) o.search ≡ Ok o) →
    key_in what ≡ Some key → key_of q ≡ Some key → asks_for what q ≡ true →
    (p : Command) × (command_of what ≡ Some p) × AsksTheSame p q
asked-as (Opened o) (command.Open ask) key own holds keyed asks =
    (command.Open (ask_of o), refl, open-asks o ask (own o refl) asks)
asked-as (Leased k worker run search stage position deadline) (command.Lease k' worker') key own holds keyed asks =
    let same_key : k ≡ k' = same_Some k k' (holds ∙ sym keyed) in
    let same : worker ≡ worker' = (bytes_eq-Decides worker worker').0 asks in
    (command.Lease k worker, refl, cc)
asked-as (Cancelled k search) (command.Cancel k' search') key own holds keyed asks =
    let same_key : k ≡ k' = same_Some k k' (holds ∙ sym keyed) in
    let same : search ≡ search' = (Decides-eqb search search').0 asks in
    (command.Cancel k search, refl, cc)
asked-as (Ordered k agent order commit search day) (command.TakeRevert k' agent') key own holds keyed asks =
    let same_key : k ≡ k' = same_Some k k' (holds ∙ sym keyed) in
    let same : agent ≡ agent' = (bytes_eq-Decides agent agent').0 asks in
    (command.TakeRevert k agent, refl, cc)
asked-as what q key own holds keyed asks = absurd (true≢false (sym asks))

pub asked-what : (H : List Entry) (place : ℕ) (e : Entry) (q : Command) (key : Key) → IsLegal H →
    slice_get H place ≡ Some e →
    key_in e.what ≡ Some key → key_of q ≡ Some key → asks_for e.what q ≡ true → IsWhat e q
asked-what H place e q key legal there holds keyed asks =
    asked-as e.what q key (λ o holds_it. own-open H place e o legal there holds_it) holds keyed asks

-- and back: what names a command that asks for the same is what is asked for
what-as : (what : What) (p q : Command) (key : Key) → ((o : Opening) → what ≡ Opened o →
    opening_of (ask_of o) o.search ≡ Ok o) →
    key_in what ≡ Some key → command_of what ≡ Some p → AsksTheSame p q → asks_for what q ≡ true
what-as (Founded settings) p q key own holds names same = absurd (none-some key holds)
what-as (Opened o) p q key own holds names same =
    let first : p ≡ command.Open (ask_of o) = sym (same_Some (command.Open (ask_of o)) p names) in
    let here : AsksTheSame (command.Open (ask_of o)) q = subst (λ (x : Command). AsksTheSame x q) first same in
    subst (λ (x : Command). asks_for (Opened o) x ≡ true) (sym here.1)
    (asks-open o here.2 here.0 (own o refl) here.3 here.4)
what-as (Leased k worker run search stage position deadline) p q key own holds names same =
    let first : p ≡ command.Lease k worker = sym (same_Some (command.Lease k worker) p names) in
    let here : command.Lease k worker ≡ q = subst (λ (x : Command). AsksTheSame x q) first same in
    subst (λ (x : Command). asks_for (Leased k worker run search stage position deadline) x ≡ true) here
    (same_text worker)
what-as (Reported run verdict _) p q key own holds names same = absurd (none-some key holds)
what-as (Skipped run _) p q key own holds names same = absurd (none-some key holds)
what-as (Cancelled k search) p q key own holds names same =
    let first : p ≡ command.Cancel k search = sym (same_Some (command.Cancel k search) p names) in
    let here : command.Cancel k search ≡ q = subst (λ (x : Command). AsksTheSame x q) first same in
    subst (λ (x : Command). asks_for (Cancelled k search) x ≡ true) here ((Decides-eqb search search).1 refl)
what-as (Ordered k agent order commit search day) p q key own holds names same =
    let first : p ≡ command.TakeRevert k agent = sym (same_Some (command.TakeRevert k agent) p names) in
    let here : command.TakeRevert k agent ≡ q = subst (λ (x : Command). AsksTheSame x q) first same in
    subst (λ (x : Command). asks_for (Ordered k agent order commit search day) x ≡ true) here (same_text agent)
what-as (Carried c t) p q key own holds names same = absurd (none-some key holds)
what-as Closed p q key own holds names same = absurd (none-some key holds)

pub what-asked : (H : List Entry) (place : ℕ) (e : Entry) (q : Command) (key : Key) → IsLegal H →
    slice_get H place ≡ Some e →
    key_in e.what ≡ Some key → IsWhat e q → asks_for e.what q ≡ true
what-asked H place e q key legal there holds is =
    what-as e.what is.0 q key (λ o holds_it. own-open H place e o legal there holds_it) holds is.1 is.2
