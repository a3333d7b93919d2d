-- Commands that ask for the same as one that is repeated.
use Rattle.std.proofs.Common.{◌≡◌, ℕ, true, false, List, Option, Some, None, Ok, refl, sym, ap, subst, ◌∙◌, true≢false}
use Rattle.std.specs.Option.{ok_or, option_and_then}
use Rattle.std.proofs.lemmas.Option.{none-some}
use Rattle.flake_rate.specs.declared.miss.Miss.{Miss}
use Rattle.flake_rate.specs.declared.rate.Rate.{Rate}
use Rattle.farm_types.specs.declared.moment.Moment.{Moment}
use Rattle.farm_entry.specs.Ask.{asked_bar, asked_miss, asked_range, asked_rate, asked_reruns, asked_width, fitting, miss_of, opening_of, rate_of}
use Rattle.farm_entry.specs.Decision.{decide}
use Rattle.farm_entry.specs.Legal.{IsLegal}
use Rattle.farm_entry.specs.declared.command.Command.{Command}
use Rattle.farm_entry.specs.declared.command.Command.TheVariants as command
use Rattle.farm_entry.specs.declared.command.OpenAsk.{OpenAsk}
use Rattle.farm_entry.specs.declared.decision.Decision.TheVariants.{Repeat}
use Rattle.farm_entry.specs.declared.entry.Entry.{Entry}
use Rattle.farm_entry.specs.declared.opening.Opening.{Opening}
use Rattle.farm_entry.specs.declared.refusal.OpenFault.{OpenFault}
use Rattle.farm_entry.specs.declared.refusal.OpenFault.TheVariants as fault
use Rattle.farm_laws.proofs.Again.{all_there}
use Rattle.farm_laws.proofs.Fractions.{miss-same, rate-same}
use Rattle.farm_laws.proofs.Made.{is_made}
use Rattle.leaf_laws.specs.Causes.{AsksTheSame, run_told}
use Rattle.leaf_laws.specs.Spelled.{IsSpelledOtherwise}
use Rattle.leaf_laws.proofs.Caused.{held-repeated, open-formed, repeated-held}
use Rattle.leaf_laws.proofs.Held.{ok-same}

-- what asks for the same as a report of a run is a report of it
told-through : (b c : Command) (run : ℕ) → run_told b ≡ Some run → AsksTheSame b c → run_told c ≡ Some run
told-through (command.Report r verdict) c run first second = second ∙ first
told-through (command.Skip r) c run first second = second ∙ first
told-through (command.Open ask) c run first second = absurd (none-some run first)
told-through (command.Lease key worker) c run first second = absurd (none-some run first)
told-through (command.Cancel key search) c run first second = absurd (none-some run first)
told-through (command.TakeRevert key agent) c run first second = absurd (none-some run first)
told-through (command.ShowSearch search) c run first second = absurd (none-some run first)
told-through command.ShowFarm c run first second = absurd (none-some run first)
told-through command.ShowOrders c run first second = absurd (none-some run first)
told-through (command.ShowRuns search from) c run first second = absurd (none-some run first)
told-through (command.ShowSearches from) c run first second = absurd (none-some run first)

-- and back: two reports of a run ask for the same
pub both-told : (q p : Command) (run : ℕ) → run_told q ≡ Some run → run_told p ≡ Some run → AsksTheSame q p
both-told (command.Report r verdict) p run first second = second ∙ sym first
both-told (command.Skip r) p run first second = second ∙ sym first
both-told (command.Open ask) p run first second = absurd (none-some run first)
both-told (command.Lease key worker) p run first second = absurd (none-some run first)
both-told (command.Cancel key search) p run first second = absurd (none-some run first)
both-told (command.TakeRevert key agent) p run first second = absurd (none-some run first)
both-told (command.ShowSearch search) p run first second = absurd (none-some run first)
both-told command.ShowFarm p run first second = absurd (none-some run first)
both-told command.ShowOrders p run first second = absurd (none-some run first)
both-told (command.ShowRuns search from) p run first second = absurd (none-some run first)
both-told (command.ShowSearches from) p run first second = absurd (none-some run first)

-- what asks for the same as a command that asks for the same asks for the same
asks-through : (a b c : Command) → AsksTheSame a b → AsksTheSame b c → AsksTheSame a c
asks-through (command.Open ask) b c first second =
    let here : AsksTheSame (command.Open first.0) c = subst (λ (x : Command). AsksTheSame x c) first.1 second in
    let same : first.2 ≡ here.2 = ok-same (opening_of first.0 0) first.2 here.2 first.4 here.3 in
    (here.0, here.1, first.2, first.3, here.4 ∙ ap Ok (sym same))
asks-through (command.Report run verdict) b c first second = told-through b c run first second
asks-through (command.Skip run) b c first second = told-through b c run first second
asks-through (command.Lease key worker) b c first second = subst (λ (x : Command). AsksTheSame x c) (sym first) second
asks-through (command.Cancel key search) b c first second = subst (λ (x : Command). AsksTheSame x c) (sym first) second
asks-through (command.TakeRevert key agent) b c first second =
    subst (λ (x : Command). AsksTheSame x c) (sym first) second
asks-through (command.ShowSearch search) b c first second = subst (λ (x : Command). AsksTheSame x c) (sym first) second
asks-through command.ShowFarm b c first second = subst (λ (x : Command). AsksTheSame x c) (sym first) second
asks-through command.ShowOrders b c first second = subst (λ (x : Command). AsksTheSame x c) (sym first) second
asks-through (command.ShowRuns search from) b c first second =
    subst (λ (x : Command). AsksTheSame x c) (sym first) second
asks-through (command.ShowSearches from) b c first second = subst (λ (x : Command). AsksTheSame x c) (sym first) second

pub same-repeated : (H : List Entry) (q p : Command) (m n : Moment) (place : ℕ) → IsLegal H → AsksTheSame q p →
    decide H q m ≡ Repeat place → decide H p n ≡ Repeat place
same-repeated H q p m n place legal asks h =
    let held = repeated-held H q m place legal h in
    let is = held.2 in
    held-repeated H p n place legal (held.0, held.1, (is.0, is.1, asks-through is.0 q p is.2 asks))

-- An open with its rates spelled otherwise.

ok-some : {X : Type 0} (x : Option X) (f : OpenFault) (y : X) → ok_or x f ≡ Ok y → x ≡ Some y
ok-some None f y h = let b : true ≡ false = cc in absurd (true≢false b)
ok-some (Some z) f y h = ap Some cc

respelled_by : (ask : OpenAsk) (rate miss : ℕ × ℕ) (o : Opening) →
    rate_of rate.0 rate.1 ≡ rate_of ask.rate.0 ask.rate.1 →
    miss_of miss.0 miss.1 ≡ miss_of ask.miss.0 ask.miss.1 → opening_of ask 0 ≡ Ok o →
    opening_of (record ask { rate = rate; miss = miss }) 0 ≡ Ok o
respelled_by ask rate miss o rates misses h =
    let other : OpenAsk = record ask { rate = rate; miss = miss } in
    let made = is_made ask 0 o h in
    let no_rate : OpenFault = fault.Rate (record { a = rate.0; b = rate.1 }) in
    let no_miss : OpenFault = fault.Miss (record { c = miss.0; d = miss.1 }) in
    let told : rate_of ask.rate.0 ask.rate.1 ≡ Some o.rate =
    ok-some (rate_of ask.rate.0 ask.rate.1) _ o.rate made.rate in
    let missed : option_and_then (fitting o.rate) (miss_of ask.miss.0 ask.miss.1) ≡ Some o.miss =
    ok-some (option_and_then (fitting o.rate) (miss_of ask.miss.0 ask.miss.1)) _ o.miss made.miss in
    let rate_is : asked_rate other ≡ Ok o.rate = ap (λ (x : Option Rate). ok_or x no_rate) (rates ∙ told) in
    let miss_is : asked_miss other o.rate ≡ Ok o.miss =
    ap (λ (x : Option Miss). ok_or (option_and_then (fitting o.rate) x) no_miss) misses
    ∙ ap (λ (x : Option Miss). ok_or x no_miss) missed in
    all_there ask.key ask.test 0 o (asked_range ask) (asked_rate other) (asked_miss other) (asked_bar ask)
    (asked_width ask) (asked_reruns ask)
    made.range rate_is miss_is made.bar made.width made.reruns
    ∙ (λ i. Ok (record {
      key = made.key i;
      search = made.number i;
      test = made.test i;
      range = o.range;
      rate = o.rate;
      miss = o.miss;
      bar = o.bar;
      width = o.width;
      reruns = o.reruns;
    }))

respelled : (ask other : OpenAsk) (o : Opening) → IsSpelledOtherwise ask other → opening_of ask 0 ≡ Ok o →
    opening_of other 0 ≡ Ok o
respelled ask other o s h =
    subst (λ (x : OpenAsk). opening_of x 0 ≡ Ok o) (sym s.rest)
    (respelled_by ask other.rate other.miss o
    (rate-same other.rate.0 other.rate.1 ask.rate.0 ask.rate.1 s.other_rate_in s.rate_in (sym s.rate))
    (miss-same other.miss.0 other.miss.1 ask.miss.0 ask.miss.1 s.other_miss_in s.miss_in (sym s.miss))
    h)

pub respelled-repeated : (H : List Entry) (ask other : OpenAsk) (m n : Moment) (place : ℕ) → IsLegal H →
    IsSpelledOtherwise ask other → decide H (command.Open ask) m ≡ Repeat place →
    decide H (command.Open other) n ≡ Repeat place
respelled-repeated H ask other m n place legal spelled h =
    let held = repeated-held H (command.Open ask) m place legal h in
    let within = open-formed held.2.0 (command.Open ask) held.2.2 ask refl in
    same-repeated H (command.Open ask) (command.Open other) m n place legal
    (other, refl, within.0, within.1, respelled ask other within.0 spelled within.1) h
