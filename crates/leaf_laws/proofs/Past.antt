-- Entries past the founding name commands, and a founding, a carried order and a closing name none.
use Rattle.std.proofs.Common.{◌≡◌, ℕ, ◌+◌, ◌<◌, ◌≤◌, List, [], ◌∷◌, ◌++◌, length, slice_get, length-append, Some, None, refl, sym, ap, subst, ◌∙◌, ⊎_elim, arith, false, true≢false}
use Rattle.std.proofs.lemmas.Bool.{cases_lt}
use Rattle.std.proofs.lemmas.Option.{none-some, slice_get_within}
use Rattle.farm_types.specs.declared.moment.Moment.{Moment}
use Rattle.farm_entry.specs.Decision.{decide}
use Rattle.farm_entry.specs.Legal.{IsLegal, ask_of, command_of}
use Rattle.farm_entry.specs.History.{carried_in, is_closing, key_in}
use Rattle.farm_entry.specs.declared.command.Command.{Command}
use Rattle.farm_entry.specs.declared.command.Command.TheVariants as command
use Rattle.farm_entry.specs.declared.decision.Decision.TheVariants.{Refuse, Repeat}
use Rattle.farm_entry.specs.declared.entry.Entry.{Entry}
use Rattle.farm_entry.specs.declared.entry.What.{What}
use Rattle.farm_entry.specs.declared.entry.What.TheVariants.{Founded, Opened, Leased, Reported, Skipped, Cancelled, Ordered, Carried, Closed}
use Rattle.farm_entry.specs.declared.refusal.Refusal.TheVariants.{KeyClash}
use Rattle.farm_laws.proofs.Induct.{each_legal}
use Rattle.farm_laws.proofs.Recorded.{IsNamed}
use Rattle.farm_laws.proofs.Repeats.{repeated}
use Rattle.farm_laws.proofs.Replies.{slice_get-first, slice_get-last}
use Rattle.farm_laws.proofs.Stepped.{KindFacts}
use Rattle.leaf_laws.proofs.Caused.{refused-caused, repeated-held}

-- what comes next names a command, unless it is carried over or closes the farm
stepped-named : (H : List Entry) (m : Moment) (w : What) → KindFacts H m w → carried_in w ≡ None →
    is_closing w ≡ false → IsNamed w
stepped-named H m (Founded settings) facts own goes = absurd facts
stepped-named H m (Opened o) facts own goes = (command.Open (ask_of o), refl)
stepped-named H m (Leased key worker run search stage position deadline) facts own goes =
    (command.Lease key worker, refl)
stepped-named H m (Reported run verdict _) facts own goes = (command.Report run verdict, refl)
stepped-named H m (Skipped run _) facts own goes = (command.Skip run, refl)
stepped-named H m (Cancelled key search) facts own goes = (command.Cancel key search, refl)
stepped-named H m (Ordered key agent order commit search day) facts own goes = (command.TakeRevert key agent, refl)
stepped-named H m (Carried commit day) facts own goes = absurd (none-some _ (sym own))
stepped-named H m Closed facts own goes = absurd (true≢false goes)

named-past : (H : List Entry) → IsLegal H → (k : ℕ) (x : Entry) → 1 ≤ k → slice_get H k ≡ Some x →
    carried_in x.what ≡ None → is_closing x.what ≡ false → IsNamed x.what
named-past =
    each_legal
    (λ (G : List Entry). (k : ℕ) (x : Entry) → 1 ≤ k → slice_get G k ≡ Some x → carried_in x.what ≡ None →
    is_closing x.what ≡ false → IsNamed x.what)
    (λ e founding k x later there own goes.
    let inside : k < 1 = slice_get_within (e ∷ []) k x there in absurd (omega (arith, inside, later)))
    (λ G e legal all step k x later there own goes.
    let longer : length (G ++ e ∷ []) ≡ length G + 1 = length-append G (e ∷ []) in
    let inside : k < length (G ++ e ∷ []) = slice_get_within (G ++ e ∷ []) k x there in
    ⊎_elim
    (λ (before : k < length G). all k x later (sym (slice_get-first G (e ∷ []) k before) ∙ there) own goes)
    (λ (past : length G ≤ k).
    let last : length G ≡ k = omega arith in
    let both : Some e ≡ Some x = sym (slice_get-last G e) ∙ ap (slice_get (G ++ e ∷ [])) last ∙ there in
    let same : e ≡ x = cc in
    subst (λ (y : Entry). IsNamed y.what) same
    (stepped-named G e.at e.what step.facts (ap (λ (y : Entry). carried_in y.what) same ∙ own)
    (ap (λ (y : Entry). is_closing y.what) same ∙ goes)))
    (cases_lt k (length G)))

pub past-repeated : (H : List Entry) (place : ℕ) (e : Entry) → IsLegal H → slice_get H place ≡ Some e → 1 ≤ place →
    carried_in e.what ≡ None → is_closing e.what ≡ false →
    (q : Command) × (command_of e.what ≡ Some q) × ((m : Moment) → decide H q m ≡ Repeat place)
past-repeated H place e legal there later own goes =
    let named = named-past H legal place e later there own goes in
    (named.0, named.1, λ m. repeated H place e named.0 m legal there named.1)

-- An entry that names no command: the founding, a carried order, a closing.

unnamed-keyless : (w : What) → command_of w ≡ None → key_in w ≡ None
unnamed-keyless (Founded settings) none = refl
unnamed-keyless (Opened o) none = absurd (none-some _ (sym none))
unnamed-keyless (Leased key worker run search stage position deadline) none = absurd (none-some _ (sym none))
unnamed-keyless (Reported run verdict _) none = refl
unnamed-keyless (Skipped run _) none = refl
unnamed-keyless (Cancelled key search) none = absurd (none-some _ (sym none))
unnamed-keyless (Ordered key agent order commit search day) none = absurd (none-some _ (sym none))
unnamed-keyless (Carried commit day) none = refl
unnamed-keyless Closed none = refl

-- no command is answered by its place
pub unnamed-unrepeated : (H : List Entry) (place : ℕ) (e : Entry) (q : Command) (m : Moment) → IsLegal H →
    slice_get H place ≡ Some e → command_of e.what ≡ None → decide H q m ≡ Repeat place → ⊥
unnamed-unrepeated H place e q m legal there none h =
    let held = repeated-held H q m place legal h in
    let both : Some held.0 ≡ Some e = sym held.1 ∙ there in
    let same : held.0 ≡ e = cc in
    none-some held.2.0 (sym none ∙ ap (λ (x : Entry). command_of x.what) (sym same) ∙ held.2.1)

-- and it takes no key
pub unnamed-unclashed : (H : List Entry) (place : ℕ) (e : Entry) (q : Command) (m : Moment) → IsLegal H →
    slice_get H place ≡ Some e → command_of e.what ≡ None → decide H q m ≡ Refuse (KeyClash place) → ⊥
unnamed-unclashed H place e q m legal there none h =
    let clash = refused-caused H q m (KeyClash place) legal h in
    let both : Some clash.entry ≡ Some e = sym clash.there ∙ there in
    let same : clash.entry ≡ e = cc in
    none-some clash.key (sym (unnamed-keyless e.what none) ∙ ap (λ (x : Entry). key_in x.what) (sym same) ∙ clash.holds)
