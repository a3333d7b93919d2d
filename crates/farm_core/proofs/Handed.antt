-- The run that an entry hands out, and that its reply does.
use Rattle.std.proofs.Common.{◌≡◌, ℕ, ◌+◌, List, [], ◌∷◌, ◌++◌, length, take, slice_get, get_or, Option, Some, None, refl, sym, ap, subst, ◌∙◌}
use Rattle.std.specs.Option.{option_and_then, option_map}
use Rattle.std.proofs.lemmas.Option.{get_or_from_slice_get, none-some}
use Rattle.farm_entry.specs.History.{lease_in, lease_of, opening_numbered}
use Rattle.farm_entry.specs.Legal.{IsLegal, command_of}
use Rattle.farm_entry.specs.Reply.{reply_to, reply_to_report, reply_to_skip}
use Rattle.farm_entry.specs.declared.command.Command.{Command}
use Rattle.farm_entry.specs.declared.decision.Decision.{Decision}
use Rattle.farm_entry.specs.declared.decision.Decision.TheVariants as decision
use Rattle.farm_entry.specs.declared.entry.Entry.{Entry}
use Rattle.farm_entry.specs.declared.entry.What.{What}
use Rattle.farm_entry.specs.declared.entry.What.TheVariants.{Founded, Opened, Leased, Reported, Skipped, Cancelled, Ordered, Carried, Closed}
use Rattle.farm_entry.specs.declared.lease.LeasedRun.{LeasedRun}
use Rattle.farm_entry.specs.declared.reply.Reply.{Reply}
use Rattle.farm_laws.proofs.Replies.{reply-there, slice_get-last}
use Rattle.farm_core.specs.Outcome.{IsHandedOut, IsOfCommand, IsRunAt, handed_out}

-- all replies that are made so hand out the same
made : {X : Type 0} (make : X → Reply) (run : Option LeasedRun) (o : Option X) (r : Reply)
    → ((x : X) → handed_out (make x) ≡ run) → option_map make o ≡ Some r → run ≡ handed_out r
made make run None r tells same = absurd (none-some r same)
made make run (Some x) r tells same = let equal : make x ≡ r = cc in sym (tells x) ∙ ap handed_out equal

-- a reply that is there
there : (x r : Reply) → Some x ≡ Some r → handed_out x ≡ handed_out r
there x r same = let equal : x ≡ r = cc in ap handed_out equal

-- what is replied by a lease, where there is one
replied-by : (o : Option LeasedRun) (make : LeasedRun → Option Reply) (run : Option LeasedRun) (r : Reply)
    → ((l : LeasedRun) → make l ≡ Some r → run ≡ handed_out r) → option_and_then make o ≡ Some r → run ≡ handed_out r
replied-by None make run r each same = absurd (none-some r same)
replied-by (Some l) make run r each same = each l same

-- the reply to an entry hands out what the entry does
pub lease-handed_out : (G : List Entry) (what : What) (r : Reply) → reply_to G what ≡ Some r
    → lease_in what ≡ handed_out r
lease-handed_out G (Founded settings) r same = absurd (none-some r same)
lease-handed_out G (Opened o) r same = there _ r same
lease-handed_out G (Leased key worker run search stage position deadline) r same =
    made _ _ (opening_numbered G search) r (λ x. refl) same
lease-handed_out G (Reported run verdict did) r same =
    replied-by (lease_of G run) (reply_to_report G verdict did) None r
    (λ l is. made _ None (opening_numbered G l.search) r (λ x. refl) is) same
lease-handed_out G (Skipped run did) r same =
    replied-by (lease_of G run) (reply_to_skip G did) None r
    (λ l is. made _ None (opening_numbered G l.search) r (λ x. refl) is) same
lease-handed_out G (Cancelled key search) r same = there _ r same
lease-handed_out G (Ordered key agent order commit search day) r same = there _ r same
lease-handed_out G (Carried commit day) r same = absurd (none-some r same)
lease-handed_out G Closed r same = absurd (none-some r same)

-- the run of the entry at a place, which a command made
pub run-at : (H : List Entry) (place : ℕ) (e : Entry) (q : Command) → IsLegal H → slice_get H place ≡ Some e
    → command_of e.what ≡ Some q → IsRunAt H place (lease_in e.what)
run-at H place e q legal is named =
    let replied = reply-there H place e q legal is named in
    let same : reply_to (take (place + 1) H) e.what ≡ Some replied.0 =
    sym (ap (option_and_then (λ (x : Entry). reply_to (take (place + 1) H) x.what)) is) ∙ replied.1 in
    (replied.0, replied.1, lease-handed_out (take (place + 1) H) e.what replied.0 same)

-- the same of what was read at the place
pub run-read : (H read : List Entry) (place : ℕ) (e : Entry) → read ≡ H → IsLegal H → IsOfCommand H place
    → e ≡ get_or read place e → IsRunAt H place (lease_in e.what)
run-read H read place e same legal made is =
    let here : e ≡ made.entry =
    is ∙ ap (λ (l : List Entry). get_or l place e) same ∙ get_or_from_slice_get H place made.entry e made.there in
    subst (λ (x : Entry). IsRunAt H place (lease_in x.what)) (sym here)
    (run-at H place made.entry made.command legal made.there made.named)

-- the run of a new entry
pub run-new : (H : List Entry) (e : Entry) (q : Command) → IsLegal (H ++ e ∷ []) → command_of e.what ≡ Some q
    → IsRunAt (H ++ e ∷ []) (length H) (lease_in e.what)
run-new H e q legal named = run-at (H ++ e ∷ []) (length H) e q legal (slice_get-last H e) named

-- what a command hands out that makes a new entry
pub handed-new : (H : List Entry) (d : Decision) (e : Entry) (q : Command) → d ≡ decision.New e
    → IsLegal (H ++ e ∷ []) → command_of e.what ≡ Some q → IsHandedOut H d (lease_in e.what)
handed-new H d e q is legal named =
    subst (λ (found : Decision). IsHandedOut H found (lease_in e.what)) (sym is) (run-new H e q legal named)
