-- Each entry that a command made has a reply, which stays.
use Rattle.std.proofs.Common.{◌≡◌, ℕ, zero, suc, ◌+◌, ◌<◌, ◌≤◌, List, [], ◌∷◌, ◌++◌, length, take, slice_get, length-append, Option, Some, None, refl, sym, ap, subst, ◌∙◌, ⊎_elim, arith}
use Rattle.std.specs.Option.{option_and_then, option_map}
use Rattle.std.proofs.lemmas.Bool.{cases_lt}
use Rattle.std.proofs.lemmas.List.{take-append-le, take_all}
use Rattle.std.proofs.lemmas.List.Elements.{All-contains}
use Rattle.std.proofs.lemmas.Option.{none-some, slice_get_within}
use Rattle.farm_types.specs.Moment.{moment_ms}
use Rattle.farm_types.specs.declared.moment.Moment.{Moment}
use Rattle.farm_entry.specs.History.{all_leases, lease_of, opening_numbered}
use Rattle.farm_entry.specs.Legal.{IsFounding, IsLegal, command_of}
use Rattle.farm_entry.specs.Reply.{reply_at, reply_to, reply_to_report, reply_to_skip}
use Rattle.farm_entry.specs.Standing.{standing}
use Rattle.farm_entry.specs.declared.command.Command.{Command}
use Rattle.farm_entry.specs.declared.entry.Entry.{Entry}
use Rattle.farm_entry.specs.declared.entry.What.{What}
use Rattle.farm_entry.specs.declared.entry.What.TheVariants.{Founded, Opened, Leased, Reported, Skipped, Cancelled, Ordered, Carried, Closed}
use Rattle.farm_entry.specs.declared.lease.LeasedRun.{LeasedRun}
use Rattle.farm_entry.specs.declared.opening.Opening.{Opening}
use Rattle.farm_entry.specs.declared.reply.Reply.{Reply}
use Rattle.farm_entry.specs.declared.reply.Reply.TheVariants as reply
use Rattle.farm_laws.specs.Openings.{HasOpening}
use Rattle.farm_laws.proofs.Filters.{lease_of-stays, opening_numbered-stays}
use Rattle.farm_laws.proofs.Induct.{each_legal}
use Rattle.farm_laws.proofs.Known.{leases-known, next_run-due}
use Rattle.farm_laws.proofs.Numbered.{lease-there, opening-found}
use Rattle.farm_laws.proofs.Stepped.{KindFacts}

-- Lists.

-- the elements of a list stay where they are when the list grows
pub slice_get-first : {X : Type 0} (xs ys : List X) (i : ℕ) → i < length xs → slice_get (xs ++ ys) i ≡ slice_get xs i
slice_get-first [] ys i below = absurd (omega arith)
slice_get-first (x ∷ xs) ys zero below = refl
slice_get-first (x ∷ xs) ys (suc i) below = slice_get-first xs ys i (omega arith)

-- the last element stands at the length of the others
pub slice_get-last : {X : Type 0} (xs : List X) (x : X) → slice_get (xs ++ x ∷ []) (length xs) ≡ Some x
slice_get-last [] x = refl
slice_get-last (y ∷ xs) x = slice_get-last xs x

-- Replies.

-- a reply is by what stands up to its place alone
pub reply-same : (H K : List Entry) (place : ℕ) → place < length H → reply_at (H ++ K) place ≡ reply_at H place
reply-same H K place below =
    let front : take (place + 1) (H ++ K) ≡ take (place + 1) H = take-append-le (place + 1) H K (omega arith) in
    ap (λ (G : List Entry). option_and_then (λ e. reply_to G e.what) (slice_get (H ++ K) place)) front
    ∙ ap (λ (o : Option Entry). option_and_then (λ e. reply_to (take (place + 1) H) e.what) o) (slice_get-first H K place below)

-- there is a reply
abbrev IsReplied : Option Reply → Type 0
IsReplied o = (r : Reply) × (o ≡ Some r)

-- what is made of a value that is there is there
replied : {X : Type 0} (make : X → Reply) (o : Option X) (x : X) → o ≡ Some x → IsReplied (option_map make o)
replied make o x h = (make x, ap (option_map make) h)

-- what is made of the search of a run that was handed out is there
reply-of_lease : (H : List Entry) (e : Entry) (run : ℕ) (l : LeasedRun) (make : Opening → Reply) → IsLegal H → lease_of H run ≡ Some l →
    IsReplied (option_map make (opening_numbered (H ++ e ∷ []) l.search))
reply-of_lease H e run l make legal known =
    let there = lease-there H run l known in
    let opened = All-contains (λ (x : LeasedRun). HasOpening H x.search) (all_leases H) l (leases-known H legal) there.0 in
    replied make (opening_numbered (H ++ e ∷ []) l.search) opened.0 (opening_numbered-stays H e l.search opened.0 opened.1)

-- the reply to an entry that may come next and that a command makes
reply-new : (H : List Entry) (e : Entry) (m : Moment) (what : What) (q : Command) → IsLegal H → KindFacts H m what →
    command_of what ≡ Some q → IsReplied (reply_to (H ++ e ∷ []) what)
reply-new H e m (Founded settings) q legal facts named = absurd facts
reply-new H e m (Opened o) q legal facts named = (_, refl)
reply-new H e m (Leased key worker run search stage position deadline) q legal facts named =
    let due_in = next_run-due H (moment_ms m) _ facts.due in
    let o = due_in.opening in
    let found : opening_numbered H search ≡ Some o = ap (opening_numbered H) due_in.of_search ∙ opening-found H o legal due_in.there in
    replied _ (opening_numbered (H ++ e ∷ []) search) o (opening_numbered-stays H e search o found)
reply-new H e m (Reported run verdict fate) q legal facts named =
    let l = facts.lease in
    let of_lease = reply-of_lease H e run l (λ o. reply.Reported l.run l.search verdict fate (standing (H ++ e ∷ []) o)) legal facts.known in
    (of_lease.0, ap (option_and_then (reply_to_report (H ++ e ∷ []) verdict fate)) (lease_of-stays H e run l facts.known) ∙ of_lease.1)
reply-new H e m (Skipped run fate) q legal facts named =
    let l = facts.lease in
    let of_lease = reply-of_lease H e run l (λ o. reply.Skipped l.run l.search fate (standing (H ++ e ∷ []) o)) legal facts.known in
    (of_lease.0, ap (option_and_then (reply_to_skip (H ++ e ∷ []) fate)) (lease_of-stays H e run l facts.known) ∙ of_lease.1)
reply-new H e m (Cancelled key search) q legal facts named = (_, refl)
reply-new H e m (Ordered key agent order commit search day) q legal facts named = (_, refl)
reply-new H e m (Carried c t) q legal facts named = absurd (none-some q named)
reply-new H e m Closed q legal facts named = absurd (none-some q named)

-- the reply at the last place
reply-last : (H : List Entry) (e : Entry) → reply_at (H ++ e ∷ []) (length H) ≡ reply_to (H ++ e ∷ []) e.what
reply-last H e =
    let longer : length (H ++ e ∷ []) ≡ length H + 1 = length-append H (e ∷ []) in
    let whole : take (length H + 1) (H ++ e ∷ []) ≡ H ++ e ∷ [] = take_all (length H + 1) (H ++ e ∷ []) (omega arith) in
    ap (λ (o : Option Entry). option_and_then (λ x. reply_to (take (length H + 1) (H ++ e ∷ [])) x.what) o) (slice_get-last H e)
    ∙ ap (λ (G : List Entry). reply_to G e.what) whole

-- a founding names no command
pub no_command : (w : What) → IsFounding w → command_of w ≡ None
no_command (Founded settings) founding = refl
no_command (Opened o) founding = absurd founding
no_command (Leased key worker run search stage position deadline) founding = absurd founding
no_command (Reported run verdict _) founding = absurd founding
no_command (Skipped run _) founding = absurd founding
no_command (Cancelled key search) founding = absurd founding
no_command (Ordered key agent order commit search day) founding = absurd founding
no_command (Carried commit day) founding = absurd founding
no_command Closed founding = absurd founding

founded-unnamed : (f : Entry) (k : ℕ) (x : Entry) (q : Command) → IsFounding f.what → slice_get (f ∷ []) k ≡ Some x →
    command_of x.what ≡ Some q → ⊥
founded-unnamed f zero x q founding is named =
    let same : f ≡ x = cc in
    none-some q (sym (no_command f.what founding) ∙ ap (λ (y : Entry). command_of y.what) same ∙ named)
founded-unnamed f (suc k) x q founding is named = none-some x is

-- each entry that names a command has a reply
pub reply-there : (H : List Entry) (place : ℕ) (e : Entry) (q : Command) → IsLegal H → slice_get H place ≡ Some e →
    command_of e.what ≡ Some q → IsReplied (reply_at H place)
reply-there H place e q legal there named =
    each_legal
    (λ (G : List Entry). (k : ℕ) (x : Entry) (p : Command) → slice_get G k ≡ Some x → command_of x.what ≡ Some p →
    IsReplied (reply_at G k))
    (λ f founding k x p is says. absurd (founded-unnamed f k x p founding is says))
    (λ G new legal' all step k x p is says.
    let longer : length (G ++ new ∷ []) ≡ length G + 1 = length-append G (new ∷ []) in
    let inside : k < length (G ++ new ∷ []) = slice_get_within (G ++ new ∷ []) k x is in
    ⊎_elim
    (λ (before : k < length G).
    subst IsReplied (sym (reply-same G (new ∷ []) k before))
    (all k x p (sym (slice_get-first G (new ∷ []) k before) ∙ is) says))
    (λ (past : length G ≤ k).
    let last : length G ≡ k = omega arith in
    let both : Some new ≡ Some x = sym (slice_get-last G new) ∙ ap (slice_get (G ++ new ∷ [])) last ∙ is in
    let same : new ≡ x = cc in
    let mine : command_of new.what ≡ Some p = ap (λ (y : Entry). command_of y.what) same ∙ says in
    subst (λ (i : ℕ). IsReplied (reply_at (G ++ new ∷ []) i)) last
    (subst IsReplied (sym (reply-last G new)) (reply-new G new new.at new.what p legal' step.facts mine)))
    (cases_lt k (length G)))
    H legal place e q there named

-- Settings.
