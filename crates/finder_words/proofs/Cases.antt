-- Words that fit, and words that don't: what `clap` makes of each.
use Rattle.std.proofs.Common.{◌≡◌, ◌≢◌, ◌∙◌, ⊎_elim, true≢false, ap, ap₂, refl, sym, subst, arith, ℕ, ◌<◌, Bool, true, false, ◌&&◌, ◌||◌, List, [], ◌∷◌, length, Some, None, codes, nat_le, if◌then◌else◌}
use Rattle.std.proofs.lemmas.Bool.{and_parts, cases_Bool, lt-leb}
use Rattle.std.proofs.lemmas.Slice.Eq.{bytes_eq-Decides}
use Rattle.std.specs.List.{list_all, list_any, slice_index_or}
use Rattle.std.specs.Str.{bytes_eq}
use Rattle.clap.specs.Faults.{fault_of, step_fault, turn_fault, walk_fault}
use Rattle.clap.specs.Kinds.{Kinds, or_else}
use Rattle.clap.specs.Simple.{Shape, names_of, subcommand_of}
use Rattle.clap.specs.Walk.{Held, Step, Text, idle, nothing_held, subcommand_met, walk_from}
use Rattle.clap.proofs.OnLiterals.{clap_on_literals}
use Rattle.finder_words.specs.CommandLine.{command_line, read_of, read_rows}
use Rattle.finder_words.specs.Forms.{fits, fitting, is_of_row, is_plain, rows}
use Rattle.finder_words.proofs.Named.{Leads, faults-led, line, matches-led}
use Rattle.finder_words.proofs.Plain.{fault-plain, level-plain, met-plain, placed_level, placed_rows, rows-plain}

-- no fault comes
abbrev pub is_faultless : Kinds → Bool
is_faultless [] = true
is_faultless (k ∷ ks) = false

-- `clap` takes the words just where they fit, and its matches stand for them then
pub data Decided (words : List Text) : Type 0 where
  taken : fault_of command_line words ≡ [] → fits words ≡ true
      → read_rows (subcommand_of command_line words) ≡ Some words → Decided words
  refused : is_faultless (fault_of command_line words) ≡ false → fits words ≡ false → Decided words

-- the same of the words behind a command's name
data DecidedAt (name : Text) (s : Shape) (words : List Text) : Type 0 where
  taken_at : placed_level s words ≡ [] → list_any (is_of_row name (length words)) rows ≡ true
      → read_of s.name (placed_rows s words) ≡ Some (name ∷ words) → DecidedAt name s words
  refused_at : is_faultless (placed_level s words) ≡ false → list_any (is_of_row name (length words)) rows ≡ false
      → DecidedAt name s words

-- the commands of the line, built
abbrev sub : ℕ → Shape
sub place = slice_index_or line.subs place line.top

-- too many words for a row, or too few
many : (least most count : ℕ) → most < count → (nat_le least count && nat_le count most) ≡ false
many least most count more = either (nat_le least count) (lt-leb count most more)
  where
    either : {b : Bool} (a : Bool) → b ≡ false → (a && b) ≡ false
    either true h = h
    either false h = refl

few : (least most count : ℕ) → count < least → (nat_le least count && nat_le count most) ≡ false
few least most count less = ap (λ (b : Bool). b && nat_le count most) (lt-leb least count less)

judge-at : (ws : List Text) → DecidedAt (codes "judge") (sub 0) ws
unfolding clap_on_literals
judge-at [] = taken_at refl refl refl
judge-at (a ∷ ws) = refused_at refl (ap (λ (b : Bool). b || false) (many 0 0 (length (a ∷ ws)) (omega arith)))

run-at : (ws : List Text) → DecidedAt (codes "run") (sub 1) ws
unfolding clap_on_literals
run-at [] = taken_at refl refl refl
run-at (a ∷ []) = taken_at refl refl refl
run-at (a ∷ b ∷ ws) = refused_at refl (ap (λ (b : Bool). b || false) (many 0 1 (length (a ∷ b ∷ ws)) (omega arith)))

found-at : (ws : List Text) → DecidedAt (codes "found") (sub 2) ws
unfolding clap_on_literals
found-at [] = refused_at refl refl
found-at (a ∷ []) = refused_at refl refl
found-at (a ∷ b ∷ []) = refused_at refl refl
found-at (a ∷ b ∷ c ∷ []) = refused_at refl refl
found-at (a ∷ b ∷ c ∷ d ∷ []) = taken_at refl refl refl
found-at (a ∷ b ∷ c ∷ d ∷ e ∷ ws) =
    refused_at refl (ap (λ (b : Bool). b || false) (many 4 4 (length (a ∷ b ∷ c ∷ d ∷ e ∷ ws)) (omega arith)))

show-at : (ws : List Text) → DecidedAt (codes "show") (sub 3) ws
unfolding clap_on_literals
show-at [] = refused_at refl refl
show-at (a ∷ []) = taken_at refl refl refl
show-at (a ∷ b ∷ ws) = refused_at refl (ap (λ (b : Bool). b || false) (many 1 1 (length (a ∷ b ∷ ws)) (omega arith)))

audit-at : (ws : List Text) → DecidedAt (codes "audit") (sub 4) ws
unfolding clap_on_literals
audit-at [] = taken_at refl refl refl
audit-at (a ∷ ws) =
    refused_at refl (ap (λ (b : Bool). b || false) (many 0 0 (length (a ∷ ws)) (omega arith)))

serve-at : (ws : List Text) → DecidedAt (codes "serve") (sub 5) ws
unfolding clap_on_literals
serve-at [] = refused_at refl refl
serve-at (a ∷ []) = refused_at refl refl
serve-at (a ∷ b ∷ []) = refused_at refl refl
serve-at (a ∷ b ∷ c ∷ []) = refused_at refl refl
serve-at (a ∷ b ∷ c ∷ d ∷ []) = taken_at refl refl refl
serve-at (a ∷ b ∷ c ∷ d ∷ e ∷ ws) =
    refused_at refl (ap (λ (b : Bool). b || false) (many 4 4 (length (a ∷ b ∷ c ∷ d ∷ e ∷ ws)) (omega arith)))

work-at : (ws : List Text) → DecidedAt (codes "work") (sub 6) ws
unfolding clap_on_literals
work-at [] = refused_at refl refl
work-at (a ∷ []) = refused_at refl refl
work-at (a ∷ b ∷ []) = refused_at refl refl
work-at (a ∷ b ∷ c ∷ []) = refused_at refl refl
work-at (a ∷ b ∷ c ∷ d ∷ []) = taken_at refl refl refl
work-at (a ∷ b ∷ c ∷ d ∷ e ∷ ws) =
    refused_at refl (ap (λ (b : Bool). b || false) (many 4 4 (length (a ∷ b ∷ c ∷ d ∷ e ∷ ws)) (omega arith)))

rates-at : (ws : List Text) → DecidedAt (codes "rates") (sub 7) ws
unfolding clap_on_literals
rates-at [] = refused_at refl refl
rates-at (a ∷ []) = taken_at refl refl refl
rates-at (a ∷ b ∷ ws) =
    refused_at refl (ap (λ (b : Bool). b || false) (many 1 1 (length (a ∷ b ∷ ws)) (omega arith)))

drill-at : (ws : List Text) → DecidedAt (codes "drill") (sub 8) ws
unfolding clap_on_literals
drill-at [] = refused_at refl refl
drill-at (a ∷ []) = refused_at refl refl
drill-at (a ∷ b ∷ []) = taken_at refl refl refl
drill-at (a ∷ b ∷ c ∷ ws) =
    refused_at refl (ap (λ (b : Bool). b || false) (many 2 2 (length (a ∷ b ∷ c ∷ ws)) (omega arith)))

follow-at : (ws : List Text) → DecidedAt (codes "follow") (sub 9) ws
unfolding clap_on_literals
follow-at [] = refused_at refl refl
follow-at (a ∷ []) = refused_at refl refl
follow-at (a ∷ b ∷ []) = refused_at refl refl
follow-at (a ∷ b ∷ c ∷ []) = taken_at refl refl refl
follow-at (a ∷ b ∷ c ∷ d ∷ ws) =
    refused_at refl (ap (λ (b : Bool). b || false) (many 3 3 (length (a ∷ b ∷ c ∷ d ∷ ws)) (omega arith)))

evidence-at : (ws : List Text) → DecidedAt (codes "evidence") (sub 10) ws
unfolding clap_on_literals
evidence-at [] = refused_at refl refl
evidence-at (a ∷ []) = refused_at refl refl
evidence-at (a ∷ b ∷ []) = taken_at refl refl refl
evidence-at (a ∷ b ∷ c ∷ ws) =
    refused_at refl (ap (λ (b : Bool). b || false) (many 2 2 (length (a ∷ b ∷ c ∷ ws)) (omega arith)))

close-at : (ws : List Text) → DecidedAt (codes "close") (sub 11) ws
unfolding clap_on_literals
close-at [] = refused_at refl refl
close-at (a ∷ []) = taken_at refl refl refl
close-at (a ∷ b ∷ ws) =
    refused_at refl (ap (λ (b : Bool). b || false) (many 1 1 (length (a ∷ b ∷ ws)) (omega arith)))

inherit-at : (ws : List Text) → DecidedAt (codes "inherit") (sub 12) ws
unfolding clap_on_literals
inherit-at [] = refused_at refl refl
inherit-at (a ∷ []) = refused_at refl refl
inherit-at (a ∷ b ∷ []) = refused_at refl refl
inherit-at (a ∷ b ∷ c ∷ []) = refused_at refl refl
inherit-at (a ∷ b ∷ c ∷ d ∷ []) = taken_at refl refl refl
inherit-at (a ∷ b ∷ c ∷ d ∷ e ∷ ws) =
    refused_at refl (ap (λ (b : Bool). b || false) (many 4 4 (length (a ∷ b ∷ c ∷ d ∷ e ∷ ws)) (omega arith)))

-- from the command's words to all
decided-at : (name : Text) (s : Shape) (ws : List Text) → Leads name s → is_plain name ≡ true → list_all is_plain ws ≡ true
    → DecidedAt name s ws → Decided (name ∷ ws)
decided-at name s ws leads named rest (taken_at faultless fit read) =
    taken (faults-led name s ws leads ∙ level-plain s ws rest ∙ faultless)
    (ap₂ (λ (a b : Bool). a && b) (ap₂ (λ (a b : Bool). a && b) named rest) fit)
    (ap read_rows (matches-led name s ws leads) ∙ ap (read_of s.name) (rows-plain s ws rest) ∙ read)
decided-at name s ws leads named rest (refused_at fault fit) =
    refused (ap is_faultless (faults-led name s ws leads ∙ level-plain s ws rest) ∙ fault)
    (ap₂ (λ (a b : Bool). a && b) (ap₂ (λ (a b : Bool). a && b) named rest) fit)

-- the word is this name, or another
by_name : (name w : Text) (ws : List Text) (s : Shape) → Leads name s → is_plain name ≡ true → list_all is_plain ws ≡ true
    → DecidedAt name s ws → (bytes_eq name w ≡ false → Decided (w ∷ ws)) → Decided (w ∷ ws)
by_name name w ws s leads named rest at other = ⊎_elim
    (λ (same : bytes_eq name w ≡ true). subst (λ (n : Text). Decided (n ∷ ws)) ((bytes_eq-Decides name w).0 same)
    (decided-at name s ws leads named rest at))
    other (cases_Bool (bytes_eq name w))

judge-leads : Leads (codes "judge") (sub 0)
unfolding clap_on_literals
judge-leads = record { stops = refl; faultless = refl; finds = refl }

run-leads : Leads (codes "run") (sub 1)
unfolding clap_on_literals
run-leads = record { stops = refl; faultless = refl; finds = refl }

found-leads : Leads (codes "found") (sub 2)
unfolding clap_on_literals
found-leads = record { stops = refl; faultless = refl; finds = refl }

show-leads : Leads (codes "show") (sub 3)
unfolding clap_on_literals
show-leads = record { stops = refl; faultless = refl; finds = refl }

audit-leads : Leads (codes "audit") (sub 4)
unfolding clap_on_literals
audit-leads = record { stops = refl; faultless = refl; finds = refl }

serve-leads : Leads (codes "serve") (sub 5)
unfolding clap_on_literals
serve-leads = record { stops = refl; faultless = refl; finds = refl }

work-leads : Leads (codes "work") (sub 6)
unfolding clap_on_literals
work-leads = record { stops = refl; faultless = refl; finds = refl }

rates-leads : Leads (codes "rates") (sub 7)
unfolding clap_on_literals
rates-leads = record { stops = refl; faultless = refl; finds = refl }

drill-leads : Leads (codes "drill") (sub 8)
unfolding clap_on_literals
drill-leads = record { stops = refl; faultless = refl; finds = refl }

follow-leads : Leads (codes "follow") (sub 9)
unfolding clap_on_literals
follow-leads = record { stops = refl; faultless = refl; finds = refl }

evidence-leads : Leads (codes "evidence") (sub 10)
unfolding clap_on_literals
evidence-leads = record { stops = refl; faultless = refl; finds = refl }

close-leads : Leads (codes "close") (sub 11)
unfolding clap_on_literals
close-leads = record { stops = refl; faultless = refl; finds = refl }

inherit-leads : Leads (codes "inherit") (sub 12)
unfolding clap_on_literals
inherit-leads = record { stops = refl; faultless = refl; finds = refl }

-- a fault of the first word is one of all
first-fault : (k rest more : Kinds) → is_faultless k ≡ false → is_faultless (or_else (or_else k rest) more) ≡ false
first-fault [] rest more fault = absurd (cc)
first-fault (k ∷ ks) rest more fault = refl

-- a word that names no command is refused
stray : (w : Text) → is_plain w ≡ true → subcommand_met (names_of line) idle w ≡ None
    → is_faultless (turn_fault line.top (names_of line) (walk_from nothing_held) w) ≡ false
stray w plain unnamed =
    ap₂ (λ (f : Kinds) (m : Held × Step). is_faultless (or_else f (step_fault line.top 1 m.0 m.1)))
    (fault-plain line.top (names_of line) false idle w nothing_held refl plain unnamed)
    (met-plain line.top.rules (names_of line) false idle 1 w nothing_held refl plain unnamed)

unnamed-refused : (w : Text) (ws : List Text) → list_all is_plain (w ∷ ws) ≡ true
    → subcommand_met (names_of line) idle w ≡ None → list_any (is_of_row w (length ws)) rows ≡ false → Decided (w ∷ ws)
unfolding walk_fault
unnamed-refused w ws plain unnamed fit =
    let parts = and_parts (is_plain w) (list_all is_plain ws) plain in
    refused (first-fault _ _ _ (stray w parts.0 unnamed)) (ap₂ (λ (a b : Bool). a && b) plain fit)

none-refused : Decided []
unfolding clap_on_literals
none-refused = refused refl refl

-- each list of plain words is decided
pub decided : (ws : List Text) → list_all is_plain ws ≡ true → Decided ws
decided [] plain = none-refused
decided (w ∷ ws) plain =
    let rest = (and_parts (is_plain w) (list_all is_plain ws) plain).1 in
    by_name (codes "judge") w ws (sub 0) judge-leads refl rest (judge-at ws) (λ not_judge.
    by_name (codes "run") w ws (sub 1) run-leads refl rest (run-at ws) (λ not_run.
    by_name (codes "found") w ws (sub 2) found-leads refl rest (found-at ws) (λ not_found.
    by_name (codes "show") w ws (sub 3) show-leads refl rest (show-at ws) (λ not_show.
    by_name (codes "audit") w ws (sub 4) audit-leads refl rest (audit-at ws) (λ not_audit.
    by_name (codes "serve") w ws (sub 5) serve-leads refl rest (serve-at ws) (λ not_serve.
    by_name (codes "work") w ws (sub 6) work-leads refl rest (work-at ws) (λ not_work.
    by_name (codes "rates") w ws (sub 7) rates-leads refl rest (rates-at ws) (λ not_rates.
    by_name (codes "drill") w ws (sub 8) drill-leads refl rest (drill-at ws) (λ not_drill.
    by_name (codes "follow") w ws (sub 9) follow-leads refl rest (follow-at ws) (λ not_follow.
    by_name (codes "evidence") w ws (sub 10) evidence-leads refl rest (evidence-at ws) (λ not_evidence.
    by_name (codes "close") w ws (sub 11) close-leads refl rest (close-at ws) (λ not_close.
    by_name (codes "inherit") w ws (sub 12) inherit-leads refl rest (inherit-at ws) (λ not_inherit.
    unnamed-refused w ws plain
    (rw (
      not_judge,
      not_run,
      not_found,
      not_show,
      not_audit,
      not_serve,
      not_work,
      not_rates,
      not_drill,
      not_follow,
      not_evidence,
      not_close,
      not_inherit,
    ) refl)
    (rw (
      not_judge,
      not_run,
      not_found,
      not_show,
      not_audit,
      not_serve,
      not_work,
      not_rates,
      not_drill,
      not_follow,
      not_evidence,
      not_close,
      not_inherit,
    ) refl))))))))))))))

-- where no fault came, what was read is what fits
pub taken-fitting : (ws : List Text) → Decided ws → fault_of command_line ws ≡ []
    → read_rows (subcommand_of command_line ws) ≡ fitting ws
taken-fitting ws (taken faultless fit read) none = read ∙ sym (ap (λ (b : Bool). if b then Some ws else None) fit)
taken-fitting ws (refused fault fit) none = absurd (true≢false (sym (ap is_faultless none) ∙ fault))

-- and where one came, nothing fits
pub refused-fitting : (ws : List Text) → Decided ws → fault_of command_line ws ≢ [] → None ≡ fitting ws
refused-fitting ws (taken faultless fit read) some = absurd (some faultless)
refused-fitting ws (refused fault fit) some = sym (ap (λ (b : Bool). if b then Some ws else None) fit)

-- words that aren't plain don't fit
pub unplain-fitting : (ws : List Text) → list_all is_plain ws ≡ false → None ≡ fitting ws
unplain-fitting [] unplain = refl
unplain-fitting (w ∷ ws) unplain =
    sym (ap (λ (b : Bool). if b && list_any (is_of_row w (length ws)) rows then Some (w ∷ ws) else None) unplain)
