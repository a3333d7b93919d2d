-- What `clap` makes of a word and of those that follow it, by whether it names a command.
use Rattle.std.proofs.Common.{◌≡◌, ◌∙◌, ap, ap₂, refl, sym, false, List, [], ◌∷◌, ◌++◌, Option, Some, is_some, append_assoc, append-nil}
use Rattle.std.specs.List.{find, fold}
use Rattle.clap.specs.Faults.{check_fault, defaults_fault, entered_fault, settle_fault, fault_of, level_fault, turn_fault, walk_fault}
use Rattle.clap.specs.Kinds.{Kinds, or_else}
use Rattle.clap.specs.Simple.{App, Shape, built, entered, label_of, names_of, subcommand_of}
use Rattle.clap.specs.Walk.{Names, Row, Rule, Text, Walk, answers_to, finished, nothing_held, settled, rows_after, walk, walk_from, walked}
use Rattle.finder_words.specs.CommandLine.{command_line}

-- the walk stopped at a command, with these words after it
abbrev pub stopped_at : Text → List Text → Walk
stopped_at name words = record (walk_from nothing_held) { stopped = Some (name, words) }

-- the words behind a command go to it
stopped-walked : (c : List Rule) (names : Names) (name : Text) (before words : List Text)
    → fold (walked c names) (stopped_at name before) words ≡ stopped_at name (before ++ words)
unfolding walked
stopped-walked c names name before [] = ap (stopped_at name) (sym (append-nil before))
stopped-walked c names name before (word ∷ words) =
    stopped-walked c names name (before ++ word ∷ []) words ∙ ap (stopped_at name) (append_assoc before (word ∷ []) words)

-- and are no fault of the command line
stopped-fault : (s : Shape) (names : Names) (name : Text) (before words : List Text)
    → walk_fault s names (stopped_at name before) words ≡ []
unfolding walked walk_fault
stopped-fault s names name before [] = refl
stopped-fault s names name before (word ∷ words) = stopped-fault s names name (before ++ word ∷ []) words

or_else-none : (k : Kinds) → or_else k [] ≡ k
or_else-none [] = refl
or_else-none (k ∷ ks) = refl

-- the command line, built
abbrev pub line : App
line = built command_line

abbrev start : Walk
start = walk_from nothing_held

-- a word that names a command leads to it
pub record Leads (name : Text) (leaf : Shape) : Type 0 where
  pub stops : walked line.top.rules (names_of line) start name ≡ stopped_at name []
  pub faultless : turn_fault line.top (names_of line) start name ≡ []
  pub finds : find (λ (s : Shape). answers_to name (label_of s)) line.subs ≡ Some leaf

walk-led : (name : Text) (leaf : Shape) (words : List Text) → Leads name leaf
    → walk line.top.rules (names_of line) nothing_held (name ∷ words) ≡ stopped_at name words
walk-led name leaf words leads =
    ap (λ (w : Walk). fold (walked line.top.rules (names_of line)) w words) leads.stops
    ∙ stopped-walked line.top.rules (names_of line) name [] words

fault-led : (name : Text) (leaf : Shape) (words : List Text) → Leads name leaf
    → walk_fault line.top (names_of line) start (name ∷ words) ≡ []
unfolding walk_fault
fault-led name leaf words leads =
    ap₂ or_else leads.faultless
    (ap (λ (w : Walk). walk_fault line.top (names_of line) w words) leads.stops
    ∙ stopped-fault line.top (names_of line) name [] words)

entered-led : (name : Text) (leaf : Shape) (words : List Text) → Leads name leaf
    → entered line (Some (name, words)) ≡ Some (leaf.name, rows_after leaf.rules [] words)
entered-led name leaf words leads = rw leads.finds refl

below-led : (name : Text) (leaf : Shape) (words : List Text) → Leads name leaf
    → entered_fault line (Some (name, words)) ≡ level_fault leaf [] nothing_held words false []
below-led name leaf words leads = rw leads.finds refl

-- its matches and its faults are the command's
pub matches-led : (name : Text) (leaf : Shape) (words : List Text) → Leads name leaf
    → subcommand_of command_line (name ∷ words) ≡ Some (leaf.name, rows_after leaf.rules [] words)
matches-led name leaf words leads =
    ap (λ (w : Walk). entered line w.stopped) (walk-led name leaf words leads) ∙ entered-led name leaf words leads

pub faults-led : (name : Text) (leaf : Shape) (words : List Text) → Leads name leaf
    → fault_of command_line (name ∷ words) ≡ level_fault leaf [] nothing_held words false []
unfolding defaults_fault
faults-led name leaf words leads =
    ap₂ (λ (f : Kinds) (w : Walk). or_else f (or_else (entered_fault line w.stopped)
    (or_else (settle_fault line.top.rules line.top.args_override_self w.held)
    (or_else (defaults_fault (settled line.top.rules w.held).rows line.top.rules)
    (check_fault line.top (finished line.top.rules w.held) (is_some (entered line w.stopped)))))))
    (fault-led name leaf words leads) (walk-led name leaf words leads)
    ∙ ap₂ (λ (k : Kinds) (e : Option (Text × List Row)). or_else k (check_fault line.top [] (is_some e)))
    (below-led name leaf words leads) (entered-led name leaf words leads)
    ∙ or_else-none (level_fault leaf [] nothing_held words false [])
