-- The walk of `clap` over words of which none is empty or begins with a dash: each goes to the next positional.
use Rattle.std.proofs.Common.{◌≡◌, ◌∙◌, ap, ap₂, refl, ℕ, Bool, true, false, List, [], ◌∷◌, Option, Some, None, is_some, if◌then◌else◌}
use Rattle.std.proofs.lemmas.Bool.{and_parts, not-true}
use Rattle.std.specs.List.{fold, list_all}
use Rattle.std.specs.Option.{option_map_or}
use Rattle.std.specs.Prelude.{◌==◌}
use Rattle.std.specs.Str.{bytes_eq}
use Rattle.clap.specs.Faults.{level_fault, positional_fault, defaults_fault, check_fault, settle_fault, step_fault, stray_fault, turn_fault, walk_fault, word_fault}
use Rattle.clap.specs.Kinds.{Kinds, or_else}
use Rattle.clap.specs.Lexer.{long_of, short_of}
use Rattle.clap.specs.Simple.{Shape}
use Rattle.clap.specs.Walk.{Held, Names, Row, Rule, Step, Text, Waiting, Walk, after_step, arg_by_index, finished, idle, is_multiple, nothing_held, option, positional, rows_after, settled, subcommand_met, to_positional, value, walk_from, walked, walked_from, word_met}
use Rattle.finder_words.specs.Forms.{is_plain}

-- no option waits for a value
abbrev pub is_open : Waiting → Bool
is_open idle = true
is_open (option id) = false
is_open positional = true

dashes-plain : (b : ℕ) (bs : Text) → (b == 45) ≡ false → bytes_eq (b ∷ bs) (45 ∷ 45 ∷ []) ≡ false
dashes-plain b bs h = simp h refl

long-plain : (b : ℕ) (bs : Text) → (b == 45) ≡ false → long_of (b ∷ bs) ≡ None
long-plain b bs h = simp h refl

short-plain : (b : ℕ) (bs : Text) → (b == 45) ≡ false → short_of (b ∷ bs) ≡ None
short-plain b bs h = simp h refl

-- a plain word that names no command is a value
pub met-plain : (c : List Rule) (names : Names) (trailing : Bool) (waiting : Waiting) (position : ℕ) (word : Text) (h : Held)
    → is_open waiting ≡ true → is_plain word ≡ true → subcommand_met names waiting word ≡ None
    → word_met c names trailing waiting position word h ≡ (h, value)
met-plain c names true waiting position word h idles plain unnamed = refl
met-plain c names false waiting position [] h idles plain unnamed = absurd (cc)
met-plain c names false idle position (b ∷ bs) h idles plain unnamed =
    let first : (b == 45) ≡ false = not-true _ plain in
    rw (unnamed, dashes-plain b bs first, long-plain b bs first, short-plain b bs first) refl
met-plain c names false (option id) position (b ∷ bs) h idles plain unnamed = absurd (cc)
met-plain c names false positional position (b ∷ bs) h idles plain unnamed =
    let first : (b == 45) ≡ false = not-true _ plain in
    rw (dashes-plain b bs first, long-plain b bs first, short-plain b bs first) refl

-- and no fault
pub fault-plain : (s : Shape) (names : Names) (trailing : Bool) (waiting : Waiting) (word : Text) (h : Held)
    → is_open waiting ≡ true → is_plain word ≡ true → subcommand_met names waiting word ≡ None
    → word_fault s names trailing waiting word h ≡ []
fault-plain s names true waiting word h idles plain unnamed = refl
fault-plain s names false waiting [] h idles plain unnamed = absurd (cc)
fault-plain s names false idle (b ∷ bs) h idles plain unnamed =
    let first : (b == 45) ≡ false = not-true _ plain in
    rw (unnamed, dashes-plain b bs first, long-plain b bs first, short-plain b bs first) refl
fault-plain s names false (option id) (b ∷ bs) h idles plain unnamed = absurd (cc)
fault-plain s names false positional (b ∷ bs) h idles plain unnamed =
    let first : (b == 45) ≡ false = not-true _ plain in
    rw (dashes-plain b bs first, long-plain b bs first, short-plain b bs first) refl

no-names : (waiting : Waiting) (word : Text) → subcommand_met [] waiting word ≡ None
no-names idle word = refl
no-names (option id) word = refl
no-names positional word = refl

-- the walk in which each word goes to the next positional
abbrev pub placed : List Rule → Walk → Text → Walk
placed c w word = to_positional c (arg_by_index c w.position) word w w.held

abbrev pub placed_turn : Shape → Walk → Kinds
placed_turn s w = option_map_or (λ a. positional_fault s.rules s.args_override_self a w.held)
    (arg_by_index s.rules w.position) (stray_fault s)

abbrev pub placed_fault : Shape → Walk → List Text → Kinds
placed_fault s w [] = []
placed_fault s w (word ∷ rest) = or_else (placed_turn s w) (placed_fault s (placed s.rules w word) rest)

-- the walk goes on
record IsGoing (w : Walk) : Type 0 where
  stopped : w.stopped ≡ None
  waits : is_open w.waiting ≡ true

walked-plain : (c : List Rule) (w : Walk) (word : Text) → IsGoing w → is_plain word ≡ true → walked c [] w word ≡ placed c w word
unfolding walked
walked-plain c w word going plain =
    let met = met-plain c [] w.is_trailing w.waiting w.position word w.held going.waits plain (no-names w.waiting word) in
    ap (λ (s : Option (Text × List Text)). walked_from c [] s w word) going.stopped
    ∙ ap (λ (m : Held × Step). after_step c word w m.0 m.1) met

going-placed : (c : List Rule) (a : Option Rule) (w : Walk) (word : Text) → IsGoing w → IsGoing (to_positional c a word w w.held)
going-placed c None w word going = record { stopped = going.stopped; waits = going.waits }
going-placed c (Some a) w word going = record { stopped = refl; waits = by_kind (is_multiple a) }
  where
    by_kind : (several : Bool) → is_open (if several then positional else idle) ≡ true
    by_kind true = refl
    by_kind false = refl

walk-plain : (c : List Rule) (words : List Text) (w : Walk) → IsGoing w → list_all is_plain words ≡ true
    → fold (walked c []) w words ≡ fold (placed c) w words
walk-plain c [] w going plain = refl
walk-plain c (word ∷ rest) w going plain =
    let parts = and_parts (is_plain word) (list_all is_plain rest) plain in
    ap (λ (v : Walk). fold (walked c []) v rest) (walked-plain c w word going parts.0)
    ∙ walk-plain c rest (placed c w word) (going-placed c (arg_by_index c w.position) w word going) parts.1

turn-plain : (s : Shape) (w : Walk) (word : Text) → IsGoing w → is_plain word ≡ true → turn_fault s [] w word ≡ placed_turn s w
turn-plain s w word going plain =
    let met = met-plain s.rules [] w.is_trailing w.waiting w.position word w.held going.waits plain (no-names w.waiting word) in
    let none = fault-plain s [] w.is_trailing w.waiting word w.held going.waits plain (no-names w.waiting word) in
    let own : Option (Text × List Text) → Kinds = λ stopped. if is_some stopped then [] else or_else (word_fault s [] w.is_trailing w.waiting word w.held)
    (step_fault s w.position (word_met s.rules [] w.is_trailing w.waiting w.position word w.held).0 (word_met s.rules [] w.is_trailing w.waiting w.position word w.held).1) in
    ap own going.stopped ∙ ap₂ (λ (f : Kinds) (m : Held × Step). or_else f (step_fault s w.position m.0 m.1)) none met

fault-placed : (s : Shape) (words : List Text) (w : Walk) → IsGoing w → list_all is_plain words ≡ true
    → walk_fault s [] w words ≡ placed_fault s w words
unfolding walk_fault
fault-placed s [] w going plain = refl
fault-placed s (word ∷ rest) w going plain =
    let parts = and_parts (is_plain word) (list_all is_plain rest) plain in
    ap₂ or_else (turn-plain s w word going parts.0)
    (ap (λ (v : Walk). walk_fault s [] v rest) (walked-plain s.rules w word going parts.0)
    ∙ fault-placed s rest (placed s.rules w word) (going-placed s.rules (arg_by_index s.rules w.position) w word going) parts.1)

-- what a command makes of plain words
abbrev pub placed_rows : Shape → List Text → List Row
placed_rows s words = finished s.rules (fold (placed s.rules) (walk_from nothing_held) words).held

abbrev pub placed_level : Shape → List Text → Kinds
placed_level s words =
    let end = (fold (placed s.rules) (walk_from nothing_held) words).held in
    or_else (placed_fault s (walk_from nothing_held) words)
    (or_else (settle_fault s.rules s.args_override_self end)
    (or_else (defaults_fault (settled s.rules end).rows s.rules) (check_fault s (finished s.rules end) false)))

start-going : IsGoing (walk_from nothing_held)
start-going = record { stopped = refl; waits = refl }

pub rows-plain : (s : Shape) (words : List Text) → list_all is_plain words ≡ true → rows_after s.rules [] words ≡ placed_rows s words
rows-plain s words plain =
    ap (λ (w : Walk). finished s.rules w.held) (walk-plain s.rules words (walk_from nothing_held) start-going plain)

pub level-plain : (s : Shape) (words : List Text) → list_all is_plain words ≡ true
    → level_fault s [] nothing_held words false [] ≡ placed_level s words
level-plain s words plain =
    ap₂ (λ (f : Kinds) (w : Walk). or_else f (or_else (settle_fault s.rules s.args_override_self w.held)
    (or_else (defaults_fault (settled s.rules w.held).rows s.rules) (check_fault s (finished s.rules w.held) false))))
    (fault-placed s words (walk_from nothing_held) start-going plain)
    (walk-plain s.rules words (walk_from nothing_held) start-going plain)
