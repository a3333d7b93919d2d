-- The commands as `clap` reads them, and what is read of the matches that it gives.
use Rattle.std.specs.Prelude.{true, List, [], ◌∷◌, map, Option, Some, None, if◌then◌else◌, codes}
use Rattle.std.specs.Borrow.{Bor}
use Rattle.std.specs.Option.{option_map, option_and_then}
use Rattle.std.specs.Str.{bytes_eq}
use Rattle.clap.specs.Simple.{on_top}
use Rattle.clap.specs.Words.{App, Row, Rule, Text, first_of, new_app, new_rule, with_rule, with_subcommand}

-- a command that takes no words and answers no call for help
abbrev pub bare : Text → App
bare name = on_top (λ s. record s { disable_help_flag = true; disable_version_flag = true }) (new_app name)

-- a word that has to stand in its place
abbrev pub needed : Text → Rule
needed id = record (new_rule id) { required = true }

-- the command with these words after those that it takes
abbrev pub with_words : App → List Text → App
with_words app [] = app
with_words app (id ∷ ids) = with_words (with_rule app (needed id)) ids

-- a command that is followed by just these words
abbrev pub leaf : Text → List Text → App
leaf name ids = with_words (bare name) ids

-- `run`, which may be followed by the name of a journal
abbrev pub run_leaf : App
run_leaf = with_rule (bare (codes "run")) (new_rule (codes "journal"))

-- the texts behind references
abbrev pub texts_of : List (Bor Text) → List Text
texts_of = map (λ s. s.now)

-- the command line without commands
abbrev pub empty_line : App
empty_line = on_top (λ s. record s { no_binary_name = true; disable_help_subcommand = true; subcommand_required = true })
    (bare (codes "finder"))

-- the command line with one command after the other
abbrev pub judge_line : App
judge_line = with_subcommand empty_line (leaf (codes "judge") []).top

abbrev pub run_line : App
run_line = with_subcommand judge_line run_leaf.top

abbrev pub found_ids : List Text
found_ids = codes "journal" ∷ codes "lease_ms" ∷ codes "daily" ∷ codes "zone" ∷ []

abbrev pub found_line : App
found_line = with_subcommand run_line (leaf (codes "found") found_ids).top

abbrev pub show_ids : List Text
show_ids = codes "journal" ∷ []

abbrev pub show_line : App
show_line = with_subcommand found_line (leaf (codes "show") show_ids).top

abbrev pub audit_line : App
audit_line = with_subcommand show_line (leaf (codes "audit") []).top

abbrev pub serve_ids : List Text
serve_ids = codes "journal" ∷ codes "address" ∷ codes "handlers" ∷ codes "links" ∷ []

abbrev pub serve_line : App
serve_line = with_subcommand audit_line (leaf (codes "serve") serve_ids).top

abbrev pub work_ids : List Text
work_ids = codes "address" ∷ codes "worker" ∷ codes "runs" ∷ codes "runner" ∷ []

abbrev pub work_line : App
work_line = with_subcommand serve_line (leaf (codes "work") work_ids).top

abbrev pub rates_ids : List Text
rates_ids = codes "journal" ∷ []

abbrev pub rates_line : App
rates_line = with_subcommand work_line (leaf (codes "rates") rates_ids).top

abbrev pub drill_ids : List Text
drill_ids = codes "searches" ∷ codes "workers" ∷ []

abbrev pub drill_line : App
drill_line = with_subcommand rates_line (leaf (codes "drill") drill_ids).top

abbrev pub follow_ids : List Text
follow_ids = codes "journal" ∷ codes "address" ∷ codes "rounds" ∷ []

abbrev pub follow_line : App
follow_line = with_subcommand drill_line (leaf (codes "follow") follow_ids).top

abbrev pub evidence_ids : List Text
evidence_ids = codes "journal" ∷ codes "search" ∷ []

abbrev pub evidence_line : App
evidence_line = with_subcommand follow_line (leaf (codes "evidence") evidence_ids).top

abbrev pub close_ids : List Text
close_ids = codes "journal" ∷ []

abbrev pub close_line : App
close_line = with_subcommand evidence_line (leaf (codes "close") close_ids).top

abbrev pub inherit_ids : List Text
inherit_ids = codes "journal" ∷ codes "lease_ms" ∷ codes "daily" ∷ codes "zone" ∷ []

abbrev pub inherit_line : App
inherit_line = with_subcommand close_line (leaf (codes "inherit") inherit_ids).top

-- the whole command line
abbrev pub command_line : App
command_line = inherit_line

-- the name of a command and the words found under these names, where each was
abbrev pub read_words : List Text → List Row → Option (List Text)
read_words [] found = Some []
read_words (id ∷ ids) found =
    option_and_then (λ word. option_map (λ words. word ∷ words) (read_words ids found)) (first_of id found)

abbrev pub read_named : Text → List Text → List Row → Option (List Text)
read_named name ids found = option_map (λ words. name ∷ words) (read_words ids found)

-- the same of `run`, where the journal may be missing
abbrev pub read_run : Option Text → List Text
read_run None = codes "run" ∷ []
read_run (Some journal) = codes "run" ∷ journal ∷ []

-- the words that matches stand for
abbrev pub read_of : Text → List Row → Option (List Text)
read_of name found =
    if bytes_eq name (codes "judge") then Some (codes "judge" ∷ [])
    else if bytes_eq name (codes "run") then Some (read_run (first_of (codes "journal") found))
    else if bytes_eq name (codes "found") then read_named (codes "found") found_ids found
    else if bytes_eq name (codes "show") then read_named (codes "show") show_ids found
    else if bytes_eq name (codes "audit") then Some (codes "audit" ∷ [])
    else if bytes_eq name (codes "serve") then read_named (codes "serve") serve_ids found
    else if bytes_eq name (codes "work") then read_named (codes "work") work_ids found
    else if bytes_eq name (codes "rates") then read_named (codes "rates") rates_ids found
    else if bytes_eq name (codes "drill") then read_named (codes "drill") drill_ids found
    else if bytes_eq name (codes "follow") then read_named (codes "follow") follow_ids found
    else if bytes_eq name (codes "evidence") then read_named (codes "evidence") evidence_ids found
    else if bytes_eq name (codes "close") then read_named (codes "close") close_ids found
    else if bytes_eq name (codes "inherit") then read_named (codes "inherit") inherit_ids found
    else None

abbrev pub read_rows : Option (Text × List Row) → Option (List Text)
read_rows = option_and_then (λ p. read_of p.0 p.1)
