-- What is said of a call, by what its words ask for.
use Rattle.std.proofs.Common.{◌≡◌, ◌∙◌, inl, inr, Option, Some, None, ap, refl, sym}
use Rattle.std.specs.Option.{option_map}
use Rattle.farm_script.specs.declared.run_end.RunEnd.TheVariants as script
use Rattle.finder_words.specs.Words.{Asked, asked_by, audit, close, drill, evidence, follow, found, inherit, judge, rates}
use Rattle.finder_words.specs.Words.{run, run_journal, serve, show, work}
use Rattle.finder_words.specs.declared.subcommand.Subcommand.{Subcommand}
use Rattle.link_io.proofs.Told.{append_known-nil}
use Rattle.finder_commands.proofs.Following.{unread-follow}
use Rattle.finder_commands.proofs.Unread.{unread-not_opened}
use Rattle.finder_commands.proofs.Working.{unread-work}
use Rattle.finder_program.proofs.Serving.{unread-served}
use Rattle.finder_program.specs.FinderSays.{FinderSays}
use Rattle.finder_program.specs.World.{World, journal_outside, streams_of, work_outside}
use Rattle.finder_commands.specs.declared.status.Status.TheVariants.{Memory}

-- what the words ask for that were read as a subcommand
pub asked-named : {read : Option Subcommand} {some named : Subcommand} {words : Option Asked}
    → option_map asked_by read ≡ words → read ≡ Some some → some ≡ named → words ≡ Some (asked_by named)
asked-named asks is same = sym asks ∙ ap (option_map asked_by) (is ∙ ap (λ (s : Subcommand). Some s) same)

-- words that were read as none ask for nothing
pub asked-none : {read : Option Subcommand} {words : Option Asked} → option_map asked_by read ≡ words → read ≡ None
    → words ≡ None
asked-none asks is = sym asks ∙ ap (option_map asked_by) is

-- where memory ran out to read the words
pub unread-says : (words : Option Asked) (seen : World) → FinderSays words Memory seen seen
unread-says None seen = inr refl
unread-says (Some judge) seen = record {
  ends = λ all told. (0, sym (append_known-nil seen.output.written));
  completes = λ reads writes all told. inl refl;
}
unread-says (Some run) seen = record {
  ends = inl (refl, refl);
  completes = (script.Memory, refl, λ reads writes all told. inl refl);
}
unread-says (Some audit) seen = record {
  ends = λ all told. inl refl;
  completes = λ reads writes all told. inl refl;
}
unread-says (Some (found lease_ms daily zone_minutes)) seen = record {
  ends = inl (refl, refl);
  completes = λ calm steady tell. inl refl;
}
unread-says (Some show) seen = record {
  ends = inl (unread-not_opened seen.output seen.disk);
  completes = λ calm steady tell history stands. inl refl;
}
unread-says (Some rates) seen = record {
  ends = inl (unread-not_opened seen.output seen.disk);
  completes = λ calm steady tell history stands. inl refl;
}
unread-says (Some (evidence search)) seen = record {
  ends = inl (unread-not_opened seen.output seen.disk);
  completes = λ calm steady tell history stands. inl refl;
}
unread-says (Some close) seen = record {
  ends = inl (unread-not_opened seen.output seen.disk);
  completes = λ calm steady tell history stands. inl refl;
}
unread-says (Some (inherit lease_ms daily zone_minutes)) seen = record {
  ends = inl (refl, refl);
  completes = λ reads writes steady tell all told. inl refl;
}
unread-says (Some run_journal) seen = record {
  ends = inl (unread-not_opened (streams_of seen) seen.disk);
  completes = λ reads writes steady tell history stands all told. inl refl;
}
unread-says (Some (serve handlers links)) seen = record {
  ends = unread-served links seen.clock (journal_outside seen);
  completes = λ net out disk tell history stands. inl refl;
}
unread-says (Some (work worker runs)) seen = record {
  ends = unread-work worker runs (work_outside seen) seen.output;
  completes = λ steady calm quiet. inl refl;
}
unread-says (Some (drill searches workers)) seen = record {
  ends = inl (refl, refl);
  completes = λ calm. inl refl;
}
unread-says (Some (follow rounds)) seen = record {
  ends = unread-follow rounds (journal_outside seen);
  completes = λ net out disk tell history shows. inl refl;
}
