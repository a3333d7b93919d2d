use Rattle.std.proofs.Common.{◌≡◌, ◌∙◌, ap, refl, true}
use Rattle.std.proofs.lemmas.Result.{IfOk-weaker}
use Rattle.clap.specs.Words.{App, app_of, with_subcommand}
use Rattle.finder_words.specs.CommandLine.{bare, leaf, texts_of}
use Rattle.finder_words.proofs.Commands.{third-denied, words-is_plain}
use Rattle.finder_words.proofs.command_line.with_leaf.Goals as goal

pub returns : goal.returns
returns c =
    let is : app_of c.in_ok-leaf.field-0 ≡ leaf c.args.name.now (texts_of c.args.ids.now) = c.in_ok-leaf.ensures in
    let plain : (app_of c.in_ok-leaf.field-0).top.is_plain ≡ true =
    ap (λ (a : App). a.top.is_plain) is ∙ words-is_plain (bare c.args.name.now) (texts_of c.args.ids.now) refl in
    IfOk-weaker c.subcommand.result _ _
    (λ command adds. adds.shape (third-denied _ _ _ _ plain)
    ∙ ap (λ (a : App). with_subcommand (app_of c.args.line) a.top) is)
    c.subcommand.ensures
