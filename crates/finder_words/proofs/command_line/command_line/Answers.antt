use Rattle.std.proofs.Common.{◌≡◌, ◌∙◌, ap, ap₂, codes, []}
use Rattle.std.proofs.lemmas.Result.{IfOk-weaker}
use Rattle.clap.specs.Words.{App, app_of, with_subcommand}
use Rattle.finder_words.specs.CommandLine.{audit_line, close_ids, close_line, drill_ids, drill_line, empty_line, evidence_ids, evidence_line, follow_ids, follow_line, found_ids, found_line, inherit_ids, judge_line, leaf, rates_ids, rates_line, run_leaf, run_line, serve_ids, serve_line, show_ids, show_line, work_ids, work_line}
use Rattle.finder_words.proofs.Commands.{third-denied}
use Rattle.finder_words.proofs.command_line.command_line.Goals as goal

pub returns : goal.returns
returns c =
    let empty : app_of c.empty_line-line.result ≡ empty_line = c.empty_line-line.ensures in
    let judge : app_of c.in_ok-line.line ≡ judge_line =
    c.in_ok-line.ensures ∙ ap (λ (a : App). with_subcommand a (leaf (codes "judge") []).top) empty in
    let run_is : app_of c.in_ok-run_leaf.field-0 ≡ run_leaf = c.in_ok-run_leaf.ensures in
    let run : app_of c.in_ok-line-2.line ≡ run_line =
    c.in_ok-line-2.ensures.shape (third-denied _ _ _ _ (ap (λ (a : App). a.top.is_plain) run_is))
    ∙ ap₂ (λ (a b : App). with_subcommand a b.top) judge run_is in
    let found : app_of c.in_ok-line-3.line ≡ found_line =
    c.in_ok-line-3.ensures ∙ ap (λ (a : App). with_subcommand a (leaf (codes "found") found_ids).top) run in
    let show : app_of c.in_ok-line-4.line ≡ show_line =
    c.in_ok-line-4.ensures ∙ ap (λ (a : App). with_subcommand a (leaf (codes "show") show_ids).top) found in
    let audit : app_of c.in_ok-line-5.line ≡ audit_line =
    c.in_ok-line-5.ensures ∙ ap (λ (a : App). with_subcommand a (leaf (codes "audit") []).top) show in
    let serve : app_of c.in_ok-line-6.line ≡ serve_line =
    c.in_ok-line-6.ensures ∙ ap (λ (a : App). with_subcommand a (leaf (codes "serve") serve_ids).top) audit in
    let work : app_of c.in_ok-line-7.line ≡ work_line =
    c.in_ok-line-7.ensures ∙ ap (λ (a : App). with_subcommand a (leaf (codes "work") work_ids).top) serve in
    let rates : app_of c.in_ok-line-8.line ≡ rates_line =
    c.in_ok-line-8.ensures ∙ ap (λ (a : App). with_subcommand a (leaf (codes "rates") rates_ids).top) work in
    let drill : app_of c.in_ok-line-9.line ≡ drill_line =
    c.in_ok-line-9.ensures ∙ ap (λ (a : App). with_subcommand a (leaf (codes "drill") drill_ids).top) rates in
    let follow : app_of c.in_ok-line-10.line ≡ follow_line =
    c.in_ok-line-10.ensures ∙ ap (λ (a : App). with_subcommand a (leaf (codes "follow") follow_ids).top) drill in
    let evidence : app_of c.in_ok-line-11.line ≡ evidence_line =
    c.in_ok-line-11.ensures ∙ ap (λ (a : App). with_subcommand a (leaf (codes "evidence") evidence_ids).top) follow in
    let close : app_of c.in_ok-line-12.line ≡ close_line =
    c.in_ok-line-12.ensures ∙ ap (λ (a : App). with_subcommand a (leaf (codes "close") close_ids).top) evidence in
    IfOk-weaker c.with_leaf-12.result _ _
    (λ line is. is ∙ ap (λ (a : App). with_subcommand a (leaf (codes "inherit") inherit_ids).top) close)
    c.with_leaf-12.ensures
