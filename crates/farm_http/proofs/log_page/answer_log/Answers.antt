use Rattle.std.proofs.Common.{ℕ, List, Option, subst, if◌then◌else◌}
use Rattle.connection_laws.specs.Answers.{no_memory, plain}
use Rattle.entry_codec.specs.LogPage.{log_page}
use Rattle.farm_wire.specs.Replies.{log_data}
use Rattle.http_words.specs.declared.status_code.StatusCode.TheVariants as status
use Rattle.serde_json.specs.Written.{compact_text}
use Rattle.farm_http.specs.Bytes.{PutSays, request_bytes}
use Rattle.farm_http.proofs.log_page.answer_log.Goals as goal

pub returns-clause-says : goal.returns-clause-says
returns-clause-says g c =
    let body = compact_text (log_data c.args.from (log_page c.args.from c.page_text-text.new.pass.seen)) in
    let put = c.put_page.ensures.says body c.page_text-text.ensures.text in (
      put.0,
      subst (λ (o : Option (List ℕ)). PutSays (request_bytes c.args.request.now
          (if put.0 then plain status.Ok body else no_memory)) o (g.L.Sink.written c.put_page.new.link)
          c.put_page.result) c.note_over.ensures.put put.1,
    )
