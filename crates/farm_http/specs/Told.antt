-- The answer that tells the totals of a farm.
use Rattle.std.specs.Prelude.{ℕ, Bool, List, ◌&&◌, ◌==◌, length, codes, decimal}
use Rattle.connection_laws.specs.Answers.{Response, plain}
use Rattle.farm_entry.specs.declared.reply.Totals.{Totals}
use Rattle.farm_wire.specs.Replies.{totals_data}
use Rattle.http_answers.specs.Answers.{allow_line, body_put, close_line, status_line}
use Rattle.http_answers.specs.Pieces.{parts_joined}
use Rattle.http_words.specs.declared.status_code.StatusCode.TheVariants as status
use Rattle.serde_json.specs.Written.{compact_text}

-- what it says
abbrev pub totals_response : Totals → Response
totals_response totals = plain status.Ok (compact_text (totals_data (codes "totals") totals))

-- its bytes, by whether the connection closes after it, and by whether its body isn't put
unfoldable pub told_bytes : (closes withheld : Bool) → Totals → List ℕ
told_bytes closes withheld totals =
    let r = totals_response totals in
    parts_joined (status_line r.status) (decimal (length r.body)) (allow_line r.allow) (close_line closes)
    (body_put withheld r.body)

-- all counts are the same
abbrev pub same_totals : Totals → Totals → Bool
same_totals a b =
    (a.entries == b.entries)
    && ((a.searches == b.searches)
    && ((a.searching == b.searching)
    && ((a.verifying == b.verifying)
    && ((a.confirmed == b.confirmed)
    && ((a.ended == b.ended) && ((a.counted == b.counted) && (a.orders == b.orders)))))))
