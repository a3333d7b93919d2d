-- Texts that are written piece by piece are those of the replies.
use Rattle.std.proofs.Common.{◌≡◌, ℕ, ◌+◌, List, [], ◌∷◌, ◌++◌, map, codes, decimal, true, Option, Some, None, refl}
use Rattle.std.proofs.Common.{sym, ap, ◌∙◌, append_assoc, append-nil}
use Rattle.json.specs.Print.{escape_byte, quoted}
use Rattle.serde_json.specs.Data.{string}
use Rattle.serde_json.specs.View.{items_of}
use Rattle.serde_json.specs.Written.{compact_text, items_text}
use Rattle.farm_types.specs.CommitId.{id_digits}
use Rattle.farm_types.specs.declared.commit_id.CommitId.{CommitId}
use Rattle.farm_types.specs.declared.stage.Stage.{Stage}
use Rattle.farm_entry.specs.declared.reply.Reply.TheVariants as reply
use Rattle.farm_entry.specs.declared.reply.SearchPage.{SearchPage}
use Rattle.farm_entry.specs.declared.reply.Totals.{Totals}
use Rattle.farm_entry.specs.declared.standing.Standing.{Standing}
use Rattle.farm_wire.specs.Dates.{day_text}
use Rattle.farm_wire.specs.Members.{Named, commit_value, culprit_in, standing_word, where_any, where_some, whole}
use Rattle.farm_wire.specs.Members.{wholes, with_member}
use Rattle.farm_wire.specs.Pieces.{commit_piece, fate_name, number_piece, numbers_piece}
use Rattle.farm_wire.specs.Replies.{page_data, reply_data, reply_of, report_data, stage_word, totals_data}

-- pieces put behind a text, one after the other
abbrev pub put_behind : List ℕ → List (List ℕ) → List ℕ
put_behind text [] = text
put_behind text (piece ∷ more) = put_behind (text ++ piece) more

-- pieces as one text
abbrev pub joined : List (List ℕ) → List ℕ
joined [] = []
joined (piece ∷ more) = piece ++ joined more

pub put_behind-joined : (text : List ℕ) (pieces : List (List ℕ)) → put_behind text pieces ≡ text ++ joined pieces
put_behind-joined text [] = sym (append-nil text)
put_behind-joined text (piece ∷ more) = put_behind-joined (text ++ piece) more ∙ append_assoc text piece (joined more)

-- what a piece is put behind, in its place
pub behind : {new old known : List ℕ} (piece : List ℕ) → new ≡ old ++ piece → old ≡ known → new ≡ known ++ piece
behind piece put is = put ∙ ap (λ text. text ++ piece) is

abbrev pub totals_pieces : List ℕ → Totals → List (List ℕ)
totals_pieces kind t =
    (codes "{\"confirmed\":" ++ decimal t.confirmed)
    ∷ (codes ",\"counted\":" ++ decimal t.counted)
    ∷ (codes ",\"ended\":" ++ decimal t.ended)
    ∷ (codes ",\"entries\":" ++ decimal t.entries)
    ∷ (codes ",\"orders\":" ++ decimal t.orders)
    ∷ (codes ",\"reply\":" ++ quoted kind)
    ∷ (codes ",\"searches\":" ++ decimal t.searches)
    ∷ (codes ",\"searching\":" ++ decimal t.searching)
    ∷ (codes ",\"verifying\":" ++ decimal t.verifying)
    ∷ codes "}"
    ∷ []

pub joined-totals : (kind : List ℕ) (t : Totals) → joined (totals_pieces kind t) ≡ compact_text (totals_data kind t)
unfolding totals_data with_member escape_byte
joined-totals kind t = refl

abbrev pub page_pieces : SearchPage → (shares word test untestable : List ℕ) → List (List ℕ)
page_pieces page shares word test untestable =
    (codes "{\"budget\":" ++ decimal page.budget)
    ∷ commit_piece (codes ",\"commit\":") page.commit
    ∷ (codes ",\"counted\":" ++ decimal page.counted)
    ∷ number_piece (codes ",\"culprit\":") (culprit_in page.standing)
    ∷ (codes ",\"leases\":" ++ decimal page.leases)
    ∷ (codes ",\"reply\":\"search\",\"search\":" ++ decimal page.search)
    ∷ codes ",\"shares\":"
    ∷ compact_text (wholes shares)
    ∷ (codes ",\"standing\":" ++ quoted word)
    ∷ (codes ",\"test\":" ++ quoted test)
    ∷ numbers_piece (codes ",\"untestable\":") untestable
    ∷ (codes ",\"verified\":" ++ decimal page.verified)
    ∷ codes "}"
    ∷ []

-- where a search stands, as its word and the position that it names
abbrev standing_at : List ℕ → Option ℕ → List Named
standing_at word culprit = (codes "standing", string word) ∷ where_some (codes "culprit") whole culprit

joined-page_at : (search budget leases counted verified : ℕ) (test word shares untestable : List ℕ)
    (commit : Option CommitId) (culprit : Option ℕ)
    → joined
    ((codes "{\"budget\":" ++ decimal budget)
    ∷ commit_piece (codes ",\"commit\":") commit
    ∷ (codes ",\"counted\":" ++ decimal counted)
    ∷ number_piece (codes ",\"culprit\":") culprit
    ∷ (codes ",\"leases\":" ++ decimal leases)
    ∷ (codes ",\"reply\":\"search\",\"search\":" ++ decimal search)
    ∷ codes ",\"shares\":"
    ∷ compact_text (wholes shares)
    ∷ (codes ",\"standing\":" ++ quoted word)
    ∷ (codes ",\"test\":" ++ quoted test)
    ∷ numbers_piece (codes ",\"untestable\":") untestable
    ∷ (codes ",\"verified\":" ++ decimal verified)
    ∷ codes "}"
    ∷ [])
    ≡ compact_text
    (reply_of (codes "search")
    ((codes "search", whole search)
    ∷ (codes "test", string test)
    ∷ (codes "budget", whole budget)
    ∷ (codes "leases", whole leases)
    ∷ (codes "counted", whole counted)
    ∷ (codes "verified", whole verified)
    ∷ (codes "shares", wholes shares)
    ∷ (where_any (codes "untestable") untestable
    ++ (where_some (codes "commit") commit_value commit ++ standing_at word culprit))))
unfolding with_member escape_byte
joined-page_at search budget leases counted verified test word shares [] None None = refl
joined-page_at search budget leases counted verified test word shares [] None (Some culprit) = refl
joined-page_at search budget leases counted verified test word shares [] (Some commit) None = refl
joined-page_at search budget leases counted verified test word shares [] (Some commit) (Some culprit) = refl
joined-page_at search budget leases counted verified test word shares (p ∷ more) None None = refl
joined-page_at search budget leases counted verified test word shares (p ∷ more) None (Some culprit) = refl
joined-page_at search budget leases counted verified test word shares (p ∷ more) (Some commit) None = refl
joined-page_at search budget leases counted verified test word shares (p ∷ more) (Some commit) (Some culprit) = refl

pub joined-page : (page : SearchPage)
    → joined (page_pieces page page.shares (standing_word page.standing) page.test page.untestable)
    ≡ compact_text (page_data page)
unfolding page_data
joined-page page =
    joined-page_at page.search page.budget page.leases page.counted page.verified page.test
    (standing_word page.standing) page.shares page.untestable page.commit (culprit_in page.standing)

abbrev pub opened_pieces : ℕ → ℕ → Standing → (word : List ℕ) → List (List ℕ)
opened_pieces search budget standing word =
    (codes "{\"budget\":" ++ decimal budget)
    ∷ number_piece (codes ",\"culprit\":") (culprit_in standing)
    ∷ (codes ",\"reply\":\"open\",\"search\":" ++ decimal search)
    ∷ (codes ",\"standing\":" ++ quoted word)
    ∷ codes "}"
    ∷ []

joined-opened_at : (search budget : ℕ) (word : List ℕ) (culprit : Option ℕ)
    → joined
    ((codes "{\"budget\":" ++ decimal budget)
    ∷ number_piece (codes ",\"culprit\":") culprit
    ∷ (codes ",\"reply\":\"open\",\"search\":" ++ decimal search)
    ∷ (codes ",\"standing\":" ++ quoted word)
    ∷ codes "}"
    ∷ [])
    ≡ compact_text
    (reply_of (codes "open")
    ((codes "search", whole search) ∷ (codes "budget", whole budget) ∷ standing_at word culprit))
unfolding with_member escape_byte
joined-opened_at search budget word None = refl
joined-opened_at search budget word (Some culprit) = refl

pub joined-opened : (search budget : ℕ) (standing : Standing)
    → joined (opened_pieces search budget standing (standing_word standing))
    ≡ compact_text (reply_data (reply.Opened search budget standing))
unfolding reply_data
joined-opened search budget standing = joined-opened_at search budget (standing_word standing) (culprit_in standing)

abbrev pub leased_pieces : ℕ → ℕ → ℕ → CommitId → ℕ → (word test : List ℕ) → List (List ℕ)
leased_pieces run search position commit deadline word test =
    (codes "{\"commit\":" ++ quoted (id_digits commit))
    ∷ (codes ",\"deadline\":" ++ decimal deadline)
    ∷ (codes ",\"position\":" ++ decimal position)
    ∷ (codes ",\"reply\":\"lease\",\"run\":" ++ decimal run)
    ∷ (codes ",\"search\":" ++ decimal search)
    ∷ (codes ",\"stage\":" ++ quoted word)
    ∷ (codes ",\"test\":" ++ quoted test)
    ∷ codes "}"
    ∷ []

pub joined-leased : (run search : ℕ) (stage : Stage) (position : ℕ) (commit : CommitId) (test : List ℕ) (deadline : ℕ)
    → joined (leased_pieces run search position commit deadline (stage_word stage) test)
    ≡ compact_text (reply_data (reply.Leased run search stage position commit test deadline))
unfolding reply_data with_member escape_byte
joined-leased run search stage position commit test deadline = refl

abbrev pub reported_pieces : ℕ → ℕ → Standing → (name fate word verdict : List ℕ) → List (List ℕ)
reported_pieces run search standing name fate word verdict =
    number_piece (codes "{\"culprit\":") (culprit_in standing)
    ∷ (name ++ quoted fate)
    ∷ (codes ",\"reply\":\"report\",\"run\":" ++ decimal run)
    ∷ (codes ",\"search\":" ++ decimal search)
    ∷ (codes ",\"standing\":" ++ quoted word)
    ∷ (codes ",\"verdict\":" ++ quoted verdict)
    ∷ codes "}"
    ∷ []

joined-reported_at : (run search : ℕ) (verdict fate word : List ℕ) (culprit : Option ℕ)
    → joined
    (number_piece (codes "{\"culprit\":") culprit
    ∷ (fate_name culprit ++ quoted fate)
    ∷ (codes ",\"reply\":\"report\",\"run\":" ++ decimal run)
    ∷ (codes ",\"search\":" ++ decimal search)
    ∷ (codes ",\"standing\":" ++ quoted word)
    ∷ (codes ",\"verdict\":" ++ quoted verdict)
    ∷ codes "}"
    ∷ [])
    ≡ compact_text
    (reply_of (codes "report")
    ((codes "run", whole run)
    ∷ (codes "search", whole search)
    ∷ (codes "verdict", string verdict)
    ∷ (codes "fate", string fate)
    ∷ standing_at word culprit))
unfolding with_member escape_byte
joined-reported_at run search verdict fate word None = refl
joined-reported_at run search verdict fate word (Some culprit) = refl

pub joined-reported : (run search : ℕ) (verdict fate : List ℕ) (standing : Standing)
    → joined
    (reported_pieces run search standing (fate_name (culprit_in standing)) fate (standing_word standing) verdict)
    ≡ compact_text (report_data run search verdict fate standing)
joined-reported run search verdict fate standing =
    joined-reported_at run search verdict fate (standing_word standing) (culprit_in standing)

abbrev pub cancelled_pieces : ℕ → List (List ℕ)
cancelled_pieces search =
    (codes "{\"reply\":\"cancel\",\"search\":" ++ decimal search) ∷ codes ",\"standing\":\"cancelled\"}" ∷ []

pub joined-cancelled : (search : ℕ)
    → joined (cancelled_pieces search) ≡ compact_text (reply_data (reply.Cancelled search))
unfolding reply_data with_member escape_byte
joined-cancelled search = refl

abbrev pub ordered_pieces : ℕ → CommitId → ℕ → ℕ → (date : List ℕ) → List (List ℕ)
ordered_pieces order commit search day date =
    (codes "{\"commit\":" ++ quoted (id_digits commit))
    ∷ (codes ",\"date\":" ++ quoted date)
    ∷ (codes ",\"day\":" ++ decimal day)
    ∷ (codes ",\"order\":" ++ decimal order)
    ∷ (codes ",\"reply\":\"revert\",\"search\":" ++ decimal search)
    ∷ codes "}"
    ∷ []

pub joined-ordered : (order : ℕ) (commit : CommitId) (search day : ℕ)
    → joined (ordered_pieces order commit search day (day_text day))
    ≡ compact_text (reply_data (reply.Ordered order commit search day))
unfolding reply_data with_member escape_byte
joined-ordered order commit search day = refl

-- Arrays of numbers, of what stands before and what is left.

-- what an array goes on with behind some of its numbers
abbrev pub goes_on : List ℕ → List ℕ
goes_on numbers = items_text true (items_of (map whole numbers))
