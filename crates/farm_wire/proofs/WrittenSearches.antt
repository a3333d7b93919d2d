-- Searches that are written piece by piece are those of the reply.
use Rattle.std.proofs.Common.{◌≡◌, ℕ, List, [], ◌∷◌, ◌++◌, codes, decimal, Option, Some, None, refl}
use Rattle.json.specs.Print.{escape_byte, quoted}
use Rattle.serde_json.specs.Data.{string}
use Rattle.serde_json.specs.Written.{compact_text}
use Rattle.farm_types.specs.Moment.{moment_ms}
use Rattle.farm_types.specs.declared.commit_id.CommitId.{CommitId}
use Rattle.farm_entry.specs.declared.reply.Reply.TheVariants as reply
use Rattle.farm_entry.specs.declared.search_list.SearchLine.{SearchLine}
use Rattle.farm_entry.specs.declared.search_list.SearchList.{SearchList}
use Rattle.farm_wire.specs.Members.{Named, commit_value, culprit_in, object_with, standing_word, where_some, whole}
use Rattle.farm_wire.specs.Members.{with_member}
use Rattle.farm_wire.specs.Pieces.{array_text, commit_piece, counted_name, number_piece}
use Rattle.farm_wire.specs.Replies.{reply_data, search_data}
use Rattle.farm_wire.proofs.Written.{joined}

-- a search behind a piece
abbrev pub search_pieces : (piece : List ℕ) → SearchLine → (name word test : List ℕ) → (opened : ℕ) → List (List ℕ)
search_pieces piece line name word test opened =
    piece
    ∷ commit_piece (codes "{\"commit\":") line.commit
    ∷ (name ++ decimal line.counted)
    ∷ number_piece (codes ",\"culprit\":") (culprit_in line.standing)
    ∷ (codes ",\"leases\":" ++ decimal line.leases)
    ∷ (codes ",\"opened\":" ++ decimal opened)
    ∷ number_piece (codes ",\"order\":") line.order
    ∷ (codes ",\"search\":" ++ decimal line.search)
    ∷ (codes ",\"standing\":" ++ quoted word)
    ∷ (codes ",\"suspects\":" ++ decimal line.suspects)
    ∷ (codes ",\"test\":" ++ quoted test)
    ∷ codes "}"
    ∷ []

-- where a search stands, as its word and the position that it names
abbrev standing_at : List ℕ → Option ℕ → List Named
standing_at word culprit = (codes "standing", string word) ∷ where_some (codes "culprit") whole culprit

joined-search_at : (piece : List ℕ) (search suspects opened leases counted : ℕ) (test word : List ℕ)
    (commit : Option CommitId) (culprit order : Option ℕ)
    → joined
    (piece
    ∷ commit_piece (codes "{\"commit\":") commit
    ∷ (counted_name commit ++ decimal counted)
    ∷ number_piece (codes ",\"culprit\":") culprit
    ∷ (codes ",\"leases\":" ++ decimal leases)
    ∷ (codes ",\"opened\":" ++ decimal opened)
    ∷ number_piece (codes ",\"order\":") order
    ∷ (codes ",\"search\":" ++ decimal search)
    ∷ (codes ",\"standing\":" ++ quoted word)
    ∷ (codes ",\"suspects\":" ++ decimal suspects)
    ∷ (codes ",\"test\":" ++ quoted test)
    ∷ codes "}"
    ∷ [])
    ≡ piece ++ compact_text
    (object_with
    ((codes "search", whole search)
    ∷ (codes "test", string test)
    ∷ (codes "suspects", whole suspects)
    ∷ (codes "opened", whole opened)
    ∷ (codes "leases", whole leases)
    ∷ (codes "counted", whole counted)
    ∷ (where_some (codes "commit") commit_value commit
    ++ (where_some (codes "order") whole order ++ standing_at word culprit))))
unfolding with_member escape_byte
joined-search_at piece search suspects opened leases counted test word None None None = refl
joined-search_at piece search suspects opened leases counted test word None None (Some order) = refl
joined-search_at piece search suspects opened leases counted test word None (Some culprit) None = refl
joined-search_at piece search suspects opened leases counted test word None (Some culprit) (Some order) = refl
joined-search_at piece search suspects opened leases counted test word (Some commit) None None = refl
joined-search_at piece search suspects opened leases counted test word (Some commit) None (Some order) = refl
joined-search_at piece search suspects opened leases counted test word (Some commit) (Some culprit) None = refl
joined-search_at piece search suspects opened leases counted test word (Some commit) (Some culprit) (Some order) = refl

pub joined-search : (piece : List ℕ) (line : SearchLine)
    → joined
    (search_pieces piece line (counted_name line.commit) (standing_word line.standing) line.test
    (moment_ms line.opened))
    ≡ piece ++ compact_text (search_data line)
unfolding search_data
joined-search piece line =
    joined-search_at piece line.search line.suspects (moment_ms line.opened) line.leases line.counted line.test
    (standing_word line.standing) line.commit (culprit_in line.standing) line.order

-- the reply that shows searches
abbrev pub searches_pieces : SearchList → (searches : List SearchLine) → List (List ℕ)
searches_pieces page searches =
    (codes "{\"from\":" ++ decimal page.from)
    ∷ codes ",\"reply\":\"list\",\"searches\":"
    ∷ array_text search_data searches
    ∷ codes "}"
    ∷ []

pub joined-searches : (page : SearchList)
    → joined (searches_pieces page page.searches) ≡ compact_text (reply_data (reply.Searches page))
unfolding reply_data with_member escape_byte
joined-searches page = refl
