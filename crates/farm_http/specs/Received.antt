-- What contracts see of the bytes that were taken of a link and aren't answered yet.
use Rattle.std.specs.Prelude.{ℕ, ◌≡◌, ◌≤◌, ◌<◌, ◌+◌, Bool, true, false, ◌||◌, ◌==◌, List, [], ◌++◌, length, Option, Ok}
use Rattle.std.specs.Io.KnownBytes.{append_known}
use Rattle.http_requests.specs.Fields.{fields_of}
use Rattle.http_requests.specs.Framing.{wants_interim}
use Rattle.http_requests.specs.Items.{HasHead, body_of}
use Rattle.httparse.specs.Grammar.{RequestHead}
use Rattle.link_io.specs.declared.source.TheConstants.{INPUT_LIMIT}

-- the bytes held, how many were taken in all, whether the last take found the end, and whether the interim answer of
-- the request at the front is out
pub record ReceivedState : Type 0 where
  pub held : List ℕ
  pub taken : ℕ
  pub ended : Bool
  pub interim : Bool

-- nothing was taken yet
abbrev pub nothing_received : ReceivedState
nothing_received = record { held = []; taken = 0; ended = false; interim = false }

-- no more is taken: the input has ended, or as much was taken as is at most
abbrev pub is_complete : ReceivedState → Bool
is_complete r = r.ended || (r.taken == INPUT_LIMIT)

-- a piece of so many bytes, at most as many as there is room for, was taken from the link and added to those held
pub record IsAdded (count room : ℕ) (old new : List ℕ) (before now : Option (List ℕ)) : Type 0 where
  pub piece : List ℕ
  pub size : length piece ≡ count
  pub most : count ≤ room
  pub held : new ≡ old ++ piece
  pub takes : now ≡ append_known before piece

-- a piece was taken from the link, and is held: it is empty where that take found the end
pub record IsTaken (old new : ReceivedState) (before now : Option (List ℕ)) (ended : Bool) : Type 0 where
  pub piece : List ℕ
  pub takes : now ≡ append_known before piece
  pub held : new.held ≡ old.held ++ piece
  pub size : new.taken ≡ old.taken + length piece
  pub most : new.taken ≤ INPUT_LIMIT
  pub ends : new.ended ≡ ended
  pub some : new.ended ≡ false → 0 < length piece
  pub interim : new.interim ≡ old.interim

-- a head stands at the front whose request has an interim answer, whatever follows
pub record AsksInterim (held : List ℕ) : Type 0 where
  pub head : RequestHead
  pub has : HasHead held head
  pub len : ℕ
  pub body : body_of head ≡ Ok len
  pub asks : wants_interim head.minor (fields_of head) len ≡ true
