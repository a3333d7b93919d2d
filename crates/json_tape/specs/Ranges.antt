-- How deep a list of tokens nests, while serde_json accepts each of them.
use Rattle.std.specs.Prelude.{ℕ, suc, ◌-◌, List, [], ◌∷◌, nat_lt, if◌then◌else◌, is_some, Option, Some, None, option_and_then}
use Rattle.json.specs.Token.{Token, begin_object, end_object, begin_array, end_array, key, string, number, boolean, null, bad}
use Rattle.serde_json.specs.Read.{max_depth, number_of}

-- one level more, below the limit
abbrev pub deeper : ℕ → Option ℕ
deeper depth = if nat_lt depth max_depth then Some (suc depth) else None

-- how deep it nests behind a token
abbrev pub depth_after : ℕ → Token → Option ℕ
depth_after depth begin_object = deeper depth
depth_after depth end_object = Some (depth - 1)
depth_after depth begin_array = deeper depth
depth_after depth end_array = Some (depth - 1)
depth_after depth (key s) = Some depth
depth_after depth (string s) = Some depth
depth_after depth (number s) = if is_some (number_of s) then Some depth else None
depth_after depth (boolean b) = Some depth
depth_after depth null = Some depth
depth_after depth bad = None

-- and behind all of them
abbrev pub depths : ℕ → List Token → Option ℕ
depths depth [] = Some depth
depths depth (t ∷ ts) = option_and_then (λ next. depths next ts) (depth_after depth t)
