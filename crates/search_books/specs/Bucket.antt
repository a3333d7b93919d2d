-- The bucket of a key, by all its bits.
use Rattle.std.specs.Prelude.{ℕ, ◌*◌, ◌/◌, ◌%◌, ◌^◌, ◌-◌}
use Rattle.std.specs.Int.Bits.{bit_and, bit_xor}

-- a word with its high bits folded down by k places, times m
abbrev pub folded : ℕ → ℕ → ℕ → ℕ
folded word k m = bit_xor word (word / 2 ^ k) * m % 2 ^ 64

-- a word mixed by the last steps of SplitMix64
unfoldable pub mixed_of : ℕ → ℕ
mixed_of word =
    let twice = folded (folded word 30 0xbf58476d1ce4e5b9) 27 0x94d049bb133111eb in
    bit_xor twice (twice / 2 ^ 31)

-- where the run of a key begins: all bits of the key but the last of its low half, mixed
abbrev pub start_of : (low high : ℕ) → ℕ
start_of low high = mixed_of (bit_xor (mixed_of (low / 2 ^ 12)) high)

-- the bucket of a key among so many, where that is a power of two: the low bits of its low half, from where its run
-- begins
unfoldable pub home_of : ℕ → ℕ → ℕ
home_of size key = bit_and (bit_xor (key % 2 ^ 64) (start_of (key % 2 ^ 64) (key / 2 ^ 64))) (size - 1)
