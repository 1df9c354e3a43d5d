-- A hash of words of 32 bits.
use Rattle.std.specs.Prelude.{ℕ, ◌+◌, ◌*◌, ◌/◌, ◌%◌, ◌^◌, bit_xor, List, [], ◌∷◌, ◌≡◌, refl}
use Rattle.std.specs.List.{fold}

abbrev pub mix_1 : ℕ → ℕ
mix_1 h = bit_xor h (h / 2 ^ 16) * 0x85ebca6b % 2 ^ 32

abbrev pub mix_2 : ℕ → ℕ
mix_2 h = bit_xor h (h / 2 ^ 13) * 0xc2b2ae35 % 2 ^ 32

abbrev pub mix_3 : ℕ → ℕ
mix_3 h = bit_xor h (h / 2 ^ 16)

-- the bits of a word mixed
abbrev pub mix : ℕ → ℕ
mix h = mix_3 (mix_2 (mix_1 h))

-- one word more
abbrev pub with_word : ℕ → ℕ → ℕ
with_word h w = mix ((h + w + 1) % 2 ^ 32)

-- the hash of some words, each mixed in after those before it
abbrev pub hash32 : List ℕ → ℕ
hash32 ws = fold with_word 0 ws

hash-none : hash32 [] ≡ 0
hash-none = refl

hash-zero : hash32 (0 ∷ []) ≡ 0x514E28B7
hash-zero = refl
