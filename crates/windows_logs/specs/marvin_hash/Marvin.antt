-- Marvin32, a hash of bytes with a seed (Microsoft's; in .NET's System.Marvin it hashes strings). Windows hashes the entries
-- of a hive's log with it, all with one seed.
--
-- The state is two words of 32 bits. The bytes, then 0x80, then zeros up to a multiple of four, then four zeros more, are
-- little-endian words, and each of them is mixed in.
use Rattle.std.specs.Prelude.{◌+◌, ◌-◌, ◌*◌, ◌/◌, ◌%◌, ◌^◌, ℕ, zero, suc, List, ◌∷◌, ◌++◌, length, replicate, bit_xor}
use Rattle.std.specs.Int.{w32, rotate_left}
use Rattle.nt_bytes.specs.Fields.{u32_in}
use Rattle.windows_logs.specs.declared.marvin_hash.State.{State}

-- the state before the first word: the two halves of the seed 0x82EF4D887A4E55C5
abbrev pub seed : State
seed = record { low = 0x7A4E55C5; high = 0x82EF4D88 }

-- the sum of two words, modulo 2^32
abbrev pub plus : ℕ → ℕ → ℕ
plus a b = (a + b) % 2 ^ 32

-- the second half of a word's mixing: both words are rotated and added in turn
abbrev pub rotated : ℕ → ℕ → State
rotated low high =
    let low2 = plus (rotate_left w32 low 20) high in
    let high2 = bit_xor (rotate_left w32 high 9) low2 in
    record { low = plus (rotate_left w32 low2 27) high2; high = rotate_left w32 high2 19 }

-- the state after one more word
unfoldable pub mixed : State → ℕ → State
mixed state word = rotated (plus state.low word) (bit_xor state.high (plus state.low word))

-- the state after the first n words of a text
unfoldable pub state_after : ℕ → List ℕ → State
state_after zero text = seed
state_after (suc n) text = mixed (state_after n text) (u32_in text (4 * n))

-- the bytes with what fills them up to whole words: 0x80 and zeros, at least four of them
abbrev pub padded : List ℕ → List ℕ
padded bytes = bytes ++ 0x80 ∷ replicate (7 - length bytes % 4) 0

-- the hash of bytes
unfoldable pub marvin_of : List ℕ → ℕ
marvin_of bytes =
    let state = state_after (length bytes / 4 + 2) (padded bytes) in
    state.high * 2 ^ 32 + state.low
