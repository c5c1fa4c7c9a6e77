-- Counts with nothing left to count.
use Rattle.std.proofs.Common.{◌≡◌, ◌+◌, ◌<◌, ◌≤◌, ℕ, List, [], ◌∷◌, length, arith}
use Rattle.hive_model.specs.Tree.{Tree, trees, keys_count}
use Rattle.nt_bytes.specs.Counts.{capped}

none_left : (total whole : ℕ) → total ≤ 18446744073709551615 → capped (total + 0) ≡ whole → total ≡ whole
none_left total whole small is = omega (arith, small, is)

pub all_keys_count : (total whole : ℕ) (rest : List Tree) → length rest < 1 → total ≤ 18446744073709551615
    → capped (total + keys_count (trees rest)) ≡ whole → total ≡ whole
all_keys_count total whole [] none small is = none_left total whole small is
all_keys_count total whole (t ∷ rest) none small is = absurd (omega (arith, none))
