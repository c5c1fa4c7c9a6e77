-- Sectors joined to the bytes of a file.
use Rattle.std.specs.Prelude.{◌≡◌, ◌*◌, ◌<◌, ◌≤◌, ℕ, suc, List, length, take, drop, None}
use Rattle.hive_model.specs.Image.{bytes_of}
use Rattle.mem_edge.specs.declared.writes.Sector.{Sector}
use Rattle.mem_edge.specs.Views.{held_in}

-- the bytes are the sectors from 0 up to the last one that is present, zeros for one that is absent or can't be read
pub record IsJoined (sectors : List Sector) (bytes : List ℕ) : Type 0 where
  pub count : ℕ
  pub long : length bytes ≡ 512 * count
  pub each : (n : ℕ) → n < count → bytes_of (held_in sectors n) ≡ take 512 (drop (512 * n) bytes)
  pub no_more : (n : ℕ) → count ≤ n → held_in sectors n ≡ None
  pub last : (n : ℕ) → count ≡ suc n → held_in sectors n ≡ None → ⊥
