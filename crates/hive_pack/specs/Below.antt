-- What is passed to a key that is to be below another one, in cells that are there. (This project's own.)
use Rattle.std.specs.Prelude.{ℕ, List}
use Rattle.nt_bytes.specs.declared.version.HiveVersion.{HiveVersion}
use Rattle.hive_model.specs.Tree.{Tree}
use Rattle.hive_model.specs.Packed.{Above, ring}

-- the place of the key above, the descriptor that is shared with it, where that stands, and the new cells of security, which are a ring
-- of their own
abbrev pub beside : HiveVersion → ℕ → List ℕ → ℕ → ℕ → Tree → Above
beside version parent shared shared_at at t =
    record { place = parent; security = shared; security_place = shared_at; ring = ring version shared at t }
