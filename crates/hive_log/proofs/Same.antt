-- What a sector that does not differ says.
use Rattle.std.proofs.Common.{◌≡◌, ◌≤◌, ◌+◌, ◌*◌, ℕ, Bool, true, false, List, length, sym, refl}
use Rattle.std.specs.Prelude.{not, nat_le, bytes_eq}
use Rattle.std.proofs.lemmas.Bool.{leb-true, and_parts}
use Rattle.std.proofs.lemmas.Slice.Eq.{bytes_eq-Decides}
use Rattle.hive_model.specs.Recovery.{sector}
use Rattle.hive_model.specs.Log.{dirty}

off : (b : Bool) → not b ≡ false → b ≡ true
off true is = refl
off false is = sym is

-- the old data have that sector, and it is the same
pub off_same : (old new : List ℕ) (i : ℕ) → dirty old new i ≡ false
    → (512 * i + 512 ≤ length old) × (sector old i ≡ sector new i)
off_same old new i is =
    let two = and_parts (nat_le (512 * i + 512) (length old)) (bytes_eq (sector old i) (sector new i)) (off _ is) in
    (leb-true (512 * i + 512) (length old) two.0, (bytes_eq-Decides (sector old i) (sector new i)).0 two.1)
