use Rattle.std.specs.Prelude.{nat_le, bytes_eq}
use Rattle.std.proofs.Common.{◌≡◌, ◌≤◌, ◌+◌, ◌*◌, ◌&&◌, ℕ, false, not, List, length, ap}
use Rattle.std.proofs.lemmas.Bool.{leb-true, le-leb, and_parts, and_from, not-false}
use Rattle.std.proofs.lemmas.Slice.Eq.{bytes_eq-Decides}
use Rattle.hive_model.specs.Log.{dirty}
use Rattle.hive_model.specs.Recovery.{sector}
use Rattle.hive_laws.proofs.hive_laws.logs.a_log_leaves_out_what_is_there.Goals as goal

there : (old new : List ℕ) (i : ℕ) → dirty old new i ≡ false
    → (512 * i + 512 ≤ length old) × (sector old i ≡ sector new i)
there old new i clean =
    let long = nat_le (512 * i + 512) (length old) in
    let same = bytes_eq (sector old i) (sector new i) in
    let both = and_parts long same (not-false (long && same) clean) in
    (leb-true (512 * i + 512) (length old) both.0, (bytes_eq-Decides (sector old i) (sector new i)).0 both.1)

left_out : (old new : List ℕ) (i : ℕ) → (512 * i + 512 ≤ length old) × (sector old i ≡ sector new i)
    → dirty old new i ≡ false
left_out old new i is =
    let long = nat_le (512 * i + 512) (length old) in
    let same = bytes_eq (sector old i) (sector new i) in
    ap not (and_from long same (le-leb (512 * i + 512) (length old) is.0)
    ((bytes_eq-Decides (sector old i) (sector new i)).1 is.1))

pub returns : goal.returns
returns c = λ old new i. (there old new i, left_out old new i)
