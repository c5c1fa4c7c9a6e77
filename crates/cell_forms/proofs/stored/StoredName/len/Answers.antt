use Rattle.std.proofs.Common.{◌≡◌, ℕ, ◌/◌, Bool, false, List, [], ◌∷◌, length, refl, arith}
use Rattle.nt_bytes.specs.Text.{wide_of}
use Rattle.hive_model.specs.StoredNames.{stored_name}
use Rattle.cell_forms.proofs.stored.StoredName.len.Goals as goal

wide_half : (bytes : List ℕ) → length bytes / 2 ≡ length (wide_of bytes)
wide_half [] = refl
wide_half (low ∷ []) = refl
wide_half (low ∷ high ∷ rest) = let half = wide_half rest in omega (arith, half)

stored_half : (narrow : Bool) (bytes : List ℕ) → narrow ≡ false → length bytes / 2 ≡ length (stored_name narrow bytes)
stored_half narrow bytes e = rw e (wide_half bytes)

pub returns-else-self : goal.returns-else-self
returns-else-self c = stored_half c.args.self.is_narrow c.args.self.bytes.now c.if-self.false
