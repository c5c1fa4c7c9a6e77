use Rattle.std.proofs.Common.{◌≡◌, ℕ, suc, ◌<◌, true, List, [], ◌∷◌, get_or, refl, arith}
use Rattle.std.proofs.lemmas.Bool.{lt-ltb}
use Rattle.hive_model.specs.Size.{is_narrow}
use Rattle.cell_forms.proofs.stored.are_low.Goals as goal

low : (bytes : List ℕ) → ((i : ℕ) → get_or bytes i 0 < 256) → is_narrow bytes ≡ true
low [] h = refl
low (b ∷ bs) h =
    let first = lt-ltb b 256 (h 0) in
    rw (first, low bs (λ i. h (suc i))) refl

pub returns : goal.returns
returns c = low c.args.bytes.now (λ i. omega (arith, c.type_inv.bytes i))
