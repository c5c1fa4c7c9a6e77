-- A load of two copies: what was read is repaired, or is clean already.
use Rattle.std.proofs.Common.{◌≡◌, ℕ, Bool, true, false, List, length, sym, ◌∙◌, ap, subst}
use Rattle.std.specs.Prelude.{if◌then◌else◌}
use Rattle.nt_bytes.specs.declared.fault.HiveFault.{HiveFault}
use Rattle.hive_model.specs.Base.{Base, is_bins_size}
use Rattle.hive_model.specs.Image.{Image, File, Primary, Log}
use Rattle.hive_model.specs.Recovery.{Recovered}
use Rattle.hive_alt.specs.Copies.{HasCopy, IsPair, IsBehind, StandsBy}
use Rattle.hive_alt.proofs.KeptLemmas.{ok_is}
use Rattle.hive_alt.proofs.PairLemmas.{checked_of}
use Rattle.hive_alt.proofs.TwinLemmas.{pair_is_clean}

-- what was found, as it is given to the repair
pub seen_as : {image : Image} {found view : Recovered} {second : Bool} → view ≡ found → StandsBy image found second
    → StandsBy image view second
seen_as {image = image} {second = second} same is =
    subst (λ (r : Recovered). StandsBy image r second) (sym same) is

module _ {image held : Image} {found : Recovered} {second : Bool} (is : StandsBy image found second)
    (same : held ≡ image) {bins : List ℕ} (bins_is : bins ≡ found.bins) where
  good_as : (file : File) → HasCopy file image found.base found.bins → HasCopy file held found.base bins
  good_as file has = subst (λ (i : Image). HasCopy file i found.base bins) (sym same)
      (subst (λ (l : List ℕ). HasCopy file image found.base l) (sym bins_is) has)

  pub good_first : second ≡ false → HasCopy Primary held found.base bins
  good_first first = good_as Primary
      (subst (λ (b : Bool). HasCopy (if b then Log else Primary) image found.base found.bins) first is.good)

  pub good_second : second ≡ true → HasCopy Log held found.base bins
  good_second other = good_as Log
      (subst (λ (b : Bool). HasCopy (if b then Log else Primary) image found.base found.bins) other is.good)

  pub behind_given : second ≡ true → IsBehind held found.base
  behind_given other = subst (λ (i : Image). IsBehind i found.base) (sym same) (is.behind other)

-- what was repaired is what was found
pub pair_as : (image : Image) (found : Recovered) {view : Recovered} {bins : List ℕ} → view ≡ found → bins ≡ view.bins
    → IsPair image view.base bins → IsPair image found.base found.bins
pair_as image found {view} same bins_is is =
    subst (λ (r : Recovered). IsPair image r.base r.bins) same
    (subst (λ (l : List ℕ). IsPair image view.base l) bins_is is)

-- what is good and equal is not repaired
pub no_repair : {image : Image} {found : Recovered} {second : Bool} → StandsBy image found second → (base : Base)
    (bins : List ℕ) → IsPair image base bins → found.dirty ≡ true → ⊥
no_repair {image = image} {found = found} stands base bins is dirty =
    let size : is_bins_size (length bins) ≡ true =
    ap is_bins_size (sym is.first.size) ∙ (checked_of Primary image base bins is.first).size_is in
    let one = ok_is {E = HiveFault} found (record { base = base; bins = bins; dirty = false })
    (sym stands.exact ∙ pair_is_clean image base bins size is) in
    let clean : found.dirty ≡ false = ap (λ (r : Recovered). r.dirty) one in
    absurd (cc)
