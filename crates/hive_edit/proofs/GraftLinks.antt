-- A run that is named by new lists, or not named.
use Rattle.std.proofs.Common.{◌≡◌, ◌<◌, ◌⊎◌, inr, ℕ, Bool, true, false, List, [], ◌∷◌, length, Result, Ok, Err, refl, sym, subst, arith}
use Rattle.std.specs.Prelude.{MatchBool, IfOk, OnErr}
use Rattle.nt_bytes.specs.declared.version.HiveVersion.{HiveVersion}
use Rattle.hive_model.specs.Bins.{Bin, bins_size}
use Rattle.hive_model.specs.Tree.{Tree}
use Rattle.hive_model.specs.Footprint.{list_strain_of}
use Rattle.hive_model.specs.Packed.{sharers}
use Rattle.hive_cells.specs.Opened.{Opened}
use Rattle.hive_pack.specs.Numbers.{HasNumbers}
use Rattle.hive_edit.specs.declared.making.Above.{Above}
use Rattle.hive_edit.specs.Making.{above_children, LacksListRoom}
use Rattle.hive_edit.specs.Grafted.{sharing, IsLinkedBy, IsRunPut, IsGrafted, LacksGraftLists}

pub graft_linked : {E : Type 0} (r : Result Bool E) (version : HiveVersion) (parent : ℕ) (above : Above)
    (shared : List ℕ) (k : Tree) (at keys : ℕ) (old mid new : List Bin)
    → keys ≡ sharing shared k → HasNumbers k → IsRunPut version parent above shared k at old mid
    → IfOk r (λ done. MatchBool done (IsLinkedBy version parent above at keys mid new)
    (LacksListRoom version above at mid new))
    → IfOk r (λ done. MatchBool done (IsGrafted version parent above shared k at old new)
    (LacksGraftLists version parent above shared k at old new))
graft_linked (Ok true) version parent above shared k at keys old mid new count numbers put h = record {
  numbers = numbers;
  mid = mid;
  put = put;
  linked = subst (λ (n : ℕ). IsLinkedBy version parent above at n mid new) count h;
}
graft_linked (Ok false) version parent above shared k at keys old mid new count numbers put h = record {
  numbers = numbers;
  put = subst (λ (z : List Bin). IsRunPut version parent above shared k at old z) (sym h.1) put;
  lacks = subst (λ (z : List Bin). 16777216 < list_strain_of (bins_size z) (length (above_children version above at z)))
      (sym h.1) h.0;
}
graft_linked (Err e) version parent above shared k at keys old mid new count numbers put h = tt

pub graft_refused : {E : Type 0} (r : Result Bool E) (version : HiveVersion) (parent : ℕ) (above : Above)
    (shared : List ℕ) (k : Tree) (at : ℕ) (old : List Bin) (mid new : Opened)
    → IsRunPut version parent above shared k at old mid.bins → OnErr r (new ≡ mid)
    → OnErr r ((new.bins ≡ old) ⊎ IsRunPut version parent above shared k at old new.bins)
graft_refused (Ok d) version parent above shared k at old mid new put h = tt
graft_refused (Err e) version parent above shared k at old mid new put h =
    inr (subst (λ (z : Opened). IsRunPut version parent above shared k at old z.bins) (sym h) put)

-- ---- how many keys share the security

pub none_share : (s : List ℕ) (k : Tree) → length s ≡ 0 → 0 ≡ sharing s k
none_share [] k e = refl
none_share (b ∷ s) k e = absurd (omega (arith, e))

pub some_share : (s : List ℕ) (k : Tree) → 0 < length s → sharers s k ≡ sharing s k
some_share [] k lt = absurd (omega (arith, lt))
some_share (b ∷ s) k lt = refl
