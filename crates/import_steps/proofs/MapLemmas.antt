-- Maps by folded names, changed at one name.
use Rattle.std.proofs.Common.{◌≡◌, ℕ, Bool, true, false, cond, List, Option, Some, None, refl, sym, ap, ◌∙◌}
use Rattle.std.specs.Global.{Vec}
use Rattle.std.specs.BTreeMap.{BTreeMap, UpdatesBy, is_at}
use Rattle.std.specs.Map.{lookup, IsKeyTest, AreApart, KeepsOthers}
use Rattle.std.specs.Cmp.{eq_by_cmp_equiv}
use Rattle.std.specs.Cmp.Lexicographic.{slice_cmp, bytes_decides, nat_list_cmp_total, nat_list_eq_equiv}
use Rattle.std.specs.Ordering.{is_eq, nat_cmp}
use Rattle.std.specs.Str.{bytes_eq}
use Rattle.std.proofs.lemmas.Map.Text.{is_eq-slice_cmp}
use Rattle.nt_bytes.specs.Folding.{folded, folds_same}
use Rattle.nt_names.proofs.FoldLemmas.{same_from_order}
use Rattle.import_steps.specs.Marks.{under}

-- ---- names

pub same_bytes : (a b : List ℕ) → folds_same a b ≡ bytes_eq (folded b) (folded a)
same_bytes a b = same_from_order a b ∙ is_eq-slice_cmp (folded b) (folded a)

-- names that fold to one have one folded name
pub one_folded : (a b : List ℕ) → folds_same a b ≡ true → folded b ≡ folded a
one_folded a b same = (bytes_decides (folded b) (folded a)).0 (sym (same_bytes a b) ∙ same)

-- ---- the map

-- a query for another key finds the same as before
module _ {K X : Type 0} (eq : K → K → Bool) (test : K → Bool) where
  others_keep : (old new : List (K × X)) → KeepsOthers eq test old new → (other : K → Bool)
      → IsKeyTest eq other → AreApart test other → lookup other new ≡ lookup other old
  unfolding KeepsOthers
  others_keep old new keeps = keeps

-- a change of the map at this name alone, as `insert` and `remove` say it
abbrev pub UpdatesAt : {X : Type 0} → List ℕ → BTreeMap (Vec ℕ) X → BTreeMap (Vec ℕ) X → Option X → Type 0
UpdatesAt name = UpdatesBy (λ (a b : Vec ℕ). slice_cmp nat_cmp a.items b.items)
    (λ (q : Vec ℕ). slice_cmp nat_cmp name q.items)

apart_keys : (name other : List ℕ) → bytes_eq name other ≡ false → (q : Vec ℕ)
    → is_eq (slice_cmp nat_cmp name q.items) ≡ true → is_eq (slice_cmp nat_cmp other q.items) ≡ false
apart_keys name other apart q same =
    let one : bytes_eq name q.items ≡ true = sym (is_eq-slice_cmp name q.items) ∙ same in
    is_eq-slice_cmp other q.items ∙ nat_list_eq_equiv.symm other q.items
    ∙ sym (nat_list_eq_equiv.congr name q.items other one) ∙ apart

-- the map has w under the name, and under each other what it had
updated : {X : Type 0} (key name : List ℕ) (old new : BTreeMap (Vec ℕ) X) (w : Option X) → key ≡ folded name
    → UpdatesAt key old new w → (n : List ℕ) → under new n ≡ cond (folds_same name n) w (under old n)
updated key name old new w is updates n = go (folds_same name n) refl
  where
    go : (b : Bool) → folds_same name n ≡ b → under new n ≡ cond b w (under old n)
    go true same =
        let here : folded n ≡ key = one_folded name n same ∙ sym is in
        rw here updates.1
    go false differ =
        let apart : bytes_eq key (folded n) ≡ false =
        ap (λ (k : List ℕ). bytes_eq k (folded n)) is ∙ nat_list_eq_equiv.symm (folded name) (folded n)
        ∙ sym (same_bytes name n) ∙ differ in
        others_keep _ _ _ _ updates.3
        (is_at (λ (q : Vec ℕ). slice_cmp nat_cmp (folded n) q.items))
        (λ x y. (eq_by_cmp_equiv nat_list_cmp_total).congr (folded n) x.items y.items) (apart_keys key (folded n) apart)

pub put_in : {X : Type 0} (key name : List ℕ) (old new : BTreeMap (Vec ℕ) X) (w : X) → key ≡ folded name
    → UpdatesAt key old new (Some w) → (n : List ℕ) → under new n ≡ cond (folds_same name n) (Some w) (under old n)
put_in key name old new w is updates n = updated key name old new (Some w) is updates n

-- the same where the old value was taken out first
pub put_back : {X : Type 0} (query key name : List ℕ) (old mid new : BTreeMap (Vec ℕ) X) (w : X) → query ≡ folded name
    → key ≡ folded name → UpdatesAt query old mid None → UpdatesAt key mid new (Some w)
    → (n : List ℕ) → under new n ≡ cond (folds_same name n) (Some w) (under old n)
put_back query key name old mid new w asked is gone updates n = go (folds_same name n) (updated key name mid new
    (Some w) is updates n) (updated query name old mid None asked gone n)
  where
    go : (b : Bool) → under new n ≡ cond b (Some w) (under mid n) → under mid n ≡ cond b None (under old n)
        → under new n ≡ cond b (Some w) (under old n)
    go true last first = last
    go false last first = last ∙ first
