-- Names that fold alike, and the names of key nodes.
use Rattle.std.proofs.Common.{◌≡◌, ℕ, Bool, true, false, List, [], ◌∷◌, Result, Ok, Err, refl, sym, ap, ◌∙◌, eq-eqb}
use Rattle.std.specs.Result.{IsOk}
use Rattle.std.specs.List.{list_any}
use Rattle.std.specs.Ordering.{is_eq}
use Rattle.std.specs.Str.{bytes_eq}
use Rattle.std.proofs.lemmas.Map.Text.{is_eq-slice_cmp}
use Rattle.std.proofs.lemmas.Slice.Eq.{bytes_eq-Decides}
use Rattle.nt_bytes.specs.declared.fault.HiveFaultKind.{HiveFaultKind}
use Rattle.nt_bytes.specs.Folding.{folded, folds_same, folded_order}
use Rattle.hive_model.specs.Bins.{Cells}
use Rattle.hive_model.specs.KeyNode.{KeyNode, key_node_at}
use Rattle.hive_model.specs.Walk.{reading, names_of}
use Rattle.hive_model.specs.Footprint.{is_node_named}
use Rattle.key_index.specs.Lists.{IsNode, name_of, name_in, payload_in}
use Rattle.key_index.proofs.Tests.{value_of}

folded_same : (n m : List ℕ) → bytes_eq (folded n) (folded m) ≡ folds_same n m
folded_same [] [] = refl
folded_same [] (y ∷ ys) = refl
folded_same (x ∷ xs) [] = refl
folded_same (x ∷ xs) (y ∷ ys) = rw (folded_same xs ys) refl

pub folds_to_one : (n m : List ℕ) → folds_same n m ≡ true → folded n ≡ folded m
folds_to_one n m e = (bytes_eq-Decides (folded n) (folded m)).0 (folded_same n m ∙ e)

bytes_same : (xs : List ℕ) → bytes_eq xs xs ≡ true
bytes_same [] = refl
bytes_same (x ∷ xs) = rw (eq-eqb x x refl, bytes_same xs) refl

pub one_folds : (n m : List ℕ) → folded n ≡ folded m → folds_same n m ≡ true
one_folds n m e = sym (folded_same n m) ∙ ap (λ (xs : List ℕ). bytes_eq xs (folded m)) e ∙ bytes_same (folded m)

pub order_same : (n m : List ℕ) → is_eq (folded_order n m) ≡ folds_same n m
order_same n m = is_eq-slice_cmp (folded n) (folded m) ∙ folded_same n m

pub folds_swap : (n m : List ℕ) → folds_same n m ≡ true → folds_same m n ≡ true
folds_swap n m e = one_folds m n (sym (folds_to_one n m e))

-- two names that fold to a third fold to one
pub both_fold : (name a b : List ℕ) → folds_same name a ≡ true → folds_same name b ≡ true → folds_same b a ≡ true
both_fold name a b e f = one_folds b a (sym (folds_to_one name b f) ∙ folds_to_one name a e)

-- ---- key nodes

none_there : IsOk (key_node_at []) → ⊥
unfolding key_node_at
none_there h = absurd cc

pub node_read : (cells : Cells) (at : ℕ) → IsNode cells at
    → reading key_node_at cells at ≡ key_node_at (payload_in cells at)
unfolding payload_in
node_read cells at h = go (cells.payload at) refl h
  where
    go : (r : Result (List ℕ) HiveFaultKind) → cells.payload at ≡ r
        → IsOk (key_node_at (Rattle.hive_model.specs.Footprint.of_read r (λ p. p)))
        → Rattle.nt_bytes.specs.Reading.◌>>=◌ r key_node_at
        ≡ key_node_at (Rattle.hive_model.specs.Footprint.of_read r (λ p. p))
    go (Ok p) e k = refl
    go (Err kind) e k = absurd (none_there k)

or_false : (b : Bool) → Rattle.std.specs.Prelude.◌||◌ b false ≡ b
or_false true = refl
or_false false = refl

pub named_is : (cells : Cells) (name : List ℕ) (at : ℕ) → IsNode cells at
    → is_node_named cells name at ≡ folds_same name (name_in cells at)
unfolding name_of
named_is cells name at h =
    let v = value_of (key_node_at (payload_in cells at)) h in
    ap (λ (r : Result KeyNode HiveFaultKind). list_any (folds_same name) (names_of (λ node. node.name) r))
    (node_read cells at h ∙ v.1)
    ∙ or_false (folds_same name v.0.name)
    ∙ ap (λ (r : Result KeyNode HiveFaultKind). folds_same name
    (Rattle.hive_model.specs.Footprint.of_read r (λ node. node.name))) (sym v.1)

-- the order of the names shows whether the key node has the name
pub order_tells : (cells : Cells) (name : List ℕ) (at : ℕ) → IsNode cells at
    → is_node_named cells name at ≡ is_eq (folded_order (name_in cells at) name)
order_tells cells name at h =
    named_is cells name at h ∙ swapped name (name_in cells at) ∙ sym (order_same (name_in cells at) name)
  where
    swapped : (n m : List ℕ) → folds_same n m ≡ folds_same m n
    swapped n m = go (folds_same n m) (folds_same m n) refl refl
      where
        go : (a b : Bool) → folds_same n m ≡ a → folds_same m n ≡ b → a ≡ b
        go true true e f = refl
        go false false e f = refl
        go true false e f = sym (folds_swap n m e) ∙ f
        go false true e f = sym e ∙ folds_swap m n f
