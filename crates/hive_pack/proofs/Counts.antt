-- How many keys share a descriptor, and the greatest lengths of names, classes and data.
use Rattle.std.proofs.Common.{◌≡◌, ◌≤◌, ◌<◌, ◌+◌, ◌*◌, ◌^◌, ℕ, suc, Bool, true, false, List, [], ◌∷◌, length, sym, ap, arith}
use Rattle.std.specs.Prelude.{nat_eq, if◌then◌else◌}
use Rattle.std.specs.List.{All}
use lib.Pointwise.{pointwise}
use Rattle.nt_bytes.specs.declared.version.HiveVersion.{HiveVersion}
use Rattle.hive_model.specs.Tree.{Item, Tree, Trees, key, none, more, trees, head, children}
use Rattle.hive_model.specs.Valid.{IsItem, AllHoldKeys}
use Rattle.hive_model.specs.Size.{size, size_of_all}
use Rattle.hive_model.specs.Packed.{sharers, sharers_of_all, greatest}
use Rattle.reg_tree.proofs.Trees.{trees_listed}
use Rattle.hive_pack.proofs.Written.{holds_parted}

-- ---- sharers

if_few : (b : Bool) (n m : ℕ) → 1 + n ≤ m → (if b then 1 + n else 0) ≤ m
if_few true n m h = h
if_few false n m h = omega arith

mutual
  pub few_sharers : (version : HiveVersion) (s shared : List ℕ) (t : Tree) → sharers s t ≤ size version shared t
  few_sharers version s shared (key h ts) =
      if_few (pointwise nat_eq s h.security) (sharers_of_all s ts) (size version shared (key h ts))
      (omega (arith, few_of_all version s h.security ts))

  pub few_of_all : (version : HiveVersion) (s shared : List ℕ) (ts : Trees)
      → sharers_of_all s ts ≤ size_of_all version shared ts
  few_of_all version s shared none = omega arith
  few_of_all version s shared (more t ts) =
      omega (arith, few_sharers version s shared t, few_of_all version s shared ts)

pub sharers_parted : (s : List ℕ) (t : Tree)
    → sharers s t ≡ (if pointwise nat_eq s (head t).security then 1 + sharers_of_all s (trees (children t)) else 0)
sharers_parted s (key h ts) =
    ap (λ us. if pointwise nat_eq s h.security then 1 + sharers_of_all s us else 0) (sym (trees_listed ts))

-- ---- greatest lengths

pub short_names : (ks : List Tree) → AllHoldKeys (trees ks) → greatest (λ (k : Tree). 2 * length (head k).name) ks ≤ 510
short_names [] f = omega arith
short_names (k ∷ ks) f = omega (arith, (holds_parted k f.0).0.name, short_names ks f.1)

pub short_classes : (ks : List Tree) → AllHoldKeys (trees ks)
    → greatest (λ (k : Tree). length (head k).class) ks < 2 ^ 16
short_classes [] f = omega arith
short_classes (k ∷ ks) f = omega (arith, (holds_parted k f.0).0.class, short_classes ks f.1)

pub all_later : (v : Item) (vs : List Item) → All IsItem (v ∷ vs) → All IsItem vs
all_later v vs f = λ k d lt. f (suc k) d (omega arith)

pub short_value_names : (vs : List Item) → All IsItem vs → greatest (λ (v : Item). 2 * length v.name) vs ≤ 32766
short_value_names [] f = omega arith
short_value_names (v ∷ vs) f = omega (arith, (f 0 v (omega arith)).name, short_value_names vs (all_later v vs f))

pub short_data : (vs : List Item) → All IsItem vs → greatest (λ (v : Item). length v.bytes) vs < 2 ^ 31
short_data [] f = omega arith
short_data (v ∷ vs) f = omega (arith, (f 0 v (omega arith)).bytes, short_data vs (all_later v vs f))
