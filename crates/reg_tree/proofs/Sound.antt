-- Trees that can be held, each key at its level, but for the numbers of values and children, which a bulk bounds.
use Rattle.std.proofs.Common.{◌≡◌, ℕ, suc, ◌+◌, ◌/◌, ◌%◌, ◌<◌, ◌≤◌, ◌^◌, false, List, [], ◌∷◌, length, sym, subst, arith}
use Rattle.std.specs.Prelude.{max}
use Rattle.std.specs.List.{list_any}
use Rattle.hive_model.specs.Tree.{Item, Head, Tree, Trees, key, none, more, trees, listed, head}
use Rattle.hive_model.specs.Valid.{IsItem, IsKey, HoldsKeys, AllHoldKeys, levels, most_levels, IsValid}
use Rattle.nt_bytes.specs.Text.{is_backslash}
use Rattle.nt_bytes.specs.declared.version.HiveVersion.{HiveVersion}
use Rattle.hive_model.specs.Size.{items_sum, items_size, size, size_of_all, bulk_of}
use Rattle.reg_tree.proofs.Trees.{listed_trees}
use Rattle.reg_tree.proofs.Unlike.{Each, Unlike, each_from, each_all, unlike_from, unlike_pairs}

abbrev pub key_name : Tree → List ℕ
key_name t = (head t).name

abbrev pub item_name : Item → List ℕ
item_name v = v.name

abbrev pub IsNamed : Tree → Type 0
IsNamed t = 0 < length (key_name t)

-- what a key has but its children
pub record IsHead (h : Head) : Type 0 where
  pub name : length h.name ≤ 255
  pub no_backslash : list_any is_backslash h.name ≡ false
  pub flags : h.flags / 32 % 2 ≡ 0
  pub class : length h.class < 2 ^ 16
  pub security : length h.security < 2 ^ 32
  pub items : Each IsItem h.values
  pub items_differ : Unlike item_name h.values

-- each key, the topmost at this level
abbrev mutual
  pub Sound : ℕ → Tree → Type 0
  Sound d (key h ts) = IsHead h × (d ≤ 512) × Unlike key_name (listed ts) × Each IsNamed (listed ts)
      × AllSound (suc d) ts

  pub AllSound : ℕ → Trees → Type 0
  AllSound d none = Unit {0}
  AllSound d (more t ts) = Sound d t × AllSound d ts

-- ---- a key with its children as a list

pub each_sound : (d : ℕ) (ts : Trees) → AllSound d ts → Each (Sound d) (listed ts)
each_sound d none s = tt
each_sound d (more t ts) s = (s.0, each_sound d ts s.1)

pub all_sound : (d : ℕ) (us : List Tree) → Each (Sound d) us → AllSound d (trees us)
all_sound d [] s = tt
all_sound d (u ∷ us) s = (s.0, all_sound d us s.1)

pub record Parts (d : ℕ) (h : Head) (us : List Tree) : Type 0 where
  pub own : IsHead h
  pub level : d ≤ 512
  pub differ : Unlike key_name us
  pub named : Each IsNamed us
  pub below : Each (Sound (suc d)) us

pub parts : (d : ℕ) (h : Head) (ts : Trees) → Sound d (key h ts) → Parts d h (listed ts)
parts d h ts s = record { own = s.0; level = s.1; differ = s.2; named = s.3; below = each_sound (suc d) ts s.4 }

pub whole : (d : ℕ) (h : Head) (us : List Tree) → Parts d h us → Sound d (key h (trees us))
whole d h us p =
    let same : us ≡ listed (trees us) = sym (listed_trees us) in (
      p.own,
      p.level,
      subst (λ (vs : List Tree). Unlike key_name vs) same p.differ,
      subst (λ (vs : List Tree). Each IsNamed vs) same p.named,
      all_sound (suc d) us p.below,
    )

-- ---- from a valid tree

own_from : (h : Head) (us : List Tree) → IsKey h us → IsHead h
own_from h us k = record {
  name = k.name;
  no_backslash = k.no_backslash;
  flags = k.flags;
  class = k.class;
  security = k.security;
  items = each_from IsItem h.values k.items;
  items_differ = unlike_from item_name h.values k.items_differ;
}

mutual
  pub sound_from : (d : ℕ) (t : Tree) → HoldsKeys t → levels t + d ≤ 513 → Sound d t
  sound_from d (key h ts) k l = (
    own_from h (listed ts) k.0,
    omega arith,
    unlike_from key_name (listed ts) k.0.keys_differ,
    each_from IsNamed (listed ts) k.0.keys_named,
    all_sound_from (suc d) ts k.1 (omega arith),
  )

  pub all_sound_from : (d : ℕ) (ts : Trees) → AllHoldKeys ts → most_levels ts + d ≤ 513 → AllSound d ts
  all_sound_from d none k l = tt
  all_sound_from d (more t ts) k l = (sound_from d t k.0 (omega arith), all_sound_from d ts k.1 (omega arith))

-- ---- back to a valid tree, where the numbers of values and children are bounded

mutual
  pub sound_levels : (d : ℕ) (t : Tree) → Sound d t → levels t + d ≤ 513
  sound_levels d (key h ts) s = let b = all_levels (suc d) ts s.4 in omega (arith, s.1, b)

  -- no level where there is no key, and then d may be any
  pub all_levels : (d : ℕ) (ts : Trees) → AllSound d ts → most_levels ts + d ≤ max 513 d
  all_levels d none s = omega arith
  all_levels d (more t ts) s = omega (arith, sound_levels d t s.0, all_levels d ts s.1)

-- each key has at most that many values and children
abbrev mutual
  pub Few : ℕ → Tree → Type 0
  Few n (key h ts) = (length h.values ≤ n) × (length (listed ts) ≤ n) × AllFew n ts

  pub AllFew : ℕ → Trees → Type 0
  AllFew n none = Unit {0}
  AllFew n (more t ts) = Few n t × AllFew n ts

own_back : (h : Head) (us : List Tree) → IsHead h → Unlike key_name us → Each IsNamed us → length h.values < 2 ^ 32
    → length us < 2 ^ 32 → IsKey h us
own_back h us o differ named items keys = record {
  name = o.name;
  no_backslash = o.no_backslash;
  flags = o.flags;
  class = o.class;
  security = o.security;
  item_count = items;
  items = each_all IsItem h.values o.items;
  items_differ = unlike_pairs item_name h.values o.items_differ;
  key_count = keys;
  keys_named = each_all IsNamed us named;
  keys_differ = unlike_pairs key_name us differ;
}

mutual
  pub sound_holds : (n d : ℕ) (t : Tree) → n < 4294967296 → Few n t → Sound d t → HoldsKeys t
  sound_holds n d (key h ts) small f s = (
    own_back h (listed ts) s.0 s.2 s.3 (omega (arith, f.0)) (omega (arith, f.1)),
    all_hold n (suc d) ts small f.2 s.4,
  )

  pub all_hold : (n d : ℕ) (ts : Trees) → n < 4294967296 → AllFew n ts → AllSound d ts → AllHoldKeys ts
  all_hold n d none small f s = tt
  all_hold n d (more t ts) small f s = (sound_holds n d t small f.0 s.0, all_hold n d ts small f.1 s.1)

-- ---- a bulk bounds the numbers of values and children

many_items : (version : HiveVersion) (vs : List Item) → length vs ≤ items_sum version vs
many_items version [] = omega arith
many_items version (v ∷ vs) = omega (arith, many_items version vs)

items_within : (version : HiveVersion) (vs : List Item) → length vs ≤ items_size version vs
items_within version [] = omega arith
items_within version (v ∷ vs) = omega (arith, many_items version (v ∷ vs))

pub some_size : (version : HiveVersion) (shared : List ℕ) (t : Tree) → 0 < size version shared t
some_size version shared (key h ts) = omega arith

many_keys : (version : HiveVersion) (shared : List ℕ) (ts : Trees) → length (listed ts) ≤ size_of_all version shared ts
many_keys version shared none = omega arith
many_keys version shared (more t ts) = omega (arith, some_size version shared t, many_keys version shared ts)

mutual
  pub few_by_size : (version : HiveVersion) (n : ℕ) (shared : List ℕ) (t : Tree) → size version shared t ≤ n → Few n t
  few_by_size version n shared (key h ts) l = (
    omega (arith, items_within version h.values),
    omega (arith, many_keys version h.security ts),
    all_few version n h.security ts (omega arith),
  )

  pub all_few : (version : HiveVersion) (n : ℕ) (shared : List ℕ) (ts : Trees) → size_of_all version shared ts ≤ n
      → AllFew n ts
  all_few version n shared none l = tt
  all_few version n shared (more t ts) l =
      (few_by_size version n shared t (omega arith), all_few version n shared ts (omega arith))

pub valid_back : (version : HiveVersion) (t : Tree) → Sound 1 t → bulk_of version t ≤ 16773120 → IsValid t
valid_back version t s b =
    let few : Few 16773120 t = few_by_size version 16773120 [] t (omega arith) in
    record { keys = sound_holds 16773120 1 t (omega arith) few s; levels = omega (arith, sound_levels 1 t s) }
