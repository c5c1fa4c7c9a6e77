-- The generated tree is one that a hive can hold.
use Rattle.std.proofs.Common.{◌≡◌, ℕ, zero, suc, ◌+◌, ◌<◌, ◌≤◌, Bool, true, false, cond, [], ◌∷◌, ◌++◌, length, map, refl, arith}
use Rattle.std.specs.List.{range_with_len}
use Rattle.std.specs.Prelude.{codes}
use Rattle.reg_tree.proofs.Unlike.{Each, Lacks, Unlike}
use Rattle.reg_tree.proofs.Sound.{key_name, IsNamed, IsHead, Sound, whole}
use Rattle.generated_hive.specs.Generated.{flagged_head, plain_key, number_value, string_value, strings_value, numbers_value, group_name, tags_values, tags_key, groups_key, service_name, has_need, need_value, group_value, order_values, generated_service, first_services, generated_control, generated_set, generated_select, generated}
use Rattle.generated_hive.proofs.NameLemmas.{name_plain, other_number}
use Rattle.generated_hive.proofs.TestLemmas.{head_by, sound_key, sound_leaf}

-- ---- services

service_short : (i : ℕ) → length (service_name i) ≡ 8
unfolding service_name
service_short i = refl

head_with : (i : ℕ) (need : Bool)
    → IsHead (flagged_head (service_name i) 0 (order_values i ++ cond need (need_value i ∷ []) []))
unfolding service_name group_name number_value string_value strings_value need_value group_value order_values
head_with i true = head_by (service_name i) 0 (order_values i ++ need_value i ∷ []) refl (name_plain i) refl refl refl
head_with i false = head_by (service_name i) 0 (order_values i ++ []) refl (name_plain i) refl refl refl

service_sound : (d i : ℕ) → d ≤ 512 → Sound d (generated_service i)
unfolding generated_service
service_sound d i level =
    sound_leaf d (service_name i) (order_values i ++ cond (has_need i) (need_value i ∷ []) [])
    (head_with i (has_need i)) level

others_lack : (i a n : ℕ) → i < a → a + n ≤ 100000
    → Lacks key_name (service_name i) (map generated_service (range_with_len a n))
unfolding generated_service plain_key
others_lack i a zero less low = tt
others_lack i a (suc n) less low =
    (other_number i a less (omega arith), others_lack i (a + 1) n (omega arith) (omega arith))

services_differ : (a n : ℕ) → a + n ≤ 100000 → Unlike key_name (map generated_service (range_with_len a n))
unfolding generated_service plain_key
services_differ a zero low = tt
services_differ a (suc n) low =
    (others_lack a (a + 1) n (omega arith) (omega arith), services_differ (a + 1) n (omega arith))

services_named : (a n : ℕ) → Each IsNamed (map generated_service (range_with_len a n))
unfolding generated_service plain_key
services_named a zero = tt
services_named a (suc n) = (omega (arith, service_short a), services_named (a + 1) n)

services_sound : (d a n : ℕ) → d ≤ 512 → Each (Sound d) (map generated_service (range_with_len a n))
services_sound d a zero level = tt
services_sound d a (suc n) level = (service_sound d a level, services_sound d (a + 1) n level)

-- ---- the rest

tags_sound : (d : ℕ) → d ≤ 512 → Sound d tags_key
unfolding tags_key tags_values numbers_value group_name
tags_sound d level = sound_leaf d (codes "GroupOrderList") tags_values
    (head_by _ 0 tags_values refl refl refl refl refl) level

groups_sound : (d : ℕ) → d ≤ 512 → Sound d groups_key
unfolding groups_key strings_value group_name
groups_sound d level = sound_leaf d (codes "ServiceGroupOrder") _ (head_by _ 0 _ refl refl refl refl refl) level

select_sound : (d : ℕ) → d ≤ 512 → Sound d generated_select
unfolding generated_select number_value
select_sound d level = sound_leaf d (codes "Select") _ (head_by _ 0 _ refl refl refl refl refl) level

control_sound : (d : ℕ) → d + 1 ≤ 512 → Sound d generated_control
unfolding generated_control tags_key groups_key plain_key
control_sound d level =
    sound_key d (codes "Control") [] (tags_key ∷ groups_key ∷ []) (head_by _ 0 [] refl refl refl refl refl)
    (omega arith) refl refl
    (tags_sound (suc d) (omega arith), (groups_sound (suc d) (omega arith), tt))

services_key_sound : (d count : ℕ) → d + 1 ≤ 512 → count ≤ 10000
    → Sound d (plain_key (codes "Services") [] (first_services count))
unfolding plain_key
services_key_sound d count level few = whole d (flagged_head (codes "Services") 0 []) (first_services count) (record {
  own = head_by _ 0 [] refl refl refl refl refl;
  level = omega arith;
  differ = services_differ 0 count (omega arith);
  named = services_named 0 count;
  below = services_sound (suc d) 0 count (omega arith);
})

set_sound : (d count : ℕ) → d + 2 ≤ 512 → count ≤ 10000 → Sound d (generated_set count)
unfolding generated_set generated_control plain_key
set_sound d count level few =
    sound_key d (codes "ControlSet001") []
    (generated_control ∷ plain_key (codes "Services") [] (first_services count) ∷ [])
    (head_by _ 0 [] refl refl refl refl refl) (omega arith) refl refl
    (control_sound (suc d) (omega arith), (services_key_sound (suc d) count (omega arith) few, tt))

pub generated_sound : (count : ℕ) → count ≤ 10000 → Sound 1 (generated count)
unfolding generated generated_set generated_select plain_key
generated_sound count few =
    whole 1 (flagged_head (codes "ROOT") 0x000C []) (generated_set count ∷ generated_select ∷ []) (record {
      own = head_by _ 0x000C [] refl refl refl refl refl;
      level = omega arith;
      differ = ((refl, tt), (tt, tt));
      named = (omega arith, (omega arith, tt));
      below = (set_sound 2 count (omega arith) few, (select_sound 2 (omega arith), tt));
    })
