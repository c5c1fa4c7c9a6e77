-- The generated tree has a small bulk: a bound for each service, and one for the lists.
use Rattle.std.proofs.Common.{◌≡◌, ℕ, zero, suc, ◌+◌, ◌*◌, ◌%◌, ◌≤◌, Bool, true, false, cond, [], ◌∷◌, ◌++◌, length, map, refl, ap, ◌∙◌, arith}
use Rattle.std.specs.Prelude.{codes, nat_lt, ◌==◌}
use Rattle.std.specs.List.{range_with_len}
use Rattle.std.proofs.lemmas.Bool.{leb-true}
use Rattle.std.proofs.lemmas.List.FromFn.{length-map-range_with_len}
use Rattle.nt_bytes.specs.declared.version.HiveVersion.TheVariants.{V3}
use Rattle.hive_model.specs.Tree.{trees}
use Rattle.hive_model.specs.Size.{cell, list_size, count, size, size_of_all, bulk_of}
use Rattle.reg_tree.proofs.Trees.{listed_trees}
use Rattle.generated_hive.specs.Generated.{plain_key, number_value, string_value, strings_value, numbers_value, group_name, tags_values, tags_key, groups_key, service_name, has_need, need_value, group_value, order_values, generated_service, first_services, generated_control, generated_set, generated_select, generated}
use Rattle.generated_hive.proofs.NameLemmas.{name_narrow}

-- ---- a service

size_with : (i : ℕ) (need : Bool)
    → size V3 [] (plain_key (service_name i) (order_values i ++ cond need (need_value i ∷ []) []) []) ≤ 400
unfolding service_name group_name number_value string_value strings_value need_value group_value order_values plain_key
size_with i true = rw (name_narrow i) (omega arith)
size_with i false = rw (name_narrow i) (omega arith)

service_size : (i : ℕ) → size V3 [] (generated_service i) ≤ 400
unfolding generated_service
service_size i = size_with i (has_need i)

services_size : (a n : ℕ) → size_of_all V3 [] (trees (map generated_service (range_with_len a n))) ≤ 400 * n
services_size a zero = omega arith
services_size a (suc n) = omega (arith, service_size a, services_size (a + 1) n)

-- ---- a list of services

either : (b : Bool) (x y m : ℕ) → x ≤ m → y ≤ m → cond b x y ≤ m
either true x y m small other = small
either false x y m small other = other

list_small : (n : ℕ) → n ≤ 10000 → list_size n ≤ 200000
list_small n few =
    either (n == 0) 0 _ 200000 (omega arith)
    (either (nat_lt n 501) (cell (4 + 8 * n)) _ 200000 (omega arith) (
    let last : cond (n % 500 == 0) 0 (cell (4 + 8 * (n % 500))) ≤ 5000 =
    either (n % 500 == 0) 0 (cell (4 + 8 * (n % 500))) 5000 (omega arith) (omega arith) in
    omega (arith, last)
    ))

list_as : (n : ℕ) → count (trees (first_services n)) ≡ n
list_as n = ap length (listed_trees (first_services n)) ∙ length-map-range_with_len generated_service 0 n

-- ---- the whole

services_key_size : (n : ℕ) → n ≤ 10000 → size V3 [] (plain_key (codes "Services") [] (first_services n)) ≤ 5000000
unfolding plain_key
services_key_size n few =
    let lists : list_size (count (trees (first_services n))) ≡ list_size n = ap list_size (list_as n) in
    omega (arith, lists, list_small n few, services_size 0 n)

control_size : size V3 [] generated_control ≤ 100000
unfolding generated_control tags_key tags_values numbers_value groups_key strings_value group_name plain_key
control_size = leb-true (size V3 [] generated_control) 100000 refl

select_size : size V3 [] generated_select ≤ 100000
unfolding generated_select number_value plain_key
select_size = leb-true (size V3 [] generated_select) 100000 refl

set_size : (n : ℕ) → n ≤ 10000 → size V3 [] (generated_set n) ≤ 6000000
unfolding generated_set plain_key
set_size n few = omega (arith, control_size, services_key_size n few)

pub generated_size : (n : ℕ) → n ≤ 10000 → bulk_of V3 (generated n) ≤ 16773120
unfolding generated
generated_size n few = omega (arith, set_size n few, select_size)
