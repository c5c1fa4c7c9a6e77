-- What the logic asks of a plan as the value of a model: a code that distinguishes plans. This project's own.
use Rattle.std.specs.Prelude.{◌≡◌, ◌⊎◌, ℕ, List, refl}
use Rattle.std.proofs.Common.{inl, inr}
use Rattle.std.specs.Coded.{Coded, code_by, coded×, coded⊎, coded_ℕ, coded_list}
use Rattle.hive_model.specs.Tree.{Tree}
use Rattle.hive_model.specs.Codes.{coded_tree}
use Rattle.hive_model.specs.Edit.{Step, set_value, delete_value, make_key, delete_key, copy_child, add_child}
use Rattle.start_model.specs.Sets.{SelectNumbers, SetPlan}

abbrev Name : Type 0
Name = List ℕ

abbrev coded_name : Coded Name
coded_name = coded_list coded_ℕ

abbrev coded_path : Coded (List Name)
coded_path = coded_list coded_name

-- the parts of each form of step
abbrev Parts : Type 0
Parts =
    (List Name × (Name × (ℕ × Name)))
    ⊎ ((List Name × Name) ⊎ ((List Name × Name) ⊎ (List Name ⊎ ((Name × Name) ⊎ (Name × Tree)))))

abbrev parts_of : Step → Parts
parts_of (set_value path name kind bytes) = inl (path, (name, (kind, bytes)))
parts_of (delete_value path name) = inr (inl (path, name))
parts_of (make_key parent name) = inr (inr (inl (parent, name)))
parts_of (delete_key path) = inr (inr (inr (inl path)))
parts_of (copy_child from to) = inr (inr (inr (inr (inl (from, to)))))
parts_of (add_child name tree) = inr (inr (inr (inr (inr (name, tree)))))

abbrev step_with : Parts → Step
step_with (inl p) = set_value p.0 p.1.0 p.1.1.0 p.1.1.1
step_with (inr (inl p)) = delete_value p.0 p.1
step_with (inr (inr (inl p))) = make_key p.0 p.1
step_with (inr (inr (inr (inl p)))) = delete_key p
step_with (inr (inr (inr (inr (inl p))))) = copy_child p.0 p.1
step_with (inr (inr (inr (inr (inr p))))) = add_child p.0 p.1

abbrev step_again : (s : Step) → step_with (parts_of s) ≡ s
step_again (set_value path name kind bytes) = refl
step_again (delete_value path name) = refl
step_again (make_key parent name) = refl
step_again (delete_key path) = refl
step_again (copy_child from to) = refl
step_again (add_child name tree) = refl

abbrev coded_step : Coded Step
coded_step =
    code_by Parts
    (coded⊎ (coded× coded_path (coded× coded_name (coded× coded_ℕ coded_name)))
    (coded⊎ (coded× coded_path coded_name)
    (coded⊎ (coded× coded_path coded_name)
    (coded⊎ coded_path
    (coded⊎ (coded× coded_name coded_name) (coded× coded_name coded_tree))))))
    parts_of step_with step_again

abbrev coded_numbers : Coded SelectNumbers
coded_numbers =
    code_by (ℕ × (ℕ × (ℕ × ℕ))) (coded× coded_ℕ (coded× coded_ℕ (coded× coded_ℕ coded_ℕ)))
    (λ n. (n.current, (n.default, (n.failed, n.good))))
    (λ p. record { current = p.0; default = p.1.0; failed = p.1.1.0; good = p.1.1.1 }) (λ _. refl)

-- a plan as the tuple of its number, its numbers of `Select` and its steps
abbrev pub coded_plan : Coded SetPlan
coded_plan =
    code_by (ℕ × (SelectNumbers × List Step)) (coded× coded_ℕ (coded× coded_numbers (coded_list coded_step)))
    (λ p. (p.chosen, (p.numbers, p.steps)))
    (λ p. record { chosen = p.0; numbers = p.1.0; steps = p.1.1 }) (λ _. refl)
