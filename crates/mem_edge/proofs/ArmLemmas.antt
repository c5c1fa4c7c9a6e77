-- One more order.
use Rattle.std.proofs.Common.{◌≡◌, ◌+◌, ℕ, List, [], ◌∷◌, ◌++◌, map, Option, Some, sym, subst, arith}
use Rattle.hive_model.specs.Image as book
use Rattle.nt_edge.specs.declared.disk.DiskCall.{DiskCall}
use Rattle.nt_edge.specs.declared.disk.Keep.{Keep}
use Rattle.mem_edge.specs.declared.orders.Armed.{Armed}
use Rattle.mem_edge.specs.declared.orders.Arming.{Arming}
use Rattle.mem_edge.specs.declared.orders.Arming.TheVariants.{Cut, Fault}
use Rattle.mem_edge.specs.Orders.{arming_of, WithinOrders}

abbrev cuts : List Arming → ℕ
cuts armings = book.cut_orders (map arming_of armings)

abbrev faults : List Arming → ℕ
faults armings = book.fault_orders (map arming_of armings)

cuts_push : (old : List Arming) (a : Arming) → cuts (old ++ a ∷ []) ≡ cuts old + cuts (a ∷ [])
cuts_push [] a = omega arith
cuts_push (Cut c n k ∷ old) a = omega (arith, cuts_push old a)
cuts_push (Fault c n ∷ old) a = cuts_push old a

faults_push : (old : List Arming) (a : Arming) → faults (old ++ a ∷ []) ≡ faults old + faults (a ∷ [])
faults_push [] a = omega arith
faults_push (Fault c n ∷ old) a = omega (arith, faults_push old a)
faults_push (Cut c n k ∷ old) a = faults_push old a

module _ {came failed calls : ℕ} {old : List Arming} {cut fault : Option Armed}
    (within : WithinOrders came failed calls old cut fault) (call : DiskCall) (n : ℕ) where
  -- a cut is ordered and armed
  pub cut_within : (keep : Keep) (new : List Arming) (a : Armed) → new ≡ old ++ Cut call n keep ∷ []
      → WithinOrders came failed calls new (Some a) fault
  cut_within keep new a is =
      let more = cuts_push old (Cut call n keep) in
      let same = faults_push old (Cut call n keep) in
      subst (λ (l : List Arming). WithinOrders came failed calls l (Some a) fault) (sym is) (record {
        cut_ordered = omega (arith, more);
        cuts_ordered = omega (arith, more, within.cuts_kept);
        faults_ordered = omega (arith, same, within.faults_ordered);
        cuts_kept = omega (arith, more, within.cuts_kept);
        faults_kept = omega (arith, same, within.faults_kept);
      })

  -- a fault is ordered and armed
  pub fault_within : (new : List Arming) (a : Armed) → new ≡ old ++ Fault call n ∷ []
      → WithinOrders came failed calls new cut (Some a)
  fault_within new a is =
      let same = cuts_push old (Fault call n) in
      let more = faults_push old (Fault call n) in
      subst (λ (l : List Arming). WithinOrders came failed calls l cut (Some a)) (sym is) (record {
        cut_ordered = omega (arith, same, within.cut_ordered);
        cuts_ordered = omega (arith, same, within.cuts_ordered);
        faults_ordered = omega (arith, more, within.faults_kept);
        cuts_kept = omega (arith, same, within.cuts_kept);
        faults_kept = omega (arith, more, within.faults_kept);
      })
