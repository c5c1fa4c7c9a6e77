-- What holds of every disk in memory.
use Rattle.std.specs.Prelude.{◌≡◌, ◌≤◌, ◌+◌, ◌*◌, ℕ, List, [], ◌++◌, min, replicate, count_by, if◌then◌else◌}
use Rattle.std.proofs.Common.{sym, ◌∙◌, ap}
use Rattle.std.proofs.lemmas.List.Sums.{sum_by-append}
use Rattle.std.proofs.lemmas.List.Folds.{sum_by-replicate}
use Rattle.std.specs.List.{sum_by}
use Rattle.std.proofs.Math.Nat.{mul-one, mul-zero, add-zero, zero-add, min-eq_left}
use Rattle.hive_model.specs.Image.{Address, Primary}
use Rattle.nt_edge.specs.Calls.{Made, ReadAt, Wrote, Synced}
use Rattle.nt_edge.specs.declared.disk.DiskCall.{DiskCall}
use Rattle.nt_edge.specs.declared.disk.DiskCall.TheVariants.{Read, Write, Sync}
use Rattle.nt_edge.specs.Disk.{IsBounded}
use Rattle.nt_edge.specs.Bench.{KeepsOrders}
use Rattle.mem_edge.specs.declared.store.MemDisk.{MemDisk}
use Rattle.mem_edge.specs.Calls.{is_of, counts_calls}
use Rattle.mem_edge.specs.State.{state_of}

-- no count is past its end
pub bounded_law : (d : MemDisk) → IsBounded (state_of d)
bounded_law d = record {
  cuts = d.ends.first_end;
  faults = d.ends.second_end;
  lacks = d.ends.third_end;
  cut_calls = d.bench_ends.first_end;
  placings = d.bench_ends.second_end;
  takings = d.bench_ends.third_end;
}

-- no more stops than were ordered
pub ordered_law : (d : MemDisk) → KeepsOrders (state_of d)
ordered_law d = record { cuts = d.orders.cuts_kept; faults = d.orders.faults_kept }

-- that many calls of three kinds, of which f counts each
sum_like : (f : Made → ℕ) (reads writes syncs : ℕ) (x y z : Made)
    → sum_by f (replicate reads x ++ (replicate writes y ++ replicate syncs z)) ≡ reads * f x + (writes * f y + syncs * f z)
sum_like f reads writes syncs x y z =
    sum_by-append f (replicate reads x) (replicate writes y ++ replicate syncs z)
    ∙ ap (λ n. sum_by f (replicate reads x) + n) (sum_by-append f (replicate writes y) (replicate syncs z))
    ∙ λ i. sum_by-replicate f reads x i + (sum_by-replicate f writes y i + sum_by-replicate f syncs z i)

only_reads : (r w s : ℕ) → r * 1 + (w * 0 + s * 0) ≡ r
only_reads r w s = (λ i. mul-one r i + (mul-zero w i + mul-zero s i)) ∙ add-zero r

only_writes : (r w s : ℕ) → r * 0 + (w * 1 + s * 0) ≡ w
only_writes r w s = (λ i. mul-zero r i + (mul-one w i + mul-zero s i)) ∙ zero-add (w + 0) ∙ add-zero w

only_syncs : (r w s : ℕ) → r * 0 + (w * 0 + s * 1) ≡ s
only_syncs r w s = (λ i. mul-zero r i + (mul-zero w i + mul-one s i)) ∙ zero-add (0 + s) ∙ zero-add s

-- a count that is not past its end is all of the calls
all_counted : (n m : ℕ) → n ≤ 18446744073709551615 → m ≡ n → n ≡ min m 18446744073709551615
all_counted n m small is = sym (ap (λ k. min k 18446744073709551615) is ∙ min-eq_left small)

module _ (d : MemDisk) (x y z : Made) where
  sum_of : (call : DiskCall) → count_by (is_of call) (replicate d.reads x ++ (replicate d.writes y ++ replicate d.syncs z))
      ≡ d.reads * (if is_of call x then 1 else 0) + (d.writes * (if is_of call y then 1 else 0) + d.syncs * (if is_of call z then 1 else 0))
  sum_of call = sum_like (λ m. if is_of call m then 1 else 0) d.reads d.writes d.syncs x y z

-- some list has the same number of calls of each kind as were counted
pub some_law : (d : MemDisk) → (made : List Made) × counts_calls d made
some_law d =
    let at : Address = record { file = Primary; sector = 0 } in
    let x : Made = ReadAt at in
    let y : Made = Wrote (at, []) in (
      replicate d.reads x ++ (replicate d.writes y ++ replicate d.syncs Synced),
      elim [
        | Read ↦ all_counted d.reads _ d.call_ends.first_end (sum_of d x y Synced Read ∙ only_reads d.reads d.writes d.syncs)
        | Write ↦ all_counted d.writes _ d.call_ends.second_end (sum_of d x y Synced Write ∙ only_writes d.reads d.writes d.syncs)
        | Sync ↦ all_counted d.syncs _ d.call_ends.third_end (sum_of d x y Synced Sync ∙ only_syncs d.reads d.writes d.syncs)
      ],
    )
