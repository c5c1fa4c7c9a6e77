-- When does a stop come that was ordered? In the n-th call of its kind, and no more stops come than were ordered: one that is
-- armed is still to come. (This project's own.)
use Rattle.std.specs.Prelude.{◌≤◌, ◌+◌, ◌-◌, ◌&&◌, Bool, true, false, nat_le, if◌then◌else◌, ℕ, List, map, Option, Some, None}
use Rattle.hive_model.specs.Image as book
use Rattle.nt_edge.specs.Book.{call_of, keep_of}
use Rattle.nt_edge.specs.declared.disk.DiskCall.{DiskCall}
use Rattle.nt_edge.specs.declared.disk.DiskCall.TheVariants.{Read, Write, Sync}
use Rattle.nt_edge.specs.declared.disk.Keep.{Keep}
use Rattle.mem_edge.specs.declared.orders.Armed.{Armed}
use Rattle.mem_edge.specs.declared.orders.Arming.{Arming}
use Rattle.mem_edge.specs.declared.orders.Arming.TheVariants.{Cut, Fault}

-- the book's word for an order
abbrev pub arming_of : Arming → book.Arming
arming_of (Cut call n keep) = book.ArmedCut (call_of call) n (keep_of keep)
arming_of (Fault call n) = book.ArmedFault (call_of call) n

-- how many stops are armed: one or none
abbrev pub pending : Option Armed → ℕ
pending None = 0
pending (Some a) = 1

-- a test whether two kinds of call are one
abbrev pub same_call : DiskCall → DiskCall → Bool
same_call Read Read = true
same_call Write Write = true
same_call Sync Sync = true
same_call a b = false

-- the stop comes in this call: it is of its kind, and no other of that kind is to come before
abbrev pub is_due : Option Armed → DiskCall → Bool
is_due None call = false
is_due (Some a) call = same_call a.call call && nat_le a.left 1

-- One call of this kind fewer until the stop, if it is of the stop's kind. A stop that comes is no longer armed.
abbrev pub counted_down : Option Armed → DiskCall → Option Armed
counted_down None call = None
counted_down (Some a) call =
    if same_call a.call call then (if nat_le a.left 1 then None else Some (record a { left = a.left - 1 })) else Some a

-- what remains of the writes in flight: where a cut comes in this call, what it was ordered with
abbrev pub keep_at : Option Armed → DiskCall → Keep → Keep
keep_at None call keep = keep
keep_at (Some a) call keep = if is_due (Some a) call then a.keep else keep

-- the cuts and faults that came and that are armed were made or ordered
pub record WithinOrders (cuts faults cut_calls : ℕ) (armings : List Arming) (cut fault : Option Armed) : Type 0 where
  pub cut_ordered : pending cut ≤ book.cut_orders (map arming_of armings)
  pub cuts_ordered : cuts + pending cut ≤ cut_calls + book.cut_orders (map arming_of armings)
  pub faults_ordered : faults + pending fault ≤ book.fault_orders (map arming_of armings)
  pub cuts_kept : cuts ≤ cut_calls + book.cut_orders (map arming_of armings)
  pub faults_kept : faults ≤ book.fault_orders (map arming_of armings)

-- these counts are not past their ends
pub record WithinEnds (first second third : ℕ) : Type 0 where
  pub first_end : first ≤ 18446744073709551615
  pub second_end : second ≤ 18446744073709551615
  pub third_end : third ≤ 18446744073709551615
