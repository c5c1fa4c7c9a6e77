use Rattle.std.proofs.Common.{◌≡◌, ◌-◌, ◌++◌, List, [], ℕ, length, sym, ap, subst, ◌∙◌, true, arith}
use Rattle.std.proofs.lemmas.List.{length-append}
use Rattle.std.specs.List.{flat_map}
use Rattle.hive_model.specs.Base.{is_bins_size}
use Rattle.hive_model.specs.Bins.{cell_bytes}
use Rattle.hive_model.specs.Packed.{ring, whole, rounded, free_cells}
use Rattle.hive_pack.specs.Writes.{IsRising}
use Rattle.hive_pack.proofs.Heap.{packed_is_bins}
use Rattle.hive_pack.proofs.Formed.{packed_is_well_formed}
use Rattle.hive_pack.proofs.Rising.{ring_rises}
use Rattle.hive_pack.proofs.Sized.{packed_is_sized}
use Rattle.hive_pack.proofs.Whole.{eights, length_whole, length_header, whole_written}
use Rattle.hive_pack.proofs.Written.{zeros}
use Rattle.hive_pack.proofs.bins.pack.Goals as goal
use Rattle.hive_pack.proofs.bins.pack.Goals.{In_ok-append_zeros, In_ok-_end, In_ok-write_key}

-- the room of the header is zeros
header_room : (c : In_ok-append_zeros) → c.append_zeros.new.self ≡ zeros 32
header_room c = c.in_ok-append_zeros.ensures.ok ∙ ap (λ (o : List ℕ). o ++ zeros 32) c.new-out.ensures

-- what was written after it is as long as the whole
written_long : (c : In_ok-write_key) → length c.write_key.new.out ≡ whole c.args.version c.args.tree.now
written_long c =
    length_whole c.args.version c.deref.result.now c.args.tree.now c.append_zeros.new.self c.write_key.new.out
    (header_room (goal.at.In_ok-write_key c).In_ok-append_zeros) c.in_ok-write_key.ensures

-- the ring is the tree's
ring_is : (c : In_ok-_end) → c.ring_of.new.ring.items ≡ ring c.args.version [] 32 c.args.tree.now
ring_is c =
    c.in_ok-_end.ensures.listed
    ∙ ap (λ (o : List ℕ). o ++ ring c.args.version [] 32 c.args.tree.now) c.new-ring.ensures.items

pub write_key-requires-clause-rising : goal.write_key-requires-clause-rising
write_key-requires-clause-rising c =
    subst IsRising
    (sym (c.deref.ensures.value ∙ ring_is (goal.at.write_key-requires-clause-rising c).In_ok-_end))
    (ring_rises c.args.version [] 32 c.args.tree.now)

pub put_free-requires-clause-whole : goal.put_free-requires-clause-whole
put_free-requires-clause-whole c =
    omega (
      arith,
      written_long (goal.at.put_free-requires-clause-whole c).In_ok-write_key,
      c.len-used.ensures,
      eights c.args.version [] c.args.tree.now,
    )

pub overflow_cast-size : goal.overflow_cast-size
overflow_cast-size c =
    omega (arith, written_long (goal.at.overflow_cast-size c).In_ok-write_key, c.len-used.ensures, c.requires.room)

pub overwrite-requires : goal.overwrite-requires
overwrite-requires c =
    let size = rounded c.len-used.result in
    omega (
      arith,
      written_long (goal.at.overwrite-requires c).In_ok-write_key,
      ap (λ (x : List ℕ). length x) c.in_ok-put_free.ensures,
      length-append c.write_key.new.out (flat_map cell_bytes (free_cells (size - c.len-used.result))),
      ap (λ (x : List ℕ). length x) (c.as_slice.ensures ∙ c.in_ok-header.ensures),
      length_header size,
    )

pub returns-clause-bytes : goal.returns-clause-bytes
returns-clause-bytes c =
    whole_written c.args.version c.deref.result.now c.args.tree.now c.append_zeros.new.self c.write_key.new.out
    c.put_free.new.out c.as_slice.result.now c.overwrite.new.self _ _
    (c.deref.ensures.value ∙ ring_is (goal.at.returns-clause-bytes c).In_ok-_end)
    (header_room (goal.at.returns-clause-bytes c).In_ok-append_zeros) c.in_ok-write_key.ensures
    (ap rounded c.len-used.ensures) (ap (λ (n : ℕ). rounded c.len-used.result - n) c.len-used.ensures)
    c.in_ok-put_free.ensures (c.as_slice.ensures ∙ c.in_ok-header.ensures) c.overwrite.ensures

pub returns-clause-sized : goal.returns-clause-sized
returns-clause-sized c =
    subst (λ (b : List ℕ). is_bins_size (length b) ≡ true) (sym (returns-clause-bytes c))
    (packed_is_sized c.args.version c.args.tree.now c.requires.room)

pub returns-clause-bins : goal.returns-clause-bins
returns-clause-bins c = let bins = packed_is_bins c.args.version c.args.tree.now c.requires.room in
    (bins.0, returns-clause-bytes c ∙ bins.1)

pub returns-clause-well_formed : goal.returns-clause-well_formed
returns-clause-well_formed c =
    packed_is_well_formed c.args.version c.args.tree.now c.requires.valid c.numbers_fit.ensures c.requires.room
