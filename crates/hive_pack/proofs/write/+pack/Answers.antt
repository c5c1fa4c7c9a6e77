use Rattle.std.proofs.Common.{◌≡◌, ◌≤◌, ◌+◌, ◌-◌, ◌++◌, List, [], ◌∷◌, ℕ, length, take, drop, map, sym, ap, subst, ◌∙◌, append_assoc, arith}
use Rattle.hive_model.specs.Tree.{Tree, trees, listed, head, children}
use Rattle.hive_model.specs.Codes.{weights}
use Rattle.hive_model.specs.Valid.{AllHoldKeys}
use Rattle.hive_model.specs.Size.{count, list_size, size_of_all}
use Rattle.hive_model.specs.Packed.{Above, below, text, places, hint, list_cells, cells_of, cells_of_all}
use Rattle.hive_pack.specs.Writes.{above, IsRising}
use Rattle.hive_pack.proofs.Rows.{length_places, length_text, space_lists}
use Rattle.reg_tree.proofs.Outcomes.{uncons}
use Rattle.reg_tree.proofs.Trees.{listed_trees}
use Rattle.hive_pack.proofs.Written.{parted, counted, size_parted, weight_parted, holds_parted, lists_place, first_place, key_written, child_next, child_next_place, list_room}
use Rattle.hive_pack.proofs.write.+pack.Goals as goal
use Rattle.hive_pack.proofs.write.+pack.Goals.{write_key-After-list_len, write_key-After-deref, write_key-After-as_slice}

pub write_children-children-preserved : goal.write_children-children-preserved
write_children-children-preserved m c =
    let i = c.children.invariant in
    let up = above c.args.up in
    let out = c.children.out in
    let t = c.child-item.result in
    let rest = c.children.rest.now in
    let later : List Tree = take (length rest - 1) (drop 1 rest) in
    let r : rest ≡ t ∷ later = uncons rest t c.in-len1-up.len_at_least c.child-item.is in
    let at = child_next_place c.args.version up t out c.write_key.new.out c.in_ok-write_key.ensures in
    let room = subst (λ (xs : List Tree). length out + size_of_all c.args.version up.security (trees xs) ≤ 16777216)
    r i.room in
    record {
      written = child_next c.args.version up t (trees later) out c.write_key.new.out c.in_ok-write_key.ensures
          ∙ ap (λ (xs : List Tree). out ++ text (cells_of_all c.args.version up (length out) (trees xs))) (sym r)
          ∙ i.written;
      places =
          ap (λ (ps : List ℕ). ps ++ places c.args.version up.security (length c.write_key.new.out) (trees later))
          (c.in_ok-push.ensures.items ∙ ap (λ (n : ℕ). c.children.places.items ++ n ∷ []) c.len.ensures)
          ∙ append_assoc c.children.places.items (length out ∷ [])
          (places c.args.version up.security (length c.write_key.new.out) (trees later))
          ∙ ap (λ (n : ℕ). c.children.places.items ++ length out ∷ places c.args.version up.security n (trees later)) at
          ∙ ap (λ (xs : List Tree). c.children.places.items
          ++ places c.args.version up.security (length out) (trees xs)) (sym r)
          ∙ i.places;
      valid = (subst (λ (xs : List Tree). AllHoldKeys (trees xs)) r i.valid).1;
      room = omega (arith, room, at);
      fewer = omega (arith, i.fewer, ap weights r);
    }

-- as many bytes are kept free as the lists of the children fill
kept_free : (m : ℕ) (c : write_key-After-list_len m) → c.list_len.result ≡ list_size (count (trees (children c.args.key.now)))
kept_free m c =
    c.list_len.ensures ∙ ap (λ (ks : List Tree). list_size (length ks))
    (c.subkeys-keys.ensures ∙ sym (listed_trees (children c.args.key.now)))

-- the places that the lists name
places_are : (m : ℕ) (c : write_key-After-deref m) → c.deref.result.now
    ≡ places c.args.version c.below_up-mine.result.security.now (length c.append_zeros.new.self)
    (trees c.subkeys-keys.result.now)
places_are m c = c.deref.ensures.value ∙ c.in_ok-places.ensures.places

places_count : (m : ℕ) (c : write_key-After-deref m) → length c.deref.result.now ≡ length c.subkeys-keys.result.now
places_count m c =
    ap (λ (x : List ℕ). length x) (places_are m c)
    ∙ length_places c.args.version c.below_up-mine.result.security.now (length c.append_zeros.new.self)
    (trees c.subkeys-keys.result.now) ∙ counted c.subkeys-keys.result.now

-- what was written of the lists
lists_are : (m : ℕ) (c : write_key-After-as_slice m) → let t = c.args.key.now in let v = c.args.version in
    c.as_slice.result.now ≡ text (list_cells v c.len-list_at.result
    (places v (head t).security (length c.append_zeros.new.self) (trees (children t)))
    (map (hint v) (listed (trees (children t)))))
lists_are m c =
    let v = c.args.version in
    let n = length c.append_zeros.new.self in
    let at = c.len-list_at.result in
    let k = c.subkeys-keys.ensures in
    let s = ap (λ (u : Above). u.security) c.below_up-mine.ensures in
    let p = places_are m (goal.at.write_key-After-as_slice m c).After-deref in
    let cs = children c.args.key.now in
    c.as_slice.ensures ∙ c.in_ok-write_key_lists.ensures
    ∙ (λ j. c.new-lists.ensures j ++ text (list_cells v at (p j) (map (hint v) c.subkeys-keys.result.now)))
    ∙ (λ j. text (list_cells v at (places v (s j) n (trees (k j))) (map (hint v) (k j))))
    ∙ ap (λ (us : List Tree). text (list_cells v at (places v (head c.args.key.now).security n (trees cs)) (map (hint v) us)))
    (sym (listed_trees cs))

pub write_key-write_children-requires : goal.write_key-write_children-requires
write_key-write_children-requires m c =
    let t = c.args.key.now in
    let up = above c.args.up in
    let n = kept_free m (goal.at.write_key-write_children-requires m c).After-list_len in
    let first = first_place c.args.version up (head t) (trees (children t))
    c.args.out.now c.write_head.new.out c.append_zeros.new.self c.list_len.result c.in_ok-write_head.ensures n
    c.in_ok-append_zeros.ensures.ok in
    let security = ap (λ (u : Above). u.security) c.below_up-mine.ensures in (
      omega (arith, weight_parted t, ap weights c.subkeys-keys.ensures),
      (
        subst (λ (ks : List Tree). AllHoldKeys (trees ks)) (sym c.subkeys-keys.ensures)
            (holds_parted t c.requires.valid).1,
        (
          subst IsRising (sym (ap (λ (u : Above). u.ring) c.below_up-mine.ensures)) c.requires.rising,
          omega (
            arith,
            first,
            c.requires.room,
            size_parted c.args.version up.security t,
            ap list_size (counted (children t)),
            ap (λ (s : List ℕ). size_of_all c.args.version s (trees c.subkeys-keys.result.now)) security
                ∙ ap (λ (ks : List Tree). size_of_all c.args.version (head t).security (trees ks))
                c.subkeys-keys.ensures,
          ),
        ),
      ),
    )

pub write_key-write_key_lists-requires-clause-same : goal.write_key-write_key_lists-requires-clause-same
write_key-write_key_lists-requires-clause-same m c =
    places_count m (goal.at.write_key-write_key_lists-requires-clause-same m c).After-deref

pub write_key-write_key_lists-requires-clause-room : goal.write_key-write_key_lists-requires-clause-room
write_key-write_key_lists-requires-clause-room m c =
    let t = c.args.key.now in
    let up = above c.args.up in
    let n : length c.deref.result.now ≡ length (children t) =
    places_count m (goal.at.write_key-write_key_lists-requires-clause-room m c).After-deref
    ∙ ap (λ (us : List Tree). length us) c.subkeys-keys.ensures in
    omega (
      arith,
      c.len-list_at.ensures,
      lists_place c.args.version up (head t) (trees (children t))
          c.args.out.now c.write_head.new.out c.in_ok-write_head.ensures,
      ap list_size n,
      size_parted c.args.version up.security t,
      c.requires.room,
    )

pub write_key-overwrite-requires : goal.write_key-overwrite-requires
write_key-overwrite-requires m c =
    let t = c.args.key.now in
    let cs = children t in
    let two = c.append_zeros.new.self in
    let len : length c.as_slice.result.now ≡ list_size (count (trees cs)) =
    ap (λ (x : List ℕ). length x) (lists_are m (goal.at.write_key-overwrite-requires m c).After-as_slice)
    ∙ length_text (list_cells c.args.version c.len-list_at.result
    (places c.args.version (head t).security (length two) (trees cs))
    (map (hint c.args.version) (listed (trees cs))))
    ∙ space_lists c.args.version c.len-list_at.result (head t).security (length two) (trees cs) in
    omega (
      arith,
      list_room c.args.version (above c.below_up-mine.result) (head t) (trees cs)
          0 c.write_head.new.out two c.write_children.new.out c.as_slice.result.now c.list_len.result
          (kept_free m (goal.at.write_key-overwrite-requires m c).After-list_len)
          c.in_ok-append_zeros.ensures.ok
          (c.in_ok-places.ensures.written
          ∙ ap (λ (us : List Tree). two
          ++ text (cells_of_all c.args.version (above c.below_up-mine.result) (length two) (trees us)))
          c.subkeys-keys.ensures) len,
      c.len-list_at.ensures,
    )

pub write_key-returns : goal.write_key-returns
write_key-returns m c =
    let t = c.args.key.now in
    let old = c.args.out.now in
    let two = c.append_zeros.new.self in
    let up = above c.args.up in
    let mine : above c.below_up-mine.result ≡ below up (length old) (head t) =
    c.below_up-mine.ensures ∙ ap (λ (k : ℕ). below up k (head t)) c.len-at.ensures in
    let three =
    c.in_ok-places.ensures.written
    ∙ (λ j. two ++ text (cells_of_all c.args.version (mine j) (length two) (trees (c.subkeys-keys.ensures j)))) in
    key_written c.args.version up (head t) (trees (children t))
    old c.write_head.new.out two c.write_children.new.out c.as_slice.result.now c.overwrite.new.self
    c.len-list_at.result c.list_len.result c.in_ok-write_head.ensures c.len-list_at.ensures
    (kept_free m (goal.at.write_key-returns m c).After-list_len) c.in_ok-append_zeros.ensures.ok three
    (lists_are m (goal.at.write_key-returns m c).After-as_slice) c.overwrite.ensures
    ∙ ap (λ (u : Tree). old ++ text (cells_of c.args.version up (length old) u)) (parted t)
