-- The parts of a base block as they are laid into a sector.
use Rattle.std.proofs.Common.{◌≡◌, ◌≤◌, ℕ, List, [], ◌++◌, take, drop, length, arith, ap, ◌∙◌, sym, length-append, length-drop, length-take, append-nil}
use Rattle.std.proofs.lemmas.List.{take-append-drop, take-append-le}
use Rattle.std.proofs.lemmas.Slice.{take-put_mid, drop-put_mid, drop-append-drop}
use Rattle.std.proofs.Math.ListN.{drop_of_length-le}
use Rattle.std.proofs.Math.Seq.{take-length}
use Rattle.std.specs.Int.{w32, to_le_bytes}
use borrow.Rule.Slice.PartMut.{put_mid}
use Rattle.hive_model.specs.Base.{checksum_of, moved_off}
use Rattle.hive_model.proofs.BaseLemmas.{mixed_front}

module _ (h n r old : List ℕ) (h_long : length h ≡ 48) (n_long : length n ≡ 64) (r_long : length r ≡ 396)
    (old_long : length old ≡ 512) where
  abbrev with_head : List ℕ
  with_head = h ++ drop 48 old

  abbrev with_name : List ℕ
  with_name = put_mid 48 64 with_head n

  abbrev pub laid : List ℕ
  laid = put_mid 112 396 with_name r

  head_length : length with_head ≡ 512
  head_length = omega (arith, length-append h (drop 48 old), length-drop 48 old)

  name_length : 112 ≤ length with_name
  name_length =
      let whole : length (take 112 with_name) ≡ 112 =
      ap length (take-put_mid 48 64 with_head n 112 (omega arith) (omega (arith, head_length)))
      ∙ omega (arith, length-append (take 48 with_head) n, length-take 48 with_head, head_length) in
      omega (arith, length-take 112 with_name)

  front : take 508 laid ≡ (h ++ n) ++ r
  front =
      take-put_mid 112 396 with_name r 508 (omega arith) name_length
      ∙ ap (λ l. l ++ r) (take-put_mid 48 64 with_head n 112 (omega arith) (omega (arith, head_length)))
      ∙ ap (λ l. l ++ n ++ r) (take-append-le 48 h (drop 48 old) (omega arith) ∙ ap (λ k. take k h) (sym h_long)
      ∙ take-length h)

  back : drop 512 laid ≡ []
  back =
      drop-put_mid 112 396 with_name r 512 (omega arith) name_length r_long
      ∙ drop-put_mid 48 64 with_head n 512 (omega arith) (omega (arith, head_length)) n_long
      ∙ drop-append-drop 48 old h 512 (omega arith) h_long
      ∙ drop_of_length-le old {i = 512} (omega arith)

  sum : checksum_of laid ≡ checksum_of ((h ++ n) ++ r)
  sum =
      ap checksum_of (sym (take-append-drop 508 laid))
      ∙ ap (λ l. checksum_of (l ++ drop 508 laid)) front
      ∙ ap moved_off (mixed_front 127 ((h ++ n) ++ r) (drop 508 laid)
      (omega (arith, length-append (h ++ n) r, length-append h n)))

  pub spelled : take 508 laid ++ to_le_bytes w32 (checksum_of laid) ++ drop 512 laid ≡ ((h ++ n) ++ r)
      ++ to_le_bytes w32 (checksum_of ((h ++ n) ++ r))
  spelled =
      ap (λ l. take 508 laid ++ to_le_bytes w32 (checksum_of laid) ++ l) back
      ∙ append-nil _
      ∙ ap (λ l. l ++ to_le_bytes w32 (checksum_of laid)) front
      ∙ ap (λ s. ((h ++ n) ++ r) ++ to_le_bytes w32 s) sum
