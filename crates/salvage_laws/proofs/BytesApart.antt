-- No byte of bins data is used twice.
use Rattle.std.proofs.Common.{◌≡◌, inl, inr, ℕ, ◌+◌, ◌-◌, ◌*◌, ◌/◌, ◌%◌, ◌<◌, ◌≤◌, Bool, true, false, cond, List, length, get_or, Ok, refl, sym, ap, ◌∙◌, arith}
use Rattle.std.specs.Prelude.{◌==◌, ◌&&◌, nat_le, nat_lt, drop, slice_range}
use Rattle.std.specs.List.{All}
use Rattle.std.proofs.lemmas.Bool.{cases_lt, eqb-true, eqb-false, and_parts}
use Rattle.std.proofs.lemmas.Bool.Decides.{nat_tests}
use Rattle.std.proofs.lemmas.List.{length-take}
use Rattle.nt_bytes.specs.Fields.{u32_in}
use Rattle.nt_bytes.specs.declared.version.HiveVersion.{HiveVersion}
use Rattle.nt_bytes.specs.declared.fault.HiveFaultKind.TheVariants.{FreeCell}
use Rattle.hive_model.specs.Bins.{magnitude}
use Rattle.hive_cells.proofs.Tools.{IsBytes}
use Rattle.hive_read.proofs.FormFacts.{unless, ok_same, not-above}
use Rattle.salvage_bins.specs.declared.layout.Mark.{Mark}
use Rattle.salvage_bins.specs.declared.layout.Mark.TheVariants.{Nothing, InBin, Loose}
use Rattle.salvage_bins.specs.Ground.{Ground, payload_here, payload_by, is_loose}
use Rattle.salvage_bins.specs.Layout.{layout_of}
use Rattle.salvage_walk.specs.declared.claims.Claim.{Claim}
use Rattle.salvage_walk.specs.Keys.{salvaged}
use Rattle.salvage_file.specs.Salvage.{ground_in}
use Rattle.salvage_laws.specs.Apart.{share_bytes, IsApart, AreApart}
use Rattle.salvage_laws.specs.Bytes.{LiesInCell, HaveNoByte, UseNoByteTwice}
use Rattle.salvage_laws.proofs.PartViews.{done}
use Rattle.salvage_laws.proofs.LeavingKeys.{salvage-is, salvage-apart}
use Rattle.salvage_laws.proofs.MarksApart.{begins, mark_of, size_of, AreTidy, layout-tidy}
use Rattle.salvage_laws.proofs.UsesLie.{salvage-lies}

-- a payload is that of a cell that begins here, and shorter than it
here-long : (bytes : List ℕ) (at : ℕ) (p : List ℕ) → payload_here bytes at ≡ done p → length p ≤ magnitude (u32_in bytes at) - 4
unfolding payload_here
here-long bytes at p e =
    let m = magnitude (u32_in bytes at) in
    let a = unless (nat_lt (u32_in bytes at) 2147483648) FreeCell (Ok (slice_range bytes (at + 4) (at + m))) p e in
    let same = ok_same (slice_range bytes (at + 4) (at + m)) p a.1 in
    omega (arith, ap length same, length-take (at + m - (at + 4)) (drop (at + 4) bytes))

by-mark : (m : Mark) (bytes : List ℕ) (at : ℕ) (p : List ℕ) → payload_by m bytes at ≡ done p
    → (begins m ≡ true) × (length p ≤ magnitude (u32_in bytes at) - 4)
by-mark Nothing bytes at p e = absurd cc
by-mark InBin bytes at p e = (refl, here-long bytes at p e)
by-mark Loose bytes at p e = (refl, here-long bytes at p e)

-- two loose uses that share no byte
first-ends : (a b : Claim) → a.loose ≡ true → b.loose ≡ true → a.at < b.end → share_bytes a b ≡ false → a.end ≤ b.at
first-ends a b la lb lt e =
    let one : nat_lt a.at b.end ≡ true = below a.at b.end lt in
    not-above b.at a.end
    (ap (λ t. t && nat_lt b.at a.end) (sym one) ∙ ap (λ t. t && (nat_lt a.at b.end && nat_lt b.at a.end)) (sym la)
    ∙ ap (λ t. t && (a.loose && (nat_lt a.at b.end && nat_lt b.at a.end))) (sym lb) ∙ e)
  where
    below : (m n : ℕ) → m < n → nat_lt m n ≡ true
    below m n lt = grind (arith, nat_tests)

second-ends : (a b : Claim) → a.loose ≡ true → b.loose ≡ true → b.at < a.end → share_bytes a b ≡ false → b.end ≤ a.at
second-ends a b la lb lt e =
    not-above a.at b.end
    (sym (and-true (nat_lt a.at b.end)) ∙ ap (λ t. nat_lt a.at b.end && t) (sym (below b.at a.end lt))
    ∙ ap (λ t. t && (nat_lt a.at b.end && nat_lt b.at a.end)) (sym la)
    ∙ ap (λ t. t && (a.loose && (nat_lt a.at b.end && nat_lt b.at a.end))) (sym lb) ∙ e)
  where
    below : (m n : ℕ) → m < n → nat_lt m n ≡ true
    below m n lt = grind (arith, nat_tests)

    and-true : (x : Bool) → (x && true) ≡ x
    and-true true = refl
    and-true false = refl

module _ (version : HiveVersion) (bytes : List ℕ) (fits : IsBytes bytes) (whole : length bytes % 8 ≡ 0) where
  abbrev marks : List Mark
  marks = (layout_of bytes).marks

  abbrev hive : Ground
  hive = ground_in version bytes marks

  tidy : AreTidy marks bytes
  tidy = layout-tidy bytes fits whole

  -- a use of a cell that has a mark
  record Placed (c : Claim) : Type 0 where
    pub eight : c.at % 8 ≡ 0
    pub mark : begins (mark_of marks (c.at / 8)) ≡ true
    pub starts : c.at ≤ c.end
    pub ends : c.end ≤ c.at + size_of bytes (c.at / 8)
    pub loose : c.loose ≡ is_loose (mark_of marks (c.at / 8))

  placed : (c : Claim) → LiesInCell hive c → Placed c
  placed c l = by ((c.at % 8 == 0) && nat_le (c.at + 8) (length bytes)) refl l.there l.loose
    where
      by : (b : Bool) → ((c.at % 8 == 0) && nat_le (c.at + 8) (length bytes)) ≡ b
          → payload_by (cond b (mark_of marks (c.at / 8)) Nothing) bytes c.at ≡ Ok l.payload
          → c.loose ≡ is_loose (cond b (mark_of marks (c.at / 8)) Nothing) → Placed c
      by true t e k =
          let eight = eqb-true (c.at % 8) 0 (and_parts (c.at % 8 == 0) (nat_le (c.at + 8) (length bytes)) t).0 in
          let m = by-mark (mark_of marks (c.at / 8)) bytes c.at l.payload e in
          let least = tidy.least (c.at / 8) m.0 in
          let place : 8 * (c.at / 8) ≡ c.at = omega (arith, eight) in
          let size : size_of bytes (c.at / 8) ≡ magnitude (u32_in bytes c.at) = ap (λ n. magnitude (u32_in bytes n)) place in
          record {
            eight = eight;
            mark = m.0;
            starts = l.begins;
            ends = omega (arith, l.ends, m.1, least, size);
            loose = k;
          }
      by false t e k = absurd cc

  pair : (a b : Claim) → Placed a → Placed b → IsApart a b → HaveNoByte a b
  pair a b pa pb apart =
      let ma = mark_of marks (a.at / 8) in
      let mb = mark_of marks (b.at / 8) in
      elim (cases_lt a.at b.at) [
        | inl lt ↦ inl (before (is_loose ma && is_loose mb) refl lt)
        | inr le ↦ inr (behind (is_loose mb && is_loose ma) refl (omega (arith, le, differ)))
      ]
    where
      differ : a.at ≡ b.at → ⊥
      differ = eqb-false a.at b.at apart.places

      before : (t : Bool) → (is_loose (mark_of marks (a.at / 8)) && is_loose (mark_of marks (b.at / 8))) ≡ t → a.at < b.at → a.end ≤ b.at
      before true t lt =
          let both = and_parts (is_loose (mark_of marks (a.at / 8))) (is_loose (mark_of marks (b.at / 8))) t in
          first-ends a b (pa.loose ∙ both.0) (pb.loose ∙ both.1) (omega (arith, lt, pb.starts)) apart.bytes
      before false t lt =
          omega (
            arith,
            pa.ends,
            pa.eight,
            pb.eight,
            tidy.apart (a.at / 8) (b.at / 8) (omega (arith, lt, pa.eight, pb.eight)) pa.mark pb.mark t,
          )

      behind : (t : Bool) → (is_loose (mark_of marks (b.at / 8)) && is_loose (mark_of marks (a.at / 8))) ≡ t → b.at < a.at → b.end ≤ a.at
      behind true t lt =
          let both = and_parts (is_loose (mark_of marks (b.at / 8))) (is_loose (mark_of marks (a.at / 8))) t in
          second-ends a b (pa.loose ∙ both.1) (pb.loose ∙ both.0) (omega (arith, lt, pa.starts)) apart.bytes
      behind false t lt =
          omega (
            arith,
            pb.ends,
            pa.eight,
            pb.eight,
            tidy.apart (b.at / 8) (a.at / 8) (omega (arith, lt, pa.eight, pb.eight)) pb.mark pa.mark t,
          )

  pub bytes-apart : (claims : List Claim) → All (LiesInCell hive) claims → AreApart claims → UseNoByteTwice claims
  bytes-apart claims lie apart i j d lt within =
      pair (get_or claims i d) (get_or claims j d) (placed (get_or claims i d) (lie i d (omega (arith, lt, within))))
      (placed (get_or claims j d) (lie j d within)) (apart i j d lt within)

  pub no-byte-twice : (root : ℕ) → UseNoByteTwice (salvaged hive root).1.claims
  no-byte-twice root =
      bytes-apart (salvaged hive root).1.claims
      (salvage-lies hive root (salvaged hive root).0 (salvaged hive root).1 (salvage-is hive root)) (salvage-apart hive root)
