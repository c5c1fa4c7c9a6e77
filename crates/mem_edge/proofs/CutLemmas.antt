-- Bytes cut into sectors.
use Rattle.std.proofs.Common.{◌≡◌, ◌⊎◌, inl, inr, ◌<◌, ◌≤◌, ◌+◌, ◌*◌, ℕ, Global, List, [], ◌∷◌, ◌++◌, length, take, drop, cond, Some, None, sym, ◌∙◌, ap, subst, arith, length-append, length-drop, lt-ltb}
use Rattle.std.proofs.lemmas.List.{get_or_append_left, drop-drop, drop-append-le, take-append-le, take_all}
use Rattle.std.proofs.Math.Seq.{get_or-append_seam, drop-append_seam}
use Rattle.std.specs.Rc.{rc_value}
use Rattle.std.specs.declared.rc.Rc.{Rc}
use Rattle.hive_model.specs.Image.{Bytes, bytes_of, padded, sector_of}
use Rattle.mem_edge.specs.declared.writes.Sector.{Sector}
use Rattle.mem_edge.specs.declared.writes.Sector.TheVariants.{Absent, Whole}
use Rattle.mem_edge.specs.Views.{content_of, held_in}

-- what is after the next sector is after one more
pub cut_behind : (bytes rest : List ℕ) (s t : List Sector) (x : Sector) → rest ≡ drop (512 * length s) bytes
    → t ≡ s ++ x ∷ [] → drop 512 rest ≡ drop (512 * length t) bytes
cut_behind bytes rest s t x is pushed =
    let long : 512 * length s + 512 ≡ 512 * length t = omega (arith, ap length pushed, length-append s (x ∷ [])) in
    ap (drop 512) is ∙ drop-drop 512 (512 * length s) bytes ∙ ap (λ n. drop n bytes) long

which : (n m : ℕ) → n < m + 1 → (n < m) ⊎ (n ≡ m)
which n m less = grind arith

-- each sector so far is that of the bytes, and so with one more
pub cut_each : (bytes rest : List ℕ) (sector : Rc (List ℕ) Global) (s t : List Sector)
    → rest ≡ drop (512 * length s) bytes → 0 < length rest → rc_value sector ≡ padded (take 512 rest)
    → t ≡ s ++ Whole sector ∷ []
    → ((n : ℕ) → n < length s → held_in s n ≡ sector_of bytes n) → (n : ℕ) → n < length t
    → held_in t n ≡ sector_of bytes n
cut_each bytes rest sector s t is more content pushed each n small =
    let below : n < length s + 1 = omega (arith, ap length pushed, length-append s (Whole sector ∷ [])) in
    let inside : 512 * length s < length bytes = omega (arith, ap length is, length-drop (512 * length s) bytes) in
    let here : held_in t (length s) ≡ sector_of bytes (length s) =
    ap (λ l. held_in l (length s)) pushed ∙ ap content_of (get_or-append_seam s (Whole sector) [] Absent)
    ∙ ap (λ b. Some (Bytes b)) (content ∙ ap (λ r. padded (take 512 r)) is)
    ∙ sym (ap (λ t. cond t (Some (Bytes (padded (take 512 (drop (512 * length s) bytes))))) None)
    (lt-ltb _ _ inside)) in
    elim (which n (length s) below) [
      | inl less ↦ ap (λ l. held_in l n) pushed ∙ ap content_of (get_or_append_left s (Whole sector ∷ []) Absent n less)
          ∙ each n less
      | inr same ↦ subst (λ (k : ℕ). held_in t k ≡ sector_of bytes k) (sym same) here
    ]

-- each whole sector so far is there, and so with one more
pub joined_each : (sectors : List Sector) (i : ℕ) (old piece new : List ℕ) → length old ≡ 512 * i → length piece ≡ 512
    → piece ≡ bytes_of (held_in sectors i) → new ≡ old ++ piece
    → ((n : ℕ) → n < i → bytes_of (held_in sectors n) ≡ take 512 (drop (512 * n) old)) → (n : ℕ) → n < i + 1
    → bytes_of (held_in sectors n) ≡ take 512 (drop (512 * n) new)
joined_each sectors i old piece new long whole is pushed each n small =
    elim (which n i small) [
      | inl less ↦
          let before : 512 * n ≤ length old = omega arith in
          let inside : 512 ≤ length (drop (512 * n) old) = omega (arith, length-drop (512 * n) old) in
          each n less
          ∙ sym (ap (λ l. take 512 (drop (512 * n) l)) pushed
          ∙ ap (take 512) (drop-append-le (512 * n) old piece before)
          ∙ take-append-le 512 (drop (512 * n) old) piece inside)
      | inr same ↦
          let here : 512 * n ≡ length old = omega arith in
          ap (λ k. bytes_of (held_in sectors k)) same ∙ sym is
          ∙ sym (ap (λ l. take 512 (drop (512 * n) l)) pushed
          ∙ ap (λ k. take 512 (drop k (old ++ piece))) here
          ∙ ap (take 512) (drop-append_seam old piece)
          ∙ take_all 512 piece (omega arith))
    ]
