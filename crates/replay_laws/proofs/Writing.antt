-- A page that is written changes no other byte.
use Rattle.std.proofs.Common.{◌≡◌, ◌⊎◌, ◌<◌, ◌≤◌, ◌+◌, ◌-◌, ◌++◌, ℕ, List, [], ◌∷◌, length, take, drop, get_or, refl, sym, ◌∙◌, ap, subst, inl, inr, arith, append_assoc}
use Rattle.std.proofs.lemmas.List.{get_or-take, get_or-drop, get_or_append_left, get_or-append-add, length-append, length-drop, length-take-le}
use Rattle.windows_logs.specs.log_parts.Pages.{Page, put_at, put_pages}
use Rattle.replay_laws.specs.Outside.{AreWithin, IsOutside}

module _ (file bytes : List ℕ) (at : ℕ) (fits : at + length bytes ≤ length file) where
  front : length (take at file) ≡ at
  front = length-take-le at file (omega (arith, fits))

  abbrev rest : List ℕ
  rest = drop (at + length bytes) file

  abbrev written : List ℕ
  written = bytes ++ rest

  joined : put_at file at bytes ≡ take at file ++ written
  joined = append_assoc (take at file) bytes rest

  read : (q d : ℕ) → get_or (put_at file at bytes) q d ≡ get_or (take at file ++ written) q d
  read q d = ap (λ l. get_or l q d) joined

  before : (q d : ℕ) → q < at → get_or (put_at file at bytes) q d ≡ get_or file q d
  before q d less =
      read q d
      ∙ get_or_append_left (take at file) written d q (omega (arith, less, front))
      ∙ get_or-take at file q d less

  later : (q d n m : ℕ) → q ≡ at + n → n ≡ length bytes + m → get_or (put_at file at bytes) q d ≡ get_or file q d
  later q d n m is that =
      read q d
      ∙ ap (λ i. get_or (take at file ++ written) i d) (is ∙ ap (λ i. i + n) (sym front))
      ∙ get_or-append-add (take at file) written n d
      ∙ ap (λ i. get_or written i d) that
      ∙ get_or-append-add bytes rest m d
      ∙ get_or-drop (at + length bytes) file m d
      ∙ ap (λ i. get_or file i d) (omega (arith, is, that))

  pub elsewhere : (q d : ℕ) → ((q < at) ⊎ (at + length bytes ≤ q)) → get_or (put_at file at bytes) q d ≡ get_or file q d
  elsewhere q d (inl less) = before q d less
  elsewhere q d (inr more) = later q d (q - at) (q - at - length bytes) (omega (arith, more)) (omega (arith, more))

  pub same_length : length (put_at file at bytes) ≡ length file
  same_length =
      let outer = ap (λ l. length l) joined ∙ length-append (take at file) written in
      let inner = length-append bytes rest in
      let last = length-drop (at + length bytes) file in
      omega (arith, front, outer, inner, last, fits)

pub left : (pages : List Page) (file : List ℕ) (q d : ℕ) → AreWithin (length file) pages → IsOutside q pages
    → get_or (put_pages file pages) q d ≡ get_or file q d
left [] file q d within out = refl
left (page ∷ pages) file q d within out =
    let next : List ℕ = put_at file (4096 + page.place) page.bytes in
    let same : length next ≡ length file = same_length file page.bytes (4096 + page.place) within.0 in
    left pages next q d (subst (λ n. AreWithin n pages) (sym same) within.1) out.1
    ∙ elsewhere file page.bytes (4096 + page.place) within.0 q d out.0
