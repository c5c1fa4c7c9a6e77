-- Text between quotes: byte by byte, and undone.
use Rattle.std.proofs.Common.{◌≡◌, ℕ, ◌-◌, ◌==◌, Bool, true, false, not, ◌&&◌, cond, List, [], ◌∷◌, ◌++◌, length, refl, sym, ap, subst, ◌∙◌, arith}
use Rattle.std.specs.Prelude.{codes}
use Rattle.std.specs.List.{list_all, starts_with}
use Rattle.std.proofs.lemmas.Bool.{and_from, and_parts, eqb-true}
use Rattle.std.proofs.lemmas.Bool.Decides.{nat_tests}
use Rattle.std.proofs.lemmas.Grind.{flat_map-append}
use Rattle.std.proofs.lemmas.List.Folds.{list_all-append}
use Rattle.nt_bytes.specs.Text.{is_printable}
use Rattle.why_text.specs.graph_text.Dot.{stand_in, replaced, in_quotes}
use Rattle.graph_laws.specs.dot_laws.Texts.{is_plain, is_piece, IsQuoted, QuotedIsPieces, QuotedIsPrintable, put_back, out_of_quotes, QuotedIsUndone, QuotedIsOne}

-- ---- byte by byte

abbrev one_quoted : ℕ → List ℕ
one_quoted c = in_quotes (c ∷ [])

both_replaced : (byte : ℕ) (other xs ys : List ℕ) → replaced byte other (xs ++ ys) ≡ replaced byte other xs
    ++ replaced byte other ys
both_replaced byte other xs ys = flat_map-append (stand_in byte other) xs ys

both_quoted : (xs ys : List ℕ) → in_quotes (xs ++ ys) ≡ in_quotes xs ++ in_quotes ys
both_quoted xs ys =
    ap (λ (t : List ℕ). replaced 34 (codes "\\\"")
    (replaced 92 (codes "\\\\") t)) (both_replaced 38 (codes "&amp;") xs ys)
    ∙ ap (λ (t : List ℕ). replaced 34 (codes "\\\"") t)
    (both_replaced 92 (codes "\\\\") (replaced 38 (codes "&amp;") xs) (replaced 38 (codes "&amp;") ys))
    ∙ both_replaced 34 (codes "\\\"") (replaced 92 (codes "\\\\") (replaced 38 (codes "&amp;") xs))
    (replaced 92 (codes "\\\\") (replaced 38 (codes "&amp;") ys))

as_it_is : (byte : ℕ) (other : List ℕ) (c : ℕ) → (c == byte) ≡ false → replaced byte other (c ∷ []) ≡ c ∷ []
as_it_is byte other c not = ap (λ (b : Bool). cond b other (c ∷ []) ++ []) not

plain_quoted : (c : ℕ) → (c == 38) ≡ false → (c == 92) ≡ false → (c == 34) ≡ false → one_quoted c ≡ c ∷ []
plain_quoted c a b q =
    ap (λ (t : List ℕ). replaced 34 (codes "\\\"") (replaced 92 (codes "\\\\") t)) (as_it_is 38 (codes "&amp;") c a)
    ∙ ap (λ (t : List ℕ). replaced 34 (codes "\\\"") t) (as_it_is 92 (codes "\\\\") c b)
    ∙ as_it_is 34 (codes "\\\"") c q

-- what stands for a byte, case by case
by_byte : (P : List ℕ → Type 0) (c : ℕ) → P (codes "&amp;") → P (codes "\\\\") → P (codes "\\\"")
    → ((c == 92) ≡ false → (c == 34) ≡ false → P (c ∷ [])) → P (one_quoted c)
by_byte P c amp slash quote plain = by (c == 38) (c == 92) (c == 34) refl refl refl
  where
    of : (d : ℕ) → (c == d) ≡ true → P (one_quoted d) → P (one_quoted c)
    of d is p = subst (λ (x : ℕ). P (one_quoted x)) (sym (eqb-true c d is)) p

    by : (x y z : Bool) → (c == 38) ≡ x → (c == 92) ≡ y → (c == 34) ≡ z → P (one_quoted c)
    by true y z a b q = of 38 a amp
    by false true z a b q = of 92 b slash
    by false false true a b q = of 34 q quote
    by false false false a b q = subst P (sym (plain_quoted c a b q)) (plain b q)

-- ---- pieces

no_pieces : IsQuoted []
no_pieces = record { pieces = []; each = refl; whole = refl }

more_pieces : (xs ys : List ℕ) → IsQuoted xs → IsQuoted ys → IsQuoted (xs ++ ys)
more_pieces xs ys a b = record {
  pieces = a.pieces ++ b.pieces;
  each = list_all-append is_piece a.pieces b.pieces ∙ and_from _ _ a.each b.each;
  whole = (λ i. a.whole i ++ b.whole i) ∙ sym (flat_map-append (λ (piece : List ℕ). piece) a.pieces b.pieces);
}

-- bytes that are plain
plain_pieces : (text : List ℕ) → list_all is_plain text ≡ true → IsQuoted text
plain_pieces [] all = no_pieces
plain_pieces (c ∷ text) all =
    let parts = and_parts (is_plain c) (list_all is_plain text) all in
    more_pieces (c ∷ []) text (record { pieces = (c ∷ []) ∷ []; each = and_from _ _ parts.0 refl; whole = refl })
    (plain_pieces text parts.1)

one_pieces : (c : ℕ) → IsQuoted (one_quoted c)
one_pieces c =
    by_byte IsQuoted c (plain_pieces (codes "&amp;") refl)
    (record { pieces = codes "\\\\" ∷ []; each = refl; whole = refl })
    (record { pieces = codes "\\\"" ∷ []; each = refl; whole = refl })
    (λ b q. plain_pieces (c ∷ []) (and_from _ _ (and_from _ _ (ap not q) (ap not b)) refl))

pub are_pieces : QuotedIsPieces
are_pieces [] = no_pieces
are_pieces (c ∷ text) =
    subst IsQuoted (sym (both_quoted (c ∷ []) text))
    (more_pieces (one_quoted c) (in_quotes text) (one_pieces c) (are_pieces text))

-- ---- printable

pub are_printable : QuotedIsPrintable
are_printable [] all = refl
are_printable (c ∷ text) all =
    let parts = and_parts (is_printable c) (list_all is_printable text) all in
    ap (list_all is_printable) (both_quoted (c ∷ []) text)
    ∙ list_all-append is_printable (one_quoted c) (in_quotes text)
    ∙ and_from _ _ (by_byte (λ (t : List ℕ). list_all is_printable t ≡ true) c refl refl refl
    (λ b q. and_from _ _ parts.0 refl))
    (are_printable text parts.1)

-- ---- undone

abbrev begins : List ℕ → List ℕ → Bool
begins other text = starts_with (λ (a b : ℕ). a == b) text other

module _ (byte : ℕ) (other : List ℕ)
    (found : (text : List ℕ) → put_back byte other 0 (other ++ text) ≡ byte ∷ put_back byte other 0 text)
    (passed : (c : ℕ) (text : List ℕ) → (c == byte) ≡ false → begins other (c ∷ replaced byte other text) ≡ false) where
  back : (text : List ℕ) → put_back byte other 0 (replaced byte other text) ≡ text
  back [] = refl
  back (c ∷ text) = by (c == byte) refl (back text)
    where
      rest : List ℕ
      rest = replaced byte other text

      by : (b : Bool) → (c == byte) ≡ b → put_back byte other 0 rest ≡ text
          → put_back byte other 0 (cond (c == byte) other (c ∷ []) ++ rest) ≡ c ∷ text
      by true is kept =
          ap (λ (b : Bool). put_back byte other 0 (cond b other (c ∷ []) ++ rest)) is
          ∙ found rest
          ∙ (λ i. sym (eqb-true c byte is) i ∷ kept i)
      by false is kept =
          ap (λ (b : Bool). put_back byte other 0 (cond b other (c ∷ []) ++ rest)) is
          ∙ ap (λ (b : Bool). cond b (byte ∷ put_back byte other (length other - 1) rest)
          (c ∷ put_back byte other 0 rest)) (passed c text is)
          ∙ ap (λ (t : List ℕ). c ∷ t) kept

turned : (a b : ℕ) → (a == b) ≡ false → (b == a) ≡ false
turned a b is = grind (arith, nat_tests)

and_none : (a b : Bool) → b ≡ false → (a && b) ≡ false
and_none true b is = is
and_none false b is = refl

none_and : (a b : Bool) → a ≡ false → (a && b) ≡ false
none_and a b is = ap (λ (x : Bool). x && b) is

back_amp : (text : List ℕ) → put_back 38 (codes "&amp;") 0 (replaced 38 (codes "&amp;") text) ≡ text
back_amp = back 38 (codes "&amp;") (λ text. refl) (λ c text is. none_and _ _ (turned c 38 is))

back_slash : (text : List ℕ) → put_back 92 (codes "\\\\") 0 (replaced 92 (codes "\\\\") text) ≡ text
back_slash = back 92 (codes "\\\\") (λ text. refl) (λ c text is. none_and _ _ (turned c 92 is))

-- no quote stands first after a replacement
no_quote : (text : List ℕ) → begins (34 ∷ []) (replaced 34 (codes "\\\"") text) ≡ false
no_quote [] = refl
no_quote (c ∷ text) = by (c == 34) refl
  where
    by : (b : Bool) → (c == 34) ≡ b → begins (34 ∷ [])
        (cond (c == 34) (codes "\\\"") (c ∷ []) ++ replaced 34 (codes "\\\"") text) ≡ false
    by true is = ap (λ (b : Bool). begins (34 ∷ [])
        (cond b (codes "\\\"") (c ∷ []) ++ replaced 34 (codes "\\\"") text)) is
    by false is =
        ap (λ (b : Bool). begins (34 ∷ []) (cond b (codes "\\\"") (c ∷ []) ++ replaced 34 (codes "\\\"") text)) is
        ∙ none_and _ _ (turned c 34 is)

back_quote : (text : List ℕ) → put_back 34 (codes "\\\"") 0 (replaced 34 (codes "\\\"") text) ≡ text
back_quote = back 34 (codes "\\\"") (λ text. refl) (λ c text is. and_none _ _ (no_quote text))

pub are_undone : QuotedIsUndone
are_undone text =
    ap (λ (t : List ℕ). put_back 38 (codes "&amp;") 0 (put_back 92 (codes "\\\\") 0 t))
    (back_quote (replaced 92 (codes "\\\\") (replaced 38 (codes "&amp;") text)))
    ∙ ap (λ (t : List ℕ). put_back 38 (codes "&amp;") 0 t) (back_slash (replaced 38 (codes "&amp;") text))
    ∙ back_amp text

pub are_one : QuotedIsOne
are_one a b same = sym (are_undone a) ∙ ap out_of_quotes same ∙ are_undone b
