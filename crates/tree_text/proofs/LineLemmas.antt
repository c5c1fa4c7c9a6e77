-- A key and a value is a line each: neither names nor numbers nor data have an LF.
use Rattle.std.proofs.Common.{◌≡◌, ℕ, zero, suc, ◌+◌, ◌/◌, ◌%◌, ◌<◌, ◌==◌, Bool, true, false, eqb, cond, List, [], ◌∷◌, ◌++◌, length, slice_index, refl, arith}
use Rattle.std.specs.Prelude.{codes}
use Rattle.std.specs.Fmt.{decimal, digits, digits_onto, digit_glyph}
use Rattle.std.proofs.lemmas.List.Sums.{sum_by-append}
use Rattle.std.proofs.lemmas.Bool.{ne_eqb}
use Rattle.std.proofs.lemmas.Bool.Decides.{nat_tests}
use Rattle.hex.specs.Hex.{encode_with, encode_lower, lower_digits}
use Rattle.start_model.specs.Lines.{unit_text, name_text, escaped}
use Rattle.nt_bytes.specs.Text.{is_printable}
use Rattle.hive_model.specs.Tree.{Item, Head, Tree, Trees, key, none, more, key_count, keys_count, item_count, items_count}
use Rattle.tree_text.specs.TreeText.{deeper, data_text, value_text, values_text, key_text, keys_text, tree_text}
use Rattle.tree_text.specs.LineCount.{line_count}

joined : (a b : List ℕ) → line_count (a ++ b) ≡ line_count a + line_count b
joined a b = sum_by-append _ a b

-- ---- texts without LF

record HasNoLf (text : List ℕ) : Type 0 where
  pub none_in : line_count text ≡ 0

plain : {a b : List ℕ} → HasNoLf a → HasNoLf b → HasNoLf (a ++ b)
plain {a = a} {b = b} e f = record { none_in = omega (arith, joined a b, e.none_in, f.none_in) }

onto : {c : ℕ} {text : List ℕ} → HasNoLf (c ∷ []) → HasNoLf text → HasNoLf (c ∷ text)
onto {c = c} {text = text} e f = plain {a = c ∷ []} {b = text} e f

-- of a text without LF as it stands
written : {text : List ℕ} → line_count text ≡ 0 → HasNoLf text
written e = record { none_in = e }

above_lf : (c : ℕ) → 10 < c → HasNoLf (c ∷ [])
above_lf c lt = written (rw (ne_eqb c 10 (λ e. absurd (omega arith))) refl)

glyph : (d : ℕ) → HasNoLf (digit_glyph false d ∷ [])
glyph d = above_lf (digit_glyph false d) (grind (arith, nat_tests))

choice : (b : Bool) {x y : List ℕ} → HasNoLf x → HasNoLf y → HasNoLf (cond b x y)
choice true e f = e
choice false e f = f

plain-digits_onto : (k n : ℕ) (acc : List ℕ) → HasNoLf acc → HasNoLf (digits_onto k 10 false n acc)
plain-digits_onto zero n acc e = e
plain-digits_onto (suc k) n acc e =
    let further = onto (glyph (n % 10)) e in
    choice (eqb (n / 10) 0) further (plain-digits_onto k (n / 10) (digit_glyph false (n % 10) ∷ acc) further)

plain-decimal : (n : ℕ) → HasNoLf (decimal n)
unfolding digits
plain-decimal n = plain-digits_onto 64 n [] (written refl)

plain-escaped : (u : ℕ) → HasNoLf (escaped u)
plain-escaped u =
    onto {c = 92} (written refl) (onto {c = 117} (written refl)
    (onto (glyph (u / 4096)) (onto (glyph (u / 256 % 16)) (onto (glyph (u / 16 % 16)) (glyph (u % 16))))))

plain-unit : (u : ℕ) → HasNoLf (unit_text u)
unfolding unit_text
plain-unit u = by_shape (is_printable u) refl
  where
    by_shape : (b : Bool) → is_printable u ≡ b → HasNoLf (cond b (u ∷ []) (escaped u))
    by_shape true e = above_lf u (grind (arith, nat_tests))
    by_shape false e = plain-escaped u

plain-name : (units : List ℕ) → HasNoLf (name_text units)
plain-name [] = written refl
plain-name (u ∷ units) = plain (plain-unit u) (plain-name units)

plain-at : (t : List ℕ) (k : ℕ) → HasNoLf t → HasNoLf (slice_index t k ∷ [])
plain-at [] k e = written refl
plain-at (c ∷ t) zero e = written (omega (arith, joined (c ∷ []) t, e.none_in))
plain-at (c ∷ t) (suc k) e = plain-at t k (written (omega (arith, joined (c ∷ []) t, e.none_in)))

plain-digit : (k : ℕ) → HasNoLf (slice_index lower_digits k ∷ [])
plain-digit k = plain-at lower_digits k (written refl)

plain-hex : (bytes : List ℕ) → HasNoLf (encode_lower bytes)
unfolding encode_with
plain-hex [] = written refl
plain-hex (b ∷ bytes) = onto (plain-digit (b / 16)) (onto (plain-digit (b % 16)) (plain-hex bytes))

plain-data : (bytes : List ℕ) → HasNoLf (data_text bytes)
plain-data bytes = choice (length bytes == 0) (written {text = []} refl)
    (plain {a = codes " "} (written refl) (plain-hex bytes))

plain-deeper : (margin : List ℕ) → HasNoLf margin → HasNoLf (deeper margin)
plain-deeper margin e = plain {b = codes "  "} e (written refl)

-- ---- lines

ended : (a : List ℕ) → HasNoLf a → line_count (a ++ codes "\n") ≡ 1
ended a e = omega (arith, joined a (codes "\n"), e.none_in)

blank : {a b : List ℕ} → HasNoLf a → HasNoLf b → HasNoLf (a ++ codes " " ++ b)
blank e f = plain (plain {b = codes " "} e (written refl)) f

value_line : (margin : List ℕ) (v : Item) → HasNoLf margin → line_count (value_text margin v) ≡ 1
unfolding value_text
value_line margin v e =
    let name = plain (plain e (written {text = codes "= "} refl)) (plain-name v.name) in
    let numbers = blank (blank name (plain-decimal v.kind)) (plain-decimal (length v.bytes)) in
    ended _ (plain numbers (plain-data v.bytes))

value_lines : (margin : List ℕ) (vs : List Item) → HasNoLf margin → line_count (values_text margin vs) ≡ length vs
value_lines margin [] e = refl
value_lines margin (v ∷ vs) e =
    omega (arith, joined (value_text margin v) (values_text margin vs), value_line margin v e, value_lines margin vs e)

head_line : (margin name : List ℕ) → HasNoLf margin → line_count (margin ++ name_text name ++ codes "\n") ≡ 1
head_line margin name e = ended (margin ++ name_text name) (plain e (plain-name name))

-- the lines of a key: one for its name, then those of its values and of its children
key_parts : (margin : List ℕ) (h : Head) (ts : Trees) → HasNoLf margin
    → line_count (key_text margin (key h ts)) ≡ 1 + length h.values + line_count (keys_text (deeper margin) ts)
key_parts margin h ts e =
    let named = margin ++ name_text h.name ++ codes "\n" in
    let values = values_text (deeper margin) h.values in
    omega (
      arith,
      joined (named ++ values) (keys_text (deeper margin) ts),
      joined named values,
      head_line margin h.name e,
      value_lines (deeper margin) h.values (plain-deeper margin e),
    )

mutual
  key_lines : (margin : List ℕ) (t : Tree) → HasNoLf margin
      → line_count (key_text margin t) ≡ key_count t + item_count t
  key_lines margin (key h ts) e =
      omega (arith, key_parts margin h ts e, keys_lines (deeper margin) ts (plain-deeper margin e))

  keys_lines : (margin : List ℕ) (ts : Trees) → HasNoLf margin
      → line_count (keys_text margin ts) ≡ keys_count ts + items_count ts
  keys_lines margin none e = refl
  keys_lines margin (more t ts) e =
      omega (arith, joined (key_text margin t) (keys_text margin ts), key_lines margin t e, keys_lines margin ts e)

pub tree_lines : (t : Tree) → line_count (tree_text t) ≡ key_count t + item_count t
tree_lines t = key_lines [] t (written refl)
