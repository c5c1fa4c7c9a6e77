-- What a word looks like to `clap`, and in our words.
use Rattle.std.proofs.Common.{◌≡◌, ◌∙◌, ℕ, suc, Bool, true, false, cond, [], ◌∷◌, Option, Some, None, refl, sym, ap, subst, drop, take, ◌+◌, arith, bytes_eq}
use Rattle.std.specs.List.{after_first, before_first, list_any, position_or_len}
use Rattle.std.proofs.lemmas.Slice.Eq.{bytes_eq-Decides}
use Rattle.clap.specs.Lexer.{long_of, short_of}
use Rattle.nt_bytes.specs.Text.{is_equals}
use Rattle.command_words.specs.Words.{Text, begins_with_hyphen, is_empty_text, is_hyphen}
use Rattle.command_words.specs.Walk.{attached_in, long_name, name_in}
use Rattle.command_words.specs.Clap.{is_empty_value, is_refused}
use Rattle.command_words.proofs.RowLemmas.{never}
use Rattle.command_words.proofs.NamedLemmas.{hyphen_is}

-- the forms of a word that is not refused
pub data Looks (word : Text) : Type 0 where
  as_long : (x : Text) → word ≡ 45 ∷ 45 ∷ x → bytes_eq (45 ∷ 45 ∷ x) (45 ∷ 45 ∷ []) ≡ false
      → long_of (45 ∷ 45 ∷ x) ≡ Some (before_first is_equals x, attached_in x)
      → is_empty_value (attached_in x) ≡ false → Looks word
  as_letter : word ≡ 45 ∷ 118 ∷ [] → Looks word
  as_plain : bytes_eq word (45 ∷ 45 ∷ []) ≡ false → long_of word ≡ None → short_of word ≡ None
      → begins_with_hyphen word ≡ false → is_empty_text word ≡ false → Looks word

attached_is : (text : Text) → cond (list_any is_equals text) (Some (after_first is_equals text)) None ≡ attached_in text
attached_is [] = refl
attached_is (c ∷ text) = go (is_equals c) refl (attached_is text)
  where
    go : (b : Bool) → is_equals c ≡ b
        → cond (list_any is_equals text) (Some (after_first is_equals text)) None ≡ attached_in text
        → cond (list_any is_equals (c ∷ text)) (Some (after_first is_equals (c ∷ text))) None ≡ attached_in (c ∷ text)
    go true e rest = rw e refl
    go false e rest =
        let next : 1 + position_or_len is_equals text + 1 ≡ suc (position_or_len is_equals text + 1) = omega arith in
        rw e (ap (λ (n : ℕ). cond (list_any is_equals text) (Some (drop n (c ∷ text))) None) next ∙ rest)

pub name_long : (x : Text) → name_in (45 ∷ 45 ∷ x) ≡ 45 ∷ 45 ∷ before_first is_equals x
name_long x = ap (λ (m : ℕ). long_name (take m (45 ∷ 45 ∷ x))) (next (position_or_len is_equals x))
  where
    next : (n : ℕ) → 1 + (1 + n) ≡ suc (suc n)
    next n = omega arith

long : (cs : Text) → is_refused (45 ∷ 45 ∷ cs) ≡ false → Looks (45 ∷ 45 ∷ cs)
long [] s = never s
long (c ∷ cs) s = as_long (c ∷ cs) refl refl
    (ap (λ (v : Option Text). Some (before_first is_equals (c ∷ cs), v)) (attached_is (c ∷ cs))) s

pub looks : (word : Text) → is_refused word ≡ false → Looks word
looks [] sound = never sound
looks (a ∷ []) sound = go (is_hyphen a) refl
  where
    go : (b : Bool) → is_hyphen a ≡ b → Looks (a ∷ [])
    go true e = never (subst (λ (c : ℕ). is_refused (c ∷ []) ≡ false) (hyphen_is a e) sound)
    go false e = as_plain (rw e refl) (rw e refl) (rw e refl) e refl
looks (a ∷ b ∷ cs) sound = two (is_hyphen a) (is_hyphen b) refl refl
  where
    short : (t : Bool) → bytes_eq (a ∷ b ∷ cs) (45 ∷ 118 ∷ []) ≡ t → is_hyphen a ≡ true → is_hyphen b ≡ false
        → Looks (a ∷ b ∷ cs)
    short true s e f = as_letter ((bytes_eq-Decides (a ∷ b ∷ cs) (45 ∷ 118 ∷ [])).0 s)
    short false s e f = never (rw (s, e, f) at sound)

    two : (x y : Bool) → is_hyphen a ≡ x → is_hyphen b ≡ y → Looks (a ∷ b ∷ cs)
    two true true e f =
        let at_a : Text → Text = λ t. t in
        let word_is : (a ∷ b ∷ cs) ≡ (45 ∷ 45 ∷ cs) =
        ap (λ (c : ℕ). c ∷ b ∷ cs) (hyphen_is a e) ∙ ap (λ (c : ℕ). 45 ∷ c ∷ cs) (hyphen_is b f) in
        subst Looks (sym word_is) (long cs (subst (λ (w : Text). is_refused w ≡ false) word_is sound))
    two true false e f = short (bytes_eq (a ∷ b ∷ cs) (45 ∷ 118 ∷ [])) refl e f
    two false y e f = as_plain (rw e refl) (rw e refl) (rw e refl) e refl
