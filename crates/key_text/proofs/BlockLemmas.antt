-- The lines of a key are read back.
use Rattle.std.proofs.Common.{◌≡◌, ℕ, ◌%◌, not, Bool, true, false, cond, eqb, List, [], ◌∷◌, ◌++◌, length, map, refl, sym, ap, ◌∙◌, arith}
use Rattle.std.proofs.lemmas.Bool.Decides.{nat_tests}
use Rattle.nt_bytes.specs.Text.{wide_of}
use Rattle.hive_model.specs.Tree.{Item, Head, Tree, head}
use Rattle.key_text.specs.Data.{unit_bytes}
use Rattle.key_text.specs.Lines.{KeyLine, RootLine, KeyAtLine, StampLine, FlagsLine, ClassLine, ClassBytesLine, SecurityLine, ValueLine, SubkeyLine, NoKeyLine, EndLine}
use Rattle.key_text.specs.Blocks.{title_line, flags_lines, class_lines, security_lines, head_lines, subkey_line, block_lines, AreAlike}
use Rattle.key_text.proofs.DataLemmas.{Small, units_back}

-- what lines say of a key
pub record Said : Type 0 where
  pub path : List (List ℕ)
  pub stamp : ℕ
  pub flags : ℕ
  pub class : List ℕ
  pub security : List ℕ
  pub values : List Item
  pub keys : List (List ℕ)

abbrev nothing : Said
nothing = record { path = []; stamp = 0; flags = 0; class = []; security = []; values = []; keys = [] }

abbrev add : KeyLine → Said → Said
add (RootLine name) s = s
add (KeyAtLine path) s = record s { path = path }
add (StampLine stamp) s = record s { stamp = stamp }
add (FlagsLine flags) s = record s { flags = flags }
add (ClassLine units) s = record s { class = unit_bytes units }
add (ClassBytesLine bytes) s = record s { class = bytes }
add (SecurityLine bytes) s = record s { security = bytes }
add (ValueLine v) s = record s { values = v ∷ s.values }
add (SubkeyLine name) s = record s { keys = name ∷ s.keys }
add NoKeyLine s = s
add EndLine s = s

abbrev read_onto : List KeyLine → Said → Said
read_onto [] s = s
read_onto (l ∷ ls) s = add l (read_onto ls s)

abbrev names : List Tree → List (List ℕ)
names ts = map (λ (t : Tree). (head t).name) ts

read-append : (xs ys : List KeyLine) (s : Said) → read_onto (xs ++ ys) s ≡ read_onto xs (read_onto ys s)
read-append [] ys s = refl
read-append (x ∷ xs) ys s = ap (add x) (read-append xs ys s)

keys_read : (ts : List Tree) (s : Said) → s.keys ≡ [] → read_onto (map subkey_line ts) s ≡ record s { keys = names ts }
keys_read [] s none = λ i. record s { keys = none i }
keys_read (t ∷ ts) s none = ap (add (SubkeyLine (head t).name)) (keys_read ts s none)

values_read : (vs : List Item) (s : Said) → s.values ≡ [] → read_onto (map ValueLine vs) s ≡ record s { values = vs }
values_read [] s none = λ i. record s { values = none i }
values_read (v ∷ vs) s none = ap (add (ValueLine v)) (values_read vs s none)

no_bytes : (bytes : List ℕ) → eqb (length bytes) 0 ≡ true → [] ≡ bytes
no_bytes [] e = refl
no_bytes (b ∷ bytes) e = absurd (grind (arith, nat_tests))

security_read : (bytes : List ℕ) (s : Said) → s.security ≡ []
    → read_onto (security_lines true bytes) s ≡ record s { security = bytes }
security_read bytes s none = by_length (eqb (length bytes) 0) refl
  where
    by_length : (b : Bool) → eqb (length bytes) 0 ≡ b
        → read_onto (cond (not b) (SecurityLine bytes ∷ []) []) s ≡ record s { security = bytes }
    by_length true e = let is : s.security ≡ bytes = none ∙ no_bytes bytes e in λ i. record s { security = is i }
    by_length false e = refl

class_read : (bytes : List ℕ) (s : Said) → Small bytes → s.class ≡ []
    → read_onto (class_lines bytes) s ≡ record s { class = bytes }
class_read bytes s small none = by_length (eqb (length bytes) 0) (eqb (length bytes % 2) 0) refl refl
  where
    by_length : (b even : Bool) → eqb (length bytes) 0 ≡ b → eqb (length bytes % 2) 0 ≡ even
        → read_onto (cond b [] (cond even (ClassLine (wide_of bytes) ∷ []) (ClassBytesLine bytes ∷ []))) s
        ≡ record s { class = bytes }
    by_length true even e f = let is : s.class ≡ bytes = none ∙ no_bytes bytes e in λ i. record s { class = is i }
    by_length false true e f =
        let is = units_back bytes small (grind (arith, nat_tests)) in λ i. record s { class = is i }
    by_length false false e f = refl

flags_read : (flags : ℕ) (s : Said) → s.flags ≡ 0 → read_onto (flags_lines flags) s ≡ record s { flags = flags }
flags_read flags s none = by_test (eqb flags 0) refl
  where
    by_test : (b : Bool) → eqb flags 0 ≡ b → read_onto (cond b [] (FlagsLine flags ∷ [])) s ≡ record s { flags = flags }
    by_test true e =
        let zero_flags : 0 ≡ flags = grind (arith, nat_tests) in
        let is : s.flags ≡ flags = none ∙ zero_flags in λ i. record s { flags = is i }
    by_test false e = refl

title_read : (path : List (List ℕ)) (name : List ℕ) (s : Said) → s.path ≡ []
    → add (title_line path name) s ≡ record s { path = path }
title_read [] name s none = λ i. record s { path = none i }
title_read (first ∷ rest) name s none = refl

-- what the lines of a key with its descriptor say
abbrev said_of : List (List ℕ) → Head → List Tree → Said
said_of path h ts = record {
  path = path;
  stamp = h.stamp;
  flags = h.flags;
  class = h.class;
  security = h.security;
  values = h.values;
  keys = names ts;
}

head_read : (h : Head) (s : Said) → Small h.class → s.flags ≡ 0 → s.class ≡ [] → s.security ≡ [] → s.values ≡ []
    → read_onto (head_lines true h) s
    ≡ record s { stamp = h.stamp; flags = h.flags; class = h.class; security = h.security; values = h.values }
unfolding head_lines
head_read h s small no_flags no_class no_security no_values =
    ap (add (StampLine h.stamp))
    (read-append (flags_lines h.flags ++ class_lines h.class ++ security_lines true h.security) (map ValueLine h.values) s
    ∙ ap (read_onto (flags_lines h.flags ++ class_lines h.class ++ security_lines true h.security))
    (values_read h.values s no_values)
    ∙ read-append (flags_lines h.flags ++ class_lines h.class) (security_lines true h.security) _
    ∙ ap (read_onto (flags_lines h.flags ++ class_lines h.class)) (security_read h.security _ no_security)
    ∙ read-append (flags_lines h.flags) (class_lines h.class) _
    ∙ ap (read_onto (flags_lines h.flags)) (class_read h.class _ small no_class)
    ∙ flags_read h.flags _ no_flags)

block_read : (path : List (List ℕ)) (h : Head) (ts : List Tree) → Small h.class
    → read_onto (block_lines true path h ts) nothing ≡ said_of path h ts
block_read path h ts small =
    ap (add (title_line path h.name))
    (read-append (head_lines true h) (map subkey_line ts) nothing
    ∙ ap (read_onto (head_lines true h)) (keys_read ts nothing refl)
    ∙ head_read h (record nothing { keys = names ts }) small refl refl refl refl)
    ∙ title_read path h.name _ refl

pub same_blocks : (path way : List (List ℕ)) (h k : Head) (ts us : List Tree) → Small h.class → Small k.class
    → block_lines true path h ts ≡ block_lines true way k us → AreAlike path way h k ts us
same_blocks path way h k ts us small little e =
    let same : said_of path h ts ≡ said_of way k us =
    sym (block_read path h ts small) ∙ ap (λ (ls : List KeyLine). read_onto ls nothing) e ∙ block_read way k us little in
    record {
      paths = ap (λ (s : Said). s.path) same;
      stamps = ap (λ (s : Said). s.stamp) same;
      flags = ap (λ (s : Said). s.flags) same;
      classes = ap (λ (s : Said). s.class) same;
      descriptors = ap (λ (s : Said). s.security) same;
      values = ap (λ (s : Said). s.values) same;
      names = ap (λ (s : Said). s.keys) same;
    }
