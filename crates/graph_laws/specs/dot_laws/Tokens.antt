-- Which tokens has a text of the DOT language? (DOT is the language of Graphviz)
--
-- It is the part of the language that the text of a graph uses: words, texts between quotes, and signs, with blanks and ends of lines between them.
-- What begins anything else, as a comment or a numeral with a sign, is a token that no graph has here (`Other`).
use Rattle.std.specs.Prelude.{ℕ, ◌==◌, nat_le, Bool, ◌&&◌, ◌||◌, List, [], ◌∷◌, ◌++◌, if◌then◌else◌}

pub data Token : Type 0 where
  Word : List ℕ → Token
  Quoted : List ℕ → Token
  OpenBrace : Token
  CloseBrace : Token
  OpenBracket : Token
  CloseBracket : Token
  Equals : Token
  Comma : Token
  Semicolon : Token
  Arrow : Token
  Other : Token

-- ---- bytes

abbrev pub is_digit : ℕ → Bool
is_digit c = nat_le 48 c && nat_le c 57

-- a letter, a digit or `_`
abbrev pub is_word_byte : ℕ → Bool
is_word_byte c = is_digit c || ((nat_le 65 c && nat_le c 90) || ((nat_le 97 c && nat_le c 122) || (c == 95)))

-- a blank or the end of a line
abbrev pub is_blank : ℕ → Bool
is_blank c = (c == 32) || (c == 10)

-- a sign of one byte
abbrev pub sign_of : ℕ → Token
sign_of c =
    if c == 123 then OpenBrace
    else (if c == 125 then CloseBrace
    else (if c == 91 then OpenBracket
    else (if c == 93 then CloseBracket
    else (if c == 61 then Equals
    else (if c == 44 then Comma
    else (if c == 59 then Semicolon else Other))))))

-- ---- byte by byte

-- where the reader of a text is, with what it has read of a token
pub data Reading : Type 0 where
  Between : Reading
  InWord : List ℕ → Reading
  InQuotes : List ℕ → Reading
  AfterBackslash : List ℕ → Reading
  AfterDash : Reading

-- the tokens that end with a byte, and where the reader is then
abbrev pub Step : Type 0
Step = List Token × Reading

-- a byte that is in no token yet
abbrev pub begun : ℕ → Step
begun c =
    if is_blank c then ([], Between)
    else (if is_word_byte c then ([], InWord (c ∷ []))
    else (if c == 34 then ([], InQuotes [])
    else (if c == 45 then ([], AfterDash) else (sign_of c ∷ [], Between))))

-- such a byte after a token that ends with it
abbrev pub ended : Token → ℕ → Step
ended token c = (token ∷ (begun c).0, (begun c).1)

-- a word goes on as far as it can; a quote ends what stands between quotes, unless a backslash stands before it
abbrev pub step : Reading → ℕ → Step
step Between c = begun c
step (InWord word) c = if is_word_byte c then ([], InWord (word ++ c ∷ [])) else ended (Word word) c
step (InQuotes text) c =
    if c == 34 then (Quoted text ∷ [], Between) else (if c == 92 then ([], AfterBackslash text) else ([], InQuotes (text ++ c ∷ [])))
step (AfterBackslash text) c = if (c == 92) || (c == 34) then ([], InQuotes (text ++ 92 ∷ c ∷ [])) else (Other ∷ [], Between)
step AfterDash c = if c == 62 then (Arrow ∷ [], Between) else ended Other c

-- the token that ends with the text
abbrev pub last_tokens : Reading → List Token
last_tokens Between = []
last_tokens (InWord word) = Word word ∷ []
last_tokens (InQuotes text) = Other ∷ []
last_tokens (AfterBackslash text) = Other ∷ []
last_tokens AfterDash = Other ∷ []

-- the tokens of a text
abbrev pub tokens_from : Reading → List ℕ → List Token
tokens_from reading [] = last_tokens reading
tokens_from reading (c ∷ text) = let s : Step = step reading c in s.0 ++ tokens_from s.1 text
