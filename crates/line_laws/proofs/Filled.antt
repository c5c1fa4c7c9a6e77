-- Parts are filled with the pieces of their object.
use Rattle.std.proofs.Common.{◌≡◌, List, [], ◌∷◌, ◌++◌, map, refl, ap, ◌∙◌}
use Rattle.report_text.specs.line_text.Objects as objects
use Rattle.line_parts.specs.Pieces.{Piece, Field, Opens, Closes, ListOpens, NextOpens, ListCloses}
use Rattle.line_parts.specs.Parts.{Part, Said, Number, Word, Name, Quoted, Written, Path, BootPath, Texts, Numbers, Counted, Digits, Cut, Hex, WideHex, Dword, Qword, Unless, Words, Nothing, Absent, Hidden, Bracket, BracketEnd, Records, NextRecord, RecordsEnd, NoRecords, part_pieces, pieces_of}
use Rattle.line_laws.specs.Objects.{told_piece}
use Rattle.line_laws.specs.Layouts.{emptied}

-- a part of this kind with what this piece says; a list without anything is known as one of texts
abbrev filled : Part → Piece → Part
filled (Number a b) (Field key (objects.Number n)) = Number key n
filled (Hex a b) (Field key (objects.Number n)) = Hex key n
filled (WideHex a b) (Field key (objects.Number n)) = WideHex key n
filled (Dword a b) (Field key (objects.Number n)) = Dword key n
filled (Qword a b) (Field key (objects.Number n)) = Qword key n
filled (Word a b) (Field key (objects.Text t)) = Word key t
filled (Name a b) (Field key (objects.Text t)) = Name key t
filled (Quoted a b) (Field key (objects.Text t)) = Quoted key t
filled (Written a b) (Field key (objects.Text t)) = Written key t
filled (BootPath a b) (Field key (objects.Text t)) = BootPath key t
filled (Digits a b) (Field key (objects.Text t)) = Digits key t
filled (Cut a b) (Field key (objects.Text t)) = Cut key t
filled (Hidden a b) (Field key (objects.Text t)) = Hidden key t
filled (Path a b) (Field key (objects.Texts ts)) = Path key ts
filled (Texts a b) (Field key (objects.Texts ts)) = Texts key ts
filled (Counted a b) (Field key (objects.Texts ts)) = Counted key ts
filled (Words a b) (Field key (objects.Texts ts)) = Words key ts
filled (Numbers a b) (Field key (objects.Numbers ns)) = Numbers key ns
filled (Numbers a b) (Field key (objects.Texts ts)) = Numbers key []
filled (Unless a word b) (Field key (objects.Flag flag)) = Unless key word flag
filled (Nothing a) (Field key value) = Nothing key
filled (Absent a) (Field key value) = Absent key
filled (NoRecords a) (Field key value) = NoRecords key
filled (Bracket a b c) (Opens key first text) = Bracket key first text
filled (Records a head b c) (ListOpens key first text) = Records key head first text
filled (NextRecord head b c) (NextOpens first text) = NextRecord head first text
filled part piece = part

abbrev pub all_filled : List Part → List Piece → List Part
all_filled [] pieces = []
all_filled (Said word ∷ parts) pieces = Said word ∷ all_filled parts pieces
all_filled (part ∷ parts) [] = []
all_filled (part ∷ parts) (piece ∷ pieces) = filled part piece ∷ all_filled parts pieces

-- a part gives one piece, but for a word that the text alone has
data Gives (part : Part) : Type 0 where
  None : ((parts : List Part) (pieces : List Piece) → all_filled (emptied part ∷ parts) pieces ≡ part ∷ all_filled parts pieces)
      → part_pieces part ≡ [] → Gives part
  One : (piece : Piece) → part_pieces part ≡ piece ∷ []
      → ((parts : List Part) (pieces : List Piece) → all_filled (emptied part ∷ parts) (told_piece piece ∷ pieces) ≡ part ∷ all_filled parts pieces)
      → Gives part

gives : (part : Part) → Gives part
unfolding part_pieces
gives (Said word) = None (λ parts pieces. refl) refl
gives (Number key n) = One (Field key (objects.Number n)) refl (λ parts pieces. refl)
gives (Word key word) = One (Field key (objects.Text word)) refl (λ parts pieces. refl)
gives (Name key name) = One (Field key (objects.Text name)) refl (λ parts pieces. refl)
gives (Quoted key text) = One (Field key (objects.Text text)) refl (λ parts pieces. refl)
gives (Written key text) = One (Field key (objects.Text text)) refl (λ parts pieces. refl)
gives (Path key path) = One (Field key (objects.Texts path)) refl (λ parts pieces. refl)
gives (BootPath key path) = One (Field key (objects.Text path)) refl (λ parts pieces. refl)
gives (Texts key texts) = One (Field key (objects.Texts texts)) refl (λ parts pieces. refl)
gives (Numbers key []) = One (Field key (objects.Numbers [])) refl (λ parts pieces. refl)
gives (Numbers key (n ∷ ns)) = One (Field key (objects.Numbers (n ∷ ns))) refl (λ parts pieces. refl)
gives (Counted key texts) = One (Field key (objects.Texts texts)) refl (λ parts pieces. refl)
gives (Digits key digits) = One (Field key (objects.Text digits)) refl (λ parts pieces. refl)
gives (Cut key digits) = One (Field key (objects.Text digits)) refl (λ parts pieces. refl)
gives (Hex key n) = One (Field key (objects.Number n)) refl (λ parts pieces. refl)
gives (WideHex key n) = One (Field key (objects.Number n)) refl (λ parts pieces. refl)
gives (Dword key n) = One (Field key (objects.Number n)) refl (λ parts pieces. refl)
gives (Qword key n) = One (Field key (objects.Number n)) refl (λ parts pieces. refl)
gives (Unless key word flag) = One (Field key (objects.Flag flag)) refl (λ parts pieces. refl)
gives (Words key words) = One (Field key (objects.Texts words)) refl (λ parts pieces. refl)
gives (Nothing key) = One (Field key objects.Null) refl (λ parts pieces. refl)
gives (Absent key) = One (Field key objects.Null) refl (λ parts pieces. refl)
gives (Hidden key word) = One (Field key (objects.Text word)) refl (λ parts pieces. refl)
gives (Bracket key first word) = One (Opens key first word) refl (λ parts pieces. refl)
gives BracketEnd = One Closes refl (λ parts pieces. refl)
gives (Records key head first name) = One (ListOpens key first name) refl (λ parts pieces. refl)
gives (NextRecord head first name) = One (NextOpens first name) refl (λ parts pieces. refl)
gives RecordsEnd = One ListCloses refl (λ parts pieces. refl)
gives (NoRecords key) = One (Field key (objects.Texts [])) refl (λ parts pieces. refl)

-- what gives a part
next : (part : Part) (parts : List Part) → all_filled (map emptied parts) (map told_piece (pieces_of parts)) ≡ parts
    → Gives part
    → all_filled (emptied part ∷ map emptied parts) (map told_piece (part_pieces part ++ pieces_of parts)) ≡ part ∷ parts
next part parts others (None fills none) =
    ap (λ (ps : List Piece). all_filled (emptied part ∷ map emptied parts) (map told_piece (ps ++ pieces_of parts))) none
    ∙ fills (map emptied parts) (map told_piece (pieces_of parts))
    ∙ ap (λ (ps : List Part). part ∷ ps) others
next part parts others (One piece one fills) =
    ap (λ (ps : List Piece). all_filled (emptied part ∷ map emptied parts) (map told_piece (ps ++ pieces_of parts))) one
    ∙ fills (map emptied parts) (map told_piece (pieces_of parts))
    ∙ ap (λ (ps : List Part). part ∷ ps) others

pub filled_back : (parts : List Part) → all_filled (map emptied parts) (map told_piece (pieces_of parts)) ≡ parts
filled_back [] = refl
filled_back (part ∷ parts) = next part parts (filled_back parts) (gives part)
