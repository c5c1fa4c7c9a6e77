-- Bytes in sequence, as the loop reads them.
use Rattle.std.proofs.Common.{◌≡◌, ℕ, Bool, true, false, cond, eqb, List, [], ◌∷◌, ◌++◌, Option, Some, None, Result, Ok, Err, refl, sym, ap, ◌∙◌, append_assoc}
use Rattle.reg_text.specs.declared.stop.RegFaultKind.{RegFaultKind}
use Rattle.reg_text.specs.declared.stop.RegFaultKind.TheVariants.{Line}
use Rattle.reg_text.specs.Digits.{byte_of, pair_at, behind_comma, with_bytes, pairs_of}

-- what the bytes are, where a pair was read at the front
abbrev pub behind_pair : ℕ → Result (Option (List ℕ)) RegFaultKind → Result (List ℕ) RegFaultKind
behind_pair byte (Ok None) = Ok (byte ∷ [])
behind_pair byte (Ok (Some text)) = with_bytes (byte ∷ []) (pairs_of text)
behind_pair byte (Err kind) = Err kind

-- what the bytes are, by what was read at the front
abbrev pub by_pair : Result (ℕ × List ℕ) RegFaultKind → Result (List ℕ) RegFaultKind
by_pair (Ok p) = behind_pair p.0 (behind_comma p.1)
by_pair (Err kind) = Err kind

last_by : (b : Bool) (byte : ℕ) → cond b (Ok (byte ∷ [])) (Err Line) ≡ by_pair (cond b (Ok (byte, [])) (Err Line))
unfolding behind_comma
last_by true byte = refl
last_by false byte = refl

next_by : (b d : Bool) (byte c : ℕ) (text : List ℕ) → eqb c 44 ≡ d
    → cond b (cond d (with_bytes (byte ∷ []) (pairs_of text)) (Err Line)) (Err Line)
    ≡ by_pair (cond b (Ok (byte, c ∷ text)) (Err Line))
unfolding behind_comma
next_by true true byte c text is = rw is refl
next_by true false byte c text is = rw is refl
next_by false d byte c text is = refl

next_pair : (text : List ℕ) → pairs_of text ≡ by_pair (pair_at text)
unfolding pairs_of pair_at
next_pair [] = refl
next_pair (high ∷ []) = refl
next_pair (high ∷ low ∷ []) = last_by _ (byte_of high low)
next_pair (high ∷ low ∷ c ∷ text) = next_by _ (eqb c 44) (byte_of high low) c text refl

regroup : (front : List ℕ) (byte : ℕ) (read : Result (List ℕ) RegFaultKind)
    → with_bytes front (with_bytes (byte ∷ []) read) ≡ with_bytes (front ++ byte ∷ []) read
regroup front byte (Ok bytes) = ap (λ (bs : List ℕ). Ok bs) (sym (append_assoc front (byte ∷ []) bytes))
regroup front byte (Err kind) = refl

pub fails : (front rest : List ℕ) (kind : RegFaultKind) (total : Result (List ℕ) RegFaultKind) → pair_at rest ≡ Err kind
    → with_bytes front (pairs_of rest) ≡ total → total ≡ Err kind
fails front rest kind total read so_far = sym so_far ∙ ap (with_bytes front) (next_pair rest ∙ ap by_pair read)

behind : (rest after : List ℕ) (byte : ℕ) (more : Result (Option (List ℕ)) RegFaultKind)
    → pair_at rest ≡ Ok (byte, after)
    → behind_comma after ≡ more → pairs_of rest ≡ behind_pair byte more
behind rest after byte more read comma = next_pair rest ∙ ap by_pair read ∙ ap (behind_pair byte) comma

pub stops : (front rest after : List ℕ) (byte : ℕ) (kind : RegFaultKind) (total : Result (List ℕ) RegFaultKind)
    → pair_at rest ≡ Ok (byte, after)
    → behind_comma after ≡ Err kind → with_bytes front (pairs_of rest) ≡ total → total ≡ Err kind
stops front rest after byte kind total read comma so_far =
    sym so_far ∙ ap (with_bytes front) (behind rest after byte (Err kind) read comma)

pub ends : (front rest after : List ℕ) (byte : ℕ) (total : Result (List ℕ) RegFaultKind)
    → pair_at rest ≡ Ok (byte, after)
    → behind_comma after ≡ Ok None → with_bytes front (pairs_of rest) ≡ total → total ≡ Ok (front ++ byte ∷ [])
ends front rest after byte total read comma so_far =
    sym so_far ∙ ap (with_bytes front) (behind rest after byte (Ok None) read comma)

pub goes_on : (front rest after more : List ℕ) (byte : ℕ) (total : Result (List ℕ) RegFaultKind)
    → pair_at rest ≡ Ok (byte, after)
    → behind_comma after ≡ Ok (Some more) → with_bytes front (pairs_of rest) ≡ total
    → with_bytes (front ++ byte ∷ []) (pairs_of more) ≡ total
goes_on front rest after more byte total read comma so_far =
    let one : with_bytes front (pairs_of rest) ≡ with_bytes (front ++ byte ∷ []) (pairs_of more) =
    ap (with_bytes front) (behind rest after byte (Ok (Some more)) read comma) ∙ regroup front byte (pairs_of more) in
    sym one ∙ so_far
