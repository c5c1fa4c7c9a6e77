-- What consecutive reads give of a file.
use Rattle.std.proofs.Common.{◌≡◌, ◌∙◌, ◌+◌, ◌-◌, ◌++◌, ℕ, List, Option, Some, None, take, drop, replicate, sym, ap, subst, arith, take-add, drop-drop}
use Rattle.std.proofs.lemmas.List.{drop-replicate}
use Rattle.std.specs.Option.{IfSome}
use Rattle.file_disk.specs.Given.{Gives, Fills}

-- what was read so far are bytes of the file, and zeros follow
abbrev pub Read : List ℕ → ℕ → ℕ → List ℕ → Type 0
Read bytes place got into = (take got into ≡ take got (drop place bytes)) × (drop got into ≡ replicate (512 - got) 0)

pub read-more : (bytes : List ℕ) (place got n : ℕ) (old new : List ℕ) → Read bytes place got old → take got new ≡ take got old
    → Gives bytes (place + got) n (drop got old) (drop got new) → Read bytes place (got + n) new
read-more bytes place got n old new was same g = (
  take-add got n new ∙ ap (λ l. l ++ take n (drop got new)) (same ∙ was.0)
      ∙ ap (λ l. take got (drop place bytes) ++ l) (g.front ∙ ap (take n) (sym (drop-drop got place bytes)))
      ∙ sym (take-add got n (drop place bytes)),
  sym (drop-drop n got new) ∙ g.rest ∙ ap (drop n) was.1 ∙ drop-replicate n (512 - got) 0 ∙ ap (λ k. replicate k 0) (omega arith),
)

pub read-end : (bytes : List ℕ) (place got n : ℕ) (old new : List ℕ) → n ≡ 0 → Read bytes place got old → take got new ≡ take got old
    → Gives bytes (place + got) n (drop got old) (drop got new) → Fills bytes place got new
read-end bytes place got n old new none was same g = record {
  front = same ∙ was.0;
  rest = ap (λ k. drop k (drop got new)) (sym none) ∙ g.rest ∙ ap (λ k. drop k (drop got old)) none ∙ was.1;
  end = λ few. g.end none;
}

pub on-both : {P Q R : List ℕ → Type 0} (now then : Option (List ℕ)) → now ≡ then → IfSome then P → IfSome now Q
    → ((bytes : List ℕ) → P bytes → Q bytes → R bytes) → IfSome then R
on-both {P} {Q} now (Some bytes) e p q f = f bytes p (subst (λ h. IfSome h Q) e q)
on-both now None e p q f = tt
