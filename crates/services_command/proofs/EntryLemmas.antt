-- The parts of an entry's line, put one after another.
use Rattle.std.proofs.Common.{◌≡◌, ℕ, List, [], ◌∷◌, ◌++◌, map, ap, ◌∙◌, append_assoc}
use Rattle.std.specs.Prelude.{codes}
use Rattle.key_text.specs.Stamps.{stamp_text}
use Rattle.line_parts.specs.Parts.{Part, Said, Word, Words}
use Rattle.service_list.specs.declared.entry.ServiceEntry.{ServiceEntry}
use Rattle.services_command.specs.Lines.{mark_word, head_parts, value_parts, place_parts, own_parts, override_parts, front_parts, entry_parts}

fronts : (a b c d e head values place : List Part) (said : Part)
    → b ≡ a ++ head → c ≡ b ++ values → d ≡ c ++ said ∷ [] → e ≡ d ++ place → e ≡ a ++ ((head ++ values) ++ said ∷ place)
fronts a b c d e head values place said p q r s =
    s ∙ ap (λ (x : List Part). x ++ place) (r ∙ ap (λ (x : List Part). x ++ said ∷ []) (q ∙ ap (λ (x : List Part). x ++ values) p))
    ∙ simp append_assoc

pub front_is : (entry : ServiceEntry) (a b c d e : List Part)
    → b ≡ a ++ head_parts entry → c ≡ b ++ value_parts entry.numbers entry.texts → d ≡ c ++ Said (codes "order") ∷ []
    → e ≡ d ++ place_parts entry.place → e ≡ a ++ front_parts entry
front_is entry a b c d e p q r s =
    fronts a b c d e (head_parts entry) (value_parts entry.numbers entry.texts) (place_parts entry.place) (Said (codes "order")) p q r s

backs : (a b c d e f front own over : List Part) (said word words : Part)
    → a ≡ front → b ≡ a ++ said ∷ [] → c ≡ b ++ word ∷ [] → d ≡ c ++ own → e ≡ d ++ over → f ≡ e ++ words ∷ []
    → f ≡ front ++ (((said ∷ word ∷ own) ++ over) ++ words ∷ [])
backs a b c d e f front own over said word words p q r s t u =
    u ∙ ap (λ (x : List Part). x ++ words ∷ []) (t ∙ ap (λ (x : List Part). x ++ over)
    (s ∙ ap (λ (x : List Part). x ++ own) (r ∙ ap (λ (x : List Part). x ++ word ∷ [])
    (q ∙ ap (λ (x : List Part). x ++ said ∷ []) p))))
    ∙ simp append_assoc

pub entry_is : (entry : ServiceEntry) (a b c d e f : List Part) (moment : List ℕ) (words : List (List ℕ))
    → a ≡ front_parts entry → b ≡ a ++ Said (codes "written") ∷ [] → c ≡ b ++ Word (codes "written") moment ∷ []
    → d ≡ c ++ own_parts entry.texts.own → e ≡ d ++ override_parts entry.overrides → f ≡ e ++ Words (codes "marks") words ∷ []
    → moment ≡ stamp_text entry.written → words ≡ map mark_word entry.marks → f ≡ entry_parts entry
entry_is entry a b c d e f moment words p q r s t u when marks =
    let front = front_parts entry in
    let own = own_parts entry.texts.own in
    let over = override_parts entry.overrides in
    backs a b c d e f front own over (Said (codes "written")) (Word (codes "written") moment) (Words (codes "marks") words) p q r s t u
    ∙ (λ i. front ++ (((Said (codes "written") ∷ Word (codes "written") (when i) ∷ own) ++ over) ++ Words (codes "marks") (marks i) ∷ []))
