-- Texts said one after another.
use Rattle.std.proofs.Common.{◌≡◌, ℕ, suc, ◌<◌, ◌≤◌, List, [], ◌∷◌, ◌++◌, length, take, sym, subst, ap, append-nil, append_assoc, ◌∙◌}
use Rattle.std.specs.Prelude.{Err}
use Rattle.std.specs.List.{flat_map}
use Rattle.std.proofs.Math.ListN.{drop, get_or}
use Rattle.std.proofs.Math.Seq.{take-suc}
use Rattle.std.proofs.lemmas.List.{take_all, take-append-drop}
use Rattle.std.proofs.lemmas.Grind.{flat_map-append}
use Rattle.nt_edge.specs.Host.{HostState, SaysFront}
use Rattle.nt_edge.specs.declared.host.HostStop.{HostStop}
use Rattle.command_parts.proofs.LeaveLemmas.{keeps_then, files_then, fault_then}
use Rattle.services_command.specs.Says.{Says, Breaks}

-- ---- one after another

-- a first part of what is said after a text
onto : (old mid new t u rest : List ℕ) → mid ≡ old ++ t → SaysFront mid new u → SaysFront old new (t ++ (u ++ rest))
onto old mid new t u rest e f = record {
  front = t ++ f.front;
  rest = f.rest ++ rest;
  cut = ap (λ (x : List ℕ). t ++ (x ++ rest)) f.cut ∙ ap (λ (x : List ℕ). t ++ x) (append_assoc f.front f.rest rest)
      ∙ sym (append_assoc t f.front (f.rest ++ rest));
  said = f.said ∙ ap (λ (x : List ℕ). x ++ f.front) e ∙ append_assoc old t f.front;
}

broken : (stop : HostStop) (a b c : HostState) (t u rest : List ℕ) → Says a b t → Breaks stop b c u
    → Breaks stop a c (t ++ (u ++ rest))
broken stop a b c t u rest first second = record {
  front = λ tells. onto a.said b.said c.said t u rest (first.said tells) (second.front (first.keeps.tells ∙ tells));
  keeps = keeps_then a b c first.keeps second.keeps;
  files = files_then a b c first.keeps first.files second.files;
  unasked = second.unasked ∙ first.unasked;
  counts = fault_then {A = ℕ} (Err stop) a b c first.keeps first.counts second.counts;
  unread = second.unread;
}

-- ---- lines of which each is said

module _ {L : Type 0} (f : L → List ℕ) (ls : List L) (i : ℕ) where
  pub all_said : length ls ≤ i → flat_map f (take i ls) ≡ flat_map f ls
  all_said le = ap (flat_map f) (take_all i ls le)

  one_more : (d : L) → i < length ls → flat_map f (take i ls) ++ f (get_or ls i d) ≡ flat_map f (take (suc i) ls)
  one_more d lt =
      ap (λ (t : List ℕ). flat_map f (take i ls) ++ t) (sym (append-nil (f (get_or ls i d))))
      ∙ sym (flat_map-append f (take i ls) (get_or ls i d ∷ [])) ∙ ap (flat_map f) (sym (take-suc ls i d lt))

  cut_at : (d : L) → i < length ls
      → flat_map f (take i ls) ++ (f (get_or ls i d) ++ flat_map f (drop (suc i) ls)) ≡ flat_map f ls
  cut_at d lt =
      sym (append_assoc (flat_map f (take i ls)) (f (get_or ls i d)) (flat_map f (drop (suc i) ls)))
      ∙ ap (λ (t : List ℕ). t ++ flat_map f (drop (suc i) ls)) (one_more d lt)
      ∙ sym (flat_map-append f (take (suc i) ls) (drop (suc i) ls))
      ∙ ap (flat_map f) (take-append-drop (suc i) ls)

  -- the one at this place was broken off
  pub broken_at : (d : L) → i < length ls → (stop : HostStop) (a b c : HostState) → Says a b (flat_map f (take i ls))
      → Breaks stop b c (f (get_or ls i d)) → Breaks stop a c (flat_map f ls)
  broken_at d lt stop a b c first second =
      subst (λ (t : List ℕ). Breaks stop a c t) (cut_at d lt)
      (broken stop a b c (flat_map f (take i ls)) (f (get_or ls i d)) (flat_map f (drop (suc i) ls)) first second)
