-- Which outcome is the last of two parts in sequence, and of one operation?
use Rattle.std.proofs.Common.{◌≡◌, List, [], ◌∷◌, ◌++◌, refl, sym, ap, subst, ◌∙◌, append-nil, append_assoc}
use Rattle.hive_model.specs.State.{HiveState}
use Rattle.start_model.specs.Possible.{Possible, Woken, Outcome, Finished, open_between}
use Rattle.start_model.specs.Act.{Act, ask}
use Rattle.start_model.specs.Run.{play}
use Rattle.start_model.specs.Report.{Going}
use Rattle.run_parts.specs.printed_parts.Chain.{Link}
use Rattle.run_parts.specs.printed_parts.Logged.{EndsInCommit, EndsCommitted, LeavesLogged}

-- ---- lists

pub not_empty : (front : List Outcome) (u : Outcome) (us : List Outcome) → front ++ (u ∷ us) ≡ [] → ⊥
not_empty [] u us e = cc
not_empty (x ∷ front) u us e = cc

no_last : (first : List Outcome) (z : Outcome) → [] ≡ first ++ z ∷ [] → ⊥
no_last first z e = not_empty first z [] (sym e)

-- a list that ends in z, after its front
pub record IsTail (front back first : List Outcome) (z : Outcome) : Type 0 where
  pub rest : List Outcome
  pub last : back ≡ rest ++ z ∷ []
  pub all : first ≡ front ++ rest

tail_of : (front : List Outcome) (u : Outcome) (us first : List Outcome) (z : Outcome)
    → front ++ (u ∷ us) ≡ first ++ z ∷ [] → IsTail front (u ∷ us) first z
tail_of [] u us first z e = record { rest = first; last = e; all = refl }
tail_of (x ∷ front) u us [] z e = let t : front ++ (u ∷ us) ≡ [] = cc in absurd (not_empty front u us t)
tail_of (x ∷ front) u us (y ∷ first) z e =
    let t : front ++ (u ∷ us) ≡ first ++ z ∷ [] = cc in
    let h : y ≡ x = cc in
    let p : IsTail front (u ∷ us) first z = tail_of front u us first z t in
    record {
      rest = p.rest;
      last = p.last;
      all = ap (λ (o : Outcome). o ∷ first) h ∙ ap (λ (os : List Outcome). x ∷ os) p.all;
    }

-- of one item it is that
pub record IsOnly (u : Outcome) (first : List Outcome) (z : Outcome) : Type 0 where
  pub none : first ≡ []
  pub same : u ≡ z

only_last : (u : Outcome) (first : List Outcome) (z : Outcome) → u ∷ [] ≡ first ++ z ∷ [] → IsOnly u first z
only_last u [] z e = record { none = refl; same = cc }
only_last u (y ∷ first) z e = let t : [] ≡ first ++ z ∷ [] = cc in absurd (no_last first z t)

-- ---- where the last operation is a commit

-- no operation ended
pub logged-none : (run : Going) (woken : List Woken) (outcomes : List Outcome) (links : List Link) → outcomes ≡ []
    → LeavesLogged run woken outcomes links
logged-none run woken outcomes links none = λ before after m. absurd (no_last m.first Finished (sym none ∙ m.last))

-- the only one was stopped
pub logged-stop : (run : Going) (woken : List Woken) (u : Outcome) (links : List Link) → (u ≡ Finished → ⊥)
    → LeavesLogged run woken (u ∷ []) links
logged-stop run woken u links stop = λ before after m. absurd (stop (only_last u m.first Finished m.last).same)

-- the links of an operation that ended so, where it is a commit
abbrev pub LogsWhere : Possible → Outcome → List Link → Type 0
LogsWhere disk u links =
    (before after : HiveState) → u ≡ Finished → disk ≡ open_between before after → EndsCommitted links before after

-- one operation
pub logged-ask : (disk : Possible) (next : Outcome → Act) (u : Outcome) (outcomes : List Outcome) (links : List Link)
    → outcomes ≡ u ∷ [] → LogsWhere disk u links → LeavesLogged (play (ask disk next)) [] outcomes links
logged-ask disk next u outcomes links is logs = λ before after m.
    let p : IsOnly u m.first Finished = only_last u m.first Finished (sym is ∙ m.last) in
    logs before after p.same
    (ap (λ (os : List Outcome). (play (ask disk next) [] os).disk) (sym p.none) ∙ m.opened)

-- after others
ends_behind : (front links : List Link) (before after : HiveState) → EndsCommitted links before after
    → EndsCommitted (front ++ links) before after
ends_behind front links before after e = record {
  first = front ++ e.first;
  edits = e.edits;
  old = e.old;
  new = e.new;
  last = ap (λ (ls : List Link). front ++ ls) e.last ∙ sym (append_assoc front e.first _);
  was = e.was;
  is = e.is;
}

-- an operation ended in the second of two parts
pub logged-then : (a b : Going) (v w : List Woken) (os : List Outcome) (u : Outcome) (us : List Outcome)
    (front links : List Link)
    → ((o : List Outcome) → (a (v ++ w) (os ++ o)).disk ≡ (b w o).disk) → LeavesLogged b w (u ∷ us) links
    → LeavesLogged a (v ++ w) (os ++ (u ∷ us)) (front ++ links)
logged-then a b v w os u us front links goes q = λ before after m.
    let t : IsTail os (u ∷ us) m.first Finished = tail_of os u us m.first Finished m.last in
    ends_behind front links before after (q before after (record {
      first = t.rest;
      last = t.last;
      opened = sym (goes t.rest) ∙ ap (λ (o : List Outcome). (a (v ++ w) o).disk) (sym t.all) ∙ m.opened;
    }))

-- none did in the second, in which the disk did not wake
pub logged-first : (a : Going) (v w : List Woken) (os : List Outcome) (front links : List Link) → w ≡ [] → links ≡ []
    → LeavesLogged a v os front → LeavesLogged a (v ++ w) (os ++ []) (front ++ links)
logged-first a v w os front links asleep none p = λ before after m.
    let wakes : v ++ w ≡ v = ap (λ (ws : List Woken). v ++ ws) asleep ∙ append-nil v in
    let here : EndsInCommit a v os before after = record {
      first = m.first;
      last = sym (append-nil os) ∙ m.last;
      opened = ap (λ (ws : List Woken). (a ws m.first).disk) (sym wakes) ∙ m.opened;
    } in
    let P : List Link → Type 0 = λ ls. EndsCommitted ls before after in
    subst P (sym (ap (λ (ls : List Link). front ++ ls) none ∙ append-nil front)) (p before after here)
