-- What is started of a set is started of each set that has its entries.
use Rattle.std.proofs.Common.{◌≡◌, ℕ, true, false, List, [], ◌++◌, map, Some, refl, sym, ap, ◌∙◌, inl, inr, subst}
use Rattle.std.specs.Prelude.{Contains}
use Rattle.std.proofs.lemmas.Bool.{false≢true}
use Rattle.std.proofs.lemmas.List.Elements.{Contains-append_left, Contains-append_right}
use Rattle.hive_model.specs.Tree.{Tree}
use Rattle.hive_model.specs.Valid.{HoldsKeys}
use Rattle.start_model.specs.Demand.{Need}
use Rattle.start_model.specs.Entries as book
use Rattle.start_model.specs.Entries.{Entry, need_of}
use Rattle.report_words.specs.declared.words.TryWord.TheVariants as tries
use Rattle.report_words.specs.declared.line.Line.TheVariants.{Try as TryLine}
use Rattle.start_model.specs.Ready.{is_ready}
use Rattle.service_control.specs.State.{labels_of}
use Rattle.service_control.proofs.LeanLemmas.{mapped_from, mapped_to}
use Rattle.service_control.proofs.LeastLemmas.{from}
use Rattle.service_check.specs.declared.stage.Stage.{Stage}
use Rattle.service_check.specs.declared.stage.Stage.TheVariants.{Boot, System, Automatic, Demand}
use Rattle.service_check.specs.declared.stage.Staged.{Staged}
use Rattle.service_check.specs.Stages.{is_taken, rows_of}
use Rattle.wait_cycles.proofs.InverseLemmas.{none_in}
use Rattle.safe_boot.specs.Played.{start_lines_of}
use Rattle.safe_boot.proofs.HeldLemmas.{reduced_holds}
use Rattle.safe_boot.specs.Listed.{reduced_of}
use Rattle.check_laws.proofs.TakenLemmas.{mapped_on}
use Rattle.check_laws.proofs.TurnLemmas.{Ran, IsPhase, turn_ind, ready_wider}
use Rattle.check_laws.proofs.StartLemmas.{IsTold, start_told}
use Rattle.check_laws.proofs.UnmetLemmas.{IsOf}
use Rattle.check_laws.proofs.WholeLemmas.{IsStart}
use Rattle.check_laws.proofs.SetLemmas.{plan_entry, stage_boot, stage_system, stage_automatic, boot_stage, system_stage, automatic_stage, is_of, of_entry}
use Rattle.check_laws.proofs.AboutLemmas.{needs, start_of}
use Rattle.command_laws.specs.safe_laws.Images.{SaysStarted, HasEntriesOf, MoreEntriesLoseNone, ImagesLoseNone}
use Rattle.command_laws.proofs.LineLemmas.{started_name, name_of, all_new, map_three, names_told, started_line}
use Rattle.command_laws.proofs.TakenLemmas.{plan_more, images_have_entries}

-- ---- stages

-- an entry of the first rows that a phase takes is one of the second
abbrev AreOfToo : List Staged → List Staged → Type 0
AreOfToo fewer more = (own : Stage) → is_taken (Some own) ≡ true → (n : Need) → IsOf fewer own n → IsOf more own n

stages_more : (fewer more : Tree) → HoldsKeys fewer → HoldsKeys more → HasEntriesOf fewer more → AreOfToo (rows_of fewer) (rows_of more)
stages_more fewer more held holds into Boot h n i =
    let e = of_entry fewer held Boot n i in
    let c = plan_more fewer more holds into book.Boot e.0 (boot_stage fewer held e.0 e.1 e.2) in
    subst (IsOf (rows_of more) Boot) e.3
    (is_of more holds Boot e.0 (plan_entry more book.Boot [] e.0 c) (stage_boot more holds e.0 c))
stages_more fewer more held holds into System h n i =
    let e = of_entry fewer held System n i in
    let c = plan_more fewer more holds into book.System e.0 (system_stage fewer held e.0 e.1 e.2) in
    subst (IsOf (rows_of more) System) e.3
    (is_of more holds System e.0 (plan_entry more book.System [] e.0 c) (stage_system more holds e.0 c))
stages_more fewer more held holds into Automatic h n i =
    let e = of_entry fewer held Automatic n i in
    let c = plan_more fewer more holds into book.Automatic e.0 (automatic_stage fewer held e.0 e.1 e.2) in
    subst (IsOf (rows_of more) Automatic) e.3
    (is_of more holds Automatic e.0 (plan_entry more book.Automatic [] e.0 c) (stage_automatic more holds e.0 c))
stages_more fewer more held holds into Demand h n i = absurd (false≢true h)

-- ---- who starts

module _ (fewer more : List Staged) (into : AreOfToo fewer more) (a b d : Ran Need) (start : IsStart fewer a b d)
    (a' b' d' : Ran Need) (other : IsStart more a' b' d') where
  -- whoever is ready and taken is started
  goes : (own : Stage) → is_taken (Some own) ≡ true → (pre new left : List Need) → IsPhase (IsOf more own) pre new left
      → (done : List Need) (n : Need) → ((m : Need) → Contains done m → Contains (pre ++ new) m) → IsOf fewer own n
      → is_ready (labels_of done) n ≡ true → Contains (pre ++ new) n
  goes own taken pre new left phase done n all i ready = elim (phase.each n (into own taken n i)) [
    | inl j ↦ Contains-append_right pre new n j
    | inr j ↦ absurd (false≢true (sym (phase.unready n j) ∙ ready_wider done (pre ++ new) n all ready))
  ]

  first : (n : Need) → Contains a.new n → Contains a'.new n
  first = turn_ind (IsOf fewer Boot) (Contains a'.new) (goes Boot refl [] a'.new a'.left other.boot) [] a.new
      (λ m c. absurd (none_in m c)) start.boot.turn

  second : (n : Need) → Contains (a.new ++ b.new) n → Contains (a'.new ++ b'.new) n
  second = turn_ind (IsOf fewer System) (Contains (a'.new ++ b'.new)) (goes System refl a'.new b'.new b'.left other.system) a.new b.new
      (λ m c. Contains-append_left a'.new b'.new m (first m c)) start.system.turn

  third : (n : Need) → Contains ((a.new ++ b.new) ++ d.new) n → Contains ((a'.new ++ b'.new) ++ d'.new) n
  third = turn_ind (IsOf fewer Automatic) (Contains ((a'.new ++ b'.new) ++ d'.new))
      (goes Automatic refl (a'.new ++ b'.new) d'.new d'.left other.automatic) (a.new ++ b.new) d.new
      (λ m c. Contains-append_left (a'.new ++ b'.new) d'.new m (second m c)) start.automatic.turn

-- ---- what is printed for them

-- whose name is printed to be started is one of those that start
says_from : (set : Tree) (a b d : Ran Entry) → IsTold set a b d → (name : List ℕ) → SaysStarted (start_lines_of set) name
    → (n : Need) × Contains (map need_of (all_new a b d)) n × (n.name ≡ name)
says_from set a b d told name c =
    let m = mapped_from name_of (all_new a b d) name
    (subst (λ (l : List (List ℕ)). Contains l name) (names_told set a b d told)
    (mapped_on started_name (start_lines_of set) (TryLine name tries.Ok) name c refl)) in
    (need_of m.item, mapped_to need_of (all_new a b d) m.item m.there, m.is)

says_in : (set : Tree) (a b d : Ran Entry) → IsTold set a b d → (n : Need) → Contains (map need_of (all_new a b d)) n
    → SaysStarted (start_lines_of set) n.name
says_in set a b d told n c =
    let m = mapped_from need_of (all_new a b d) n c in
    let f = from started_name (start_lines_of set) n.name
    (subst (λ (l : List (List ℕ)). Contains l n.name) (sym (names_told set a b d told))
    (subst (Contains (map name_of (all_new a b d))) (ap (λ (x : Need). x.name) m.is)
    (mapped_to name_of (all_new a b d) m.item m.there))) in
    subst (Contains (start_lines_of set)) (started_line f.item n.name f.is) f.there

pub more_lose_none : MoreEntriesLoseNone
more_lose_none fewer more held holds into name c =
    let t = start_told fewer in
    let u = start_told more in
    let n = says_from fewer t.0 t.1 t.2 t.3 name c in
    let over = third (rows_of fewer) (rows_of more) (stages_more fewer more held holds into)
    (needs t.0) (needs t.1) (needs t.2) (start_of fewer held t.0 t.1 t.2 t.3)
    (needs u.0) (needs u.1) (needs u.2) (start_of more holds u.0 u.1 u.2 u.3) n.0
    (subst (λ (l : List Need). Contains l n.0) (sym (map_three need_of t.0 t.1 t.2)) n.1) in
    subst (SaysStarted (start_lines_of more)) n.2
    (says_in more u.0 u.1 u.2 u.3 n.0 (subst (λ (l : List Need). Contains l n.0) (map_three need_of u.0 u.1 u.2) over))

pub images_lose_none : ImagesLoseNone
images_lose_none set holds mode name c =
    more_lose_none (reduced_of set mode false) (reduced_of set mode true) (reduced_holds set mode false holds)
    (reduced_holds set mode true holds) (images_have_entries set mode) name c
