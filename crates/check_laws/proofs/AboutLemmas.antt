-- A taken entry that a line is about is unmet, and where one is unmet a line is about a taken one.
use Rattle.std.proofs.Common.{◌≡◌, ℕ, ◌<◌, ◌≤◌, Bool, true, false, List, [], ◌∷◌, ◌++◌, length, map, Option, Some, refl, sym, ap, ◌∙◌, inl, inr, subst, arith}
use Rattle.std.specs.Prelude.{Contains, slice_get}
use Rattle.std.specs.Option.{option_map_or}
use Rattle.std.specs.List.{filter_map}
use Rattle.std.proofs.lemmas.List.{length-map, map-append}
use Rattle.std.proofs.lemmas.List.Elements.{Contains-append_cases}
use Rattle.std.proofs.lemmas.Option.{slice_get_within, same_Some}
use Rattle.nt_bytes.specs.Folding.{folded, folds_same}
use Rattle.hive_model.specs.Tree.{Tree}
use Rattle.hive_model.specs.Valid.{HoldsKeys}
use Rattle.dependencies.proofs.MeetLemmas.{folded_first}
use Rattle.start_model.specs.Demand.{Need}
use Rattle.start_model.specs.Entries as book
use Rattle.start_model.specs.Entries.{Entry, need_of}
use Rattle.report_words.specs.declared.line.Line.{Line}
use Rattle.report_words.specs.declared.line.Line.TheVariants.{Unmet as UnmetLine}
use Rattle.start_model.specs.Machine as machine
use Rattle.start_model.specs.Order.{plan_of}
use Rattle.start_model.specs.Ready.{Label}
use Rattle.safe_boot.specs.Played.{start_lines_of}
use Rattle.answer_lines.specs.declared.check_lines.lines.CheckLine.{CheckLine}
use Rattle.answer_lines.specs.declared.check_lines.lines.CheckLine.TheVariants as lines
use Rattle.service_check.specs.declared.stage.Stage.TheVariants as stages
use Rattle.service_check.specs.declared.stage.Staged.{Staged}
use Rattle.service_check.specs.Stages.{is_taken, rows_of}
use Rattle.service_check.specs.Needs.{need_faults, good_ways, waits_of}
use Rattle.service_check.specs.Check.{name_at, set_lines}
use Rattle.service_control.specs.State.{labels_of}
use Rattle.service_control.proofs.LeanLemmas.{folds_itself, mapped_from, mapped_to}
use Rattle.service_control.proofs.LeastLemmas.{from}
use Rattle.check_laws.specs.Unmet.{unmet_name, IsAbout, wrong, cycle, IsTakenName, SaysUnmet, HasAbout, AboutIsUnmet, UnmetHasAbout, NoneAboutStartsWhole}
use Rattle.check_laws.proofs.TakenLemmas.{mapped_on, item_here, item_place}
use Rattle.check_laws.proofs.ProperLaws.{good_proper}
use Rattle.check_laws.proofs.CycleLaws.{one_round, round_found, in_cycle_stuck}
use Rattle.check_laws.proofs.TurnLemmas.{Ran, run, InTurn, IsPhase, IsRan, ran, ran_phase, turned_each}
use Rattle.check_laws.proofs.StartLemmas.{IsTold, start_told}
use Rattle.check_laws.proofs.RowLemmas.{stands_at}
use Rattle.check_laws.proofs.UnmetLemmas.{IsOf}
use Rattle.check_laws.proofs.WholeLemmas as whole
use Rattle.check_laws.proofs.WholeLemmas.{IsStart, Reason, reason_left, left_reason}
use Rattle.check_laws.proofs.SetLemmas.{rows_apart, row_entry, boot_phase, system_phase, automatic_phase, IsEarly, below_by, boot_early, system_early}
use Rattle.check_laws.proofs.LineLemmas.{set_about, set_cycle, set_says, set_says_cycle}
use Rattle.check_laws.proofs.WaysLemmas.{taken_set, taken_leads, wrong_is}

-- ---- the start of a set

abbrev pub needs : Ran Entry → Ran Need
needs r = record { new = map need_of r.new; left = map need_of r.left }

labels_are : (es : List Entry) → map machine.label_of es ≡ labels_of (map need_of es)
labels_are [] = refl
labels_are (e ∷ es) = ap (λ (l : List Label). machine.label_of e ∷ l) (labels_are es)

same_length : (n : ℕ) → n ≤ n
same_length n = omega arith

-- who starts of a plan, as a phase
ran_so : (plan : List Entry) (s : List Label) (pre : List Need) (r : Ran Entry) → r ≡ run need_of (length plan) s plan
    → s ≡ labels_of pre → IsPhase (Contains (map need_of plan)) pre (needs r).new (needs r).left
ran_so plan s pre r is labels =
    let done = ran need_of (length plan) s pre plan labels (same_length (length plan)) in
    ran_phase need_of pre plan r.new r.left (subst (λ (x : Ran Entry). IsRan need_of pre plan x.new x.left) (sym is) done)

module _ (set : Tree) (holds : HoldsKeys set) where
  tried_boot : (k : ℕ) → 0 < k → (es : List Entry) → InTurn (IsOf (rows_of set) stages.Boot) [] (map need_of es) → (name : List ℕ)
      → Contains (map (λ (e : Entry). folded e.name) es) name → IsEarly set holds k name
  tried_boot k lt es turn name c =
      let m = mapped_from (λ (e : Entry). folded e.name) es name c in
      boot_early set holds k name (need_of m.item) lt
      (turned_each (IsOf (rows_of set) stages.Boot) [] (map need_of es) turn (need_of m.item) (mapped_to need_of es m.item m.there)).0
      (λ x. ap (λ (n : List ℕ). folds_same n x) (sym m.is) ∙ folded_first m.item.name x)

  tried_system : (pre : List Need) (es : List Entry) → InTurn (IsOf (rows_of set) stages.System) pre (map need_of es) → (name : List ℕ)
      → Contains (map (λ (e : Entry). folded e.name) es) name → IsEarly set holds 2 name
  tried_system pre es turn name c =
      let m = mapped_from (λ (e : Entry). folded e.name) es name c in
      system_early set holds name (need_of m.item)
      (turned_each (IsOf (rows_of set) stages.System) pre (map need_of es) turn (need_of m.item) (mapped_to need_of es m.item m.there)).0
      (λ x. ap (λ (n : List ℕ). folds_same n x) (sym m.is) ∙ folded_first m.item.name x)

  pub start_of : (a b d : Ran Entry) → IsTold set a b d → IsStart (rows_of set) (needs a) (needs b) (needs d)
  start_of a b d told =
      let one = boot_phase set holds [] (needs a).new (needs a).left (ran_so (plan_of set book.Boot []) [] [] a told.first refl) in
      let tried1 : List (List ℕ) = map (λ (e : Entry). folded e.name) a.new in
      let two = system_phase set holds (map (λ (e : Entry). folded e.name) a.new)
      (below_by set holds (map (λ (e : Entry). folded e.name) a.new) 1 (tried_boot 1 (omega arith) a.new one.turn))
      (needs a).new (needs b).new (needs b).left
      (ran_so (plan_of set book.System (map (λ (e : Entry). folded e.name) a.new)) (map machine.label_of a.new) (needs a).new b told.second
      (labels_are a.new)) in
      let tried2 : List (List ℕ) = map (λ (e : Entry). folded e.name) a.new ++ map (λ (e : Entry). folded e.name) b.new in
      let three = automatic_phase set holds tried2
      (below_by set holds tried2 2 (λ name c.
      elim (Contains-append_cases (map (λ (e : Entry). folded e.name) a.new) (map (λ (e : Entry). folded e.name) b.new) name c) [
        | inl i ↦ tried_boot 2 (omega arith) a.new one.turn name i
        | inr i ↦ tried_system (needs a).new b.new two.turn name i
      ])) ((needs a).new ++ (needs b).new) (needs d).new (needs d).left
      (ran_so (plan_of set book.Automatic tried2) (map machine.label_of a.new ++ map machine.label_of b.new)
      ((needs a).new ++ (needs b).new) d told.third
      ((λ j. labels_are a.new j ++ labels_are b.new j) ∙ sym (map-append _ (needs a).new (needs b).new))) in
      record { boot = one; system = two; automatic = three }

  -- ---- the lines of the unmet

  names_are : (es : List Entry) → map (λ (e : Entry). e.name) es ≡ map (λ (n : Need). n.name) (map need_of es)
  names_are [] = refl
  names_are (e ∷ es) = ap (λ (l : List (List ℕ)). e.name ∷ l) (names_are es)

  abbrev lefts : Ran Entry → Ran Entry → Ran Entry → List Need
  lefts a b d = ((needs a).left ++ (needs b).left) ++ (needs d).left

  told_names : (a b d : Ran Entry) → IsTold set a b d
      → filter_map unmet_name (start_lines_of set) ≡ map (λ (n : Need). n.name) (lefts a b d)
  told_names a b d told =
      told.told ∙ (λ j. (names_are a.left j ++ names_are b.left j) ++ names_are d.left j)
      ∙ sym (ap (λ (l : List (List ℕ)). l ++ map (λ (n : Need). n.name) (needs d).left)
      (map-append (λ (n : Need). n.name) (needs a).left (needs b).left))
      ∙ sym (map-append (λ (n : Need). n.name) ((needs a).left ++ (needs b).left) (needs d).left)

  unmet_line : (l : Line) (name : List ℕ) → unmet_name l ≡ Some name → l ≡ UnmetLine name
  unmet_line (UnmetLine other) name h = ap UnmetLine (same_Some other name h)
  unmet_line l name h = absurd cc

  pub says_in : (a b d : Ran Entry) → IsTold set a b d → (n : Need) → Contains (lefts a b d) n → SaysUnmet set n.name
  says_in a b d told n c =
      let f = from unmet_name (start_lines_of set) n.name
      (subst (λ (l : List (List ℕ)). Contains l n.name) (sym (told_names a b d told))
      (mapped_to (λ (n : Need). n.name) (lefts a b d) n c)) in
      subst (Contains (start_lines_of set)) (unmet_line f.item n.name f.is) f.there

  pub says_from : (a b d : Ran Entry) → IsTold set a b d → (name : List ℕ) → SaysUnmet set name
      → (n : Need) × Contains (lefts a b d) n × (n.name ≡ name)
  says_from a b d told name c =
      let m = mapped_from (λ (n : Need). n.name) (lefts a b d) name
      (subst (λ (l : List (List ℕ)). Contains l name) (told_names a b d told)
      (mapped_on unmet_name (start_lines_of set) (UnmetLine name) name c refl)) in
      (m.item, m.there, m.is)

  -- ---- reasons and lines

  same_row : (name : List ℕ) (r s : Staged) → Contains (rows_of set) r → Contains (rows_of set) s → r.entry.name ≡ name
      → folds_same name s.entry.name ≡ true → s ≡ r
  same_row name r s there other named h =
      sym (rows_apart set holds r s there other (ap (λ (n : List ℕ). folds_same n s.entry.name) named ∙ h))

  name_there : (q : ℕ) (s : Staged) → slice_get (rows_of set) q ≡ Some s → name_at (rows_of set) q ≡ s.entry.name
  name_there q s at = ap (λ (o : Option Staged). option_map_or (λ (r : Staged). r.entry.name) o []) at

  about_reason : (a b d : Ran Entry) (start : IsStart (rows_of set) (needs a) (needs b) (needs d)) (in_order : Bool) (number : ℕ)
      (name : List ℕ) (l : CheckLine) → Contains (set_lines in_order number set) l → IsAbout l name
      → (p : ℕ) (r : Staged) → slice_get (rows_of set) p ≡ Some r → r.entry.name ≡ name
      → (q : ℕ) × (slice_get (rows_of set) q ≡ Some r) × Reason (rows_of set) (rows_apart set holds) (needs a) (needs b) (needs d) start q r
  about_reason a b d start in_order number name l said (wrong {fault = f} h) p r at named =
      let w = set_about in_order number set f name said h in
      let same = same_row name r w.row (item_here (rows_of set) p r at) w.there named w.same in
      (p, at, whole.wrong f (subst (λ (s : Staged). Contains (need_faults (rows_of set) s) f) same w.fault))
  about_reason a b d start in_order number name l said (cycle {number = k}) p r at named =
      let w = set_cycle in_order number set k name said in
      let st = in_cycle_stuck (waits_of (rows_of set)) (good_proper (rows_of set)) w.cycle w.place w.there w.on in
      let s = stands_at (rows_of set) w.place (omega (arith, st.0, length-map (rows_of set) (good_ways (rows_of set)))) in
      let same = same_row name r s.0 (item_here (rows_of set) p r at) (item_here (rows_of set) w.place s.0 s.1) named
      (ap (folds_same name) (sym (name_there w.place s.0 s.1) ∙ w.named) ∙ folds_itself name) in
      (w.place, s.1 ∙ ap (λ (x : Staged). Some x) same, whole.stuck st.1)

  pub about_unmet : (in_order : Bool) (number : ℕ) (name : List ℕ) → HasAbout in_order number set name → IsTakenName set name
      → SaysUnmet set name
  about_unmet in_order number name has taken =
      let t = start_told set in
      let start = start_of t.0 t.1 t.2 t.3 in
      let p = item_place (rows_of set) taken.row taken.there in
      let why = about_reason t.0 t.1 t.2 start in_order number name has.line has.said has.about p.0 taken.row p.1 taken.named in
      subst (SaysUnmet set) taken.named
      (says_in t.0 t.1 t.2 t.3 (need_of taken.row.entry)
      (reason_left (rows_of set) (rows_apart set holds) (needs t.0) (needs t.1) (needs t.2) start why.0 taken.row why.1 taken.taken why.2))

  reason_about : (a b d : Ran Entry) (start : IsStart (rows_of set) (needs a) (needs b) (needs d)) (in_order : Bool) (number : ℕ)
      (p : ℕ) (r : Staged) → slice_get (rows_of set) p ≡ Some r → is_taken r.stage ≡ true
      → Reason (rows_of set) (rows_apart set holds) (needs a) (needs b) (needs d) start p r
      → (other : List ℕ) × HasAbout in_order number set other × IsTakenName set other
  reason_about a b d start in_order number p r at taken (whole.wrong f c) =
      let there = item_here (rows_of set) p r at in (
        r.entry.name,
        record {
          line = lines.About f r.entry.name;
          said = set_says in_order number set r f (rows_apart set holds) there (row_entry set holds r there).0 c;
          about = wrong (wrong_is (rows_of set) r f c);
        },
        record { row = r; there = there; taken = taken; named = refl },
      )
  reason_about a b d start in_order number p r at taken (whole.stuck st) =
      let rows : List Staged = rows_of set in
      let lt : p < length (waits_of (rows_of set)) =
      omega (arith, slice_get_within (rows_of set) p r at, length-map (rows_of set) (good_ways (rows_of set))) in
      let q = one_round (waits_of (rows_of set)) (good_proper (rows_of set)) (taken_set (rows_of set)) (taken_leads (rows_of set) (rows_apart set holds)) p lt
      (ap (λ (o : Option Staged). option_map_or (λ (r : Staged). is_taken r.stage) o false) at ∙ taken) st in
      let c = round_found (waits_of (rows_of set)) (good_proper (rows_of set)) q.0 q.1 q.2 in
      let s = stands_at (rows_of set) q.0 (omega (arith, q.1, length-map (rows_of set) (good_ways (rows_of set)))) in
      let there = item_here (rows_of set) q.0 s.0 s.1 in
      let line = set_says_cycle in_order number set s.0.entry (row_entry set holds s.0 there).0 c.0 q.0 c.1 c.2 in (
        s.0.entry.name,
        record {
          line = lines.Cycle line.0 (name_at (rows_of set) q.0);
          said = line.1;
          about = subst (IsAbout (lines.Cycle line.0 (name_at (rows_of set) q.0))) (name_there q.0 s.0 s.1) cycle;
        },
        record {
          row = s.0;
          there = there;
          taken = sym (ap (λ (o : Option Staged). option_map_or (λ (r : Staged). is_taken r.stage) o false) s.1) ∙ q.3;
          named = refl;
        },
      )

  pub unmet_about : (in_order : Bool) (number : ℕ) (name : List ℕ) → SaysUnmet set name
      → (other : List ℕ) × HasAbout in_order number set other × IsTakenName set other
  unmet_about in_order number name says =
      let t = start_told set in
      let start = start_of t.0 t.1 t.2 t.3 in
      let n = says_from t.0 t.1 t.2 t.3 name says in
      let h = left_reason (rows_of set) (rows_apart set holds) (needs t.0) (needs t.1) (needs t.2) start n.0 n.1 in
      reason_about t.0 t.1 t.2 start in_order number h.place h.row h.at h.taken h.why

pub about_is_unmet : AboutIsUnmet
about_is_unmet set holds in_order number name has taken = about_unmet set holds in_order number name has taken

pub unmet_has_about : UnmetHasAbout
unmet_has_about set holds in_order number name says = unmet_about set holds in_order number name says

pub none_about_whole : NoneAboutStartsWhole
none_about_whole set holds in_order number none name says =
    let o = unmet_about set holds in_order number name says in none o.0 o.1 o.2
