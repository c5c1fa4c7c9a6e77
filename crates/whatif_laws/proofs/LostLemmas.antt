-- Who is lost where an entry fails or is off.
use Rattle.std.proofs.Common.{◌≡◌, ℕ, Bool, true, false, not, ◌&&◌, cond, List, [], ◌∷◌, ◌++◌, length, map, Option, Some, None, refl, sym, ap, ◌∙◌, ◌⊎◌, inl, inr, subst, append_assoc}
use Rattle.std.specs.Prelude.{Contains, filter, ◌↔◌}
use Rattle.std.specs.Option.{option_map_or, option_or}
use Rattle.std.specs.List.{list_any, list_all, flat_map, filter_map}
use Rattle.std.proofs.lemmas.Bool.{false≢true, cases_Bool, and_parts, and_cases, and_from, or_left, or_right, not-true, false_from_ne_true}
use Rattle.std.proofs.lemmas.List.Elements.{Contains-append_left, Contains-append_right, Contains-append_cases}
use Rattle.std.proofs.lemmas.Option.{same_Some}
use Rattle.nt_bytes.specs.Folding.{folds_same}
use Rattle.nt_names.proofs.FoldLemmas.{alike}
use Rattle.dependencies.proofs.MeetLemmas.{names_flip}
use Rattle.hive_model.specs.Tree.{Tree}
use Rattle.hive_model.specs.Valid.{HoldsKeys}
use Rattle.start_model.specs.Demand.{Need}
use Rattle.start_model.specs.Entries.{Entry, Phase, Boot, System, Automatic, entries_of, need_of}
use Rattle.start_model.specs.Order.{plan_of}
use Rattle.start_model.specs.Ready as ready
use Rattle.start_model.specs.Ready.{is_ready}
use Rattle.service_control.specs.State.{labels_of}
use Rattle.service_control.proofs.LeanLemmas.{folds_itself, mapped_from, mapped_to, alone_from}
use Rattle.wait_cycles.proofs.InverseLemmas.{none_in}
use Rattle.wait_cycles.proofs.MetLemmas.{first_in, later_in, any_from, any_gives, all_gives}
use Rattle.wait_cycles.proofs.CycleLemmas.{in_cons, filter_in, filter_out, not_all}
use Rattle.boot_phases.specs.declared.error_control.outcome.Judgement.{Judgement}
use Rattle.failure_effects.specs.declared.told.Told.{Told}
use Rattle.failure_effects.specs.declared.told.Fate.{Fate}
use Rattle.failure_effects.specs.declared.told.Fate.TheVariants as fates
use Rattle.failure_effects.specs.declared.lost.Other.{Other}
use Rattle.failure_effects.specs.declared.lines.EffectLine.{EffectLine}
use Rattle.failure_effects.specs.declared.lines.EffectLine.TheVariants as lines
use Rattle.failure_effects.specs.declared.opening.Taken.{Taken}
use Rattle.failure_effects.specs.Effects.{plain_told}
use Rattle.failure_effects.specs.Leans.{layer_of, first_layer, names_one, groups_one}
use Rattle.failure_effects.specs.Lost.{has_name, other_of, is_lost, goes_on, lost_line, lost_lines, failed_lines}
use Rattle.failure_effects.specs.Played.{is_started, is_unmet, started_in, unmet_in, failed_by, failure_in}
use Rattle.failure_effects.specs.Switching.{off_set}
use Rattle.failure_effects.proofs.HeldLemmas.{off_set_held}
use Rattle.check_laws.proofs.TakenLemmas.{mapped_on}
use Rattle.check_laws.proofs.ProperLaws.{flat_from}
use Rattle.check_laws.proofs.CycleLaws.{flat_in}
use Rattle.check_laws.proofs.SetLemmas.{plan_entry, entries_apart}
use Rattle.check_laws.proofs.TurnLemmas.{InTurn, turn_ind, named_in, named_from, member_in, member_from, is_member, ready_wider}
use Rattle.whatif_laws.specs.Leaning.{leaning_on}
use Rattle.whatif_laws.specs.Starts.{fail_told, off_told, GoesOn, lost_of, StartsNoOther, LostOfFailIsUnmet, LostOfFailLeans, OffIsNoBetter, unmet_said, fail_block_of, off_block_of, FailBlockSaysUnmet, IsUntold, LostOfOffIsUnmetOrUntold, IsNewlyUnmet, FailBlockIsNew, OffBlockIsNew}
use Rattle.whatif_laws.proofs.LeaningLemmas.{itself, another}
use Rattle.whatif_laws.proofs.AttemptLemmas as attempt
use Rattle.whatif_laws.proofs.PlayLemmas as play
use Rattle.whatif_laws.proofs.PlayLemmas.{PlanOf, Full, Whole, Ends, IsPlay, play_of}
use Rattle.whatif_laws.proofs.SwitchedLemmas.{off_plan}
use Rattle.whatif_laws.proofs.CompareLemmas.{needs, InThree, in1, in2, in3, in_three, three_in, needs_three, names_over, boot_system, boot_automatic, system_automatic, never_both}

-- ---- starts that end

whole_plain : (set : Tree) (told : List Told) (n1 n2 n3 l1 l2 l3 : List Entry) → Ends None set told n1 n2 n3 l1 l2 l3
    → Whole None set n1 n2 n3 l1 l2 l3
whole_plain set told n1 n2 n3 l1 l2 l3 (play.over j x bad failure stops) = absurd (false≢true bad)
whole_plain set told n1 n2 n3 l1 l2 l3 (play.whole w fs s) = w

whole_on : (name : Option (List ℕ)) (set : Tree) (told : List Told) (n1 n2 n3 l1 l2 l3 : List Entry) → GoesOn told
    → Ends name set told n1 n2 n3 l1 l2 l3 → Whole name set n1 n2 n3 l1 l2 l3
whole_on name set told n1 n2 n3 l1 l2 l3 goes (play.over j x bad failure stops) = absurd (false≢true (sym stops ∙ goes j failure))
whole_on name set told n1 n2 n3 l1 l2 l3 goes (play.whole w fs s) = w

module _ (taken : Taken) (holds : HoldsKeys taken.set) (name : List ℕ) where
  abbrev set : Tree
  set = taken.set

  abbrev plain : IsPlay None taken.set (plain_told taken)
  plain = play_of taken taken.set holds None

  abbrev fail : IsPlay (Some name) taken.set (fail_told taken name)
  fail = play_of taken taken.set holds (Some name)

  abbrev off : IsPlay None (off_set name taken.set) (off_told taken name)
  off = play_of taken (off_set name taken.set) (off_set_held name taken.set holds) None

  plain_whole : Whole None set plain.n1 plain.n2 plain.n3 plain.l1 plain.l2 plain.l3
  plain_whole = whole_plain set (plain_told taken) plain.n1 plain.n2 plain.n3 plain.l1 plain.l2 plain.l3 plain.ends

  off_whole : Whole None (off_set name set) off.n1 off.n2 off.n3 off.l1 off.l2 off.l3
  off_whole = whole_plain (off_set name set) (off_told taken name) off.n1 off.n2 off.n3 off.l1 off.l2 off.l3 off.ends

  fail_whole : GoesOn (fail_told taken name) → Whole (Some name) set fail.n1 fail.n2 fail.n3 fail.l1 fail.l2 fail.l3
  fail_whole goes = whole_on (Some name) set (fail_told taken name) fail.n1 fail.n2 fail.n3 fail.l1 fail.l2 fail.l3 goes fail.ends

  -- ---- no other is started

  pub fail_no_other : (other : List ℕ) → Contains (started_in (fail_told taken name)) other → Contains (started_in (plain_told taken)) other
  fail_no_other =
      names_over (Some name) set (fail_told taken name) fail None set (plain_told taken) plain plain_whole (λ phase x c. (c, refl))

  pub off_no_other : (other : List ℕ) → Contains (started_in (off_told taken name)) other → Contains (started_in (plain_told taken)) other
  off_no_other =
      names_over None (off_set name set) (off_told taken name) off None set (plain_told taken) plain plain_whole
      (λ phase x c. ((off_plan name set holds phase x c).0, refl))

  -- ---- the lost

  -- an entry that the plain start started, other than the name, and that another start didn't
  pub record IsLost (told : List Told) (other : List ℕ) : Type 0 where
    pub entry : Entry
    pub there : InThree plain.n1 plain.n2 plain.n3 entry
    pub named : entry.name ≡ other
    pub apart : folds_same name entry.name ≡ false
    pub absent : has_name (started_in told) entry.name ≡ false

  plain_entry : (other : List ℕ) → Contains (started_in (plain_told taken)) other
      → (x : Entry) × InThree plain.n1 plain.n2 plain.n3 x × (x.name ≡ other)
  plain_entry other c =
      let x = mapped_from (λ (e : Entry). e.name) ((plain.n1 ++ plain.n2) ++ plain.n3) other
      (subst (λ (l : List (List ℕ)). Contains l other) plain.started c) in
      (x.item, in_three plain.n1 plain.n2 plain.n3 x.item x.there, x.is)

  entry_plain : (x : Entry) → InThree plain.n1 plain.n2 plain.n3 x → Contains (started_in (plain_told taken)) x.name
  entry_plain x i =
      subst (λ (l : List (List ℕ)). Contains l x.name) (sym plain.started)
      (mapped_to (λ (e : Entry). e.name) ((plain.n1 ++ plain.n2) ++ plain.n3) x (three_in plain.n1 plain.n2 plain.n3 x i))

  lost_from : (told : List Told) (other : List ℕ) → Contains (lost_of taken name told) other → IsLost told other
  lost_from told other c =
      let m = mapped_from (λ (t : Told). t.name) (filter (is_lost (other_of told) name) (plain_told taken)) other c in
      let f = filter_out (is_lost (other_of told) name) (plain_told taken) m.item m.there in
      let b = and_parts (is_started m.item.fate && not (folds_same name m.item.name)) (not (has_name (started_in told) m.item.name)) f.1 in
      let d = and_parts (is_started m.item.fate) (not (folds_same name m.item.name)) b.0 in
      let x = plain_entry m.item.name
      (mapped_to (λ (t : Told). t.name) (filter (λ (t : Told). is_started t.fate) (plain_told taken)) m.item
      (filter_in (λ (t : Told). is_started t.fate) (plain_told taken) m.item f.0 d.0)) in
      record {
        entry = x.0;
        there = x.1;
        named = x.2 ∙ m.is;
        apart = ap (folds_same name) x.2 ∙ not-true (folds_same name m.item.name) d.1;
        absent = ap (has_name (started_in told)) x.2 ∙ not-true (has_name (started_in told) m.item.name) b.1;
      }

  lost_in' : (told : List Told) (other : List ℕ) → IsLost told other → Contains (lost_of taken name told) other
  lost_in' told other l =
      let m = mapped_from (λ (t : Told). t.name) (filter (λ (t : Told). is_started t.fate) (plain_told taken)) l.entry.name (entry_plain l.entry l.there) in
      let f = filter_out (λ (t : Told). is_started t.fate) (plain_told taken) m.item m.there in
      subst (Contains (lost_of taken name told)) (m.is ∙ l.named)
      (mapped_to (λ (t : Told). t.name) (filter (is_lost (other_of told) name) (plain_told taken)) m.item
      (filter_in (is_lost (other_of told) name) (plain_told taken) m.item f.0
      (and_from (is_started m.item.fate && not (folds_same name m.item.name)) (not (has_name (started_in told) m.item.name))
      (and_from (is_started m.item.fate) (not (folds_same name m.item.name)) f.1 (ap not (ap (folds_same name) m.is ∙ l.apart)))
      (ap not (ap (has_name (started_in told)) m.is ∙ l.absent)))))

  -- a name that a start started is among those that it started
  has_entry : (np : Option (List ℕ)) (setp : Tree) (told : List Told) (p : IsPlay np setp told) (x : Entry) → InThree p.n1 p.n2 p.n3 x
      → has_name (started_in told) x.name ≡ true
  has_entry np setp told p x i =
      any_from (folds_same x.name) (started_in told) x.name
      (subst (λ (l : List (List ℕ)). Contains l x.name) (sym p.started)
      (mapped_to (λ (e : Entry). e.name) ((p.n1 ++ p.n2) ++ p.n3) x (three_in p.n1 p.n2 p.n3 x i))) (folds_itself x.name)

  unmet_name : (np : Option (List ℕ)) (setp : Tree) (told : List Told) (p : IsPlay np setp told) (x : Entry) → InThree p.l1 p.l2 p.l3 x
      → Contains (unmet_in told) x.name
  unmet_name np setp told p x i =
      subst (λ (l : List (List ℕ)). Contains l x.name) (sym p.unmet)
      (mapped_to (λ (e : Entry). e.name) ((p.l1 ++ p.l2) ++ p.l3) x (three_in p.l1 p.l2 p.l3 x i))

  name_unmet : (np : Option (List ℕ)) (setp : Tree) (told : List Told) (p : IsPlay np setp told) (other : List ℕ)
      → Contains (unmet_in told) other → (x : Entry) × InThree p.l1 p.l2 p.l3 x × (x.name ≡ other)
  name_unmet np setp told p other c =
      let x = mapped_from (λ (e : Entry). e.name) ((p.l1 ++ p.l2) ++ p.l3) other (subst (λ (l : List (List ℕ)). Contains l other) p.unmet c) in
      (x.item, in_three p.l1 p.l2 p.l3 x.item x.there, x.is)

  -- ---- the lost of a failure are unmet

  fail_left : (w : Whole (Some name) set fail.n1 fail.n2 fail.n3 fail.l1 fail.l2 fail.l3) (x : Entry) → InThree plain.n1 plain.n2 plain.n3 x
      → InThree fail.n1 fail.n2 fail.n3 x ⊎ (InThree fail.l1 fail.l2 fail.l3 x ⊎ (folds_same name x.name ≡ true))
  fail_left w x (in1 i) = elim (w.boot.each x (plain.boot.from x i)) [
    | inl j ↦ inl (in1 j)
    | inr r ↦ elim r [ inl j ↦ inr (inl (in1 j)) | inr h ↦ inr (inr h) ]
  ]
  fail_left w x (in2 i) = elim (w.system.each x (plain.system.from x i)) [
    | inl j ↦ inl (in2 j)
    | inr r ↦ elim r [ inl j ↦ inr (inl (in2 j)) | inr h ↦ inr (inr h) ]
  ]
  fail_left w x (in3 i) = elim (w.automatic.each x (plain.automatic.from x i)) [
    | inl j ↦ inl (in3 j)
    | inr r ↦ elim r [ inl j ↦ inr (inl (in3 j)) | inr h ↦ inr (inr h) ]
  ]

  lost_left : (goes : GoesOn (fail_told taken name)) (other : List ℕ) (l : IsLost (fail_told taken name) other)
      → InThree fail.l1 fail.l2 fail.l3 l.entry
  lost_left goes other l = elim (fail_left (fail_whole goes) l.entry l.there) [
    | inl i ↦ absurd (false≢true (sym l.absent ∙ has_entry (Some name) set (fail_told taken name) fail l.entry i))
    | inr r ↦ elim r [ inl j ↦ j | inr h ↦ absurd (false≢true (sym l.apart ∙ h)) ]
  ]

  pub lost_unmet : (other : List ℕ) → GoesOn (fail_told taken name) → Contains (lost_of taken name (fail_told taken name)) other
      → Contains (unmet_in (fail_told taken name)) other
  lost_unmet other goes c =
      let l = lost_from (fail_told taken name) other c in
      subst (Contains (unmet_in (fail_told taken name))) l.named
      (unmet_name (Some name) set (fail_told taken name) fail l.entry (lost_left goes other l))

  -- ---- they are lost with the entry off too

  pub lost_off : (other : List ℕ) → GoesOn (fail_told taken name) → Contains (lost_of taken name (fail_told taken name)) other
      → Contains (lost_of taken name (off_told taken name)) other
  lost_off other goes c =
      let l = lost_from (fail_told taken name) other c in
      lost_in' (off_told taken name) other (record {
        entry = l.entry;
        there = l.there;
        named = l.named;
        apart = l.apart;
        absent = false_from_ne_true (has_name (started_in (off_told taken name)) l.entry.name) (λ h.
            (let y = any_gives (folds_same l.entry.name) (started_in (off_told taken name)) h in
            let z = names_over None (off_set name set) (off_told taken name) off (Some name) set (fail_told taken name) fail (fail_whole goes)
            (λ phase x c. off_plan name set holds phase x c) y.0 y.1 in
            false≢true (sym l.absent ∙ any_from (folds_same l.entry.name) (started_in (fail_told taken name)) y.0 z y.2)));
      })

  -- ---- who is newly unmet

  plain_never : (x : Entry) (other : List ℕ) → InThree plain.n1 plain.n2 plain.n3 x → x.name ≡ other
      → Contains (unmet_in (plain_told taken)) other → ⊥
  plain_never x other i named c =
      let y = name_unmet None set (plain_told taken) plain other c in
      never_both set holds None (plain_told taken) plain plain_whole x y.0 i y.1
      (ap (folds_same x.name) (y.2 ∙ sym named) ∙ folds_itself x.name)

  -- what remains in another start is started in the plain one, or is left there
  plain_has : (phase : Phase) (new left : List Entry) (pre : List Need) → Full None set phase pre new left → (x : Entry)
      → Contains (plan_of set phase []) x → Contains new x ⊎ Contains left x
  plain_has phase new left pre full x c = elim (full.each x c) [
    | inl i ↦ inl i
    | inr r ↦ elim r [ inl j ↦ inr j | inr bad ↦ absurd (false≢true bad) ]
  ]

  plain_or : (x : Entry) → (Contains (plan_of set Boot []) x) ⊎ ((Contains (plan_of set System []) x) ⊎ (Contains (plan_of set Automatic []) x))
      → InThree plain.n1 plain.n2 plain.n3 x ⊎ InThree plain.l1 plain.l2 plain.l3 x
  plain_or x (inl c) = elim (plain_has Boot plain.n1 plain.l1 [] plain_whole.boot x c) [ inl i ↦ inl (in1 i) | inr i ↦ inr (in1 i) ]
  plain_or x (inr (inl c)) =
      elim (plain_has System plain.n2 plain.l2 (needs plain.n1) plain_whole.system x c) [ inl i ↦ inl (in2 i) | inr i ↦ inr (in2 i) ]
  plain_or x (inr (inr c)) =
      elim (plain_has Automatic plain.n3 plain.l3 (needs plain.n1 ++ needs plain.n2) plain_whole.automatic x c) [ inl i ↦ inl (in3 i) | inr i ↦ inr (in3 i) ]

  started_new : (told : List Told) (other : List ℕ) (x : Entry)
      → InThree plain.n1 plain.n2 plain.n3 x ⊎ InThree plain.l1 plain.l2 plain.l3 x → x.name ≡ other
      → (Contains (unmet_in (plain_told taken)) other → ⊥) → InThree plain.n1 plain.n2 plain.n3 x
  started_new told other x (inl i) named new' = i
  started_new told other x (inr i) named new' =
      absurd (new' (subst (Contains (unmet_in (plain_told taken))) named (unmet_name None set (plain_told taken) plain x i)))

  not_started : (np : Option (List ℕ)) (setp : Tree) → HoldsKeys setp → (told : List Told) (p : IsPlay np setp told)
      → Whole np setp p.n1 p.n2 p.n3 p.l1 p.l2 p.l3 → (x : Entry) → InThree p.l1 p.l2 p.l3 x → has_name (started_in told) x.name ≡ false
  not_started np setp held told p w x i = false_from_ne_true (has_name (started_in told) x.name) (λ h.
      (let y = any_gives (folds_same x.name) (started_in told) h in
      let z = mapped_from (λ (e : Entry). e.name) ((p.n1 ++ p.n2) ++ p.n3) y.0 (subst (λ (l : List (List ℕ)). Contains l y.0) p.started y.1) in
      never_both setp held np told p w z.item x (in_three p.n1 p.n2 p.n3 z.item z.there) i
      (names_flip z.item.name x.name ∙ ap (folds_same x.name) z.is ∙ y.2)))

  off_planned : (x : Entry) → InThree off.l1 off.l2 off.l3 x
      → ((Contains (plan_of set Boot []) x) ⊎ ((Contains (plan_of set System []) x) ⊎ (Contains (plan_of set Automatic []) x)))
      × (folds_same name x.name ≡ false)
  off_planned x (in1 i) = let o = off_plan name set holds Boot x (off.boot.only x i) in (inl o.0, o.1)
  off_planned x (in2 i) = let o = off_plan name set holds System x (off.system.only x i) in (inr (inl o.0), o.1)
  off_planned x (in3 i) = let o = off_plan name set holds Automatic x (off.automatic.only x i) in (inr (inr o.0), o.1)

  pub off_new : (other : List ℕ) → Contains (unmet_in (off_told taken name)) other → (Contains (unmet_in (plain_told taken)) other → ⊥)
      → Contains (lost_of taken name (off_told taken name)) other
  off_new other c new' =
      let x = name_unmet None (off_set name set) (off_told taken name) off other c in
      let o = off_planned x.0 x.1 in
      lost_in' (off_told taken name) other (record {
        entry = x.0;
        there = started_new (off_told taken name) other x.0 (plain_or x.0 o.0) x.2 new';
        named = x.2;
        apart = o.1;
        absent = not_started None (off_set name set) (off_set_held name set holds) (off_told taken name) off off_whole x.0 x.1;
      })

  pub lost_new : (told : List Told) (other : List ℕ) → Contains (lost_of taken name told) other → Contains (unmet_in (plain_told taken)) other → ⊥
  lost_new told other c u = let l = lost_from told other c in plain_never l.entry other l.there l.named u

  fail_planned : (x : Entry) → InThree fail.l1 fail.l2 fail.l3 x
      → (Contains (plan_of set Boot []) x) ⊎ ((Contains (plan_of set System []) x) ⊎ (Contains (plan_of set Automatic []) x))
  fail_planned x (in1 i) = inl (fail.boot.only x i)
  fail_planned x (in2 i) = inr (inl (fail.system.only x i))
  fail_planned x (in3 i) = inr (inr (fail.automatic.only x i))

  -- ---- an entry that fails was attempted

  -- one of these has the name, and is ready where those are started
  record IsReadyName (phase : Phase) (now : List Need) : Type 0 where
    which : Entry
    there : Contains (plan_of set phase []) which
    named : folds_same name which.name ≡ true
    can : is_ready (labels_of now) (need_of which) ≡ true

  walk : (phase : Phase) (pre : List Need) (new left : List Entry) → Full (Some name) set phase pre new left → (done rest : List Need)
      → InTurn (PlanOf set phase) done rest → ((m : Need) → Contains done m → Contains (pre ++ needs new) m)
      → IsReadyName phase (pre ++ needs new) ⊎ ((m : Need) → Contains (done ++ rest) m → Contains (pre ++ needs new) m)
  walk phase pre new left full done [] turn all = inr (λ m c. elim (Contains-append_cases done [] m c) [
    | inl i ↦ all m i
    | inr i ↦ absurd (none_in m i)
  ])
  walk phase pre new left full done (n ∷ ns) turn all =
      let e = turn.0.entry in
      let wide : is_ready (labels_of (pre ++ needs new)) (need_of e) ≡ true =
      ap (is_ready (labels_of (pre ++ needs new))) turn.0.need ∙ ready_wider done (pre ++ needs new) n all turn.1 in
      elim (cases_Bool (folds_same name e.name)) [
        | inl yes' ↦ inl (record { which = e; there = turn.0.there; named = yes'; can = wide })
        | inr off ↦
            (let here : Contains (pre ++ needs new) n = subst (Contains (pre ++ needs new)) turn.0.need (elim (full.each e turn.0.there) [
              | inl i ↦ Contains-append_right pre (needs new) (need_of e) (mapped_to need_of new e i)
              | inr r ↦ elim r [
                | inl i ↦ absurd (false≢true (sym (full.unready e i) ∙ wide))
                | inr bad ↦ absurd (false≢true (sym off ∙ bad))
              ]
            ]) in
            elim (walk phase pre new left full (done ++ n ∷ []) ns turn.2 (λ m c. elim (Contains-append_cases done (n ∷ []) m c) [
              | inl i ↦ all m i
              | inr i ↦ subst (Contains (pre ++ needs new)) (alone_from n m i) here
            ])) [
              | inl r ↦ inl r
              | inr r ↦ inr (λ m c. r m (subst (λ (l : List Need). Contains l m) (sym (append_assoc done (n ∷ []) ns)) c))
            ])
      ]

  -- the entry of the name, where it is left in this start
  module _ (w : Whole (Some name) set fail.n1 fail.n2 fail.n3 fail.l1 fail.l2 fail.l3) (x : Entry) (left' : InThree fail.l1 fail.l2 fail.l3 x)
      (named' : folds_same name x.name ≡ true) where
    entry_of_left : InThree fail.l1 fail.l2 fail.l3 x → Contains (entries_of set) x
    entry_of_left (in1 i) = plan_entry set Boot [] x (fail.boot.only x i)
    entry_of_left (in2 i) = plan_entry set System [] x (fail.system.only x i)
    entry_of_left (in3 i) = plan_entry set Automatic [] x (fail.automatic.only x i)

    one_name : (e : Entry) → Contains (entries_of set) e → folds_same name e.name ≡ true → e ≡ x
    one_name e there h =
        entries_apart set holds e x there (entry_of_left left') (sym (alike name e.name h x.name) ∙ named')

    boot_cant : IsReadyName Boot (needs fail.n1) → ⊥
    boot_cant r = by left' (subst (Contains (plan_of set Boot [])) same r.there)
      where
        same : r.which ≡ x
        same = one_name r.which (plan_entry set Boot [] r.which r.there) r.named

        by : InThree fail.l1 fail.l2 fail.l3 x → Contains (plan_of set Boot []) x → ⊥
        by (in1 i) c = false≢true (sym (w.boot.unready x i) ∙ ap (λ (e : Entry). is_ready (labels_of (needs fail.n1)) (need_of e)) (sym same) ∙ r.can)
        by (in2 i) c = boot_system set holds x c (fail.system.only x i)
        by (in3 i) c = boot_automatic set holds x c (fail.automatic.only x i)

    system_cant : IsReadyName System (needs fail.n1 ++ needs fail.n2) → ⊥
    system_cant r = by left' (subst (Contains (plan_of set System [])) same r.there)
      where
        same : r.which ≡ x
        same = one_name r.which (plan_entry set System [] r.which r.there) r.named

        by : InThree fail.l1 fail.l2 fail.l3 x → Contains (plan_of set System []) x → ⊥
        by (in1 i) c = boot_system set holds x (fail.boot.only x i) c
        by (in2 i) c = false≢true (sym (w.system.unready x i)
            ∙ ap (λ (e : Entry). is_ready (labels_of (needs fail.n1 ++ needs fail.n2)) (need_of e)) (sym same) ∙ r.can)
        by (in3 i) c = system_automatic set holds x c (fail.automatic.only x i)

    automatic_cant : IsReadyName Automatic ((needs fail.n1 ++ needs fail.n2) ++ needs fail.n3) → ⊥
    automatic_cant r = by left' (subst (Contains (plan_of set Automatic [])) same r.there)
      where
        same : r.which ≡ x
        same = one_name r.which (plan_entry set Automatic [] r.which r.there) r.named

        by : InThree fail.l1 fail.l2 fail.l3 x → Contains (plan_of set Automatic []) x → ⊥
        by (in1 i) c = boot_automatic set holds x (fail.boot.only x i) c
        by (in2 i) c = system_automatic set holds x (fail.system.only x i) c
        by (in3 i) c = false≢true (sym (w.automatic.unready x i)
            ∙ ap (λ (e : Entry). is_ready (labels_of ((needs fail.n1 ++ needs fail.n2) ++ needs fail.n3)) (need_of e)) (sym same) ∙ r.can)

    -- then all that the plain start started before it is started
    walk1 : (m : Need) → Contains (needs plain.n1) m → Contains (needs fail.n1) m
    walk1 m c = elim (walk Boot [] fail.n1 fail.l1 w.boot [] (needs plain.n1) plain.boot.turn (λ m i. absurd (none_in m i))) [
      | inl r ↦ absurd (boot_cant r)
      | inr all ↦ all m c
    ]

    walk2 : (m : Need) → Contains (needs plain.n1 ++ needs plain.n2) m → Contains (needs fail.n1 ++ needs fail.n2) m
    walk2 m c = elim (walk System (needs fail.n1) fail.n2 fail.l2 w.system (needs plain.n1) (needs plain.n2) plain.system.turn
        (λ m i. Contains-append_left (needs fail.n1) (needs fail.n2) m (walk1 m i))) [
          | inl r ↦ absurd (system_cant r)
          | inr all ↦ all m c
        ]

    walk3 : (m : Need) → Contains ((needs plain.n1 ++ needs plain.n2) ++ needs plain.n3) m
        → Contains ((needs fail.n1 ++ needs fail.n2) ++ needs fail.n3) m
    walk3 m c = elim (walk Automatic (needs fail.n1 ++ needs fail.n2) fail.n3 fail.l3 w.automatic (needs plain.n1 ++ needs plain.n2) (needs plain.n3)
        plain.automatic.turn (λ m i. Contains-append_left (needs fail.n1 ++ needs fail.n2) (needs fail.n3) m (walk2 m i))) [
          | inl r ↦ absurd (automatic_cant r)
          | inr all ↦ all m c
        ]

    needs_of : (e : Entry) → InThree plain.n1 plain.n2 plain.n3 e → Contains ((needs plain.n1 ++ needs plain.n2) ++ needs plain.n3) (need_of e)
    needs_of e (in1 i) =
        Contains-append_left (needs plain.n1 ++ needs plain.n2) (needs plain.n3) (need_of e)
        (Contains-append_left (needs plain.n1) (needs plain.n2) (need_of e) (mapped_to need_of plain.n1 e i))
    needs_of e (in2 i) =
        Contains-append_left (needs plain.n1 ++ needs plain.n2) (needs plain.n3) (need_of e)
        (Contains-append_right (needs plain.n1) (needs plain.n2) (need_of e) (mapped_to need_of plain.n2 e i))
    needs_of e (in3 i) = Contains-append_right (needs plain.n1 ++ needs plain.n2) (needs plain.n3) (need_of e) (mapped_to need_of plain.n3 e i)

    -- so it was not started in the plain start
    pub never_left : list_any (folds_same name) (started_in (plain_told taken)) ≡ true → ⊥
    never_left h =
        let y = any_gives (folds_same name) (started_in (plain_told taken)) h in
        let e = plain_entry y.0 y.1 in
        let f = needs_three fail.n1 fail.n2 fail.n3 (need_of e.0) (walk3 (need_of e.0) (needs_of e.0 e.1)) in
        never_both set holds (Some name) (fail_told taken name) fail w f.0 x (in_three fail.n1 fail.n2 fail.n3 f.0 f.1) left'
        (sym (alike name f.0.name (ap (folds_same name) (ap (λ (n : Need). n.name) f.2 ∙ e.2) ∙ y.2) x.name) ∙ named')

  pub fail_new : (other : List ℕ) → list_any (folds_same name) (started_in (plain_told taken)) ≡ true → GoesOn (fail_told taken name)
      → Contains (unmet_in (fail_told taken name)) other → (Contains (unmet_in (plain_told taken)) other → ⊥)
      → Contains (lost_of taken name (fail_told taken name)) other
  fail_new other run goes c new' =
      let x = name_unmet (Some name) set (fail_told taken name) fail other c in
      let w = fail_whole goes in
      lost_in' (fail_told taken name) other (record {
        entry = x.0;
        there = started_new (fail_told taken name) other x.0 (plain_or x.0 (fail_planned x.0 x.1)) x.2 new';
        named = x.2;
        apart = false_from_ne_true (folds_same name x.0.name) (λ h. never_left w x.0 x.1 h run);
        absent = not_started (Some name) set holds (fail_told taken name) fail w x.0 x.1;
      })

  -- ---- the lost lean

  -- it is started all the same, or is the name, or leans on it
  data Keeps (now : List Need) (n : Need) : Type 0 where
    runs : Contains now n → Keeps now n
    named : folds_same name n.name ≡ true → (e : Entry) → Contains (entries_of set) e → need_of e ≡ n → Keeps now n
    leans : (e : Entry) → Contains (leaning_on name (entries_of set)) e → need_of e ≡ n → Keeps now n

  keeps_more : (now more : List Need) (n : Need) → Keeps now n → Keeps (now ++ more) n
  keeps_more now more n (runs c) = runs (Contains-append_left now more n c)
  keeps_more now more n (named h e c is) = named h e c is
  keeps_more now more n (leans e c is) = leans e c is

  -- an entry that names the name, or one that leans, leans
  by_name : (now : List Need) (e : Entry) → Contains (entries_of set) e → folds_same name e.name ≡ false → (d : List ℕ) → Contains e.services d
      → ready.has_name (labels_of now) d ≡ false → (m : Need) → folds_same d m.name ≡ true → Keeps now m
      → Contains (leaning_on name (entries_of set)) e
  by_name now e there other d c out m same (runs i) = absurd (false≢true (sym out ∙ named_in now d m i same))
  by_name now e there other d c out m same (named h f k is) =
      itself name (entries_of set) e (record { there = there; other = other })
      (or_left (names_one (first_layer name (entries_of set)) e) (groups_one (first_layer name (entries_of set)) e)
      (any_from (has_name (first_layer name (entries_of set)).names) e.services d c
      (any_from (folds_same d) (name ∷ []) name (first_in name [])
      (alike d m.name same name ∙ names_flip m.name name ∙ h))))
  by_name now e there other d c out m same (leans f k is) =
      another name (entries_of set) e f (record { there = there; other = other }) k
      (or_left (names_one (layer_of (f ∷ [])) e) (groups_one (layer_of (f ∷ [])) e)
      (any_from (has_name (layer_of (f ∷ [])).names) e.services d c
      (any_from (folds_same d) (f.name ∷ []) f.name (first_in f.name [])
      (ap (λ (n : Need). folds_same d n.name) is ∙ same))))

  group_of : (g : List ℕ) (es : List Entry) (f : Entry) → Contains es f → is_member g (need_of f) ≡ true
      → has_name (filter_map (λ (e : Entry). e.group) es) g ≡ true
  group_of g es f c h = by f.group refl h
    where
      by : (o : Option (List ℕ)) → f.group ≡ o → option_map_or (folds_same g) o false ≡ true
          → has_name (filter_map (λ (e : Entry). e.group) es) g ≡ true
      by None is h = absurd (false≢true h)
      by (Some x) is h = any_from (folds_same g) (filter_map (λ (e : Entry). e.group) es) x (mapped_on (λ (e : Entry). e.group) es f x c is) h

  by_group : (now : List Need) (e : Entry) → Contains (entries_of set) e → folds_same name e.name ≡ false → (g : List ℕ) → Contains e.groups g
      → ready.has_group (labels_of now) g ≡ false → (m : Need) → is_member g m ≡ true → Keeps now m
      → Contains (leaning_on name (entries_of set)) e
  by_group now e there other g c out m of (runs i) = absurd (false≢true (sym out ∙ member_in now g m i of))
  by_group now e there other g c out m of (named h f k is) =
      itself name (entries_of set) e (record { there = there; other = other })
      (or_right (names_one (first_layer name (entries_of set)) e) (groups_one (first_layer name (entries_of set)) e)
      (any_from (has_name (first_layer name (entries_of set)).groups) e.groups g c
      (group_of g (filter (λ (x : Entry). folds_same name x.name) (entries_of set)) f
      (filter_in (λ (x : Entry). folds_same name x.name) (entries_of set) f k (ap (λ (n : Need). folds_same name n.name) is ∙ h))
      (ap (is_member g) is ∙ of))))
  by_group now e there other g c out m of (leans f k is) =
      another name (entries_of set) e f (record { there = there; other = other }) k
      (or_right (names_one (layer_of (f ∷ [])) e) (groups_one (layer_of (f ∷ [])) e)
      (any_from (has_name (layer_of (f ∷ [])).groups) e.groups g c
      (group_of g (f ∷ []) f (first_in f []) (ap (is_member g) is ∙ of))))

  keeps_step : (phase : Phase) (pre : List Need) (new left : List Entry) → Full (Some name) set phase pre new left → (done : List Need) (n : Need)
      → ((m : Need) → Contains done m → Keeps (pre ++ needs new) m) → PlanOf set phase n → is_ready (labels_of done) n ≡ true
      → Keeps (pre ++ needs new) n
  keeps_step phase pre new left full done n all i can =
      let e = i.entry in
      let there = plan_entry set phase [] e i.there in
      let now : List Need = pre ++ needs new in
      elim (cases_Bool (folds_same name e.name)) [
        | inl yes' ↦ named (ap (λ (m : Need). folds_same name m.name) (sym i.need) ∙ yes') e there i.need
        | inr other ↦ elim (full.each e i.there) [
          | inl j ↦ runs (subst (Contains now) i.need (Contains-append_right pre (needs new) (need_of e) (mapped_to need_of new e j)))
          | inr r ↦ elim r [
            | inr bad ↦ absurd (false≢true (sym other ∙ bad))
            | inl j ↦
                (let met : is_ready (labels_of done) (need_of e) ≡ true = ap (is_ready (labels_of done)) i.need ∙ can in
                let both = and_parts (list_all (ready.has_name (labels_of done)) e.services) (list_all (ready.has_group (labels_of done)) e.groups) met in
                elim (and_cases (list_all (ready.has_name (labels_of now)) e.services) (list_all (ready.has_group (labels_of now)) e.groups) (full.unready e j)) [
                  | inl bad ↦
                      (let d = not_all (ready.has_name (labels_of now)) e.services bad in
                      let m = named_from done d.0 (all_gives (ready.has_name (labels_of done)) e.services d.0 both.0 d.1) in
                      leans e (by_name now e there other d.0 d.1 d.2 m.0 m.2 (all m.0 m.1)) i.need)
                  | inr bad ↦
                      (let g = not_all (ready.has_group (labels_of now)) e.groups bad in
                      let m = member_from done g.0 (all_gives (ready.has_group (labels_of done)) e.groups g.0 both.1 g.1) in
                      leans e (by_group now e there other g.0 g.1 g.2 m.0 m.2 (all m.0 m.1)) i.need)
                ])
          ]
        ]
      ]

  module _ (w : Whole (Some name) set fail.n1 fail.n2 fail.n3 fail.l1 fail.l2 fail.l3) where
    keeps1 : (n : Need) → Contains (needs plain.n1) n → Keeps (needs fail.n1) n
    keeps1 = turn_ind (PlanOf set Boot) (Keeps (needs fail.n1))
        (λ done n all i can. keeps_step Boot [] fail.n1 fail.l1 w.boot done n all i can) [] (needs plain.n1) (λ m c. absurd (none_in m c)) plain.boot.turn

    keeps2 : (n : Need) → Contains (needs plain.n1 ++ needs plain.n2) n → Keeps (needs fail.n1 ++ needs fail.n2) n
    keeps2 = turn_ind (PlanOf set System) (Keeps (needs fail.n1 ++ needs fail.n2))
        (λ done n all i can. keeps_step System (needs fail.n1) fail.n2 fail.l2 w.system done n all i can) (needs plain.n1) (needs plain.n2)
        (λ m c. keeps_more (needs fail.n1) (needs fail.n2) m (keeps1 m c)) plain.system.turn

    keeps3 : (n : Need) → Contains ((needs plain.n1 ++ needs plain.n2) ++ needs plain.n3) n
        → Keeps ((needs fail.n1 ++ needs fail.n2) ++ needs fail.n3) n
    keeps3 = turn_ind (PlanOf set Automatic) (Keeps ((needs fail.n1 ++ needs fail.n2) ++ needs fail.n3))
        (λ done n all i can. keeps_step Automatic (needs fail.n1 ++ needs fail.n2) fail.n3 fail.l3 w.automatic done n all i can)
        (needs plain.n1 ++ needs plain.n2) (needs plain.n3)
        (λ m c. keeps_more (needs fail.n1 ++ needs fail.n2) (needs fail.n3) m (keeps2 m c)) plain.automatic.turn

    lost_leans_by : (other : List ℕ) (l : IsLost (fail_told taken name) other) → (n : Need) → need_of l.entry ≡ n
        → Keeps ((needs fail.n1 ++ needs fail.n2) ++ needs fail.n3) n
        → (e : Entry) × Contains (leaning_on name (entries_of set)) e × (e.name ≡ other)
    lost_leans_by other l n is (runs c) =
        let y = needs_three fail.n1 fail.n2 fail.n3 n c in
        absurd (false≢true (sym l.absent ∙ ap (has_name (started_in (fail_told taken name))) (ap (λ (m : Need). m.name) (is ∙ sym y.2))
        ∙ has_entry (Some name) set (fail_told taken name) fail y.0 (in_three fail.n1 fail.n2 fail.n3 y.0 y.1)))
    lost_leans_by other l n is (named h e c k) = absurd (false≢true (sym l.apart ∙ ap (λ (m : Need). folds_same name m.name) is ∙ h))
    lost_leans_by other l n is (leans e c k) = (e, c, ap (λ (m : Need). m.name) (k ∙ sym is) ∙ l.named)

  all_needs : (e : Entry) → InThree plain.n1 plain.n2 plain.n3 e → Contains ((needs plain.n1 ++ needs plain.n2) ++ needs plain.n3) (need_of e)
  all_needs e (in1 i) =
      Contains-append_left (needs plain.n1 ++ needs plain.n2) (needs plain.n3) (need_of e)
      (Contains-append_left (needs plain.n1) (needs plain.n2) (need_of e) (mapped_to need_of plain.n1 e i))
  all_needs e (in2 i) =
      Contains-append_left (needs plain.n1 ++ needs plain.n2) (needs plain.n3) (need_of e)
      (Contains-append_right (needs plain.n1) (needs plain.n2) (need_of e) (mapped_to need_of plain.n2 e i))
  all_needs e (in3 i) = Contains-append_right (needs plain.n1 ++ needs plain.n2) (needs plain.n3) (need_of e) (mapped_to need_of plain.n3 e i)

  pub lost_leans : (other : List ℕ) → GoesOn (fail_told taken name) → Contains (lost_of taken name (fail_told taken name)) other
      → (e : Entry) × Contains (leaning_on name (entries_of set)) e × (e.name ≡ other)
  lost_leans other goes c =
      let l = lost_from (fail_told taken name) other c in
      let w = fail_whole goes in
      lost_leans_by w other l (need_of l.entry) refl (keeps3 w (need_of l.entry) (all_needs l.entry l.there))

  -- ---- lines

  goes_from : (j : Judgement) → failure_in (fail_told taken name) ≡ Some j → goes_on j ≡ true → GoesOn (fail_told taken name)
  goes_from j is goes k h = ap goes_on (same_Some k j (sym h ∙ is)) ∙ goes

  unmet_line : (told : List Told) (n : List ℕ) → Contains (unmet_in told) n → lost_line (other_of told) n ≡ lines.Unmet n
  unmet_line told n c =
      ap (λ (b : Bool). cond b (lines.Unmet n) (lines.Untaken n)) (any_from (folds_same n) (unmet_in told) n c (folds_itself n))

  all_unmet : (told : List Told) (lost : List (List ℕ)) → ((n : List ℕ) → Contains lost n → Contains (unmet_in told) n)
      → map (lost_line (other_of told)) lost ≡ map (λ n. lines.Unmet n) lost
  all_unmet told [] f = refl
  all_unmet told (n ∷ lost) f =
      λ i. unmet_line told n (f n (first_in n lost)) i ∷ all_unmet told lost (λ m c. f m (later_in n lost m c)) i

  block_is : (j : Judgement) → failure_in (fail_told taken name) ≡ Some j → goes_on j ≡ true
      → fail_block_of taken name ≡ lines.Fail j (length (lost_of taken name (fail_told taken name))) name
      ∷ lost_lines (other_of (fail_told taken name)) (lost_of taken name (fail_told taken name))
  block_is j is goes =
      let other : Other = other_of (fail_told taken name) in
      let lost : List (List ℕ) = lost_of taken name (fail_told taken name) in
      ap (failed_lines (other_of (fail_told taken name)) name (lost_of taken name (fail_told taken name))) is
      ∙ ap (λ (b : Bool). lines.Fail j (length (lost_of taken name (fail_told taken name))) name
      ∷ cond b (lost_lines (other_of (fail_told taken name)) (lost_of taken name (fail_told taken name))) []) goes

  pub fail_says : (j : Judgement) → failure_in (fail_told taken name) ≡ Some j → goes_on j ≡ true
      → fail_block_of taken name ≡ lines.Fail j (length (lost_of taken name (fail_told taken name))) name
      ∷ map (λ n. lines.Unmet n) (lost_of taken name (fail_told taken name))
  fail_says j is goes =
      block_is j is goes
      ∙ ap (λ (l : List EffectLine). lines.Fail j (length (lost_of taken name (fail_told taken name))) name ∷ l)
      (all_unmet (fail_told taken name) (lost_of taken name (fail_told taken name)) (λ n c. lost_unmet n (goes_from j is goes) c))

  -- what the lines of the lost say to be unmet
  said_from : (told : List Told) (lost : List (List ℕ)) (o : List ℕ) → Contains (flat_map unmet_said (lost_lines (other_of told) lost)) o
      → Contains lost o × (has_name (unmet_in told) o ≡ true)
  said_from told lost o c =
      let l = flat_from unmet_said (lost_lines (other_of told) lost) o c in
      let m = mapped_from (lost_line (other_of told)) lost l.0 l.1 in
      by m.item (has_name (unmet_in told) m.item) refl m.there (subst (λ (x : EffectLine). Contains (unmet_said x) o) (sym m.is) l.2)
    where
      by : (n : List ℕ) (b : Bool) → has_name (unmet_in told) n ≡ b → Contains lost n
          → Contains (unmet_said (cond b (lines.Unmet n) (lines.Untaken n))) o → Contains lost o × (has_name (unmet_in told) o ≡ true)
      by n true is there i =
          let same : n ≡ o = alone_from n o i in (subst (Contains lost) same there, ap (has_name (unmet_in told)) (sym same) ∙ is)
      by n false is there i = absurd (none_in o i)

  said_in : (told : List Told) (lost : List (List ℕ)) (o : List ℕ) → Contains lost o → Contains (unmet_in told) o
      → Contains (flat_map unmet_said (lost_lines (other_of told) lost)) o
  said_in told lost o c u =
      flat_in unmet_said (lost_lines (other_of told) lost) (lost_line (other_of told) o) o (mapped_to (lost_line (other_of told)) lost o c)
      (subst (λ (x : EffectLine). Contains (unmet_said x) o) (sym (unmet_line told o u)) (first_in o []))

  -- the name of one of the lost that folds as one of the unmet is that one
  exact : (told : List Told) (other : List ℕ) → IsLost told other
      → ((u : List ℕ) → Contains (unmet_in told) u → (x : Entry) × Contains (entries_of set) x × (x.name ≡ u))
      → has_name (unmet_in told) other ≡ true → Contains (unmet_in told) other
  exact told other l f h =
      let u = any_gives (folds_same other) (unmet_in told) h in
      let x = f u.0 u.1 in
      let same : l.entry ≡ x.0 = entries_apart set holds l.entry x.0 (lost_entry l.entry l.there) x.1
      (ap (λ (n : List ℕ). folds_same n x.0.name) l.named ∙ ap (folds_same other) x.2 ∙ u.2) in
      subst (Contains (unmet_in told)) (sym x.2 ∙ ap (λ (e : Entry). e.name) (sym same) ∙ l.named) u.1
    where
      lost_entry : (x : Entry) → InThree plain.n1 plain.n2 plain.n3 x → Contains (entries_of set) x
      lost_entry x (in1 i) = plan_entry set Boot [] x (plain.boot.from x i)
      lost_entry x (in2 i) = plan_entry set System [] x (plain.system.from x i)
      lost_entry x (in3 i) = plan_entry set Automatic [] x (plain.automatic.from x i)

  planned_entry : (x : Entry) → (Contains (plan_of set Boot []) x) ⊎ ((Contains (plan_of set System []) x) ⊎ (Contains (plan_of set Automatic []) x))
      → Contains (entries_of set) x
  planned_entry x (inl c) = plan_entry set Boot [] x c
  planned_entry x (inr (inl c)) = plan_entry set System [] x c
  planned_entry x (inr (inr c)) = plan_entry set Automatic [] x c

  fail_unmet_entry : (u : List ℕ) → Contains (unmet_in (fail_told taken name)) u → (x : Entry) × Contains (entries_of set) x × (x.name ≡ u)
  fail_unmet_entry u c =
      let x = name_unmet (Some name) set (fail_told taken name) fail u c in (x.0, planned_entry x.0 (fail_planned x.0 x.1), x.2)

  off_unmet_entry : (u : List ℕ) → Contains (unmet_in (off_told taken name)) u → (x : Entry) × Contains (entries_of set) x × (x.name ≡ u)
  off_unmet_entry u c =
      let x = name_unmet None (off_set name set) (off_told taken name) off u c in (x.0, planned_entry x.0 (off_planned x.0 x.1).0, x.2)

  pub fail_lines : list_any (folds_same name) (started_in (plain_told taken)) ≡ true → (j : Judgement)
      → failure_in (fail_told taken name) ≡ Some j → goes_on j ≡ true → (other : List ℕ)
      → Contains (flat_map unmet_said (fail_block_of taken name)) other ↔ IsNewlyUnmet taken (fail_told taken name) other
  fail_lines run j is goes other = (
    λ c. (let s = said_from (fail_told taken name) lost other (subst (λ (l : List EffectLine). Contains (flat_map unmet_said l) other) (block_is j is goes) c) in
        (lost_unmet other on s.0, λ u. lost_new (fail_told taken name) other s.0 u)),
    λ b. subst (λ (l : List EffectLine). Contains (flat_map unmet_said l) other) (sym (block_is j is goes))
        (said_in (fail_told taken name) lost other (fail_new other run on b.0 b.1) b.0),
  )
    where
      on : GoesOn (fail_told taken name)
      on = goes_from j is goes

      lost : List (List ℕ)
      lost = lost_of taken name (fail_told taken name)

  pub off_lines : (other : List ℕ)
      → Contains (flat_map unmet_said (off_block_of taken name)) other ↔ IsNewlyUnmet taken (off_told taken name) other
  off_lines other = (
    λ c. (let s = said_from (off_told taken name) (lost_of taken name (off_told taken name)) other c in (
      exact (off_told taken name) other (lost_from (off_told taken name) other s.0) off_unmet_entry s.1,
      λ u. lost_new (off_told taken name) other s.0 u,
    )),
    λ b. said_in (off_told taken name) (lost_of taken name (off_told taken name)) other (off_new other b.0 b.1) b.0,
  )

  -- ---- untaken ones

  told_kept : (p : Told → Bool) (told : List Told) (t : Told) → Contains told t → p t ≡ true
      → Contains (map (λ (t : Told). t.name) (filter p told)) t.name
  told_kept p told t c h = mapped_to (λ (t : Told). t.name) (filter p told) t (filter_in p told t c h)

  plain_fate : (told : List Told) → failure_in told ≡ None → (t : Told) → Contains told t → failed_by t.fate ≡ None
  plain_fate [] none t c = absurd (none_in t c)
  plain_fate (x ∷ told) none t c = by (failed_by x.fate) refl none (in_cons x told t c) (λ h i. plain_fate told h t i)
    where
      by : (o : Option Judgement) → failed_by x.fate ≡ o → option_or o (failure_in told) ≡ None → (x ≡ t) ⊎ Contains told t
          → (failure_in told ≡ None → Contains told t → failed_by t.fate ≡ None) → failed_by t.fate ≡ None
      by None is h (inl e) rest = ap (λ (y : Told). failed_by y.fate) (sym e) ∙ is
      by None is h (inr i) rest = rest h i
      by (Some j) is h i rest = absurd cc

  fate_is : (f : Fate) → failed_by f ≡ None → (is_started f ≡ true) ⊎ (is_unmet f ≡ true)
  fate_is fates.Started h = inl refl
  fate_is fates.Unmet h = inr refl
  fate_is (fates.Failed j) h = absurd cc

  no_failure : (setp : Tree) (told : List Told) (n1 n2 n3 l1 l2 l3 : List Entry) → Ends None setp told n1 n2 n3 l1 l2 l3 → failure_in told ≡ None
  no_failure setp told n1 n2 n3 l1 l2 l3 (play.over j x bad failure stops) = absurd (false≢true bad)
  no_failure setp told n1 n2 n3 l1 l2 l3 (play.whole w fs (attempt.plain is none failure)) = failure
  no_failure setp told n1 n2 n3 l1 l2 l3 (play.whole w fs (attempt.armed n is one failure)) = failure
  no_failure setp told n1 n2 n3 l1 l2 l3 (play.whole w fs (attempt.spent n j is one failure goes)) = absurd (no_name n is)
    where
      no_name : (n : List ℕ) → None ≡ Some n → ⊥
      no_name n e = cc

  pub lost_untold : (other : List ℕ) → Contains (lost_of taken name (off_told taken name)) other
      → Contains (unmet_in (off_told taken name)) other ⊎ IsUntold (off_told taken name) other
  lost_untold other c = elim (cases_Bool (has_name (unmet_in (off_told taken name)) other)) [
    | inl yes' ↦ inl (exact (off_told taken name) other l off_unmet_entry yes')
    | inr out ↦ inr (λ t i. false_from_ne_true (folds_same other t.name) (λ same.
        elim (fate_is t.fate (plain_fate (off_told taken name) (no_failure (off_set name set) (off_told taken name) off.n1 off.n2 off.n3 off.l1 off.l2 off.l3 off.ends) t i)) [
          | inl run ↦ false≢true (sym (ap (has_name (started_in (off_told taken name))) (sym l.named) ∙ l.absent)
              ∙ any_from (folds_same other) (started_in (off_told taken name)) t.name (told_kept (λ (t : Told). is_started t.fate) (off_told taken name) t i run) same)
          | inr un ↦ false≢true (sym out
              ∙ any_from (folds_same other) (unmet_in (off_told taken name)) t.name (told_kept (λ (t : Told). is_unmet t.fate) (off_told taken name) t i un) same)
        ]))
  ]
    where
      l : IsLost (off_told taken name) other
      l = lost_from (off_told taken name) other c

-- ---- the laws

pub starts_no_other : StartsNoOther
starts_no_other taken holds name other = (fail_no_other taken holds name other, off_no_other taken holds name other)

pub lost_is_unmet : LostOfFailIsUnmet
lost_is_unmet taken holds name other goes c = lost_unmet taken holds name other goes c

pub lost_leans_on : LostOfFailLeans
lost_leans_on taken holds name other goes c = lost_leans taken holds name other goes c

pub off_no_better : OffIsNoBetter
off_no_better taken holds name other goes c = lost_off taken holds name other goes c

pub fail_block_says : FailBlockSaysUnmet
fail_block_says taken holds name j is goes = fail_says taken holds name j is goes

pub lost_of_off : LostOfOffIsUnmetOrUntold
lost_of_off taken holds name other c = lost_untold taken holds name other c

pub fail_block_new : FailBlockIsNew
fail_block_new taken holds name run j is goes other = fail_lines taken holds name run j is goes other

pub off_block_new : OffBlockIsNew
off_block_new taken holds name other = off_lines taken holds name other
