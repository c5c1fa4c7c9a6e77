-- Names that fold to one.
use Rattle.std.proofs.Common.{◌≡◌, ℕ, Bool, true, false, not, ◌||◌, List, [], ◌++◌, length, map, Option, Some, None, refl, sym, ap, ◌∙◌}
use Rattle.std.specs.Prelude.{codes, filter, position, reverse, slice_get, if◌then◌else◌}
use Rattle.std.specs.List.{list_any, list_all, range_with_len, items_where_true}
use Rattle.std.specs.Option.{option_map, option_map_or, option_and_then, option_or}
use Rattle.nt_bytes.specs.Folding.{folds_same}
use Rattle.nt_names.proofs.FoldLemmas.{alike}
use Rattle.start_model.specs.Demand.{Need, member, all_sets}
use Rattle.dependencies.specs.Work.{names_of}
use Rattle.service_control.specs.declared.stop.ControlStop.{ControlStop}
use Rattle.service_control.specs.declared.stop.ControlStop.TheVariants.{NoService, NotStarted, InUse}
use Rattle.service_control.specs.State.{ControlState, named, labels_of}
use Rattle.service_control.specs.Leaning.{has, has_all, leans, is_closed, is_leaning, leaning_of, in_use_by}
use Rattle.service_control.specs.Calls.{start_refusal, start_refusal_at, started_by, new_of, after_start, off_refusal, stop_refusal, after_stop, after_stop_all, stopped_by}
use Rattle.service_control.proofs.LeanLemmas.{name_alike}
use Rattle.control_command.specs.declared.command.ControlCommand.{ControlCommand}
use Rattle.control_command.specs.declared.command.ControlCommand.TheVariants.{Start, Stop, StopAll, Listing}
use Rattle.control_command.specs.Report.{Answered, unless, name_line, name_lines, spelled}
use Rattle.command_laws.specs.control_laws.Alike.{with_name, EndAlike}
use Rattle.command_laws.proofs.ControlLawsCallLemmas.{state_unless}

-- what is answered or refused for one reason
text_unless : (why : Option ControlStop) (command name : List ℕ) (c : ControlState) (done : Answered) → why ≡ None
    → (unless why command name c done).text ≡ done.text
text_unless why command name c done none = ap (λ w. (unless w command name c done).text) none

module _ (a b : List ℕ) (h : folds_same a b ≡ true) where
  same : (name : List ℕ) → folds_same a name ≡ folds_same b name
  same name = alike a b h name

  named_same : (table : List Need) → named table a ≡ named table b
  named_same table = λ i. option_and_then (slice_get table) (position (λ name. same name i) (names_of table))

  started_same : (c : ControlState) → start_refusal c a ≡ start_refusal c b
  started_same c = ap (λ o. option_map_or (start_refusal_at c) o (Some NoService)) (named_same c.table)

  new_same : (c : ControlState) → new_of c a ≡ new_of c b
  new_same c = ap (λ o. option_map_or (λ (n : Need). started_by c n.name) o []) (named_same c.table)

  spelled_same : (c : ControlState) → spelled c a ≡ spelled c b
  spelled_same c = ap (λ o. option_map_or (λ (n : Need). n.name) o []) (named_same c.table)

  off_same : (c : ControlState) → off_refusal c a ≡ off_refusal c b
  off_same c =
      let on = name_alike (labels_of c.running) a b h in
      let named = named_same c.table in
      (λ i. option_map_or (λ (n : Need). if on i then None else Some NotStarted) (named i) (Some NoService))

  leans_same : (running : List Need) (set : ℕ → Bool) (n : Need) → leans running a set n ≡ leans running b set n
  leans_same running set n =
      let name = same n.name in
      (λ i. (name i || has running set n.name) ||
      (list_any (has running set) n.services || list_any (has_all running set) n.groups))

  closed_same : (running : List Need) (set : ℕ → Bool) → is_closed running a set ≡ is_closed running b set
  closed_same running set = λ i.
      list_all (λ q. not (option_map_or (λ n. leans_same running set n i) (slice_get running q) false) || set q)
      (range_with_len 0 (length running))

  leaning_at : (running : List Need) (q : ℕ) → is_leaning running a q ≡ is_leaning running b q
  unfolding is_leaning
  leaning_at running q = λ i. list_all (λ s. not (closed_same running (member s) i) || member s q)
      (all_sets (length running))

  flags_same : (running : List Need) → leaning_of running a ≡ leaning_of running b
  flags_same running = λ i. map (λ q. leaning_at running q i) (range_with_len 0 (length running))

  in_use_same : (running : List Need) → in_use_by running a ≡ in_use_by running b
  in_use_same running =
      let flags = flags_same running in
      (λ i. let needs : List Need = items_where_true (flags i) running in
      option_map (λ (n : Need). n.name)
      (option_and_then (slice_get needs) (position (λ (n : Need). not (same n.name i)) needs)))

  stop_same : (c : ControlState) → stop_refusal c a ≡ stop_refusal c b
  stop_same c = let off = off_same c in let use_of = in_use_same c.running in
      (λ i. option_or (off i) (option_map InUse (use_of i)))

  end_alike : (c : ControlState) (command : ControlCommand) → EndAlike c (with_name a command) (with_name b command)
  end_alike c (Start old) =
      let one : Answered = record
      { text = name_lines (codes "started") (names_of (new_of c a)); state = after_start c a } in
      let two : Answered = record
      { text = name_lines (codes "started") (names_of (new_of c b)); state = after_start c b } in
      let states = ap (λ (new : List Need). record c { running = c.running ++ new }) (new_same c) in
      record {
        refusal = started_same c;
        state = state_unless (start_refusal c a) (codes "start") a c one
            ∙ (λ i. option_map_or (λ _. c) (started_same c i) (states i))
            ∙ sym (state_unless (start_refusal c b) (codes "start") b c two);
        text = λ none. text_unless (start_refusal c a) (codes "start") a c one none
            ∙ ap (λ new. name_lines (codes "started") (names_of new)) (new_same c)
            ∙ sym (text_unless (start_refusal c b) (codes "start") b c two (sym (started_same c) ∙ none));
      }
  end_alike c (Stop old) =
      let one : Answered = record { text = name_line (codes "stopped") (spelled c a); state = after_stop c a } in
      let two : Answered = record { text = name_line (codes "stopped") (spelled c b); state = after_stop c b } in
      let states : after_stop c a ≡ after_stop c b =
      (λ i. record c { running = filter (λ n. not (same n.name i)) c.running }) in
      record {
        refusal = stop_same c;
        state = state_unless (stop_refusal c a) (codes "stop") a c one
            ∙ (λ i. option_map_or (λ _. c) (stop_same c i) (states i))
            ∙ sym (state_unless (stop_refusal c b) (codes "stop") b c two);
        text = λ none. text_unless (stop_refusal c a) (codes "stop") a c one none
            ∙ ap (name_line (codes "stopped")) (spelled_same c)
            ∙ sym (text_unless (stop_refusal c b) (codes "stop") b c two (sym (stop_same c) ∙ none));
      }
  end_alike c (StopAll old) =
      let one : Answered = record
      { text = name_lines (codes "stopped") (stopped_by c a); state = after_stop_all c a } in
      let two : Answered = record
      { text = name_lines (codes "stopped") (stopped_by c b); state = after_stop_all c b } in
      let flags = flags_same c.running in
      let states : after_stop_all c a ≡ after_stop_all c b =
      (λ i. record c { running = items_where_true (map not (flags i)) c.running }) in
      record {
        refusal = off_same c;
        state = state_unless (off_refusal c a) (codes "stopall") a c one
            ∙ (λ i. option_map_or (λ _. c) (off_same c i) (states i))
            ∙ sym (state_unless (off_refusal c b) (codes "stopall") b c two);
        text = λ none. text_unless (off_refusal c a) (codes "stopall") a c one none
            ∙ ap (λ (f : List Bool). name_lines (codes "stopped") (names_of (reverse (items_where_true f c.running))))
            flags
            ∙ sym (text_unless (off_refusal c b) (codes "stopall") b c two (sym (off_same c) ∙ none));
      }
  end_alike c Listing = record { refusal = refl; state = refl; text = λ none. refl }

pub ends_alike : (c : ControlState) (command : ControlCommand) (a b : List ℕ) → folds_same a b ≡ true
    → EndAlike c (with_name a command) (with_name b command)
ends_alike c command a b h = end_alike a b h c command
