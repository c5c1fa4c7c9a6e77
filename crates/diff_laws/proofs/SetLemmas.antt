-- With two sets exchanged, the lines about the one are those about the other, in the same order.
use Rattle.std.proofs.Common.{◌≡◌, ℕ, ◌+◌, Bool, true, false, not, cond, nat_eq, List, [], ◌∷◌, ◌++◌, length, map, refl, sym, ap, subst, ◌∙◌}
use Rattle.std.specs.Prelude.{Option, Some, None, filter}
use Rattle.std.proofs.Math.Dec.{eqb-suc-zero}
use Rattle.std.proofs.lemmas.List.{append-nil, map-append}
use Rattle.nt_bytes.specs.Folding.{folds_same}
use Rattle.hive_model.specs.Tree.{Tree}
use Rattle.select_keys.specs.Sets.{usable_set}
use Rattle.answer_lines.specs.declared.diff_lines.lines.DiffLine.{DiffLine}
use Rattle.answer_lines.specs.declared.diff_lines.lines.DiffLine.TheVariants.{Differs, End, Lone, Parts, Same, Sets, StartPhase, StartsSame, Tags, Differ}
use Rattle.answer_lines.specs.declared.diff_lines.lines.Part.{Part}
use Rattle.answer_lines.specs.declared.diff_lines.lines.Part.TheVariants.{Group, Start, Unmet}
use Rattle.answer_lines.specs.declared.diff_lines.lines.Sequence.{Sequence}
use Rattle.answer_lines.specs.declared.diff_lines.lines.Sequence.TheVariants.{Registry, Groups, Starts}
use Rattle.answer_lines.specs.declared.diff_lines.lines.Shown.TheVariants.{Nothing, Text, Numbers}
use Rattle.answer_lines.specs.declared.diff_lines.lines.Side.{Side}
use Rattle.answer_lines.specs.declared.diff_lines.lines.Side.TheVariants.{First, Second}
use Rattle.set_diff.specs.declared.boot.Attempt.{Attempt}
use Rattle.set_diff.specs.declared.boot.QuietBoot.{QuietBoot}
use Rattle.set_diff.specs.declared.service.Service.{Service}
use Rattle.set_diff.specs.Boots.{attempt_names, attempt_named, phase_rank, phase_lines, paired_phases, phases_lines, lone_names, common_attempts, boots_lines, or_same}
use Rattle.set_diff.specs.Listed.{lacks, both_lone, shared, parts_from, parts_lines, shared_parts}
use Rattle.set_diff.specs.Services.{all_fields, field_shown, field_lines, pair_lines, paired_lines, differs_lines, only_line, is_only, apart_lines, common_lines, service_named, service_names, services_lines}
use Rattle.set_diff.specs.Sets.{Compared, compared_of, compared_lines, group_names, group_named, groups_lines, orders_lines, tag_lines, paired_tags, tags_lines, both_lines, sets_lines, verdict, difference_count, closed}
use Rattle.set_diff.specs.Shown.{shown_same}
use Rattle.diff_laws.specs.turned_laws.Turned.{side_of, is_side, is_data, data_lines, lines_about, other, turned, SidesTurn}
use Rattle.diff_laws.proofs.AboutLemmas.{About, Silent, about_append, next_both, silent_both, silent_none, silent_each, silent_pair, silent_when}

-- the lines about one set among the first are those about the other one among the second
pub record Turns (side : Side) (xs ys : List DiffLine) : Type 0 where
  pub next : data_lines xs ≡ []
  pub next_other : data_lines ys ≡ []
  pub same : lines_about side xs ≡ map (map turned) (lines_about (other side) ys)

pub turns_both : (side : Side) (xs ys us vs : List DiffLine) → Turns side xs ys → Turns side us vs → Turns side (xs ++ us) (ys ++ vs)
turns_both side xs ys us vs p q = record {
  next = next_both xs us p.next q.next;
  next_other = next_both ys vs p.next_other q.next_other;
  same =
      about_append side xs us q.next
      ∙ (λ i. p.same i ++ q.same i)
      ∙ sym (map-append (map turned) (lines_about (other side) ys) (lines_about (other side) vs))
      ∙ ap (map (map turned)) (sym (about_append (other side) ys vs q.next_other));
}

turns_silent : (side : Side) (xs ys : List DiffLine) → Silent side xs → Silent (other side) ys → Turns side xs ys
turns_silent side xs ys p q =
    record { next = p.next; next_other = q.next; same = p.about ∙ ap (map (map turned)) (sym q.about) }

-- ---- what the one set has and what the other has

-- a line of each item, all about one set
each_own : {X : Type 0} (side : Side) (f : X → DiffLine) (xs : List X) → ((x : X) → is_side side (side_of (f x)) ≡ true)
    → ((x : X) → is_data (f x) ≡ false) → About side (map f xs) (map (λ x. f x ∷ []) xs)
each_own side f [] about plain = record { next = refl; about = refl }
each_own side f (x ∷ xs) about plain =
    let rest = each_own side f xs about plain in
    record {
      next = ap (λ (b : Bool). cond b (f x ∷ data_lines (map f xs)) []) (plain x);
      about =
          ap (λ (b : Bool). cond b ((f x ∷ data_lines (map f xs)) ∷ lines_about side (map f xs)) (lines_about side (map f xs))) (about x)
          ∙ (λ i. (f x ∷ rest.next i) ∷ rest.about i);
    }

each_off : {X : Type 0} (side : Side) (f : X → DiffLine) (xs : List X) → ((x : X) → is_side side (side_of (f x)) ≡ false)
    → ((x : X) → is_data (f x) ≡ false) → Silent side (map f xs)
each_off side f [] off plain = silent_none side
each_off side f (x ∷ xs) off plain =
    let rest = each_off side f xs off plain in
    record {
      next = ap (λ (b : Bool). cond b (f x ∷ data_lines (map f xs)) []) (plain x);
      about =
          ap (λ (b : Bool). cond b ((f x ∷ data_lines (map f xs)) ∷ lines_about side (map f xs)) (lines_about side (map f xs))) (off x)
          ∙ rest.about;
    }

turn_each : {X : Type 0} (f g : X → DiffLine) (xs : List X) → ((x : X) → turned (g x) ≡ f x)
    → map (λ x. f x ∷ []) xs ≡ map (map turned) (map (λ x. g x ∷ []) xs)
turn_each f g [] same = refl
turn_each f g (x ∷ xs) same = λ i. (sym (same x) i ∷ []) ∷ turn_each f g xs same i

-- first those that the first has, then those of the second
lone_turn : {X : Type 0} (f : Side → X → DiffLine) (side : Side) (xs ys : List X)
    → ((s : Side) (x : X) → side_of (f s x) ≡ Some s) → ((s : Side) (x : X) → is_data (f s x) ≡ false)
    → ((s : Side) (x : X) → turned (f s x) ≡ f (other s) x)
    → Turns side (map (f First) xs ++ map (f Second) ys) (map (f First) ys ++ map (f Second) xs)
lone_turn f First xs ys about plain same =
    let a = each_own First (f First) xs (λ x. ap (is_side First) (about First x)) (plain First) in
    let b = each_off First (f Second) ys (λ x. ap (is_side First) (about Second x)) (plain Second) in
    let c = each_off Second (f First) ys (λ x. ap (is_side Second) (about First x)) (plain First) in
    let d = each_own Second (f Second) xs (λ x. ap (is_side Second) (about Second x)) (plain Second) in
    record {
      next = next_both (map (f First) xs) (map (f Second) ys) a.next b.next;
      next_other = next_both (map (f First) ys) (map (f Second) xs) c.next d.next;
      same =
          about_append First (map (f First) xs) (map (f Second) ys) b.next
          ∙ (λ i. a.about i ++ b.about i)
          ∙ append-nil (map (λ x. f First x ∷ []) xs)
          ∙ turn_each (f First) (f Second) xs (same Second)
          ∙ (λ i. map (map turned) (sym c.about i ++ sym d.about i))
          ∙ ap (map (map turned)) (sym (about_append Second (map (f First) ys) (map (f Second) xs) d.next));
    }
lone_turn f Second xs ys about plain same =
    let a = each_off Second (f First) xs (λ x. ap (is_side Second) (about First x)) (plain First) in
    let b = each_own Second (f Second) ys (λ x. ap (is_side Second) (about Second x)) (plain Second) in
    let c = each_own First (f First) ys (λ x. ap (is_side First) (about First x)) (plain First) in
    let d = each_off First (f Second) xs (λ x. ap (is_side First) (about Second x)) (plain Second) in
    record {
      next = next_both (map (f First) xs) (map (f Second) ys) a.next b.next;
      next_other = next_both (map (f First) ys) (map (f Second) xs) c.next d.next;
      same =
          about_append Second (map (f First) xs) (map (f Second) ys) b.next
          ∙ (λ i. a.about i ++ b.about i)
          ∙ turn_each (f Second) (f First) ys (same First)
          ∙ ap (map (map turned)) (sym (append-nil (map (λ x. f First x ∷ []) ys)))
          ∙ (λ i. map (map turned) (sym c.about i ++ sym d.about i))
          ∙ ap (map (map turned)) (sym (about_append First (map (f First) ys) (map (f Second) xs) d.next));
    }

names_turn : (part : Part) (side : Side) (first second : List (List ℕ)) → Turns side (both_lone part first second) (both_lone part second first)
names_turn part side first second =
    lone_turn (λ (s : Side) (name : List ℕ). Lone part s name) side (filter (lacks second) first) (filter (lacks first) second)
    (λ s x. refl) (λ s x. refl) (λ s x. refl)

-- ---- lines about both sets

one_silent : (side : Side) (line : DiffLine) → side_of line ≡ None → is_data line ≡ false → Silent side (line ∷ [])
one_silent side line about plain = record {
  next = ap (λ (b : Bool). cond b (line ∷ []) []) plain;
  about = ap (λ (o : Option Side). cond (is_side side o) ((line ∷ []) ∷ []) []) about;
}

parts_silent : (side : Side) (sequence : Sequence) (place : ℕ) (xs ys : List (List ℕ)) → Silent side (parts_from sequence place xs ys)
parts_silent side sequence place [] [] = silent_none side
parts_silent side sequence place [] (y ∷ ys) = one_silent side (Parts sequence place Nothing (Text y)) refl refl
parts_silent side sequence place (x ∷ xs) [] = one_silent side (Parts sequence place (Text x) Nothing) refl refl
parts_silent side sequence place (x ∷ xs) (y ∷ ys) = by (folds_same x y) (parts_silent side sequence (place + 1) xs ys)
  where
    by : (b : Bool) → Silent side (parts_from sequence (place + 1) xs ys)
        → Silent side (cond b (parts_from sequence (place + 1) xs ys) (Parts sequence place (Text x) (Text y) ∷ []))
    by true rest = rest
    by false rest = one_silent side (Parts sequence place (Text x) (Text y)) refl refl

services_silent : (side : Side) (first second : List Service) → Silent side (common_lines first second)
services_silent side first second =
    let ns : List (List ℕ) = service_names first in
    let ms : List (List ℕ) = service_names second in
    silent_both side (differs_lines first second) (shared_parts Registry ns ms)
    (silent_each side (paired_lines second) first
    (λ a. silent_pair side (pair_lines a) (service_named second a.entry.name)
    (λ b. silent_each side (field_lines a b) all_fields
    (λ field. silent_when side (not (shown_same (field_shown field a) (field_shown field b)))
    (Differs field (field_shown field a) (field_shown field b) a.entry.name ∷ [])
    (one_silent side (Differs field (field_shown field a) (field_shown field b) a.entry.name) refl refl)))))
    (parts_silent side Registry 1 (shared ns ms) (shared ms ns))

orders_silent : (side : Side) (a b : Compared) → Silent side (orders_lines a b)
orders_silent side a b =
    silent_both side (parts_lines Groups a.listed b.listed) (tags_lines a.groups b.groups)
    (parts_silent side Groups 1 a.listed b.listed)
    (silent_each side (paired_tags b.groups) a.groups
    (λ g. silent_pair side (tag_lines g) (group_named b.groups g.name)
    (λ h. silent_when side (not (shown_same (Numbers g.tags) (Numbers h.tags))) (Tags (Numbers g.tags) (Numbers h.tags) g.name ∷ [])
    (one_silent side (Tags (Numbers g.tags) (Numbers h.tags) g.name) refl refl))))

attempts_silent : (side : Side) (first second : List Attempt) → Silent side (common_attempts first second)
attempts_silent side first second =
    let ns : List (List ℕ) = attempt_names first in
    let ms : List (List ℕ) = attempt_names second in
    silent_both side (phases_lines first second) (shared_parts Starts ns ms)
    (silent_each side (paired_phases second) first
    (λ a. silent_pair side (phase_lines a) (attempt_named second a.name)
    (λ b. silent_when side (not (nat_eq (phase_rank a.phase) (phase_rank b.phase))) (StartPhase a.phase b.phase a.name ∷ [])
    (one_silent side (StartPhase a.phase b.phase a.name) refl refl))))
    (parts_silent side Starts 1 (shared ns ms) (shared ms ns))

-- ---- two sets

services_turn : (side : Side) (first second : List Service) → Turns side (services_lines first second) (services_lines second first)
services_turn side first second =
    turns_both side (apart_lines first second) (apart_lines second first) (common_lines first second) (common_lines second first)
    (lone_turn only_line side (filter (is_only (service_names second)) first) (filter (is_only (service_names first)) second)
    (λ s x. refl) (λ s x. refl) (λ s x. refl))
    (turns_silent side (common_lines first second) (common_lines second first) (services_silent side first second)
    (services_silent (other side) second first))

groups_turn : (side : Side) (a b : Compared) → Turns side (groups_lines a b) (groups_lines b a)
groups_turn side a b =
    turns_both side (both_lone Group (group_names a.groups) (group_names b.groups))
    (both_lone Group (group_names b.groups) (group_names a.groups)) (orders_lines a b) (orders_lines b a)
    (names_turn Group side (group_names a.groups) (group_names b.groups))
    (turns_silent side (orders_lines a b) (orders_lines b a) (orders_silent side a b) (orders_silent (other side) b a))

boots_turn : (side : Side) (a b : QuietBoot) → Turns side (boots_lines a b) (boots_lines b a)
boots_turn side a b =
    let ns : List (List ℕ) = attempt_names a.attempts in
    let ms : List (List ℕ) = attempt_names b.attempts in
    turns_both side (lone_names a b) (lone_names b a) (common_attempts a.attempts b.attempts) (common_attempts b.attempts a.attempts)
    (turns_both side (both_lone Start ns ms) (both_lone Start ms ns) (both_lone Unmet a.unmet b.unmet) (both_lone Unmet b.unmet a.unmet)
    (names_turn Start side ns ms) (names_turn Unmet side a.unmet b.unmet))
    (turns_silent side (common_attempts a.attempts b.attempts) (common_attempts b.attempts a.attempts)
    (attempts_silent side a.attempts b.attempts) (attempts_silent (other side) b.attempts a.attempts))

-- that the boots are the same is about both sets
or_same_about : (side : Side) (lines : List DiffLine) → data_lines lines ≡ [] → About side (or_same lines) (lines_about side lines)
or_same_about side [] e = record { next = refl; about = refl }
or_same_about side (line ∷ lines) e =
    subst (λ (b : Bool). About side (cond b (StartsSame ∷ []) (line ∷ lines)) (lines_about side (line ∷ lines)))
    (sym (eqb-suc-zero (length lines))) (record { next = e; about = refl })

or_same_turn : (side : Side) (xs ys : List DiffLine) → Turns side xs ys → Turns side (or_same xs) (or_same ys)
or_same_turn side xs ys p =
    let a = or_same_about side xs p.next in
    let b = or_same_about (other side) ys p.next_other in
    record { next = a.next; next_other = b.next; same = a.about ∙ p.same ∙ ap (map (map turned)) (sym b.about) }

compared_turn : (side : Side) (a b : Compared) → Turns side (compared_lines a b) (compared_lines b a)
compared_turn side a b =
    turns_both side (services_lines a.services b.services ++ groups_lines a b) (services_lines b.services a.services ++ groups_lines b a)
    (or_same (boots_lines a.boot b.boot)) (or_same (boots_lines b.boot a.boot))
    (turns_both side (services_lines a.services b.services) (services_lines b.services a.services) (groups_lines a b) (groups_lines b a)
    (services_turn side a.services b.services) (groups_turn side a b))
    (or_same_turn side (boots_lines a.boot b.boot) (boots_lines b.boot a.boot) (boots_turn side a.boot b.boot))

both_turn : (side : Side) (n m : ℕ) (first second : Tree) → Turns side (both_lines n first m second) (both_lines m second n first)
unfolding both_lines
both_turn side n m first second =
    turns_both side (Sets n m ∷ []) (Sets m n ∷ []) (compared_lines (compared_of first) (compared_of second))
    (compared_lines (compared_of second) (compared_of first))
    (turns_silent side (Sets n m ∷ []) (Sets m n ∷ []) (one_silent side (Sets n m) refl refl) (one_silent (other side) (Sets m n) refl refl))
    (compared_turn side (compared_of first) (compared_of second))

pub sets_turn : (side : Side) (n m : ℕ) (o p : Option Tree) → Turns side (sets_lines n o m p) (sets_lines m p n o)
sets_turn First n m None None = record { next = refl; next_other = refl; same = refl }
sets_turn Second n m None None = record { next = refl; next_other = refl; same = refl }
sets_turn First n m None (Some b) = record { next = refl; next_other = refl; same = refl }
sets_turn Second n m None (Some b) = record { next = refl; next_other = refl; same = refl }
sets_turn First n m (Some a) None = record { next = refl; next_other = refl; same = refl }
sets_turn Second n m (Some a) None = record { next = refl; next_other = refl; same = refl }
sets_turn side n m (Some a) (Some b) = both_turn side n m a b

-- ---- with the last two

verdict_silent : (side : Side) (count : ℕ) → Silent side (verdict count ∷ End ∷ [])
verdict_silent side count = by (nat_eq count 0)
  where
    by : (b : Bool) → Silent side (cond b Same (Differ count) ∷ End ∷ [])
    by true = record { next = refl; about = refl }
    by false = record { next = refl; about = refl }

pub closed_about : (side : Side) (lines : List DiffLine) → lines_about side (closed lines) ≡ lines_about side lines
closed_about side lines =
    let last = verdict_silent side (difference_count lines) in
    about_append side lines (verdict (difference_count lines) ∷ End ∷ []) last.next
    ∙ ap (λ (blocks : List (List DiffLine)). lines_about side lines ++ blocks) last.about
    ∙ append-nil (lines_about side lines)

pub sides_turn : SidesTurn
sides_turn a n b m side =
    let here : List DiffLine = sets_lines n (usable_set a n) m (usable_set b m) in
    let there : List DiffLine = sets_lines m (usable_set b m) n (usable_set a n) in
    closed_about side (here ++ [])
    ∙ ap (lines_about side) (append-nil here)
    ∙ (sets_turn side n m (usable_set a n) (usable_set b m)).same
    ∙ ap (λ (lines : List DiffLine). map (map turned) (lines_about (other side) lines)) (sym (append-nil there))
    ∙ ap (map (map turned)) (sym (closed_about (other side) (there ++ [])))
