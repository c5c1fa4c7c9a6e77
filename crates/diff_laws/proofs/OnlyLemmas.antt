-- Where no line on two sets reports a difference, their services, groups and boots agree.
use Rattle.std.proofs.Common.{◌≡◌, ℕ, Bool, true, false, not, ◌&&◌, cond, nat_eq, ◌+◌, List, [], ◌∷◌, ◌++◌, length, map, refl, sym, ap, subst, ◌∙◌}
use Rattle.std.specs.Prelude.{filter}
use Rattle.std.proofs.Math.Dec.{eqb-suc-zero}
use Rattle.std.proofs.lemmas.Bool.{false≢true}
use Rattle.nt_bytes.specs.Folding.{folds_same}
use Rattle.start_model.specs.Order.{GroupOrder}
use Rattle.answer_lines.specs.declared.diff_lines.lines.DiffLine.{DiffLine}
use Rattle.answer_lines.specs.declared.diff_lines.lines.DiffLine.TheVariants.{Differs, Lone, Parts, Sets, StartPhase, StartsSame, Tags}
use Rattle.answer_lines.specs.declared.diff_lines.lines.Part.{Part}
use Rattle.answer_lines.specs.declared.diff_lines.lines.Part.TheVariants.{Group, Start, Unmet}
use Rattle.answer_lines.specs.declared.diff_lines.lines.Sequence.{Sequence}
use Rattle.answer_lines.specs.declared.diff_lines.lines.Sequence.TheVariants.{Registry, Groups, Starts}
use Rattle.answer_lines.specs.declared.diff_lines.lines.Shown.TheVariants.{Nothing, Text, Numbers}
use Rattle.answer_lines.specs.declared.diff_lines.lines.Side.{Side}
use Rattle.answer_lines.specs.declared.diff_lines.lines.Side.TheVariants.{First, Second}
use Rattle.set_diff.specs.declared.boot.Attempt.{Attempt}
use Rattle.set_diff.specs.declared.boot.QuietBoot.{QuietBoot}
use Rattle.set_diff.specs.declared.service.Service.{Service}
use Rattle.set_diff.specs.Boots.{attempt_names, attempt_named, phase_rank, phase_lines, paired_phases, phases_lines, lone_names, common_attempts, boots_lines, or_same}
use Rattle.set_diff.specs.Listed.{lacks, lone_lines, both_lone, shared, parts_from, parts_lines, shared_parts}
use Rattle.set_diff.specs.Services.{all_fields, field_shown, field_lines, pair_lines, paired_lines, differs_lines, only_line, is_only, only_lines, apart_lines, common_lines, service_named, service_names, services_lines}
use Rattle.set_diff.specs.Sets.{Compared, compared_of, compared_lines, group_names, group_named, groups_lines, orders_lines, tag_lines, paired_tags, tags_lines, both_lines, is_difference}
use Rattle.set_diff.specs.Shown.{shown_same}
use Rattle.diff_laws.specs.diff_laws.Laws.{is_none, services_agree, groups_agree, boots_agree}
use Rattle.diff_laws.proofs.AgreeLemmas.{and_of, services_agree_so, groups_agree_so, boots_agree_so}
use Rattle.diff_laws.specs.tree_laws.Same.{SameOnlyWhereAgree}
use Rattle.diff_laws.proofs.CountLemmas.{all_parts, uncounted}
use Rattle.diff_laws.proofs.TellingLemmas.{is_quiet, Tells, tells_both, tells_each, tells_pair, tells_where}

quiet_not : (line : DiffLine) (lines : List DiffLine) → is_difference line ≡ true → is_quiet (line ∷ lines) ≡ true → is_none (line ∷ lines) ≡ true
quiet_not line lines differs quiet =
    absurd (false≢true (sym (ap (λ (b : Bool). not b && is_quiet lines) differs) ∙ quiet))

tells_map : {X : Type 0} (f : X → DiffLine) (xs : List X) → ((x : X) → is_difference (f x) ≡ true) → Tells (map f xs)
tells_map f [] differs quiet = refl
tells_map f (x ∷ xs) differs quiet = quiet_not (f x) (map f xs) (differs x) quiet

tells_either : (b : Bool) (xs : List DiffLine) (line : DiffLine) → Tells xs → is_difference line ≡ true → Tells (cond b xs (line ∷ []))
tells_either true xs line tells differs quiet = tells quiet
tells_either false xs line tells differs quiet = quiet_not line [] differs quiet

-- ---- lists of names

lone_tells : (part : Part) (side : Side) (names others : List (List ℕ)) → Tells (lone_lines part side names others)
unfolding is_difference
lone_tells part side names others = tells_map (λ name. Lone part side name) (filter (lacks others) names) (λ name. refl)

both_tell : (part : Part) (first second : List (List ℕ)) → Tells (both_lone part first second)
both_tell part first second =
    tells_both (lone_lines part First first second) (lone_lines part Second second first)
    (lone_tells part First first second) (lone_tells part Second second first)

parts_tell : (sequence : Sequence) (place : ℕ) (first second : List (List ℕ)) → Tells (parts_from sequence place first second)
unfolding is_difference
parts_tell sequence place [] [] quiet = refl
parts_tell sequence place [] (y ∷ ys) quiet = quiet_not (Parts sequence place Nothing (Text y)) [] refl quiet
parts_tell sequence place (x ∷ xs) [] quiet = quiet_not (Parts sequence place (Text x) Nothing) [] refl quiet
parts_tell sequence place (x ∷ xs) (y ∷ ys) quiet =
    tells_either (folds_same x y) (parts_from sequence (place + 1) xs ys) (Parts sequence place (Text x) (Text y))
    (parts_tell sequence (place + 1) xs ys) refl quiet

-- ---- services

only_tell : (side : Side) (services : List Service) (others : List (List ℕ)) → Tells (only_lines side services others)
unfolding is_difference
only_tell side services others = tells_map (only_line side) (filter (is_only others) services) (λ s. refl)

pair_tells : (a b : Service) → Tells (pair_lines a b)
unfolding is_difference
pair_tells a b =
    tells_each (field_lines a b) all_fields
    (λ field. tells_where (not (shown_same (field_shown field a) (field_shown field b)))
    (Differs field (field_shown field a) (field_shown field b) a.entry.name) [] refl)

services_tell : (first second : List Service) → Tells (services_lines first second)
services_tell first second =
    let ns : List (List ℕ) = service_names first in
    let ms : List (List ℕ) = service_names second in
    tells_both (apart_lines first second) (common_lines first second)
    (tells_both (only_lines First first ms) (only_lines Second second ns) (only_tell First first ms) (only_tell Second second ns))
    (tells_both (differs_lines first second) (shared_parts Registry ns ms)
    (tells_each (paired_lines second) first (λ s. tells_pair (pair_lines s) (service_named second s.entry.name) (pair_tells s)))
    (parts_tell Registry 1 (shared ns ms) (shared ms ns)))

-- ---- groups

tags_tell : (groups others : List GroupOrder) → Tells (tags_lines groups others)
unfolding is_difference
tags_tell groups others =
    tells_each (paired_tags others) groups
    (λ g. tells_pair (tag_lines g) (group_named others g.name)
    (λ h. tells_where (not (shown_same (Numbers g.tags) (Numbers h.tags))) (Tags (Numbers g.tags) (Numbers h.tags) g.name) [] refl))

groups_tell : (a b : Compared) → Tells (groups_lines a b)
groups_tell a b =
    tells_both (both_lone Group (group_names a.groups) (group_names b.groups)) (orders_lines a b)
    (both_tell Group (group_names a.groups) (group_names b.groups))
    (tells_both (parts_lines Groups a.listed b.listed) (tags_lines a.groups b.groups)
    (parts_tell Groups 1 a.listed b.listed) (tags_tell a.groups b.groups))

-- ---- boots

phases_tell : (attempts others : List Attempt) → Tells (phases_lines attempts others)
unfolding is_difference
phases_tell attempts others =
    tells_each (paired_phases others) attempts
    (λ a. tells_pair (phase_lines a) (attempt_named others a.name)
    (λ b. tells_where (not (nat_eq (phase_rank a.phase) (phase_rank b.phase))) (StartPhase a.phase b.phase a.name) [] refl))

boots_tell : (a b : QuietBoot) → Tells (boots_lines a b)
boots_tell a b =
    let ns : List (List ℕ) = attempt_names a.attempts in
    let ms : List (List ℕ) = attempt_names b.attempts in
    tells_both (lone_names a b) (common_attempts a.attempts b.attempts)
    (tells_both (both_lone Start ns ms) (both_lone Unmet a.unmet b.unmet) (both_tell Start ns ms) (both_tell Unmet a.unmet b.unmet))
    (tells_both (phases_lines a.attempts b.attempts) (shared_parts Starts ns ms) (phases_tell a.attempts b.attempts)
    (parts_tell Starts 1 (shared ns ms) (shared ms ns)))

or_same_tells : (lines : List DiffLine) → Tells lines → is_quiet (or_same lines) ≡ true → is_none lines ≡ true
or_same_tells [] tells quiet = refl
or_same_tells (line ∷ lines) tells quiet =
    tells (subst (λ (b : Bool). is_quiet (cond b (StartsSame ∷ []) (line ∷ lines)) ≡ true) (eqb-suc-zero (length lines)) quiet)

-- ---- the whole

agree_by : (a b : Compared) → is_quiet (compared_lines a b) ≡ true
    → (services_agree a.services b.services && (groups_agree a b && boots_agree a.boot b.boot)) ≡ true
agree_by a b quiet =
    let services : List DiffLine = services_lines a.services b.services in
    let groups : List DiffLine = groups_lines a b in
    let boots : List DiffLine = boots_lines a.boot b.boot in
    let last = all_parts (λ line. not (is_difference line)) (services ++ groups) (or_same boots) quiet in
    let first = all_parts (λ line. not (is_difference line)) services groups last.0 in
    and_of (services_agree a.services b.services) (groups_agree a b && boots_agree a.boot b.boot)
    (sym (services_agree_so a.services b.services) ∙ services_tell a.services b.services first.0)
    (and_of (groups_agree a b) (boots_agree a.boot b.boot)
    (sym (groups_agree_so a b) ∙ groups_tell a b first.1)
    (sym (boots_agree_so a.boot b.boot) ∙ or_same_tells boots (boots_tell a.boot b.boot) last.1))

pub same_only : SameOnlyWhereAgree
unfolding both_lines is_difference
same_only n m first second none =
    let a : Compared = compared_of first in
    let b : Compared = compared_of second in
    let quiet : is_quiet (Sets n m ∷ compared_lines a b) ≡ true = (uncounted is_difference 0 (Sets n m ∷ compared_lines a b) none).1 in
    agree_by a b quiet
