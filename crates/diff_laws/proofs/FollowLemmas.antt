-- Where services and groups of two sets agree, so do their boots.
use Rattle.std.proofs.Common.{◌≡◌, ℕ, true, ◌&&◌, List, [], ◌∷◌, map, refl, sym, ap, ◌∙◌}
use Rattle.std.specs.List.{list_all}
use Rattle.nt_bytes.specs.Folding.{folded}
use Rattle.hive_model.specs.Tree.{Tree}
use Rattle.set_diff.specs.declared.boot.Attempt.{Attempt}
use Rattle.set_diff.specs.declared.boot.QuietBoot.{QuietBoot}
use Rattle.set_diff.specs.Boots.{boot_of, attempt_names, boots_lines}
use Rattle.set_diff.specs.Services.{services_in}
use Rattle.set_diff.specs.Sets.{Compared, compared_of}
use Rattle.set_diff.specs.Shown.{names_same}
use Rattle.diff_laws.specs.diff_laws.Laws.{is_none, has_all, same_names, services_agree, groups_agree, attempt_agrees_in, boots_agree}
use Rattle.diff_laws.proofs.AgreeLemmas.{and_of, same_has, nil_of, services_agree_so, groups_agree_so, boots_agree_so, sets_agree_so}
use Rattle.diff_laws.proofs.OwnLines.{own_services, own_groups}
use Rattle.diff_laws.specs.boot_laws.Follow.{BootsFollow, NoLineFollows, SameFollows, OwnBoot, OwnAnswer}
use Rattle.diff_laws.proofs.FoldLemmas.{same_names_of}
use Rattle.diff_laws.proofs.PlanLemmas.{plans_alike}
use Rattle.diff_laws.proofs.CourseLemmas.{lines_alike}
use Rattle.diff_laws.proofs.LineLemmas.{plain_attempt, plain_boot, boots_alike, all_alike}
use Rattle.diff_laws.proofs.SteadyLemmas.{boot_steady, steady_agrees}
use Rattle.diff_laws.proofs.BootLawsPairLemmas.{sets_entries, sets_orders}

attempts_folded : (xs : List Attempt) → attempt_names (map plain_attempt xs) ≡ map folded (attempt_names xs)
attempts_folded [] = refl
attempts_folded (x ∷ xs) = λ i. folded x.name ∷ attempts_folded xs i

both_ways : (ns ms : List (List ℕ)) → map folded ns ≡ map folded ms → same_names ns ms ≡ true
both_ways ns ms e =
    and_of (has_all ns ms) (has_all ms ns) (same_has ns ms (same_names_of ns ms e))
    (same_has ms ns (same_names_of ms ns (sym e)))

boots_agree_by : (first second : Tree) → plain_boot (boot_of first) ≡ plain_boot (boot_of second)
    → boots_agree (boot_of first) (boot_of second) ≡ true
boots_agree_by first second alike =
    let a : QuietBoot = boot_of first in
    let b : QuietBoot = boot_of second in
    let ns : List (List ℕ) = attempt_names a.attempts in
    let ms : List (List ℕ) = attempt_names b.attempts in
    let attempts : map plain_attempt a.attempts ≡ map plain_attempt b.attempts =
    ap (λ (c : QuietBoot). c.attempts) alike in
    let unmet : map folded a.unmet ≡ map folded b.unmet = ap (λ (c : QuietBoot). c.unmet) alike in
    let names : map folded ns ≡ map folded ms =
    sym (attempts_folded a.attempts) ∙ ap attempt_names attempts ∙ attempts_folded b.attempts in
    let phases = all_alike a.attempts b.attempts attempts ∙ steady_agrees a.attempts (boot_steady first) in
    and_of (same_names a.unmet b.unmet) (names_same ns ms && list_all (attempt_agrees_in b.attempts) a.attempts)
    (both_ways a.unmet b.unmet unmet)
    (and_of (names_same ns ms) (list_all (attempt_agrees_in b.attempts) a.attempts) (same_names_of ns ms names) phases)

pub boots_follow : BootsFollow
boots_follow first second holds services groups =
    boots_agree_by first second
    (boots_alike first second
    (lines_alike first second
    (plans_alike first second (sets_entries first second holds services) (sets_orders first second groups))))

pub no_line_follows : NoLineFollows
no_line_follows first second holds services groups =
    boots_agree_so (boot_of first) (boot_of second)
    ∙ boots_follow first second holds (sym (services_agree_so (services_in first) (services_in second)) ∙ services)
    (sym (groups_agree_so (compared_of first) (compared_of second)) ∙ groups)

pub same_follows : SameFollows
same_follows n m first second holds services groups =
    let a : Compared = compared_of first in
    let b : Compared = compared_of second in
    sets_agree_so n m first second
    (and_of (services_agree a.services b.services) (groups_agree a b && boots_agree a.boot b.boot) services
    (and_of (groups_agree a b) (boots_agree a.boot b.boot) groups (boots_follow first second holds services groups)))

pub own_boot : OwnBoot
own_boot set =
    nil_of (boots_lines (boot_of set) (boot_of set))
    (boots_agree_so (boot_of set) (boot_of set) ∙ boots_agree_by set set refl)

pub own_answer : OwnAnswer
own_answer n m set holds =
    same_follows n m set set holds
    (sym (services_agree_so (services_in set) (services_in set)) ∙ ap is_none (own_services set holds))
    (sym (groups_agree_so (compared_of set) (compared_of set)) ∙ ap is_none (own_groups set))
