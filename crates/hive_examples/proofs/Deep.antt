-- The first fault of checks whose uses are of cells further and further on, so that none is shared.
use Rattle.std.specs.Prelude.{nat_lt, if◌then◌else◌}
use Rattle.std.specs.List.{list_any}
use Rattle.std.proofs.Common.{◌≡◌, ◌<◌, ◌≤◌, ◌+◌, ◌&&◌, ◌||◌, not, ℕ, Bool, true, false, List, [], ◌∷◌, ◌++◌, Option, Some, None, Result, Ok, Err, refl, ◌∙◌, ap, arith}
use Rattle.std.proofs.lemmas.Bool.{ne_eqb, ltb-false}
use Rattle.std.proofs.lemmas.List.Folds.{list_any-append}
use Rattle.nt_bytes.specs.declared.version.HiveVersion.{HiveVersion}
use Rattle.nt_bytes.specs.declared.fault.HiveFault.{HiveFault}
use Rattle.nt_bytes.specs.declared.fault.HiveFaultKind.{HiveFaultKind}
use Rattle.nt_bytes.specs.declared.fault.HiveFaultKind.TheVariants.{Shared, TooDeep}
use Rattle.hive_model.specs.Base.{fault_at}
use Rattle.hive_model.specs.Bins.{Cells, or_else}
use Rattle.hive_model.specs.StoredNames.{key_name_at}
use Rattle.hive_model.specs.KeyNode.{key_node_at, key_node_text}
use Rattle.hive_model.specs.Lists.{list_of, list_at, li_text}
use Rattle.hive_model.specs.Walk.{Check, uses, tests, found, at_place, failing, clash, first_among, first_fault, node_at, entries_at, class_checks, security_checks, values_checks, entries_checks, children_checks, key_checks, all_checks}
use Rattle.hive_examples.specs.SmallCells.{endless}
use Rattle.std.proofs.Math.Bool.{or-false}

-- the first fault where each use is of a cell at the bound or further; none where one is not
abbrev rising : Cells → ℕ → List Check → Option HiveFault
rising cells bound [] = None
rising cells bound (tests at None ∷ cs) = rising cells bound cs
rising cells bound (tests at (Some kind) ∷ cs) = Some (record { kind = kind; at = at })
rising cells bound (uses at security ∷ cs) =
    if nat_lt at bound then None else or_else (at_place at (found (cells.payload at))) (rising cells (at + 1) cs)

-- no use before is of a cell at the bound or further
abbrev IsFresh : ℕ → List Check → Type 0
IsFresh bound before = (at : ℕ) (security : Bool) → bound ≤ at → list_any (clash at security) before ≡ false

one_more : (bound : ℕ) (before : List Check) (c : Check) → IsFresh bound before
    → ((at : ℕ) (security : Bool) → bound ≤ at → clash at security c ≡ false) → IsFresh bound (before ++ c ∷ [])
one_more bound before c fresh not_this at security far =
    list_any-append (clash at security) before (c ∷ [])
    ∙ ap (λ b. b || (clash at security c || false)) (fresh at security far)
    ∙ or-false (clash at security c) ∙ not_this at security far

used_behind : (q at : ℕ) (security kept : Bool) → at < q → clash q security (uses at kept) ≡ false
used_behind q at security kept less = ap (λ b. b && not (security && kept)) (ne_eqb q at (λ e. omega arith))

-- one use of a cell: without a fault of its own, and not shared, the next fault decides
turn : (b : Bool) (p : Result (List ℕ) HiveFaultKind) (shared : Bool) (next rest : Option HiveFault) (at : ℕ)
    (f : HiveFault) → (if b then None else or_else (at_place at (found p)) next) ≡ Some f → (b ≡ false → shared ≡ false)
    → (b ≡ false → next ≡ Some f → rest ≡ Some f)
    → or_else (or_else (at_place at (found p)) (at_place at (failing shared Shared))) rest ≡ Some f
turn true p shared next rest at f e fresh more = absurd cc
turn false (Err kind) shared next rest at f e fresh more = e
turn false (Ok x) shared next rest at f e fresh more =
    ap (λ d. or_else (at_place at (failing d Shared)) rest) (fresh refl) ∙ more refl e

-- where cells come further and further on, the first fault is that of this shorter walk
rising_first : (cells : Cells) (bound : ℕ) (before cs : List Check) (f : HiveFault) → IsFresh bound before
    → rising cells bound cs ≡ Some f → first_among cells before cs ≡ Some f
rising_first cells bound before [] f fresh e = absurd cc
rising_first cells bound before (tests at None ∷ cs) f fresh e =
    rising_first cells bound (before ++ tests at None ∷ []) cs f
    (one_more bound before (tests at None) fresh (λ q s far. refl)) e
rising_first cells bound before (tests at (Some kind) ∷ cs) f fresh e = e
rising_first cells bound before (uses at s ∷ cs) f fresh e =
    turn (nat_lt at bound) (cells.payload at) (list_any (clash at s) before) (rising cells (at + 1) cs)
    (first_among cells (before ++ uses at s ∷ []) cs) at f e
    (λ far. fresh at s (ltb-false at bound far))
    (λ far rest. let low : bound ≤ at = ltb-false at bound far in
    rising_first cells (at + 1) (before ++ uses at s ∷ []) cs f
    (one_more (at + 1) before (uses at s) (λ q t further. fresh q t (omega arith))
    (λ q t further. used_behind q at t s (omega arith))) rest)

-- in keys without end, each further on, the walk ends at the level that is one too many
too_deep : (version : HiveVersion)
    → rising (endless version) 0 (all_checks (endless version) 0) ≡ Some (fault_at TooDeep 8192)
unfolding key_name_at key_node_at key_node_text list_of list_at li_text node_at entries_at class_checks security_checks
    values_checks entries_checks children_checks key_checks all_checks endless
too_deep version = refl

pub keys_end : (version : HiveVersion) → first_fault (endless version) 0 ≡ Some (fault_at TooDeep 8192)
keys_end version = rising_first (endless version) 0 [] (all_checks (endless version) 0) (fault_at TooDeep 8192)
    (λ at security far. refl) (too_deep version)
