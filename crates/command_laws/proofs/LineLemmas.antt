-- The lines that tell of those that were started.
use Rattle.std.proofs.Common.{◌≡◌, ℕ, zero, suc, List, [], ◌∷◌, ◌++◌, length, map, Option, Some, None, refl, sym, ap, ◌∙◌, append_assoc}
use Rattle.std.specs.Prelude.{slice_get, remove, option_and_then}
use Rattle.std.specs.Option.{option_map, option_map_or}
use Rattle.std.specs.List.{filter_map}
use Rattle.std.proofs.lemmas.List.{append-nil, map-append}
use Rattle.std.proofs.lemmas.List.Elements.{filter_map-append}
use Rattle.std.proofs.lemmas.Option.{same_Some}
use Rattle.nt_bytes.specs.Folding.{folded}
use Rattle.hive_model.specs.Tree.{Tree}
use Rattle.start_model.specs.Entries.{Entry, Phase, Boot, System, Automatic, Done, need_of}
use Rattle.report_words.specs.declared.words.TryWord.TheVariants as tries
use Rattle.report_words.specs.declared.line.Line.{Line}
use Rattle.report_words.specs.declared.line.Line.TheVariants.{Try as TryLine, Unmet as UnmetLine}
use Rattle.start_model.specs.Machine.{label_of, next_in, unmet_in, phase_after}
use Rattle.start_model.specs.Order.{plan_of}
use Rattle.start_model.specs.Ready.{Label}
use Rattle.start_model.specs.Starter.{phase_line}
use Rattle.safe_boot.specs.Played.{Course, at_place, waiting_at, tried_at, attempts_of, phase_played, course_begun, start_lines_of}
use Rattle.check_laws.proofs.TurnLemmas.{Ran, none_ran, with_new, run}
use Rattle.check_laws.proofs.StartLemmas.{phase_run, played, IsTold}

-- the name of an entry that a line says to be started
abbrev pub started_name : Line → Option (List ℕ)
started_name (TryLine name tries.Ok) = Some name
started_name line = None

abbrev try_line : Entry → Line
try_line e = TryLine e.name tries.Ok

abbrev pub name_of : Entry → List ℕ
name_of e = e.name

-- ---- the attempts of a phase

abbrev Says : ℕ → Type 0
Says n = (c : Course) → (attempts_of n c).lines ≡ c.lines ++ map try_line (run need_of n c.start.started c.start.waiting).new

abbrev one_run : ℕ → Course → ℕ → Option Entry → Ran Entry
one_run n c k o =
    option_map_or (λ e. with_new e (run need_of n (c.start.started ++ label_of e ∷ []) (remove c.start.waiting k))) o
    (none_ran c.start.waiting)

says_entry : (n : ℕ) → Says n → (c : Course) (k : ℕ) (o : Option Entry)
    → (option_map_or (λ (next : ℕ × Entry). attempts_of n (tried_at c next.0 next.1)) (option_map (at_place k) o) c).lines
    ≡ c.lines ++ map try_line (one_run n c k o).new
says_entry n rest c k None = sym (append-nil c.lines)
says_entry n rest c k (Some e) =
    rest (tried_at c k e)
    ∙ append_assoc c.lines (try_line e ∷ [])
    (map try_line (run need_of n (c.start.started ++ label_of e ∷ []) (remove c.start.waiting k)).new)

says_next : (n : ℕ) → Says n → (c : Course) (o : Option ℕ)
    → (option_map_or (λ (next : ℕ × Entry). attempts_of n (tried_at c next.0 next.1)) (option_and_then (waiting_at c.start) o) c).lines
    ≡ c.lines ++ map try_line (option_map_or (λ k. one_run n c k (slice_get c.start.waiting k)) o (none_ran c.start.waiting)).new
says_next n rest c None = sym (append-nil c.lines)
says_next n rest c (Some k) = says_entry n rest c k (slice_get c.start.waiting k)

says_all : (n : ℕ) → Says n
unfolding run attempts_of
says_all zero c = sym (append-nil c.lines)
says_all (suc n) c = says_next n (says_all n) c (next_in c.start)

-- ---- a phase to its end

tries_tell : (es : List Entry) → filter_map started_name (map try_line es) ≡ map name_of es
tries_tell [] = refl
tries_tell (e ∷ es) = ap (λ (l : List (List ℕ)). e.name ∷ l) (tries_tell es)

unmet_none : (ns : List (List ℕ)) → filter_map started_name (map UnmetLine ns) ≡ []
unmet_none [] = refl
unmet_none (n ∷ ns) = unmet_none ns

phase_none : (p : Phase) → filter_map started_name (phase_line p ∷ []) ≡ []
phase_none Boot = refl
phase_none System = refl
phase_none Automatic = refl
phase_none Done = refl

abbrev names_said : Course → List (List ℕ)
names_said c = filter_map started_name c.lines

phase_says : (set : Tree) (c : Course) → names_said (phase_played set c) ≡ names_said c ++ map name_of (phase_run c.start).new
unfolding phase_played
phase_says set c =
    let d : Course = attempts_of (length c.start.waiting) c in
    filter_map-append started_name (d.lines ++ map UnmetLine (unmet_in d.start)) (phase_line (phase_after d.start.phase) ∷ [])
    ∙ (λ j. filter_map-append started_name d.lines (map UnmetLine (unmet_in d.start)) j ++ phase_none (phase_after d.start.phase) j)
    ∙ append-nil (names_said d ++ filter_map started_name (map UnmetLine (unmet_in d.start)))
    ∙ ap (λ (l : List (List ℕ)). names_said d ++ l) (unmet_none (unmet_in d.start))
    ∙ append-nil (names_said d)
    ∙ ap (filter_map started_name) (says_all (length c.start.waiting) c)
    ∙ filter_map-append started_name c.lines (map try_line (phase_run c.start).new)
    ∙ ap (λ (l : List (List ℕ)). names_said c ++ l) (tries_tell (phase_run c.start).new)

-- ---- the three phases

abbrev second_run : Tree → Ran Entry → Ran Entry
second_run set a =
    let plan : List Entry = plan_of set System (map (λ (e : Entry). folded e.name) a.new) in
    run need_of (length plan) (map label_of a.new) plan

abbrev third_run : Tree → Ran Entry → Ran Entry → Ran Entry
third_run set a b =
    let plan : List Entry = plan_of set Automatic (map (λ (e : Entry). folded e.name) a.new ++ map (λ (e : Entry). folded e.name) b.new) in
    run need_of (length plan) (map label_of a.new ++ map label_of b.new) plan

-- all that start
abbrev pub all_new : Ran Entry → Ran Entry → Ran Entry → List Entry
all_new a b d = (a.new ++ b.new) ++ d.new

pub map_three : {Y : Type 0} (f : Entry → Y) (a b d : Ran Entry)
    → (map f a.new ++ map f b.new) ++ map f d.new ≡ map f (all_new a b d)
map_three {Y} f a b d =
    sym (map-append f (a.new ++ b.new) d.new ∙ ap (λ (l : List Y). l ++ map f d.new) (map-append f a.new b.new))

-- the names that a start says to be started are those of all that start
pub names_told : (set : Tree) (a b d : Ran Entry) → IsTold set a b d
    → filter_map started_name (start_lines_of set) ≡ map name_of (all_new a b d)
unfolding course_begun
names_told set a b d told =
    let c0 : Course = course_begun set in
    let c1 : Course = phase_played set c0 in
    let c2 : Course = phase_played set c1 in
    let p0 = played set c0 in
    let p1 = played set c1 in
    let first : phase_run c0.start ≡ a = sym told.first in
    let second : phase_run c1.start ≡ b =
    (λ j. run need_of (length (p0.waiting j)) (p0.started j) (p0.waiting j)) ∙ ap (second_run set) first ∙ sym told.second in
    let waiting : c2.start.waiting
    ≡ plan_of set Automatic (map (λ (e : Entry). folded e.name) (phase_run c0.start).new
    ++ map (λ (e : Entry). folded e.name) (phase_run c1.start).new) =
    p1.waiting
    ∙ (λ j. plan_of set (phase_after (p0.phase j)) (p0.tried j ++ map (λ (e : Entry). folded e.name) (phase_run c1.start).new)) in
    let started : c2.start.started ≡ map label_of (phase_run c0.start).new ++ map label_of (phase_run c1.start).new =
    p1.started ∙ ap (λ (l : List Label). l ++ map label_of (phase_run c1.start).new) p0.started in
    let third : phase_run c2.start ≡ d =
    (λ j. run need_of (length (waiting j)) (started j) (waiting j)) ∙ (λ j. third_run set (first j) (second j)) ∙ sym told.third in
    phase_says set c2
    ∙ ap (λ (l : List (List ℕ)). l ++ map name_of (phase_run c2.start).new)
    (phase_says set c1 ∙ ap (λ (l : List (List ℕ)). l ++ map name_of (phase_run c1.start).new) (phase_says set c0))
    ∙ (λ j. (map name_of (first j).new ++ map name_of (second j).new) ++ map name_of (third j).new)
    ∙ map_three name_of a b d

pub started_line : (l : Line) (name : List ℕ) → started_name l ≡ Some name → l ≡ TryLine name tries.Ok
started_line (TryLine other tries.Ok) name h = ap (λ (n : List ℕ). TryLine n tries.Ok) (same_Some other name h)
started_line l name h = absurd cc
