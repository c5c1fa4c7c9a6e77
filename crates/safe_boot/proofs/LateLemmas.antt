-- What a start on a reduced set starts after its first phase.
use Rattle.std.proofs.Common.{◌≡◌, ℕ, zero, suc, Bool, true, false, cond, not, ◌&&◌, ◌||◌, List, [], ◌∷◌, ◌++◌, length, map, Option, Some, None, refl, sym, ap, ◌∙◌, subst, arith, append_assoc}
use Rattle.std.specs.Prelude.{filter, slice_get, option_map, ◌==◌}
use Rattle.std.specs.Option.{option_map_or}
use Rattle.std.specs.List.{Contains, All, filter_map, cons_option, range_with_len, list_any}
use Rattle.std.proofs.lemmas.Option.{slice_get_within, same_Some}
use Rattle.std.proofs.lemmas.List.{append-nil, append_cancel_left}
use Rattle.std.proofs.lemmas.Bool.Decides.{nat_tests}
use Rattle.nt_bytes.specs.Folding.{folds_same}
use Rattle.hive_model.specs.Tree.{Tree}
use Rattle.reg_tree.proofs.Unlike.{Each, each_all}
use Rattle.start_model.specs.Demand.{Need, starts_at, IsClosed, is_taken, automatic_of}
use Rattle.start_model.specs.Entries.{Entry, Phase, Boot, System, Automatic, Done, entry_of, entries_of, services_of, is_driver, was_tried, is_driver_of, is_open, places_of, need_of, needs_at, taken_of}
use Rattle.start_model.specs.Order.{GroupOrder, Rank, is_before, placed, ordered_of, orders_of, rank_of, tags_count_in, plan_of}
use Rattle.report_words.specs.declared.words.TryWord.TheVariants as tries
use Rattle.report_words.specs.declared.line.Line.{Line}
use Rattle.report_words.specs.declared.line.Line.TheVariants.{Try as TryLine, Unmet as UnmetLine}
use Rattle.start_model.specs.Machine.{phase_after, after_phase}
use Rattle.start_model.specs.Starter.{phase_line}
use Rattle.dependencies.proofs.PulledLemmas.{is_taken-least_of_all}
use Rattle.safe_boot.specs.declared.mode.SafeMode.{SafeMode}
use Rattle.safe_boot.specs.Listed.{listed_names, is_left_out, reduced_of}
use Rattle.safe_boot.specs.Played.{Course, next_entry, tried_at, attempts_of, phase_ended, phase_played, course_begun, start_lines_of}
use Rattle.safe_boot.specs.Laws.{is_key_listed, HasListed, StartsListed, first_phase_of, FirstIsInFront, LateIsListed}
use Rattle.safe_boot.proofs.HeldLemmas.{each_kept}
use Rattle.safe_boot.proofs.ListLemmas.{each_map, each_passes, each_given, each_at, each_append, each_left}
use Rattle.safe_boot.proofs.PlayLemmas.{there}
use Rattle.safe_boot.proofs.SetLemmas.{services_reduced}
use Rattle.std.proofs.lemmas.Bool.{and_parts, or_left, or_right}

-- ---- the entries of a reduced set

further : (t : Tree) (ts : List Tree) (u : Tree) → Contains ts u → Contains (t ∷ ts) u
further t ts u h = (suc h.0, omega (arith, h.1), h.2)

all_in : (ts : List Tree) → Each (Contains ts) ts
all_in [] = tt
all_in (t ∷ ts) = (
  (0, omega arith, refl),
  each_map (Contains ts) (Contains (t ∷ ts)) (λ u f. further t ts u f) ts (all_in ts),
)

each_both : {X : Type 0} (P Q R : X → Type 0) → ((x : X) → P x → Q x → R x) → (xs : List X) → Each P xs → Each Q xs
    → Each R xs
each_both P Q R f [] h k = tt
each_both P Q R f (x ∷ xs) h k = (f x h.0 k.0, each_both P Q R f xs h.1 k.1)

not_so : (b : Bool) → not b ≡ true → b ≡ false
not_so true h = absurd cc
not_so false h = refl

-- the keys of which no entry is read that is out
abbrev kept_by : (Tree → Option Entry) → (Tree → Entry → Bool) → Tree → Bool
kept_by read out t = not (option_map_or (out t) (read t) false)

stay_by : (read : Tree → Option Entry) (out : Tree → Entry → Bool) (keys : List Tree) (P : Entry → Type 0)
    → ((t : Tree) (e : Entry) → Contains keys t → read t ≡ Some e → out t e ≡ false → P e)
    → Each P (filter_map read (filter (kept_by read out) keys))
stay_by read out keys P says =
    each_given read P (filter (kept_by read out) keys)
    (each_both (Contains keys) (λ t. kept_by read out t ≡ true)
    (λ t. (e : Entry) → read t ≡ Some e → P e)
    (λ t c s e h. says t e c h (not_so (out t e) (sym (ap (λ o. not (option_map_or (out t) o false)) h) ∙ s)))
    (filter (kept_by read out) keys)
    (each_kept (Contains keys) (kept_by read out) keys (all_in keys))
    (each_passes (kept_by read out) keys))

-- the entry of a service of the set that is not left out
record Stays (set : Tree) (images : Bool) (names : List (List ℕ)) (e : Entry) : Type 0 where
  service : Tree
  there : Contains (services_of set) service
  read : entry_of service ≡ Some e
  unleft : is_left_out images names service e ≡ false

entries_stay : (set : Tree) (mode : SafeMode) (images : Bool)
    → Each (Stays set images (listed_names set mode)) (entries_of (reduced_of set mode images))
entries_stay set mode images =
    subst (λ ts. Each (Stays set images (listed_names set mode)) (filter_map entry_of ts))
    (sym (services_reduced set mode images))
    (stay_by entry_of (is_left_out images (listed_names set mode)) (services_of set)
    (Stays set images (listed_names set mode))
    (λ t e c h u. record { service = t; there = c; read = h; unleft = u }))

-- ---- what a phase takes

-- it holds of the entry at a place
abbrev At : (Entry → Type 0) → List Entry → ℕ → Type 0
At Q entries p = (e : Entry) → slice_get entries p ≡ Some e → Q e

each_placed : (P : Rank → Type 0) (r : Rank) (rs : List Rank) → P r → Each P rs → Each P (placed r rs)
each_placed P r [] k h = (k, tt)
each_placed P r (s ∷ rs) k h =
    elim (is_before r s) as (λ b. Each P (cond b (r ∷ s ∷ rs) (s ∷ placed r rs)))
    [ true ↦ (k, h) | false ↦ (h.0, each_placed P r rs k h.1) ]

each_ordered : (P : Rank → Type 0) (rs : List Rank) → Each P rs → Each P (ordered_of rs)
each_ordered P [] h = tt
each_ordered P (r ∷ rs) h = each_placed P r (ordered_of rs) h.0 (each_ordered P rs h.1)

place_of : (orders : List GroupOrder) (counts : Bool) (p : ℕ) (o : Option Entry) (r : Rank)
    → option_map (rank_of orders counts p) o ≡ Some r → p ≡ r.place
place_of orders counts p None r h = absurd cc
place_of orders counts p (Some e) r h = ap (λ (o : Option Rank). option_map_or (λ (r : Rank). r.place) o 0) h

planned : (Q : Entry → Type 0) (entries : List Entry) (orders : List GroupOrder) (counts : Bool) (taken : List ℕ)
    → Each (At Q entries) taken
    → Each Q (filter_map (λ (r : Rank). slice_get entries r.place)
    (ordered_of (filter_map (λ p. option_map (rank_of orders counts p) (slice_get entries p)) taken)))
planned Q entries orders counts taken h =
    let ranks : List Rank = filter_map (λ p. option_map (rank_of orders counts p) (slice_get entries p)) taken in
    let each : Each (λ (r : Rank). At Q entries r.place) ranks =
    each_given (λ p. option_map (rank_of orders counts p) (slice_get entries p)) (λ (r : Rank). At Q entries r.place)
    taken
    (each_map (At Q entries) (λ p. (r : Rank) → option_map (rank_of orders counts p) (slice_get entries p) ≡ Some r
    → At Q entries r.place)
    (λ p q r is. subst (At Q entries) (place_of orders counts p (slice_get entries p) r is) q) taken h) in
    each_given (λ (r : Rank). slice_get entries r.place) Q (ordered_of ranks)
    (each_ordered (λ (r : Rank). At Q entries r.place) ranks each)

-- what a phase takes, in its order
plan : Tree → Phase → List (List ℕ) → List Entry
plan set phase tried = plan_of set phase tried

in_plan : (Q : Entry → Type 0) (set : Tree) (phase : Phase) (tried : List (List ℕ))
    → Each (At Q (entries_of set)) (taken_of (entries_of set) phase tried) → Each Q (plan set phase tried)
unfolding plan
in_plan Q set phase tried h =
    planned Q (entries_of set) (orders_of set) (tags_count_in phase) (taken_of (entries_of set) phase tried) h

passes_at : (test : Entry → Bool) (entries : List Entry) (p : ℕ) (e : Entry)
    → option_map_or test (slice_get entries p) false ≡ true → slice_get entries p ≡ Some e → test e ≡ true
passes_at test entries p e h is = sym (ap (λ o. option_map_or test o false) is) ∙ h

-- ---- the drivers of Start 1

one_is_late : (n : ℕ) → (n == 1) ≡ true → (n == 0) ≡ false
one_is_late n h = grind (arith, nat_tests)

system_late : (entries : List Entry) (tried : List (List ℕ))
    → Each (At (λ e. (e.start == 0) ≡ false) entries) (taken_of entries System tried)
system_late entries tried =
    each_map (λ p. option_map_or (is_driver_of 1 tried) (slice_get entries p) false ≡ true)
    (At (λ e. (e.start == 0) ≡ false) entries)
    (λ p h e is.
    let t = passes_at (is_driver_of 1 tried) entries p e h is in
    one_is_late e.start (and_parts (is_driver e.kind) (e.start == 1)
    (and_parts (is_driver e.kind && (e.start == 1)) (not (was_tried tried e)) t).0).1)
    (places_of (is_driver_of 1 tried) entries)
    (each_passes (λ p. option_map_or (is_driver_of 1 tried) (slice_get entries p) false)
    (range_with_len 0 (length entries)))

-- ---- what the automatic phase takes

-- there is an entry at a place
record IsThere (entries : List Entry) (p : ℕ) : Type 0 where
  entry : Entry
  here : slice_get entries p ≡ Some entry

is_there : (test : Entry → Bool) (entries : List Entry) (p : ℕ) (o : Option Entry) → slice_get entries p ≡ o
    → option_map_or test o false ≡ true → IsThere entries p
is_there test entries p None is h = absurd cc
is_there test entries p (Some e) is h = record { entry = e; here = is }

some_same : {X : Type 0} (x y : X) (o : Option X) → o ≡ Some x → o ≡ Some y → x ≡ y
some_same x y o h k = same_Some x y (sym h ∙ k)

need_at : (entries : List Entry) (places : List ℕ) (i p : ℕ) (e : Entry) → Each (IsThere entries) places
    → slice_get places i ≡ Some p → slice_get entries p ≡ Some e
    → slice_get (needs_at entries places) i ≡ Some (need_of e)
need_at entries [] i p e h at is = absurd cc
need_at entries (q ∷ qs) zero p e h at is =
    let same : q ≡ p = some_same q p (Some q) refl at in
    ap (λ o. slice_get (cons_option (option_map need_of o) (needs_at entries qs)) 0) (ap (slice_get entries) same ∙ is)
need_at entries (q ∷ qs) (suc i) p e h at is =
    ap (λ o. slice_get (cons_option (option_map need_of o) (needs_at entries qs)) (suc i)) h.0.here
    ∙ need_at entries qs i p e h.1 at is

late_or : (n : ℕ) → ((n == 2) || (n == 3)) ≡ true → (n == 0) ≡ false
late_or n h = grind (arith, nat_tests)

abbrev automatic_set : List Need → ℕ → Bool
automatic_set table q = starts_at table 2 q || starts_at table 3 q

pulled_start : (a b : Option Need)
    → option_map_or (λ (n : Need). option_map_or
    (λ (m : Need). (m.start == 3) && list_any (folds_same m.name) n.services) b false) a false ≡ true
    → option_map_or (λ (m : Need). m.start == 3) b false ≡ true
pulled_start None b h = absurd cc
pulled_start (Some n) None h = absurd cc
pulled_start (Some n) (Some m) h = (and_parts (m.start == 3) (list_any (folds_same m.name) n.services) h).0

closed : (table : List Need) → IsClosed table (automatic_set table)
closed table = record {
  starts = λ q h. or_left (starts_at table 2 q) (starts_at table 3 q) h;
  pulled = λ p q m h. or_right (starts_at table 2 q) (starts_at table 3 q)
      (pulled_start (slice_get table p) (slice_get table q) h);
}

automatic_late : (entries : List Entry) (tried : List (List ℕ))
    → Each (At (λ e. (e.start == 0) ≡ false) entries) (taken_of entries Automatic tried)
automatic_late entries tried =
    let places : List ℕ = places_of (is_open tried) entries in
    let table : List Need = needs_at entries places in
    let valid : Each (IsThere entries) places =
    each_map (λ p. option_map_or (is_open tried) (slice_get entries p) false ≡ true) (IsThere entries)
    (λ p h. is_there (is_open tried) entries p (slice_get entries p) refl h) places
    (each_passes (λ p. option_map_or (is_open tried) (slice_get entries p) false)
    (range_with_len 0 (length entries))) in
    each_given (slice_get places) (At (λ e. (e.start == 0) ≡ false) entries) (automatic_of table)
    (each_map (λ i. is_taken table i ≡ true)
    (λ i. (p : ℕ) → slice_get places i ≡ Some p → At (λ e. (e.start == 0) ≡ false) entries p)
    (λ i taken p at e is.
    let need : slice_get table i ≡ Some (need_of e) = need_at entries places i p e valid at is in
    let member = is_taken-least_of_all table (automatic_set table) (closed table) i
    (slice_get_within table i (need_of e) need) taken in
    late_or e.start (sym (ap (λ o. option_map_or (λ (n : Need). n.start == 2) o false || option_map_or
    (λ (n : Need). n.start == 3) o false) need) ∙ member))
    (automatic_of table) (each_passes (is_taken table) (range_with_len 0 (length table))))

-- ---- an entry that is taken late is listed

-- the entry of a service of the set that is listed
record IsTaken (set : Tree) (mode : SafeMode) (images : Bool) (e : Entry) : Type 0 where
  service : Tree
  there : Contains (services_of set) service
  read : entry_of service ≡ Some e
  listed : is_key_listed set mode images service e ≡ true

listed_so : (zero among : Bool) → zero ≡ false → (not zero && not among) ≡ false → among ≡ true
listed_so true among z h = absurd cc
listed_so false true z h = refl
listed_so false false z h = absurd cc

late_entries : (set : Tree) (mode : SafeMode) (images : Bool) (entries : List Entry) (taken : List ℕ)
    → Each (Stays set images (listed_names set mode)) entries → Each (At (λ e. (e.start == 0) ≡ false) entries) taken
    → Each (At (IsTaken set mode images) entries) taken
late_entries set mode images entries taken stay late =
    each_map (At (λ e. (e.start == 0) ≡ false) entries) (At (IsTaken set mode images) entries)
    (λ p h e is.
    let s = each_at (Stays set images (listed_names set mode)) entries p e stay is in
    record {
      service = s.service;
      there = s.there;
      read = s.read;
      listed = listed_so (e.start == 0) (is_key_listed set mode images s.service e) (h e is) s.unleft;
    })
    taken late

late_taken : (set r : Tree) (mode : SafeMode) (images : Bool) (phase : Phase) (tried : List (List ℕ))
    → Each (Stays set images (listed_names set mode)) (entries_of r)
    → Each (At (λ e. (e.start == 0) ≡ false) (entries_of r)) (taken_of (entries_of r) phase tried)
    → Each (IsTaken set mode images) (plan r phase tried)
late_taken set r mode images phase tried stay late =
    in_plan (IsTaken set mode images) r phase tried
    (late_entries set mode images (entries_of r) (taken_of (entries_of r) phase tried) stay late)

-- ---- the lines of a course

-- it goes on with lines of which something holds
record Extends (L : Line → Type 0) (c d : Course) : Type 0 where
  more : List Line
  lines : d.lines ≡ c.lines ++ more
  each : Each L more

extends_none : (L : Line → Type 0) (c : Course) → Extends L c c
extends_none L c = record { more = []; lines = sym (append-nil c.lines); each = tt }

extends_then : (L : Line → Type 0) (c d e : Course) → Extends L c d → Extends L d e → Extends L c e
extends_then L c d e a b = record {
  more = a.more ++ b.more;
  lines = b.lines ∙ ap (λ ls. ls ++ b.more) a.lines ∙ append_assoc c.lines a.more b.more;
  each = each_append L a.more b.more a.each b.each;
}

attempts_extend : (L : Line → Type 0) (Q : Entry → Type 0) → ((e : Entry) → Q e → L (TryLine e.name tries.Ok))
    → (n : ℕ) (c : Course) → Each Q c.start.waiting → Extends L c (attempts_of n c)
unfolding attempts_of
attempts_extend L Q says zero c h = extends_none L c
attempts_extend L Q says (suc n) c h = by_next (next_entry c.start) refl (λ d k. attempts_extend L Q says n d k)
  where
    by_next : (o : Option (ℕ × Entry)) → next_entry c.start ≡ o
        → ((d : Course) → Each Q d.start.waiting → Extends L d (attempts_of n d))
        → Extends L c (option_map_or (λ (next : ℕ × Entry). attempts_of n (tried_at c next.0 next.1)) o c)
    by_next None is rest = extends_none L c
    by_next (Some next) is rest =
        let q = each_at Q c.start.waiting next.0 next.1 h (there c.start next.0 next.1 is) in
        extends_then L c (tried_at c next.0 next.1) (attempts_of n (tried_at c next.0 next.1))
        (record { more = TryLine next.1.name tries.Ok ∷ []; lines = refl; each = (says next.1 q, tt) })
        (rest (tried_at c next.0 next.1) (each_left Q c.start.waiting next.0 h))

attempts_phase : (n : ℕ) (c : Course) → (attempts_of n c).start.phase ≡ c.start.phase
unfolding attempts_of
attempts_phase zero c = refl
attempts_phase (suc n) c = by_next (next_entry c.start) (λ d. attempts_phase n d)
  where
    by_next : (o : Option (ℕ × Entry)) → ((d : Course) → (attempts_of n d).start.phase ≡ d.start.phase)
        → (option_map_or (λ (next : ℕ × Entry). attempts_of n (tried_at c next.0 next.1)) o c).start.phase
        ≡ c.start.phase
    by_next None rest = refl
    by_next (Some next) rest = rest (tried_at c next.0 next.1)

unmet_listed : (set : Tree) (mode : SafeMode) (images : Bool) (names : List (List ℕ))
    → Each (StartsListed set mode images) (map UnmetLine names)
unmet_listed set mode images [] = tt
unmet_listed set mode images (n ∷ ns) = (tt, unmet_listed set mode images ns)

phase_listed : (set : Tree) (mode : SafeMode) (images : Bool) (phase : Phase)
    → StartsListed set mode images (phase_line phase)
phase_listed set mode images Boot = tt
phase_listed set mode images System = tt
phase_listed set mode images Automatic = tt
phase_listed set mode images Done = tt

says_listed : (set : Tree) (mode : SafeMode) (images : Bool) (e : Entry) → IsTaken set mode images e
    → HasListed set mode images e.name
says_listed set mode images e t = record {
  service = t.service;
  entry = e;
  there = t.there;
  read = t.read;
  named =
      refl;
  listed = t.listed;
}

-- a phase of listed entries
phase_extends : (set r : Tree) (mode : SafeMode) (images : Bool) (c : Course)
    → Each (IsTaken set mode images) c.start.waiting
    → Extends (StartsListed set mode images) c (phase_played r c)
unfolding phase_played
phase_extends set r mode images c h =
    let d : Course = attempts_of (length c.start.waiting) c in
    extends_then (StartsListed set mode images) c d (phase_ended r d)
    (attempts_extend (StartsListed set mode images) (IsTaken set mode images) (says_listed set mode images)
    (length c.start.waiting) c h)
    (record {
      more = map UnmetLine (map (λ e. e.name) d.start.waiting) ++ phase_line (after_phase r d.start).phase ∷ [];
      lines = append_assoc d.lines (map UnmetLine (map (λ e. e.name) d.start.waiting))
          (phase_line (after_phase r d.start).phase ∷ []);
      each = each_append (StartsListed set mode images) (map UnmetLine (map (λ e. e.name) d.start.waiting))
          (phase_line (after_phase r d.start).phase ∷ [])
          (unmet_listed set mode images (map (λ e. e.name) d.start.waiting))
          (phase_listed set mode images (after_phase r d.start).phase, tt);
    })

played_phase : (r : Tree) (c : Course) → (phase_played r c).start.phase ≡ phase_after c.start.phase
unfolding phase_played
played_phase r c = ap phase_after (attempts_phase (length c.start.waiting) c)

played_waiting : (r : Tree) (c : Course)
    → (phase_played r c).start.waiting
    ≡ plan r (phase_after c.start.phase) (attempts_of (length c.start.waiting) c).start.tried
unfolding phase_played plan
played_waiting r c = ap (λ phase. plan_of r (phase_after phase) (attempts_of (length c.start.waiting) c).start.tried)
    (attempts_phase (length c.start.waiting) c)

-- the lines after the first phase
late_lines : (set r : Tree) (mode : SafeMode) (images : Bool) (c : Course)
    → Each (Stays set images (listed_names set mode)) (entries_of r)
    → c.start.phase ≡ Boot
    → Extends (StartsListed set mode images) (phase_played r c) (phase_played r (phase_played r (phase_played r c)))
late_lines set r mode images c stay boot =
    let one : Course = phase_played r c in
    let two : Course = phase_played r one in
    let before : List (List ℕ) = (attempts_of (length c.start.waiting) c).start.tried in
    let tried : List (List ℕ) = (attempts_of (length one.start.waiting) one).start.tried in
    let started : one.start.phase ≡ System = played_phase r c ∙ ap phase_after boot in
    let system : Each (IsTaken set mode images) one.start.waiting =
    subst (Each (IsTaken set mode images)) (sym (played_waiting r c
    ∙ ap (λ phase. plan r (phase_after phase) before) boot))
    (late_taken set r mode images System before stay (system_late (entries_of r) before)) in
    let automatic : Each (IsTaken set mode images) two.start.waiting =
    subst (Each (IsTaken set mode images))
    (sym (played_waiting r one ∙ ap (λ phase. plan r (phase_after phase) tried) started))
    (late_taken set r mode images Automatic tried stay (automatic_late (entries_of r) tried)) in
    extends_then (StartsListed set mode images) one two (phase_played r two)
    (phase_extends set r mode images one system)
    (phase_extends set r mode images two automatic)

behind_first : (set : Tree) (mode : SafeMode) (images : Bool) (one whole : Course) (later : List Line)
    → Extends (StartsListed set mode images) one whole → whole.lines ≡ one.lines ++ later
    → All (StartsListed set mode images) later
behind_first set mode images one whole later more is =
    each_all (StartsListed set mode images) later
    (subst (Each (StartsListed set mode images)) (append_cancel_left one.lines more.more later (sym more.lines ∙ is))
    more.each)

begins : (r : Tree) → (course_begun r).start.phase ≡ Boot
unfolding course_begun
begins r = refl

late_of : (set r : Tree) (mode : SafeMode) (images : Bool) (later : List Line)
    → Each (Stays set images (listed_names set mode)) (entries_of r)
    → start_lines_of r ≡ first_phase_of r ++ later → All (StartsListed set mode images) later
late_of set r mode images later stay is =
    behind_first set mode images (phase_played r (course_begun r))
    (phase_played r (phase_played r (phase_played r (course_begun r)))) later
    (late_lines set r mode images (course_begun r) stay (begins r)) is

pub first_in_front : FirstIsInFront
first_in_front set mode images =
    let r : Tree = reduced_of set mode images in
    let behind = late_lines set r mode images (course_begun r) (entries_stay set mode images) (begins r) in
    (behind.more, behind.lines)

pub late_is_listed : LateIsListed
late_is_listed set mode images later is = late_of set (reduced_of set mode images) mode images later
    (entries_stay set mode images) is
