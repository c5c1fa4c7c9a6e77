-- What judging keeps of data and values: that they are there, and how many bytes they take.
use Rattle.std.proofs.Common.{◌≡◌, ℕ, zero, suc, ◌+◌, ◌-◌, ◌*◌, ◌≤◌, Bool, true, false, cond, List, [], ◌∷◌, ◌++◌, map, length, length-append, take, Option, Some, None, Ok, refl, sym, ap, subst, ◌∙◌, arith}
use Rattle.std.specs.Prelude.{sum_by, nat_lt, min, is_some, if◌then◌else◌}
use Rattle.std.proofs.lemmas.List.{append-nil, map_push}
use Rattle.std.proofs.lemmas.List.Sums.{sum_by_push}
use Rattle.std.proofs.lemmas.Bool.{le-ltb}
use Rattle.nt_bytes.specs.declared.fault.HiveFaultKind.TheVariants.{FormShort}
use Rattle.nt_bytes.specs.declared.version.HiveVersion.{HiveVersion}
use Rattle.nt_bytes.specs.declared.version.HiveVersion.TheVariants.{V3, V5}
use Rattle.hive_model.specs.Forms.{bytes_in}
use Rattle.hive_model.specs.KeyNode.{KeyNode}
use Rattle.hive_model.specs.KeyValue.{KeyValue, key_value_at, data_inside}
use Rattle.hive_model.specs.Bins.{Cells}
use Rattle.hive_model.specs.Size.{cell, cells_sum, data_sizes, data_size, is_big, segment_part, segment_count, segment_sizes, name_bytes, item_size, items_size}
use Rattle.nt_bytes.specs.Counts.{capped}
use Rattle.nt_bytes.specs.Reading.{◌>>=◌}
use Rattle.hive_model.specs.Tree.{Item}
use Rattle.hive_model.specs.Walk.{reading, use_as, segments_checks, data_checks, value_checks, values_in_turn, values_checks}
use Rattle.hive_model.specs.Stands.{joined_segments, data_or, data_of, item_at, items_at, values_of}
use Rattle.hive_read.specs.Celled.{celled_bytes, celled_checks}
use Rattle.hive_read.specs.Judged.{AddsName, Counts, HasLength, value_list_size}
use Rattle.hive_read.specs.Taken.{Knows}
use Rattle.hive_read.specs.Walked.{Seen, walk}
use Rattle.reg_tree.proofs.Sums.{some_items}
use Rattle.hive_read.proofs.BigWalks.{segments-on, segments-one}
use Rattle.hive_read.proofs.ValueWalks.{item_of, item-stands, values-none, values-on, items-one}
use Rattle.hive_read.proofs.TakenLemmas.{knows-none, knows-more}
use Rattle.hive_read.proofs.FormFacts.{done, ok_same, unless, then-so, not-above, held-short}

-- ---- segments

-- the segments before these hold that many bytes that that many are left
pub record SegmentsSoFar (cells : Cells) (size : ℕ) (offsets : List ℕ) (left : ℕ) (rest : List ℕ)
    (seen start : Seen) : Type 0 where
  pub bytes : List ℕ
  pub told : walk cells seen (segments_checks cells left rest) ≡ walk cells start (segments_checks cells size offsets)
  pub stand : (more : List ℕ) → joined_segments cells left rest ≡ Ok more
      → joined_segments cells size offsets ≡ Ok (bytes ++ more)
  pub long : length bytes + left ≡ size

take-long : (n : ℕ) (xs : List ℕ) → n ≤ length xs → length (take n xs) ≡ n
take-long zero xs h = refl
take-long (suc n) [] h = absurd (omega (arith, h))
take-long (suc n) (x ∷ xs) h = ap suc (take-long n xs (omega (arith, h)))

-- the same number of bytes as were asked for
pub bytes-long : (cells : Cells) (n at : ℕ) (b : List ℕ) → reading (bytes_in n) cells at ≡ done b → length b ≡ n
unfolding bytes_in
bytes-long cells n at b r =
    let p = then-so (cells.payload at) (bytes_in n) b r in
    let t = unless (nat_lt (length p.0) n) FormShort (Ok (take n p.0)) b p.2 in
    ap length (sym (ok_same (take n p.0) b t.1)) ∙ take-long n p.0 (not-above (length p.0) n t.0)

pub segments-next : (cells : Cells) (size : ℕ) (offsets : List ℕ) (left : ℕ) (rest : List ℕ) (seen start after : Seen)
    (at : ℕ) (others part : List ℕ)
    → SegmentsSoFar cells size offsets left rest seen start → rest ≡ at ∷ others
    → walk cells seen (use_as false (bytes_in (segment_part left)) cells at) ≡ Ok after
    → reading (bytes_in (segment_part left)) cells at ≡ Ok part
    → SegmentsSoFar cells size offsets (left - 16344) others after start
segments-next cells size offsets left rest seen start after at others part s o e r =
    let one : length part ≡ min 16344 left = bytes-long cells (segment_part left) at part r in
    record {
      bytes = s.bytes ++ part;
      told = sym (segments-on cells seen after left rest at others o e) ∙ s.told;
      stand = segments-one cells left size rest others offsets at s.bytes part o r s.stand;
      long = omega (arith, one, s.long, length-append s.bytes part);
    }

pub segments-last : (cells : Cells) (size : ℕ) (offsets : List ℕ) (left : ℕ) (rest : List ℕ) (seen start : Seen)
    → SegmentsSoFar cells size offsets left rest seen start → rest ≡ []
    → (walk cells start (segments_checks cells size offsets) ≡ Ok seen)
    × HasLength (joined_segments cells size offsets) (size - left)
segments-last cells size offsets left rest seen start s z = (
  sym s.told ∙ ap (λ r. walk cells seen (segments_checks cells left r)) z,
  (s.bytes, s.stand [] (ap (joined_segments cells left) z) ∙ ap done (append-nil s.bytes), omega (arith, s.long)),
)

-- ---- data

-- up to four bytes have no cell
pub no-cells : (version : HiveVersion) (n : ℕ) → n ≤ 4 → cells_sum (data_sizes version n) ≡ 0
no-cells version n h =
    ap (λ (b : Bool). cells_sum
    (cond b (8 ∷ 4 * segment_count n ∷ segment_sizes (segment_count n) n) (cond (nat_lt 4 n) (n ∷ []) [])))
    (not-big version)
    ∙ ap (λ (b : Bool). cells_sum (cond b (n ∷ []) [])) (le-ltb 4 n h)
  where
    not-big : (v : HiveVersion) → is_big v n ≡ false
    not-big V3 = refl
    not-big V5 = le-ltb 16344 n (omega (arith, h))

-- data that a value holds have no cell
pub held-counts : (version : HiveVersion) (value : KeyValue) (d : List ℕ) → data_inside value ≡ Some d
    → 0 ≡ capped (data_size version d)
held-counts version value d e = let n = no-cells version (length d) (held-short value d e) in omega (arith, n)

-- data that one cell holds
pub celled-one : (cells : Cells) (seen after : Seen) (n at : ℕ) (b : List ℕ) → is_big cells.version n ≡ false
    → walk cells seen (use_as false (bytes_in n) cells at) ≡ Ok after
    → reading (bytes_in n) cells at ≡ Ok b
    → (walk cells seen (celled_checks cells n at) ≡ Ok after) × HasLength (celled_bytes cells n at) n
celled-one cells seen after n at b e w r = (rw e w, (b, rw e r, bytes-long cells n at b r))

-- data that a value holds want no check and have no cell
pub held-here : (cells : Cells) (seen : Seen) (value : KeyValue) → is_some (data_inside value) ≡ true
    → (walk cells seen (data_checks cells value) ≡ Ok seen)
    × Counts (λ (b : List ℕ). data_of cells value ≡ Ok b) (data_size cells.version) 0
unfolding data_checks data_of
held-here cells seen value e = go (data_inside value) refl e
  where
    go : (o : Option (List ℕ)) → data_inside value ≡ o → is_some o ≡ true
        → (walk cells seen (if is_some o then [] else celled_checks cells value.size value.offset) ≡ Ok seen)
        × Counts (λ (b : List ℕ). data_or o (celled_bytes cells value.size value.offset) ≡ Ok b)
        (data_size cells.version) 0
    go (Some d) i e = (refl, record { it = d; means = refl; counted = held-counts cells.version value d i })
    go None i e = absurd cc

-- ---- values

abbrev pub item_name : Item → List ℕ
item_name v = v.name

-- the values before these are there, and known by their names
pub record ValuesSoFar (cells : Cells) (offsets rest : List ℕ) (taken : List (List ℕ)) (total : ℕ)
    (seen start : Seen) : Type 0 where
  pub items : List Item
  pub told : walk cells seen (values_in_turn cells (map item_name items) rest)
      ≡ walk cells start (values_in_turn cells [] offsets)
  pub stand : (more : List Item) → items_at cells rest ≡ Ok more → items_at cells offsets ≡ Ok (items ++ more)
  pub knows : Knows taken (map item_name items)
  pub counted : total ≡ capped (sum_by (item_size cells.version) items)

-- the same of values: none before the first, one more with each, all walked after the last
pub values-first : (cells : Cells) (offsets : List ℕ) (taken : List (List ℕ)) (seen : Seen) → taken ≡ []
    → ValuesSoFar cells offsets offsets taken 0 seen seen
values-first cells offsets taken seen e =
    record { items = []; told = refl; stand = λ more e. e; knows = knows-none taken e; counted = refl }

-- a value is there whose name is added
abbrev pub ValueHere : Cells → ℕ → List (List ℕ) → List (List ℕ) → Item → Type 0
ValueHere cells at old new v = (item_at cells at ≡ Ok v) × AddsName old new v.name

-- a value's own cell and those of its data, counted together
pub value-counts : (cells : Cells) (at : ℕ) (value : KeyValue) (old new : List (List ℕ)) (own held total : ℕ)
    → reading key_value_at cells at ≡ Ok value → AddsName old new value.name
    → own ≡ capped (cell (20 + name_bytes value.name))
    → Counts (λ (b : List ℕ). data_of cells value ≡ Ok b) (data_size cells.version) held
    → total ≡ capped (own + held)
    → Counts (ValueHere cells at old new) (item_size cells.version) total
value-counts cells at value old new own held total r a o c t =
    record {
      it = item_of value c.it;
      means = (item-stands cells at value c.it r c.means, a);
      counted = omega (arith, o, c.counted, t);
    }

pub values-next : (cells : Cells) (offsets rest : List ℕ) (old new : List (List ℕ)) (total one : ℕ)
    (seen start after : Seen) (at : ℕ) (others : List ℕ)
    → (s : ValuesSoFar cells offsets rest old total seen start) → rest ≡ at ∷ others
    → walk cells seen (value_checks cells (map item_name s.items) at) ≡ Ok after
    → Counts (ValueHere cells at old new) (item_size cells.version) one
    → ValuesSoFar cells offsets others new (capped (total + one)) after start
values-next cells offsets rest old new total one seen start after at others s o e v =
    record {
      items = s.items ++ v.it ∷ [];
      told = sym (values-on cells seen after s.items rest at others v.it o e v.means.0) ∙ s.told;
      stand = items-one cells rest others offsets at s.items v.it o v.means.0 s.stand;
      knows =
          subst (λ (ns : List (List ℕ)). Knows new ns) (sym (map_push item_name s.items v.it))
          (knows-more old new (map item_name s.items) v.it.name s.knows v.means.1);
      counted = omega (arith, s.counted, v.counted, sum_by_push (item_size cells.version) s.items v.it);
    }

pub values-last : (cells : Cells) (offsets rest : List ℕ) (taken : List (List ℕ)) (total : ℕ) (seen start : Seen)
    → ValuesSoFar cells offsets rest taken total seen start → rest ≡ []
    → (walk cells start (values_in_turn cells [] offsets) ≡ Ok seen)
    × Counts (λ (vs : List Item). items_at cells offsets ≡ Ok vs) (sum_by (item_size cells.version)) total
values-last cells offsets rest taken total seen start s z = (
  sym s.told ∙ ap (λ r. walk cells seen (values_in_turn cells (map item_name s.items) r)) z,
  record {
    it = s.items;
    means = s.stand [] (ap (items_at cells) z) ∙ ap (λ (vs : List Item). Ok vs) (append-nil s.items);
    counted = s.counted;
  },
)

-- the same number of values as offsets
items-long : (cells : Cells) (offsets : List ℕ) (items : List Item) → items_at cells offsets ≡ done items
    → length items ≡ length offsets
items-long cells [] items r = ap length (sym (ok_same [] items r))
items-long cells (at ∷ rest) items r =
    let one = then-so (item_at cells at) (λ item. items_at cells rest >>= λ others. Ok (item ∷ others)) items r in
    let others = then-so (items_at cells rest) (λ others. Ok (one.0 ∷ others)) items one.2 in
    let tail = items-long cells rest others.0 others.1 in
    ap length (sym (ok_same (one.0 ∷ others.0) items others.2)) ∙ ap suc tail

-- the list and its values
listed-size : (version : HiveVersion) (items : List Item)
    → items_size version items ≡ value_list_size (length items) + sum_by (item_size version) items
listed-size version [] = refl
listed-size version (v ∷ vs) = some_items version (v ∷ vs) (omega arith)

-- a key without values has no list
pub no-values : (cells : Cells) (seen : Seen) (node : KeyNode) → node.value_count ≡ 0
    → (walk cells seen (values_checks cells node) ≡ Ok seen)
    × Counts (λ (vs : List Item). values_of cells node ≡ Ok vs) (items_size cells.version) 0
no-values cells seen node z = let n = values-none cells seen node z in
    (n.0, record { it = []; means = n.1; counted = refl })

-- the list of values and the values, counted together, are a key's values
pub values-counts : (cells : Cells) (node : KeyNode) (offsets : List ℕ) (list one total : ℕ)
    → values_of cells node ≡ items_at cells offsets → list ≡ capped (value_list_size (length offsets))
    → Counts (λ (vs : List Item). items_at cells offsets ≡ Ok vs) (sum_by (item_size cells.version)) one
    → total ≡ capped (list + one)
    → Counts (λ (vs : List Item). values_of cells node ≡ Ok vs) (items_size cells.version) total
values-counts cells node offsets list one total same l c t =
    let many : value_list_size (length c.it) ≡ value_list_size (length offsets) =
    ap value_list_size (items-long cells offsets c.it c.means) in
    record {
      it = c.it;
      means = same ∙ c.means;
      counted = omega (arith, l, t, c.counted, many, listed-size cells.version c.it);
    }
