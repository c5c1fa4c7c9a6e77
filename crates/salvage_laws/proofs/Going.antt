-- The parts of a tree: salvage goes through them as the checks of a load do, up to the first fault.
use Rattle.std.proofs.Common.{◌≡◌, ℕ, ◌+◌, ◌-◌, Bool, true, false, cond, List, [], ◌∷◌, ◌++◌, Option, Some, None, Result, Ok, Err, refl, sym, ap, subst, ◌∙◌, append_assoc, append-nil}
use Rattle.std.specs.Prelude.{◌==◌, is_some, MatchBool}
use Rattle.std.proofs.lemmas.List.{map_push}
use Rattle.nt_bytes.specs.declared.fault.HiveFault.{HiveFault}
use Rattle.nt_bytes.specs.declared.fault.HiveFaultKind.{HiveFaultKind}
use Rattle.nt_bytes.specs.declared.fault.HiveFaultKind.TheVariants.{FormShort}
use Rattle.nt_bytes.specs.Reading.{◌>>=◌}
use Rattle.hive_model.specs.Base.{fault_at}
use Rattle.hive_model.specs.Bins.{Cells, with_place}
use Rattle.hive_model.specs.BigData.{BigData}
use Rattle.hive_model.specs.Forms.{bytes_in}
use Rattle.hive_model.specs.KeyNode.{KeyNode}
use Rattle.hive_model.specs.KeyValue.{KeyValue, key_value_at, data_inside}
use Rattle.hive_model.specs.Lists.{offsets_in}
use Rattle.hive_model.specs.Security.{SecurityCell, security_at}
use Rattle.hive_model.specs.Size.{segment_bytes, is_big, segment_part}
use Rattle.hive_model.specs.Tree.{Item}
use Rattle.hive_model.specs.Walk.{Check, reading, nowhere, below_of, use_as, names_of, big_data_of, class_checks, security_checks, segments_checks, big_checks, data_checks, value_checks, values_in_turn, values_checks}
use Rattle.hive_model.specs.Stands.{class_of, security_of, data_or, joined_segments, big_bytes_at, data_of, item_at, items_at, values_of}
use Rattle.hive_read.specs.Walked.{Seen, walk}
use Rattle.hive_read.proofs.Walks.{walk-append, walk-off, walk-below}
use Rattle.hive_read.proofs.ValueWalks.{item-stands, item-named}
use Rattle.salvage_bins.specs.Ground.{Ground}
use Rattle.salvage_walk.specs.declared.claims.Claim.{Claim}
use Rattle.salvage_walk.specs.declared.lines.WalkLine.{WalkLine}
use Rattle.salvage_walk.specs.declared.lines.KeyPart.TheVariants as parts
use Rattle.salvage_walk.specs.Parts.{part, value_form, value_long, security_long, bytes_long, big_long, offsets_long}
use Rattle.salvage_walk.specs.Fronts.{Front, front_part, values_front}
use Rattle.salvage_walk.specs.Values.{bytes_part, segments_part, big_part, celled_part, data_where, data_part, item_of, value_part}
use Rattle.salvage_walk.specs.Walked.{Walked, say, using}
use Rattle.salvage_walk.specs.Steps.{part_line, class_done, class_step, security_done, security_step, value_line, item_names, value_done, value_next, values_next, values_done, said_short, values_step}
use Rattle.salvage_laws.specs.Told.{line_fault}
use Rattle.salvage_laws.proofs.PartViews.{done}
use Rattle.salvage_laws.proofs.Grows.{Follows, values-follow}
use Rattle.salvage_laws.proofs.Alike.{NoneLoose, Same, Alike, part-alike, named_checks, with_name, NamedAlike, named-alike, values-whole, FrontAlike, front-alike}

-- ---- how a step goes

-- the first line has this fault
abbrev pub Begins : HiveFault → List WalkLine → Type 0
Begins fault [] = ⊥
Begins fault (line ∷ more) = line_fault line ≡ Some fault

pub begins-more : (fault : HiveFault) (w v : Walked) → Begins fault w.lines → Follows w v → Begins fault v.lines
begins-more fault w v b f = subst (Begins fault) (sym f.said) (go w.lines b)
  where
    go : (ls : List WalkLine) → Begins fault ls → Begins fault (ls ++ f.lines)
    go [] b = absurd b
    go (l ∷ ls) b = b

-- a line where there was none
pub begins-first : (fault : HiveFault) (w : Walked) (line : WalkLine) → w.lines ≡ [] → line_fault line ≡ Some fault
    → Begins fault (say w line).lines
begins-first fault w line e b = subst (λ (ls : List WalkLine). Begins fault (ls ++ line ∷ [])) (sym e) b

-- the step said nothing and used what the checks used, or said their fault
abbrev pub Goes : {X : Type 0} → (X → Type 0) → Result Seen HiveFault → X × Walked → Type 0
Goes Means (Ok seen) r = (r.1.lines ≡ []) × Same r.1.claims seen × Means r.0
Goes Means (Err fault) r = Begins fault r.1.lines

pub goes-then : {X Y : Type 0} (M : X → Type 0) (N : Y → Type 0) (cells : Cells) (seen : Seen) (a b : List Check) (x : X × Walked)
    (y : Y × Walked) → Goes M (walk cells seen a) x → Follows x.1 y.1
    → ((after : Seen) → x.1.lines ≡ [] → Same x.1.claims after → M x.0 → Goes N (walk cells after b) y)
    → Goes N (walk cells seen (a ++ b)) y
goes-then {X} {Y} M N cells seen a b x y g f h =
    subst (λ (r : Result Seen HiveFault). Goes N r y) (sym (walk-append cells seen a b)) (by (walk cells seen a) g)
  where
    by : (r : Result Seen HiveFault) → Goes M r x → Goes N (r >>= λ after. walk cells after b) y
    by (Ok after) g = h after g.0 g.1 g.2
    by (Err fault) g = begins-more fault x.1 y.1 g f

pub goes-as : {X Y : Type 0} (M : X → Type 0) (N : Y → Type 0) (o : Result Seen HiveFault) (x : X × Walked) (y : Y) → (M x.0 → N y)
    → Goes M o x → Goes N o (y, x.1)
goes-as M N (Ok seen) x y h g = (g.0, g.1, h g.2)
goes-as M N (Err fault) x y h g = g

pub goes-map : {X : Type 0} (M N : X → Type 0) (o : Result Seen HiveFault) (x : X × Walked) → (M x.0 → N x.0) → Goes M o x → Goes N o x
goes-map M N (Ok seen) x h g = (g.0, g.1, h g.2)
goes-map M N (Err fault) x h g = g

-- ---- parts of several cells

abbrev pub PlacedAlike : {F : Type 0} → (F → Type 0) → Result Seen HiveFault → Result (F × List Claim) HiveFault → Type 0
PlacedAlike Means outcome (Ok r) = (after : Seen) × (outcome ≡ Ok after) × Same r.1 after × Means r.0
PlacedAlike Means outcome (Err fault) = outcome ≡ Err fault

place-alike : {F : Type 0} (security : Bool) (form : List ℕ → Result F HiveFaultKind) (cells : Cells) (seen : Seen) (at : ℕ)
    (r : Result (F × List Claim) HiveFaultKind) → Alike security form cells seen at r
    → PlacedAlike (λ f. reading form cells at ≡ Ok f) (walk cells seen (use_as security form cells at)) (with_place at r)
place-alike security form cells seen at (Ok r) a = a
place-alike security form cells seen at (Err k) a = a

alike-map : {F : Type 0} (M N : F → Type 0) (o : Result Seen HiveFault) (r : Result (F × List Claim) HiveFault) → ((f : F) → M f → N f)
    → PlacedAlike M o r → PlacedAlike N o r
alike-map M N o (Ok r) h a = (a.0, a.1, a.2, h r.0 a.3)
alike-map M N o (Err f) h a = a

then-alike : {F G : Type 0} (M : F → Type 0) (N : G → Type 0) (cells : Cells) (seen : Seen) (a b : List Check)
    (r : Result (F × List Claim) HiveFault) (f : F × List Claim → Result (G × List Claim) HiveFault)
    → PlacedAlike M (walk cells seen a) r
    → ((x : F × List Claim) (after : Seen) → Same x.1 after → M x.0 → PlacedAlike N (walk cells after b) (f x))
    → PlacedAlike N (walk cells seen (a ++ b)) (r >>= f)
then-alike {F} {G} M N cells seen a b r f p h =
    subst (λ (o : Result Seen HiveFault). PlacedAlike N o (r >>= f)) (sym (walk-append cells seen a b)) (by r p)
  where
    by : (r : Result (F × List Claim) HiveFault) → PlacedAlike M (walk cells seen a) r
        → PlacedAlike N (walk cells seen a >>= λ after. walk cells after b) (r >>= f)
    by (Ok x) p =
        subst (λ (o : Result Seen HiveFault). PlacedAlike N (o >>= λ after. walk cells after b) (f x)) (sym p.1) (h x p.0 p.2 p.3)
    by (Err e) p = ap (λ o. o >>= λ after. walk cells after b) p

module _ (hive : Ground) (none : NoneLoose hive) where
  abbrev cells : Cells
  cells = hive.cells

  bytes-alike : (n : ℕ) (claims : List Claim) (at : ℕ) (seen : Seen) → Same claims seen
      → PlacedAlike (λ b. reading (bytes_in n) cells at ≡ Ok b) (walk cells seen (use_as false (bytes_in n) cells at))
      (bytes_part n hive claims at)
  unfolding bytes_part
  bytes-alike n claims at seen same =
      place-alike false (bytes_in n) cells seen at (part (bytes_in n) bytes_long false hive claims at)
      (part-alike (bytes_in n) bytes_long false hive claims at seen none same)

  abbrev Joined : ℕ → List ℕ → List ℕ → List ℕ → Type 0
  Joined n offsets bytes all = (part : List ℕ) × (all ≡ bytes ++ part) × (joined_segments cells n offsets ≡ Ok part)

  segments-alike : (bytes : List ℕ) (n : ℕ) (offsets : List ℕ) (claims : List Claim) (seen : Seen) → Same claims seen
      → PlacedAlike (Joined n offsets bytes) (walk cells seen (segments_checks cells n offsets)) (segments_part hive bytes n offsets claims)
  unfolding segments_part
  segments-alike bytes n [] claims seen same = (seen, refl, same, ([], sym (append-nil bytes), refl))
  segments-alike bytes n (at ∷ more) claims seen same =
      then-alike (λ b. reading (bytes_in (segment_part n)) cells at ≡ Ok b) (Joined n (at ∷ more) bytes) cells seen
      (use_as false (bytes_in (segment_part n)) cells at) (segments_checks cells (n - segment_bytes) more)
      (bytes_part (segment_part n) hive claims at) (λ s. segments_part hive (bytes ++ s.0) (n - segment_bytes) more s.1)
      (bytes-alike (segment_part n) claims at seen same)
      (λ x after s m. alike-map (Joined (n - segment_bytes) more (bytes ++ x.0)) (Joined n (at ∷ more) bytes)
      (walk cells after (segments_checks cells (n - segment_bytes) more)) (segments_part hive (bytes ++ x.0) (n - segment_bytes) more x.1)
      (λ all j. (x.0 ++ j.0, j.1 ∙ append_assoc bytes x.0 j.0, both at n more x.0 j.0 m j.2))
      (segments-alike (bytes ++ x.0) (n - segment_bytes) more x.1 after s))
    where
      both : (at n : ℕ) (more part others : List ℕ) → reading (bytes_in (segment_part n)) cells at ≡ Ok part
          → joined_segments cells (n - segment_bytes) more ≡ Ok others → joined_segments cells n (at ∷ more) ≡ Ok (part ++ others)
      both at n more part others r s = rw (r, s) refl

  abbrev listed : ℕ → BigData → List Check
  listed n big =
      use_as false (offsets_in big.segments) cells big.list
      ++ below_of (reading (offsets_in big.segments) cells big.list) (segments_checks cells n)

  big-alike : (n : ℕ) (claims : List Claim) (at : ℕ) (seen : Seen) → Same claims seen
      → PlacedAlike (λ b. big_bytes_at cells n at ≡ Ok b) (walk cells seen (big_checks cells n at)) (big_part n hive claims at)
  unfolding big_part big_checks big_bytes_at
  big-alike n claims at seen same =
      then-alike (λ big. reading (big_data_of n) cells at ≡ Ok big) (λ b. big_bytes_at cells n at ≡ Ok b) cells seen
      (use_as false (big_data_of n) cells at) (below_of (reading (big_data_of n) cells at) (listed n))
      (with_place at (part (big_data_of n) big_long false hive claims at))
      (λ big. with_place big.0.list (part (offsets_in big.0.segments) offsets_long false hive big.1 big.0.list) >>= λ list.
      segments_part hive [] n list.0 list.1)
      (place-alike false (big_data_of n) cells seen at (part (big_data_of n) big_long false hive claims at)
      (part-alike (big_data_of n) big_long false hive claims at seen none same))
      (λ big after s m. subst (λ (q : Result BigData HiveFaultKind). PlacedAlike (λ b. big_bytes_at cells n at ≡ Ok b)
      (walk cells after (below_of q (listed n)))
      (with_place big.0.list (part (offsets_in big.0.segments) offsets_long false hive big.1 big.0.list) >>= λ list.
      segments_part hive [] n list.0 list.1)) (sym m)
      (then-alike (λ os. reading (offsets_in big.0.segments) cells big.0.list ≡ Ok os) (λ b. big_bytes_at cells n at ≡ Ok b) cells after
      (use_as false (offsets_in big.0.segments) cells big.0.list)
      (below_of (reading (offsets_in big.0.segments) cells big.0.list) (segments_checks cells n))
      (with_place big.0.list (part (offsets_in big.0.segments) offsets_long false hive big.1 big.0.list))
      (λ list. segments_part hive [] n list.0 list.1)
      (place-alike false (offsets_in big.0.segments) cells after big.0.list
      (part (offsets_in big.0.segments) offsets_long false hive big.1 big.0.list)
      (part-alike (offsets_in big.0.segments) offsets_long false hive big.1 big.0.list after none s))
      (λ list next t o. subst (λ (q : Result (List ℕ) HiveFaultKind). PlacedAlike (λ b. big_bytes_at cells n at ≡ Ok b)
      (walk cells next (below_of q (segments_checks cells n))) (segments_part hive [] n list.0 list.1)) (sym o)
      (alike-map (Joined n list.0 []) (λ b. big_bytes_at cells n at ≡ Ok b) (walk cells next (segments_checks cells n list.0))
      (segments_part hive [] n list.0 list.1)
      (λ all j. ends big.0 list.0 all j.0 m o j.1 j.2) (segments-alike [] n list.0 list.1 next t)))))
    where
      ends : (big : BigData) (offsets all part : List ℕ) → reading (big_data_of n) cells at ≡ Ok big
          → reading (offsets_in big.segments) cells big.list ≡ Ok offsets → all ≡ [] ++ part
          → joined_segments cells n offsets ≡ Ok part
          → (reading (big_data_of n) cells at >>= λ big. reading (offsets_in big.segments) cells big.list >>= joined_segments cells n)
          ≡ Ok all
      ends big offsets all part m o e j = rw (m, o, j) (ap done (sym e))

  celled-alike : (n : ℕ) (claims : List Claim) (at : ℕ) (seen : Seen) → Same claims seen
      → PlacedAlike (λ b. cond (is_big cells.version n) (big_bytes_at cells n at) (reading (bytes_in n) cells at) ≡ Ok b)
      (walk cells seen (cond (is_big cells.version n) (big_checks cells n at) (use_as false (bytes_in n) cells at)))
      (celled_part n hive claims at)
  unfolding celled_part
  celled-alike n claims at seen same = go (is_big cells.version n)
    where
      go : (b : Bool) → PlacedAlike (λ d. cond b (big_bytes_at cells n at) (reading (bytes_in n) cells at) ≡ Ok d)
          (walk cells seen (cond b (big_checks cells n at) (use_as false (bytes_in n) cells at)))
          (cond b (big_part n hive claims at) (bytes_part n hive claims at))
      go true = big-alike n claims at seen same
      go false = bytes-alike n claims at seen same

  data-alike : (value : KeyValue) (claims : List Claim) (seen : Seen) → Same claims seen
      → PlacedAlike (λ b. data_of cells value ≡ Ok b) (walk cells seen (data_checks cells value)) (data_part value hive claims)
  unfolding data_part data_checks data_of
  data-alike value claims seen same = go (data_inside value)
    where
      go : (o : Option (List ℕ)) → PlacedAlike (λ d. data_or o (cond (is_big cells.version value.size)
          (big_bytes_at cells value.size value.offset) (reading (bytes_in value.size) cells value.offset)) ≡ Ok d)
          (walk cells seen (cond (is_some o) [] (cond (is_big cells.version value.size) (big_checks cells value.size value.offset)
          (use_as false (bytes_in value.size) cells value.offset))))
          (data_where o claims (celled_part value.size hive claims value.offset))
      go (Some d) = (seen, refl, same, refl)
      go None = celled-alike value.size claims value.offset seen same

  abbrev value_name : KeyValue → List ℕ
  value_name v = v.name

  value-alike : (names : List (List ℕ)) (claims : List Claim) (at : ℕ) (seen : Seen) → Same claims seen
      → PlacedAlike (λ item. item_at cells at ≡ Ok item) (walk cells seen (value_checks cells names at)) (value_part names hive claims at)
  unfolding value_part value_form value_checks
  value-alike names claims at seen same =
      by (part (with_name key_value_at value_name names) value_long false hive claims at)
      (named-alike key_value_at value_name value_long names hive claims at seen (data_checks cells) none same)
    where
      go : (v : KeyValue) → reading key_value_at cells at ≡ Ok v → (o : Result Seen HiveFault) (r : Result (List ℕ × List Claim) HiveFault)
          → PlacedAlike (λ b. data_of cells v ≡ Ok b) o r
          → PlacedAlike (λ item. item_at cells at ≡ Ok item) o (r >>= λ bytes. Ok (item_of v bytes.0, bytes.1))
      go v e o (Ok b) a = (a.0, a.1, a.2, item-stands cells at v b.0 e a.3)
      go v e o (Err f) a = a

      by : (r : Result (KeyValue × List Claim) HiveFaultKind)
          → NamedAlike key_value_at value_name cells seen names at (data_checks cells) r
          → PlacedAlike (λ item. item_at cells at ≡ Ok item)
          (walk cells seen (named_checks key_value_at value_name cells names at (data_checks cells)))
          (with_place at r >>= λ value. data_part value.0 hive value.1 >>= λ bytes. Ok (item_of value.0 bytes.0, bytes.1))
      by (Ok v) a =
          subst (λ (o : Result Seen HiveFault). PlacedAlike (λ item. item_at cells at ≡ Ok item) o
          (data_part v.0 hive v.1 >>= λ bytes. Ok (item_of v.0 bytes.0, bytes.1))) (sym a.1)
          (go v.0 a.3 (walk cells a.0 (data_checks cells v.0)) (data_part v.0 hive v.1) (data-alike v.0 v.1 a.0 a.2))
      by (Err k) a = a

  -- ---- class and security

  pub class-goes : (path : List (List ℕ)) (node : KeyNode) (w : Walked) (seen : Seen) → w.lines ≡ [] → Same w.claims seen
      → Goes (λ c. class_of cells node ≡ Ok c) (walk cells seen (class_checks cells node)) (class_step hive path node w)
  unfolding class_step class_checks class_of
  class-goes path node w seen e same = go (node.class_length == 0)
    where
      by : (o : Result Seen HiveFault) (r : Result (List ℕ × List Claim) HiveFault)
          → PlacedAlike (λ b. reading (bytes_in node.class_length) cells node.class ≡ Ok b) o r
          → Goes (λ c. reading (bytes_in node.class_length) cells node.class ≡ Ok c) o (class_done path w r)
      by o (Ok r) a =
          subst (λ (o : Result Seen HiveFault). Goes (λ c. reading (bytes_in node.class_length) cells node.class ≡ Ok c) o
          (class_done path w (Ok r))) (sym a.1) (e, a.2, a.3)
      by o (Err f) a =
          subst (λ (o : Result Seen HiveFault). Goes (λ c. reading (bytes_in node.class_length) cells node.class ≡ Ok c) o
          (class_done path w (Err f))) (sym a) (begins-first f w (part_line parts.Class path f) e refl)

      go : (b : Bool) → Goes (λ c. cond b (Ok []) (reading (bytes_in node.class_length) cells node.class) ≡ Ok c)
          (walk cells seen (cond b [] (use_as false (bytes_in node.class_length) cells node.class)))
          (cond {A = List ℕ × Walked} b ([], w) (class_done path w (bytes_part node.class_length hive w.claims node.class)))
      go true = (e, same, refl)
      go false =
          by (walk cells seen (use_as false (bytes_in node.class_length) cells node.class))
          (bytes_part node.class_length hive w.claims node.class) (bytes-alike node.class_length w.claims node.class seen same)

  pub security-goes : (above : List ℕ) (path : List (List ℕ)) (node : KeyNode) (w : Walked) (seen : Seen) → w.lines ≡ []
      → Same w.claims seen
      → Goes (λ s. security_of cells node ≡ Ok s) (walk cells seen (security_checks cells node)) (security_step hive above path node w)
  unfolding security_step security_checks security_of
  security-goes above path node w seen e same = go (node.security == nowhere)
    where
      Means : List ℕ → Type 0
      Means s = (reading security_at cells node.security >>= λ s. Ok s.descriptor) ≡ Ok s

      by : (r : Result (SecurityCell × List Claim) HiveFaultKind) → Alike true security_at cells seen node.security r
          → Goes Means (walk cells seen (use_as true security_at cells node.security)) (security_done above path node.security w r)
      by (Ok r) a =
          subst (λ (o : Result Seen HiveFault). Goes Means o (security_done above path node.security w (Ok r))) (sym a.1)
          (e, a.2, ap (λ q. q >>= λ s. Ok s.descriptor) a.3)
      by (Err k) a =
          subst (λ (o : Result Seen HiveFault). Goes Means o (security_done above path node.security w (Err k))) (sym a)
          (begins-first (fault_at k node.security) w (part_line parts.Security path (fault_at k node.security)) e refl)

      go : (b : Bool) → Goes (λ s. cond b (Ok []) (reading security_at cells node.security >>= λ s. Ok s.descriptor) ≡ Ok s)
          (walk cells seen (cond b [] (use_as true security_at cells node.security)))
          (cond {A = List ℕ × Walked} b ([], w) (security_done above path node.security w
          (part security_at security_long true hive w.claims node.security)))
      go true = (e, same, refl)
      go false =
          by (part security_at security_long true hive w.claims node.security)
          (part-alike security_at security_long true hive w.claims node.security seen none same)

  -- ---- values

  value-told : (path : List (List ℕ)) (i : ℕ) (fault : HiveFault) (r : Result KeyValue HiveFaultKind)
      → line_fault (value_line path i fault r) ≡ Some fault
  value-told path i fault (Ok v) = refl
  value-told path i fault (Err k) = refl

  -- one item more, which is at an offset
  abbrev OneMore : ℕ → List Item → List Item → Type 0
  OneMore at values all = (item : Item) × (all ≡ values ++ item ∷ []) × (item_at cells at ≡ Ok item)

  value-goes : (path : List (List ℕ)) (i at : ℕ) (values : List Item) (w : Walked) (seen : Seen) → w.lines ≡ [] → Same w.claims seen
      → Goes (OneMore at values) (walk cells seen (value_checks cells (item_names values) at)) (value_next hive path i at values w)
  unfolding value_next
  value-goes path i at values w seen e same =
      by (walk cells seen (value_checks cells (item_names values) at)) (value_part (item_names values) hive w.claims at)
      (value-alike (item_names values) w.claims at seen same)
    where
      by : (o : Result Seen HiveFault) (r : Result (Item × List Claim) HiveFault)
          → PlacedAlike (λ item. item_at cells at ≡ Ok item) o r → Goes (OneMore at values) o (value_done hive path i at values w r)
      by o (Ok r) a =
          subst (λ (o : Result Seen HiveFault). Goes (OneMore at values) o (value_done hive path i at values w (Ok r))) (sym a.1)
          (e, a.2, (r.0, refl, a.3))
      by o (Err f) a =
          subst (λ (o : Result Seen HiveFault). Goes (OneMore at values) o (value_done hive path i at values w (Err f))) (sym a)
          (begins-first f w (value_line path i f (reading key_value_at cells at)) e (value-told path i f (reading key_value_at cells at)))

  -- further items, which are at these offsets
  abbrev ItemsMore : List ℕ → List Item → List Item → Type 0
  ItemsMore offsets values all = (more : List Item) × (all ≡ values ++ more) × (items_at cells offsets ≡ Ok more)

  items-join : (at : ℕ) (rest : List ℕ) (values next : List Item) → OneMore at values next → (all : List Item) → ItemsMore rest next all
      → ItemsMore (at ∷ rest) values all
  items-join at rest values next one all more = (
    one.0 ∷ more.0,
    more.1 ∙ ap (λ vs. vs ++ more.0) one.1 ∙ append_assoc values (one.0 ∷ []) more.0,
    both one.0 more.0 one.2 more.2,
  )
    where
      both : (item : Item) (items : List Item) → item_at cells at ≡ Ok item → items_at cells rest ≡ Ok items
          → items_at cells (at ∷ rest) ≡ Ok (item ∷ items)
      both item items r s = rw (r, s) refl

  names-join : (at : ℕ) (values next : List Item) → OneMore at values next
      → item_names values ++ names_of (λ (v : KeyValue). v.name) (reading key_value_at cells at) ≡ item_names next
  names-join at values next one =
      ap (λ n. item_names values ++ n) (item-named cells at one.0 one.2)
      ∙ sym (map_push (λ (v : Item). v.name) values one.0) ∙ ap item_names (sym one.1)

  values-go : (path : List (List ℕ)) (i : ℕ) (offsets : List ℕ) (values : List Item) (w : Walked) (seen : Seen) → w.lines ≡ []
      → Same w.claims seen
      → Goes (ItemsMore offsets values) (walk cells seen (values_in_turn cells (item_names values) offsets))
      (values_next hive path i offsets values w)
  unfolding values_next
  values-go path i [] values w seen e same = (e, same, ([], sym (append-nil values), refl))
  values-go path i (at ∷ rest) values w seen e same =
      let next = value_next hive path i at values w in
      let names = item_names values ++ names_of (λ (v : KeyValue). v.name) (reading key_value_at cells at) in
      goes-then (OneMore at values) (ItemsMore (at ∷ rest) values) cells seen (value_checks cells (item_names values) at)
      (values_in_turn cells names rest) next (values_next hive path (i + 1) rest next.0 next.1)
      (value-goes path i at values w seen e same) (values-follow hive path (i + 1) rest next.0 next.1)
      (λ after d s m. goes-map (ItemsMore rest next.0) (ItemsMore (at ∷ rest) values) (walk cells after (values_in_turn cells names rest))
      (values_next hive path (i + 1) rest next.0 next.1) (items-join at rest values next.0 m (values_next hive path (i + 1) rest next.0 next.1).0)
      (subst (λ (n : List (List ℕ)). Goes (ItemsMore rest next.0) (walk cells after (values_in_turn cells n rest))
      (values_next hive path (i + 1) rest next.0 next.1)) (sym (names-join at values next.0 m))
      (values-go path (i + 1) rest next.0 next.1 after d s)))

  pub items-go : (path : List (List ℕ)) (node : KeyNode) (w : Walked) (seen : Seen) → w.lines ≡ [] → Same w.claims seen
      → Goes (λ vs. values_of cells node ≡ Ok vs) (walk cells seen (values_checks cells node)) (values_step hive path node w)
  unfolding values_step values_checks values_of
  items-go path node w seen e same = go (node.value_count == 0)
    where
      form : List ℕ → Result (List ℕ) HiveFaultKind
      form = offsets_in node.value_count

      Means : List Item → Type 0
      Means vs = (reading form cells node.value_list >>= items_at cells) ≡ Ok vs

      all : List Check
      all = use_as false form cells node.value_list ++ below_of (reading form cells node.value_list) (values_in_turn cells [])

      told : Front × List Claim → Bool → Walked
      told r short = said_short short parts.Values path node.value_list (using w r.1)

      read : (r : Front × List Claim) (b : Bool) → r.0.short ≡ b
          → MatchBool b (walk cells seen (use_as false form cells node.value_list) ≡ Err (fault_at FormShort node.value_list))
          ((after : Seen) × (walk cells seen (use_as false form cells node.value_list) ≡ Ok after) × Same r.1 after
          × (reading form cells node.value_list ≡ Ok r.0.offsets))
          → Goes Means (walk cells seen all) (values_next hive path 1 r.0.offsets [] (told r b))
      read r true s a =
          subst (λ (o : Result Seen HiveFault). Goes Means o (values_next hive path 1 r.0.offsets [] (told r true)))
          (sym (walk-off cells seen (use_as false form cells node.value_list)
          (below_of (reading form cells node.value_list) (values_in_turn cells [])) (fault_at FormShort node.value_list) a))
          (begins-more (fault_at FormShort node.value_list) (told r true) (values_next hive path 1 r.0.offsets [] (told r true)).1
          (begins-first (fault_at FormShort node.value_list) (using w r.1)
          (part_line parts.Values path (fault_at FormShort node.value_list)) e refl)
          (values-follow hive path 1 r.0.offsets [] (told r true)))
      read r false s a =
          subst (λ (o : Result Seen HiveFault). Goes Means o (values_next hive path 1 r.0.offsets [] (told r false)))
          (sym (walk-below cells seen a.0 (use_as false form cells node.value_list) (reading form cells node.value_list)
          (values_in_turn cells []) r.0.offsets a.1 a.3))
          (goes-map (ItemsMore r.0.offsets []) Means (walk cells a.0 (values_in_turn cells [] r.0.offsets))
          (values_next hive path 1 r.0.offsets [] (told r false))
          (λ m. ap (λ q. q >>= items_at cells) a.3 ∙ m.2 ∙ ap (λ vs. Ok vs) (sym m.1))
          (values-go path 1 r.0.offsets [] (told r false) a.0 e a.2))

      by : (r : Result (Front × List Claim) HiveFaultKind)
          → FrontAlike (λ (f : Front). f.offsets) form cells seen node.value_list r
          → Goes Means (walk cells seen all) (values_done hive path node.value_list w r)
      by (Ok r) a = read r r.0.short refl a
      by (Err k) a =
          subst (λ (o : Result Seen HiveFault). Goes Means o (values_done hive path node.value_list w (Err k)))
          (sym (walk-off cells seen (use_as false form cells node.value_list)
          (below_of (reading form cells node.value_list) (values_in_turn cells [])) (fault_at k node.value_list) a))
          (begins-first (fault_at k node.value_list) w (part_line parts.Values path (fault_at k node.value_list)) e refl)

      go : (b : Bool) → Goes (λ vs. cond b (Ok []) (reading form cells node.value_list >>= items_at cells) ≡ Ok vs)
          (walk cells seen (cond b [] all))
          (cond {A = List Item × Walked} b ([], w) (values_done hive path node.value_list w
          (front_part (values_front node.value_count) hive w.claims node.value_list)))
      go true = (e, same, refl)
      go false =
          by (front_part (values_front node.value_count) hive w.claims node.value_list)
          (front-alike (values_front node.value_count) form (λ (f : Front). f.offsets) hive w.claims node.value_list seen
          (values-whole node.value_count) none same)
