-- Hits that are told one after another.
use Rattle.std.proofs.Common.{◌≡◌, ℕ, ◌+◌, ◌<◌, true, false, cond, List, [], ◌∷◌, ◌++◌, length, take, refl, sym, ap, subst, ◌∙◌, append-nil, length-append, arith}
use Rattle.std.specs.Prelude.{Result, Ok, Err, OnOk}
use Rattle.std.proofs.Math.Seq.{take-append_seam}
use Rattle.std.proofs.lemmas.List.Elements.{filter-append}
use Rattle.std.proofs.lemmas.Grind.{flat_map-append}
use Rattle.nt_edge.specs.Host.{HostState}
use Rattle.nt_edge.specs.declared.host.HostStop.{HostStop}
use Rattle.nt_edge.specs.declared.host.HostStop.TheVariants.{Memory}
use Rattle.report_text.specs.declared.line_text.form.ReportForm.{ReportForm}
use Rattle.line_parts.specs.Parts.{printed}
use Rattle.find_rule.specs.declared.wanted.Wanted.{Wanted}
use Rattle.hive_model.specs.Tree.{Item, Head, Tree, Trees, key, head, trees}
use Rattle.find_rule.specs.Hits.{Hit, KeyName, ValueName, Data, value_places, values_places, places, places_below, is_hit, hits_of}
use Rattle.find_rule.specs.Lines.{hit_line}
use Rattle.find_command.specs.Prints.{Prints}
use Rattle.find_command.specs.Tells.{hits_text, Tells, Carries}
use Rattle.find_command.proofs.PrintLemmas.{nothing, lacked, then, halted}

-- a list that has less than one
pub none_left : {X : Type 0} (xs : List X) → length xs < 1 → xs ≡ []
none_left [] e = refl
none_left (x ∷ xs) e = absurd (omega arith)

module _ (form : ReportForm) (w : Wanted) where
  parted : (ps qs : List Hit)
      → hits_text form (hits_of w (ps ++ qs)) ≡ hits_text form (hits_of w ps) ++ hits_text form (hits_of w qs)
  parted ps qs =
      ap (hits_text form) (filter-append (is_hit w) ps qs)
      ∙ flat_map-append (λ (h : Hit). printed form (hit_line h)) (hits_of w ps) (hits_of w qs)

  counted : (ps qs : List Hit) → length (hits_of w (ps ++ qs)) ≡ length (hits_of w ps) + length (hits_of w qs)
  counted ps qs = ap length (filter-append (is_hit w) ps qs) ∙ length-append (hits_of w ps) (hits_of w qs)

  count_then : (ps qs : List Hit) (r : Result (Unit {0}) HostStop) (i j k : ℕ) → j ≡ i + length (hits_of w ps)
      → OnOk r (k ≡ j + length (hits_of w qs)) → OnOk r (k ≡ i + length (hits_of w (ps ++ qs)))
  count_then ps qs (Ok x) i j k e f = omega (arith, counted ps qs)
  count_then ps qs (Err stop) i j k e f = tt

  -- there is no place
  tells_none : (s : HostState) (i : ℕ) → Tells form w [] (Ok tt) s s i i
  tells_none s i = record { prints = nothing s; count = omega arith }

  -- there was no memory
  pub tells_lack : (ps : List Hit) (s : HostState) (i j : ℕ) → Tells form w ps (Err Memory) s s i j
  tells_lack ps s i j = record { prints = lacked (hits_text form (hits_of w ps)) s; count = tt }

  -- a place is no hit
  pub tells_no_hit : (h : Hit) (s : HostState) (i : ℕ) → is_hit w h ≡ false → Tells form w (h ∷ []) (Ok tt) s s i i
  tells_no_hit h s i off =
      let none : [] ≡ hits_of w (h ∷ []) = sym (ap (λ b. cond b (h ∷ []) []) off) in
      record {
        prints = subst (λ (hs : List Hit). Prints (hits_text form hs) (Ok tt) s s) none (nothing s);
        count = subst (λ (hs : List Hit). i ≡ i + length hs) none (omega arith);
      }

  -- a place is hit, and its line was printed
  pub tells_hit : (h : Hit) (r : Result (Unit {0}) HostStop) (a b : HostState) (i j : ℕ) → is_hit w h ≡ true
      → Prints (printed form (hit_line h)) r a b → OnOk r (j ≡ i + 1) → Tells form w (h ∷ []) r a b i j
  tells_hit h r a b i j on p e =
      let one : h ∷ [] ≡ hits_of w (h ∷ []) = sym (ap (λ b. cond b (h ∷ []) []) on) in
      record {
        prints = subst (λ (hs : List Hit). Prints (hits_text form hs) r a b) one
            (subst (λ (t : List ℕ). Prints t r a b) (sym (append-nil (printed form (hit_line h)))) p);
        count = subst (λ (hs : List Hit). OnOk r (j ≡ i + length hs)) one e;
      }

  -- what is hit among some places was told, and then among others
  tells_then : {y : Unit {0}} (ps qs : List Hit) (r : Result (Unit {0}) HostStop) (a b c : HostState) (i j k : ℕ)
      → Tells form w ps (Ok y) a b i j → Tells form w qs r b c j k → Tells form w (ps ++ qs) r a c i k
  tells_then ps qs r a b c i j k p q = record {
    prints = subst (λ (t : List ℕ). Prints t r a c) (sym (parted ps qs))
        (then (hits_text form (hits_of w ps)) (hits_text form (hits_of w qs)) r a b c p.prints q.prints);
    count = count_then ps qs r i j k p.count q.count;
  }

  -- it was stopped, and the others were not looked at
  tells_halted : (ps qs : List Hit) (stop : HostStop) (a b : HostState) (i j k : ℕ)
      → Tells form w ps (Err stop) a b i j → Tells form w (ps ++ qs) (Err stop) a b i k
  tells_halted ps qs stop a b i j k p = record {
    prints = subst (λ (t : List ℕ). Prints t (Err stop) a b) (sym (parted ps qs))
        (halted (hits_text form (hits_of w ps)) (hits_text form (hits_of w qs)) stop a b p.prints);
    count = tt;
  }

  -- ---- in a loop

  module _ (all : List Hit) (a : HostState) (i : ℕ) where
    pub carries_on : {y : Unit {0}} (ps qs : List Hit) (b c : HostState) (j k : ℕ) → Carries form w all a i (ps ++ qs) b j
        → Tells form w ps (Ok y) b c j k → Carries form w all a i qs c k
    carries_on ps qs b c j k carry told = λ r d m t. carry r d m (tells_then ps qs r b c d j k m told t)

    pub carries_halted : (ps qs : List Hit) (stop : HostStop) (b c : HostState) (j k m : ℕ) → Carries form w all a i (ps ++ qs) b j
        → Tells form w ps (Err stop) b c j k → Tells form w all (Err stop) a c i m
    carries_halted ps qs stop b c j k m carry told = carry (Err stop) c m (tells_halted ps qs stop b c j k m told)

    pub carries_lack : (ps : List Hit) (b : HostState) (j m : ℕ) → Carries form w all a i ps b j → Tells form w all (Err Memory) a b i m
    carries_lack ps b j m carry = carry (Err Memory) b m (tells_lack ps b j m)

    carries_end : (b : HostState) (j : ℕ) → Carries form w all a i [] b j → Tells form w all (Ok tt) a b i j
    carries_end b j carry = carry (Ok tt) b j (tells_none b j)

-- the places of a key, by what it has
places_of : (path : List (List ℕ)) (t : Tree) (h : Head) (ts : Trees) → t ≡ key h ts
    → (KeyName path (head t).name ∷ values_places path (head t).values) ++ places_below path ts ≡ places path t
places_of path t h ts is =
    ap (λ (u : Tree). (KeyName path (head u).name ∷ values_places path (head u).values) ++ places_below path ts) is
    ∙ sym (ap (places path) is)

-- a path that a name was put after, and that was cut back
pub cut_back : (path before made after last : List (List ℕ)) (name : List ℕ) (n : ℕ) → before ≡ path → made ≡ before ++ name ∷ []
    → after ≡ made → n ≡ length path → last ≡ take n after → last ≡ path
cut_back path before made after last name n same pushed kept e cut =
    let whole : after ≡ path ++ name ∷ [] = kept ∙ pushed ∙ ap (λ (p : List (List ℕ)). p ++ name ∷ []) same in
    cut ∙ rw (whole, e) (take-append_seam path (name ∷ []))

-- the places of some keys, by the first of them, whose path was made for it
places_of_first : (path before made : List (List ℕ)) (name : List ℕ) (ks : List Tree) (k : Tree) (others : List Tree)
    → ks ≡ k ∷ others → before ≡ path → made ≡ before ++ name ∷ [] → name ≡ (head k).name
    → places_below path (trees ks) ≡ places made k ++ places_below path (trees others)
places_of_first path before made name ks k others first same pushed named =
    let way : path ++ (head k).name ∷ [] ≡ made =
    sym (pushed ∙ ap (λ (p : List (List ℕ)). p ++ name ∷ []) same ∙ ap (λ (n : List ℕ). path ++ n ∷ []) named) in
    ap (λ (xs : List Tree). places_below path (trees xs)) first
    ∙ ap (λ (p : List (List ℕ)). places p k ++ places_below path (trees others)) way

module _ (form : ReportForm) (w : Wanted) where
  -- what is hit of a key itself was told, or that was stopped
  own_as : (path : List (List ℕ)) (n m : List ℕ) (us vs : List Item) (r : Result (Unit {0}) HostStop) (a c : HostState) (i k : ℕ)
      → m ≡ n → us ≡ vs → Tells form w (KeyName path m ∷ values_places path us) r a c i k
      → Tells form w (KeyName path n ∷ values_places path vs) r a c i k
  own_as path n m us vs r a c i k e f p =
      subst (λ (x : List ℕ). Tells form w (KeyName path x ∷ values_places path vs) r a c i k) e
      (subst (λ (xs : List Item). Tells form w (KeyName path m ∷ values_places path xs) r a c i k) f p)

  pub tells_own : {y : Unit {0}} (path : List (List ℕ)) (n m : List ℕ) (us vs : List Item) (r : Result (Unit {0}) HostStop) (a b c : HostState)
      (i j k : ℕ) → m ≡ n → us ≡ vs → Tells form w (KeyName path m ∷ []) (Ok y) a b i j → Tells form w (values_places path us) r b c j k
      → Tells form w (KeyName path n ∷ values_places path vs) r a c i k
  tells_own path n m us vs r a b c i j k e f p q =
      own_as path n m us vs r a c i k e f (tells_then form w (KeyName path m ∷ []) (values_places path us) r a b c i j k p q)

  pub own_halted : (path : List (List ℕ)) (n m : List ℕ) (vs : List Item) (stop : HostStop) (a b : HostState) (i j k : ℕ)
      → m ≡ n → Tells form w (KeyName path m ∷ []) (Err stop) a b i j
      → Tells form w (KeyName path n ∷ values_places path vs) (Err stop) a b i k
  own_halted path n m vs stop a b i j k e p =
      own_as path n m vs vs (Err stop) a b i k e refl (tells_halted form w (KeyName path m ∷ []) (values_places path vs) stop a b i j k p)

  -- the name of a value was told, and then its data
  pub tells_value : {y : Unit {0}} (path : List (List ℕ)) (v : Item) (n : List ℕ) (r : Result (Unit {0}) HostStop) (a b c : HostState)
      (i j k : ℕ) → n ≡ v.name → Tells form w (ValueName path n ∷ []) (Ok y) a b i j → Tells form w (Data path v ∷ []) r b c j k
      → Tells form w (value_places path v) r a c i k
  tells_value {y} path v n r a b c i j k e p q =
      tells_then form w (ValueName path v.name ∷ []) (Data path v ∷ []) r a b c i j k
      (subst (λ (x : List ℕ). Tells form w (ValueName path x ∷ []) (Ok y) a b i j) e p) q

  pub value_halted : (path : List (List ℕ)) (v : Item) (n : List ℕ) (stop : HostStop) (a b : HostState) (i j k : ℕ) → n ≡ v.name
      → Tells form w (ValueName path n ∷ []) (Err stop) a b i j → Tells form w (value_places path v) (Err stop) a b i k
  value_halted path v n stop a b i j k e p =
      tells_halted form w (ValueName path v.name ∷ []) (Data path v ∷ []) stop a b i j k
      (subst (λ (x : List ℕ). Tells form w (ValueName path x ∷ []) (Err stop) a b i j) e p)

  -- a key was told by itself, and then those below it
  pub tells_key : {y : Unit {0}} (path way : List (List ℕ)) (t : Tree) (h : Head) (ts : Trees) (r : Result (Unit {0}) HostStop)
      (a b c : HostState) (i j k : ℕ) → key h ts ≡ t → way ≡ path
      → Tells form w (KeyName way (head t).name ∷ values_places way (head t).values) (Ok y) a b i j
      → Tells form w (places_below path ts) r b c j k → Tells form w (places path t) r a c i k
  tells_key {y} path way t h ts r a b c i j k is same p q =
      subst (λ (ps : List Hit). Tells form w ps r a c i k) (places_of path t h ts (sym is))
      (tells_then form w (KeyName path (head t).name ∷ values_places path (head t).values) (places_below path ts) r a b c i j k
      (subst (λ (x : List (List ℕ)). Tells form w (KeyName x (head t).name ∷ values_places x (head t).values) (Ok y) a b i j) same p) q)

  pub key_halted : (path way : List (List ℕ)) (t : Tree) (h : Head) (ts : Trees) (stop : HostStop) (a b : HostState) (i j k : ℕ)
      → key h ts ≡ t → way ≡ path → Tells form w (KeyName way (head t).name ∷ values_places way (head t).values) (Err stop) a b i j
      → Tells form w (places path t) (Err stop) a b i k
  key_halted path way t h ts stop a b i j k is same p =
      subst (λ (ps : List Hit). Tells form w ps (Err stop) a b i k) (places_of path t h ts (sym is))
      (tells_halted form w (KeyName path (head t).name ∷ values_places path (head t).values) (places_below path ts) stop a b i j k
      (subst (λ (x : List (List ℕ)). Tells form w (KeyName x (head t).name ∷ values_places x (head t).values) (Err stop) a b i j) same p))

  module _ (all : List Hit) (a : HostState) (i : ℕ) where
    -- nothing is left
    pub carries_none : (ps : List Hit) (b : HostState) (j : ℕ) → ps ≡ [] → Carries form w all a i ps b j → Tells form w all (Ok tt) a b i j
    carries_none ps b j none carry =
        carries_end form w all a i b j (subst (λ (xs : List Hit). Carries form w all a i xs b j) none carry)

    module _ (path before made : List (List ℕ)) (name : List ℕ) (ks : List Tree) (k : Tree) (others : List Tree) (first : ks ≡ k ∷ others)
        (same : before ≡ path) (pushed : made ≡ before ++ name ∷ []) (named : name ≡ (head k).name) where
      carries_first : (b : HostState) (j : ℕ) → Carries form w all a i (places_below path (trees ks)) b j
          → Carries form w all a i (places made k ++ places_below path (trees others)) b j
      carries_first b j carry =
          subst (λ (xs : List Hit). Carries form w all a i xs b j)
          (places_of_first path before made name ks k others first same pushed named) carry

      -- the first key was told, and the others are left
      pub keys_on : {y : Unit {0}} (b c : HostState) (j m : ℕ) → Carries form w all a i (places_below path (trees ks)) b j
          → Tells form w (places made k) (Ok y) b c j m → Carries form w all a i (places_below path (trees others)) c m
      keys_on b c j m carry told =
          carries_on form w all a i (places made k) (places_below path (trees others)) b c j m (carries_first b j carry) told

      -- that was stopped
      pub keys_halted : (stop : HostStop) (b c : HostState) (j m : ℕ) → Carries form w all a i (places_below path (trees ks)) b j
          → Tells form w (places made k) (Err stop) b c j m → Tells form w all (Err stop) a c i m
      keys_halted stop b c j m carry told =
          carries_halted form w all a i (places made k) (places_below path (trees others)) stop b c j m m (carries_first b j carry) told
