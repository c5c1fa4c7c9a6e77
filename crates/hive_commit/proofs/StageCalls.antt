-- The calls of a stage by those of its steps, and those of a change by its stages.
use Rattle.std.proofs.Common.{◌≡◌, ◌<◌, ◌*◌, ◌/◌, ◌++◌, ◌∷◌, ℕ, true, List, [], length, ◌∙◌, ap, arith, append_assoc}
use Rattle.hive_model.specs.Base.{Base, is_bins_size}
use Rattle.hive_model.specs.Recovery.{bit}
use Rattle.hive_model.specs.Log.{dirty, log_of}
use Rattle.nt_edge.specs.Calls.{Made, Synced, Makes, MakesFront, writes_of}
use Rattle.hive_log.proofs.Appending.{sized, log_same}
use Rattle.hive_commit.specs.Calls.{log_writes, bins_writes, block_calls, change_calls}
use Rattle.hive_commit.specs.Stages.{opened_of, closed_of}
use Rattle.hive_commit.proofs.CallLemmas.{front_longer, front_as, front_then, made_as, made_then}
use Rattle.hive_commit.proofs.WriteCalls.{marked_same}

-- four steps, one after another
module _ (one two three four whole : List Made) (is : ((one ++ two) ++ three) ++ four ≡ whole)
    (a b : List Made → Type 0) where
  pub in_first : MakesFront a b one → MakesFront a b whole
  in_first f = front_as a b _ whole is
      (front_longer a b _ four (front_longer a b _ three (front_longer a b one two f)))

  module _ (c : List Made → Type 0) (first : Makes a b one) where
    pub in_second : MakesFront b c two → MakesFront a c whole
    in_second f = front_as a c _ whole is
        (front_longer a c _ four (front_longer a c _ three (front_then a b c one two first f)))

    module _ (d : List Made → Type 0) (second : Makes b c two) where
      both : Makes a c (one ++ two)
      both = made_then a b c one two first second

      pub in_third : MakesFront c d three → MakesFront a d whole
      in_third f = front_as a d _ whole is (front_longer a d _ four (front_then a c d (one ++ two) three both f))

      module _ (e : List Made → Type 0) (third : Makes c d three) where
        each : Makes a d ((one ++ two) ++ three)
        each = made_then a c d (one ++ two) three both third

        pub in_fourth : MakesFront d e four → MakesFront a e whole
        in_fourth f = front_as a e _ whole is (front_then a d e ((one ++ two) ++ three) four each f)

        pub all_four : Makes d e four → Makes a e whole
        all_four fourth = made_as a e _ whole is (made_then a d e ((one ++ two) ++ three) four each fourth)

-- the bins sectors and the base block
module _ (bins block : List Made) (a b : List Made → Type 0) where
  pub closing_cut : (bins ++ Synced ∷ []) ++ block ≡ bins ++ Synced ∷ block
  closing_cut = append_assoc bins (Synced ∷ []) block

  pub in_closing_bins : MakesFront a b (bins ++ Synced ∷ []) → MakesFront a b (bins ++ Synced ∷ block)
  in_closing_bins f = front_as a b ((bins ++ Synced ∷ []) ++ block) (bins ++ Synced ∷ block) closing_cut
      (front_longer a b (bins ++ Synced ∷ []) block f)

  module _ (c : List Made → Type 0) (one : Makes a b (bins ++ Synced ∷ [])) where
    pub in_closing_block : MakesFront b c block → MakesFront a c (bins ++ Synced ∷ block)
    in_closing_block f = front_as a c ((bins ++ Synced ∷ []) ++ block) (bins ++ Synced ∷ block) closing_cut
        (front_then a b c (bins ++ Synced ∷ []) block one f)

    pub closing_made : Makes b c block → Makes a c (bins ++ Synced ∷ block)
    closing_made two = made_as a c ((bins ++ Synced ∷ []) ++ block) (bins ++ Synced ∷ block) closing_cut
        (made_then a b c (bins ++ Synced ∷ []) block one two)

-- what is written in the four stages of a change
abbrev pub staged : (new bitmap : List ℕ) (opened closed : Base) → List Made
staged new bitmap opened closed =
    (((writes_of (log_writes (log_of (bit bitmap) new closed)) ++ Synced ∷ []) ++ block_calls opened)
    ++ (writes_of (bins_writes (bit bitmap) new) ++ Synced ∷ [])) ++ block_calls closed

-- it is what is asked, where a bit is on where a sector differs
module _ (base : Base) (old new : List ℕ) (root : ℕ) (bitmap : List ℕ) (opened closed : Base)
    (opened_is : opened ≡ opened_of base) (closed_is : closed ≡ closed_of base new root)
    (size : is_bins_size (length new) ≡ true) (marks : (i : ℕ) → i < length new / 512 → bit bitmap i ≡ dirty old new i)
  where
    bits_same : (i : ℕ) → 512 * i < length new → bit bitmap i ≡ dirty old new i
    bits_same i small = marks i (omega (arith, (sized (length new) size).pages))

    pub staged_is : staged new bitmap opened closed ≡ change_calls base old new root
    staged_is =
        let log = writes_of (log_writes (log_of (bit bitmap) new closed)) in
        let bins = writes_of (bins_writes (bit bitmap) new) in
        let whole = λ (log bins : List Made) (opened closed : Base). (log ++ Synced ∷ block_calls opened)
        ++ (bins ++ Synced ∷ block_calls closed) in
        append_assoc ((log ++ Synced ∷ []) ++ block_calls opened) (bins ++ Synced ∷ []) (block_calls closed)
        ∙ ap (λ (l : List Made). l ++ ((bins ++ Synced ∷ []) ++ block_calls closed))
        (append_assoc log (Synced ∷ []) (block_calls opened))
        ∙ ap (λ (l : List Made). (log ++ Synced ∷ block_calls opened) ++ l)
        (append_assoc bins (Synced ∷ []) (block_calls closed))
        ∙ ap (λ (b : Base). whole (writes_of (log_writes (log_of (bit bitmap) new b))) bins opened b) closed_is
        ∙ ap (λ (b : Base). whole (writes_of (log_writes (log_of (bit bitmap) new (closed_of base new root)))) bins b
        (closed_of base new root)) opened_is
        ∙ ap (λ (l : List ℕ). whole (writes_of (log_writes l)) bins (opened_of base) (closed_of base new root))
        (log_same (bit bitmap) (dirty old new) new (closed_of base new root) bits_same)
        ∙ ap (λ w. whole (writes_of (log_writes (log_of (dirty old new) new (closed_of base new root)))) (writes_of w)
        (opened_of base) (closed_of base new root))
        (marked_same (bit bitmap) (dirty old new) new (length new / 512) marks)
