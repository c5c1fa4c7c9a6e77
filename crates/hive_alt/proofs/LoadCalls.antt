-- The calls of a load of two copies: sectors are read, and then the copy that does not stand is repaired.
use Rattle.std.proofs.Common.{◌≡◌, ◌++◌, inl, inr, Bool, true, false, ℕ, List, [], Option, Some, None, Result, Ok, Err, refl, sym, ◌∙◌, ap, subst}
use Rattle.std.specs.Prelude.{not, if◌then◌else◌}
use Rattle.std.specs.Result.{IsErrAnd}
use Rattle.std.proofs.lemmas.Bool.{eq-eqb, ne_eqb}
use Rattle.std.proofs.lemmas.List.{append-nil}
use Rattle.hive_model.specs.Base.{Base}
use Rattle.hive_model.specs.Image.{Image, Address}
use Rattle.hive_model.specs.Recovery.{Recovered, base_in}
use Rattle.nt_edge.specs.Calls.{Made, MakesFront, reads_of}
use Rattle.nt_edge.specs.declared.disk.DiskStop.{DiskStop}
use Rattle.nt_edge.specs.declared.disk.DiskStop.TheVariants as disk
use Rattle.hive_log.specs.Found.{IsUnfinished}
use Rattle.hive_log.specs.Stops.{IsFaultOf, load_stop_of}
use Rattle.hive_log.specs.declared.stops.LoadStop.{LoadStop}
use Rattle.hive_log.specs.declared.stops.LoadStop.TheVariants as load
use Rattle.hive_commit.proofs.CallLemmas.{made_as, made_then}
use Rattle.hive_commit.proofs.RecoveryCalls.{front_behind}
use Rattle.hive_alt.specs.Calls.{IsMending, IsPairLoad, mend_calls, mending_as, second_stands}
use Rattle.hive_alt.specs.Copies.{StandsBy}
use Rattle.hive_alt.specs.Schemes.{AreOf, IsFrontOf, MakesLoad, OnlyReads}
use Rattle.hive_alt.specs.Twin.{twin_of}

module _ {a b : List Made → Type 0} (asked : OnlyReads a b) (which : List Made → Type 0) where
  -- nothing was written
  pub only_read : which (reads_of asked.sectors ++ []) → MakesLoad a b IsMending which
  only_read is = record {
    sectors = asked.sectors;
    writes = [];
    written = inl refl;
    made = made_as a b (reads_of asked.sectors) (reads_of asked.sectors ++ []) (sym (append-nil (reads_of asked.sectors)))
        asked.made;
    are = is;
  }

  -- and then a prefix of a repair was written
  pub read_then : (c : List Made → Type 0) (second : Bool) (base : Base) (bins : List ℕ)
      (f : MakesFront b c (mend_calls second base bins)) → which (reads_of asked.sectors ++ f.front)
      → MakesLoad a c IsMending which
  read_then c second base bins f is = record {
    sectors = asked.sectors;
    writes = f.front;
    written = inr (record {
      whole = mend_calls second base bins;
      is = record { second = second; base = base; bins = bins; calls_are = refl };
      front = record { rest = f.rest; cut = f.cut };
    });
    made = made_then a b c (reads_of asked.sectors) f.front asked.made f.made;
    are = is;
  }

-- a base block that was read says which copy stands
unfinished_stands : (opened : Option Base) → IsUnfinished opened → second_stands (Ok opened) ≡ true
unfinished_stands None is = refl
unfinished_stands (Some base) is = ap not (ne_eqb base.first base.second is)

module _ (image : Image) where
  second_is : (found : Recovered) (second : Bool) → StandsBy image found second
      → second_stands (base_in image) ≡ second
  second_is found true is =
      let behind = is.behind refl in
      ap second_stands behind.block ∙ unfinished_stands behind.opened behind.unfinished
  second_is found false is =
      ap second_stands is.good.block ∙ ap not (eq-eqb found.base.first found.base.second is.good.clean)

  abbrev mends : List Made
  mends = mending_as image (twin_of image)

  whole_load : (sectors : List Address) → IsPairLoad image (reads_of sectors ++ mends)
  whole_load sectors = record { sectors = sectors; calls_are = refl }

  read_front : (sectors : List Address) → IsFrontOf (IsPairLoad image) (reads_of sectors ++ [])
  read_front sectors = record {
    whole = reads_of sectors ++ mends;
    is = whole_load sectors;
    front = record {
      rest = mends;
      cut = ap (λ (l : List Made). l ++ mends) (sym (append-nil (reads_of sectors)));
    };
  }

  looked : (T : Type 0) (e : LoadStop) (sectors : List Address) → IsFaultOf e (twin_of image)
      → AreOf {T = T} (IsPairLoad image) (Err e) (reads_of sectors ++ [])
  looked T (load.Fault f) sectors is = record {
    sectors = sectors;
    calls_are = ap (λ r. reads_of sectors ++ mending_as image r) (sym is);
  }
  looked T load.PowerLost sectors is = read_front sectors
  looked T load.Device sectors is = read_front sectors
  looked T load.Memory sectors is = read_front sectors

  -- a look that stopped
  pub stopped_look : {T : Type 0} (r : Result T LoadStop) (e : LoadStop) (sectors : List Address)
      → IsErrAnd r (λ made. made ≡ e)
      → IsFaultOf e (twin_of image) → AreOf (IsPairLoad image) r (reads_of sectors ++ [])
  stopped_look (Ok x) e sectors err is = absurd err
  stopped_look {T} (Err y) e sectors err is =
      subst (λ (s : LoadStop). AreOf {T = T} (IsPairLoad image) (Err s) (reads_of sectors ++ [])) (sym err)
      (looked T e sectors is)

  -- a repair that the disk stopped
  pub stopped_mend : {T : Type 0} (r : Result T LoadStop) (stop : DiskStop) (calls : List Made)
      → IsErrAnd r (λ made. made ≡ load_stop_of stop) → IsFrontOf (IsPairLoad image) calls
      → AreOf (IsPairLoad image) r calls
  stopped_mend (Ok x) stop calls err front = absurd err
  stopped_mend {T} (Err e) stop calls err front =
      let by_disk : (s : DiskStop) → AreOf {T = T} (IsPairLoad image) (Err (load_stop_of s)) calls =
      elim [ disk.PowerLost ↦ front | disk.Failed ↦ front | disk.Memory ↦ front ] in
      subst (λ (s : LoadStop). AreOf {T = T} (IsPairLoad image) (Err s) calls) (sym err) (by_disk stop)

  module _ {found : Recovered} {second : Bool} (is : StandsBy image found second) (sectors : List Address) where
    mends_as : (dirty : Bool) → found.dirty ≡ dirty
        → mends ≡ (if dirty then mend_calls second found.base found.bins else [])
    mends_as dirty dirty_is =
        ap (mending_as image) is.exact
        ∙ ap (λ d. if d then mend_calls (second_stands (base_in image)) found.base found.bins else []) dirty_is
        ∙ ap (λ s. if dirty then mend_calls s found.base found.bins else []) (second_is found second is)

    -- nothing was to be repaired
    pub clean_all : found.dirty ≡ false → IsPairLoad image (reads_of sectors ++ [])
    clean_all clean = record {
      sectors = sectors;
      calls_are = ap (λ (l : List Made). reads_of sectors ++ l) (sym (mends_as false clean));
    }

    module _ (dirty : found.dirty ≡ true) (bins : List ℕ) (bins_is : bins ≡ found.bins) where
      -- what was found was repaired
      pub mended_all : IsPairLoad image (reads_of sectors ++ mend_calls second found.base bins)
      mended_all = record {
        sectors = sectors;
        calls_are = ap (λ (l : List Made). reads_of sectors ++ l)
            (ap (mend_calls second found.base) bins_is ∙ sym (mends_as true dirty));
      }

      -- or up to a stop
      pub mended_front : {a b : List Made → Type 0} (f : MakesFront a b (mend_calls second found.base bins))
          → IsFrontOf (IsPairLoad image) (reads_of sectors ++ f.front)
      mended_front f = record {
        whole = reads_of sectors ++ mend_calls second found.base bins;
        is = mended_all;
        front = front_behind (reads_of sectors) (reads_of sectors ++ mend_calls second found.base bins) refl
            (record { rest = f.rest; cut = f.cut });
      }
