-- When is a text the report of a run, or a prefix of it? It is read off the text alone. (this project's own)
--
-- What the run needs beside the script is known from the text and the disk: how the operations ended by the lines, and what
-- the disk woke up with by the images.
use Rattle.std.specs.Prelude.{◌≡◌, ℕ, List, [], ◌∷◌, ◌++◌, Some}
use Rattle.nt_bytes.specs.Front.{IsFront}
use Rattle.hive_model.specs.Image.{Image}
use Rattle.start_model.specs.Lines.{text_of}
use Rattle.start_model.specs.Possible.{Woken, Outcome}
use Rattle.start_model.specs.Act.{Note, RunState}
use Rattle.start_model.specs.Run.{RunResult}
use Rattle.start_model.specs.Fits.{outcomes_of, woke_in, Fits, MayLoad}

-- a run as a function of what the disk wakes up with and of how its operations end
abbrev pub Going : Type 0
Going = List Woken → List Outcome → RunResult

-- The text is the whole report on what the disk woke up with, and on the outcomes that the text reports. No wake and no
-- outcome is left over, each wake is what the disk could load as, and each image that the disk may be left as (`left`)
-- loads as the run's last state says.
pub record Report (run : Going) (images : List Image) (left : Image → Type 0) (text : List ℕ) : Type 0 where
  pub woken : List Woken
  pub last : RunState
  pub lines : text ≡ text_of (run woken (outcomes_of text)).lines
  pub taken : (run woken (outcomes_of text)).rest ≡ Some (last, [], [])
  pub fits : Fits images woken (woke_in (run woken (outcomes_of text)).notes)
  pub loads : (c : Image) → left c → MayLoad last.disk c

-- The text is a prefix of the report with one more outcome than it reports, and what happened to the disk (`notes`) is a
-- front of what that run notes. Each image that the disk may be left as loads as the run says where nothing more happens.
pub record ReportFront (run : Going) (images : List Image) (left : Image → Type 0) (text : List ℕ) : Type 0 where
  pub woken : List Woken
  pub outcome : Outcome
  pub notes : List Note
  pub said : IsFront (text_of (run woken (outcomes_of text ++ outcome ∷ [])).lines) text
  pub noted : IsFront (run woken (outcomes_of text ++ outcome ∷ [])).notes notes
  pub fits : Fits images woken (woke_in notes)
  pub loads : (c : Image) → left c → MayLoad (run woken (outcomes_of text)).disk c
