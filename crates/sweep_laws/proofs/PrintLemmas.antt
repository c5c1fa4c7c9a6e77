-- What a line prints.
use Rattle.std.proofs.Common.{◌≡◌, Bool, true, false, refl}
use Rattle.nt_edge.specs.declared.disk.Keep.{Keep}
use Rattle.sweep_text.specs.sweep_text.Calls.{four_text}
use Rattle.sweep_laws.specs.Columns.{printed}
use Rattle.sweep_laws.specs.Leaving.{sync_word}

pub same_words : (written : Bool) → four_text written written ≡ printed (λ (keep : Keep). written)
same_words true = refl
same_words false = refl

pub four_words : (written none others : Bool)
    → four_text none others ≡ printed (sync_word (record { written = written; none = none; others = others }))
four_words written true true = refl
four_words written true false = refl
four_words written false true = refl
four_words written false false = refl
