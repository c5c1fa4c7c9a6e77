use Rattle.std.proofs.Common.{◌∙◌, refl, rules}
use Rattle.boot_run.proofs.PlayLemmas.{plays-line, plays-front, turns}
use Rattle.boot_run.proofs.booting.boot_by.Goals as goal

pub returns-in_err-say_entry-in-Entry : goal.returns-in_err-say_entry-in-Entry
returns-in_err-say_entry-in-Entry g c = turns (search rules) (search rules) (λ m tells counts left. rw c.in-Entry.is
    (plays-front c.from_residual.ensures.0 refl (c.in_err-say_entry-in-Entry.ensures.tells tells) left))

pub returns-in_ok-say_entry-in-Entry : goal.returns-in_ok-say_entry-in-Entry
returns-in_ok-say_entry-in-Entry g c = turns (search rules) (search rules) (λ m tells counts left. rw c.in-Entry.is
    (plays-line refl (c.in_ok-say_entry-in-Entry.ensures.tells tells)
    (rw (c.either-on_good.ensures, c.is_on_good.ensures) at
    (c.load_and_take.ensures.plays m (c.in_ok-say_entry-in-Entry.ensures.host.keeps.tells ∙ tells)
    (record { machine = counts.machine; starts = counts.starts }) left))))

pub returns-in-NoEntry : goal.returns-in-NoEntry
returns-in-NoEntry g c = turns (search rules) (search rules) (λ m tells counts left.
    rw c.in-NoEntry.is (c.end_start.ensures.plays m tells counts left (record { falls = refl; none = refl })))

pub returns-in_err-say_entry-in-OtherLoader : goal.returns-in_err-say_entry-in-OtherLoader
returns-in_err-say_entry-in-OtherLoader g c = turns (search rules) (search rules) (λ m tells counts left. rw c.in-OtherLoader.is
    (plays-front c.from_residual-in_err-say_entry-in-OtherLoader.ensures.0 refl
    (c.in_err-say_entry-in-OtherLoader.ensures.tells tells) left))

pub returns-in_ok-say_entry-in-OtherLoader : goal.returns-in_ok-say_entry-in-OtherLoader
returns-in_ok-say_entry-in-OtherLoader g c = turns (search rules) (search rules) (λ m tells counts left. rw c.in-OtherLoader.is
    (plays-line refl (c.in_ok-say_entry-in-OtherLoader.ensures.tells tells)
    (c.end_start-in-OtherLoader.ensures.plays m (c.in_ok-say_entry-in-OtherLoader.ensures.host.keeps.tells ∙ tells)
    (record { machine = counts.machine; starts = counts.starts }) left (record { falls = refl; none = refl }))))

pub returns-in_err-say_entry-in-NoSystem : goal.returns-in_err-say_entry-in-NoSystem
returns-in_err-say_entry-in-NoSystem g c = turns (search rules) (search rules) (λ m tells counts left. rw c.in-NoSystem.is
    (plays-front c.from_residual-in_err-say_entry-in-NoSystem.ensures.0 refl
    (c.in_err-say_entry-in-NoSystem.ensures.tells tells) left))

pub returns-in_ok-say_entry-in-NoSystem : goal.returns-in_ok-say_entry-in-NoSystem
returns-in_ok-say_entry-in-NoSystem g c = turns (search rules) (search rules) (λ m tells counts left. rw c.in-NoSystem.is
    (plays-line refl (c.in_ok-say_entry-in-NoSystem.ensures.tells tells)
    (c.end_start-in-NoSystem.ensures.plays m (c.in_ok-say_entry-in-NoSystem.ensures.host.keeps.tells ∙ tells)
    (record { machine = counts.machine; starts = counts.starts }) left (record { falls = refl; none = refl }))))
