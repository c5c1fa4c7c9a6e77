use Rattle.services_laws.proofs.StartedLemmas.{attempts_are_tries, tries_are_attempts, unmet_is_unmet, left_are_unmet, numbers_count}
use Rattle.services_laws.proofs.laws.a_turn_is_an_attempt_or_unmet.Goals as goal

pub returns : goal.returns
returns c = record { attempts = attempts_are_tries; tries = tries_are_attempts; unmet = unmet_is_unmet; left = left_are_unmet; numbers = numbers_count }
