use Rattle.services_laws.proofs.WholeLemmas.{no_filter_shows_all, filters_take_away, start_passes, kind_passes, lines_are_shown}
use Rattle.services_laws.proofs.laws.each_listed_key_has_its_line.Goals as goal

pub returns : goal.returns
returns c = record { all = no_filter_shows_all; fewer = filters_take_away; start = start_passes; kind = kind_passes; lines = lines_are_shown }
