-- The starred cases hold: one computation of the reference model over the one list of calls.
-- Assumes nothing.
use mathlib.Core.Path.{◌≡◌, refl}
use mathlib.Core.List.{map}
use Rattle.window.specs.Queries.{phase}
use Rattle.window.specs.Refusals.{name_checks, length_checks, field_checks, list_checks, register_checks, withdraw_checks, count_checks, places_checks, reading_checks_at}
use Rattle.window.specs.Model.{initial, run, standing_at, closing_comparisons, close_at, close_where, with_query, after_register, after_withdraw, reading_taken, close_at_edge, after_reading, answer, answers, answered, totals_of, step_at}
use Rattle.window.specs.Cases.{starred, call_of, returned_of}

pub starred-cases : (run initial (map call_of starred)).outcomes ≡ map returned_of starred
unfolding phase name_checks length_checks field_checks list_checks register_checks withdraw_checks count_checks places_checks reading_checks_at standing_at closing_comparisons close_at close_where with_query after_register after_withdraw reading_taken close_at_edge after_reading answer answers answered totals_of step_at
starred-cases = refl
