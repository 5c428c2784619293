-- The sample session, case 11 and some ends of inputs: one computation of what each prints.
-- Assumes nothing.
use mathlib.Core.Path.{◌≡◌, refl}
use mathlib.Core.List.{map}
use Rattle.window.specs.Queries.{phase}
use Rattle.window.specs.Refusals.{name_checks, length_checks, field_checks, list_checks, register_checks, withdraw_checks, count_checks, places_checks, reading_checks_at}
use Rattle.window.specs.Model.{standing_at, closing_comparisons, close_at, close_where, with_query, after_register, after_withdraw, reading_taken, close_at_edge, after_reading, answer, answers, answered, totals_of, step_at}
use Rattle.parse.specs.Numbers.{number_of, unsigned_of, signed_of}
use Rattle.parse.specs.Lines.{command, parsed}
use Rattle.print.specs.Decimal.{decimal, decimalℤ}
use Rattle.print.specs.Lines.{answer_line, refusal_line, totals_line}
use Rattle.session.specs.Meaning.{line_step, answer_text, printed, totals_text, session_output}
use Rattle.session.specs.Cases.{Case, input_of, output_of, cases}

pub session-cases : map (λ (c : Case). session_output (input_of c)) cases ≡ map output_of cases
unfolding phase name_checks length_checks field_checks list_checks register_checks withdraw_checks count_checks places_checks reading_checks_at standing_at closing_comparisons close_at close_where with_query after_register after_withdraw reading_taken close_at_edge after_reading answer answers answered totals_of step_at number_of unsigned_of signed_of command parsed decimal decimalℤ answer_line refusal_line totals_line line_step answer_text printed totals_text session_output
session-cases = refl
