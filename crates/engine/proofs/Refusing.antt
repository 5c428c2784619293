-- How a refused call comes to what it promises.
-- Assumes nothing.
use Rattle.std.specs.Prelude.{Result, Err}
use mathlib.Core.Path.{◌≡◌, refl, sym, ap, ◌∙◌, subst}
use mathlib.Core.Bool.{true, false, true≢false}
use mathlib.Core.List.{List}
use lib.IntN.{ℤ}
use lib.ListN.{length}
use Rattle.window.specs.declared.refusal.Refusal.{Refusal}
use Rattle.window.specs.Refusals.{Verdict, refusal_number, first_refusal, reading_checks}
use Rattle.window.specs.Calls.{Call, start, reading, refused}
use Rattle.window.specs.Model as model
use Rattle.window.specs.Model.{count, Stepped, judged, step}
use Rattle.window.proofs.Refusals.{refused-same, refused_passed}
use Rattle.window.proofs.Steps.{number_of}
use Rattle.registry.proofs.Intact.{fits-ordered}
use Rattle.engine.specs.declared.calls.Answered.{Answered}
use Rattle.engine.specs.declared.state.State.{State}
use Rattle.engine.specs.States.{Judged, is_short, is_damaged, is_judged}
use Rattle.engine.specs.Machine.{Machine, machine, queries_of, machine_long, Represents}
use Rattle.engine.specs.Outcomes.{state_outcome, state_after, answers_written, reading_outcome, reading_state}
use Rattle.engine.specs.Promises.{InRows, verdict_of, Ensures, ReadingEnsures, StartEnsures}
use Rattle.engine.proofs.Soundness.{represents-intact}
use Rattle.engine.proofs.Listing.{list_same, intact_undamaged}
use Rattle.engine.proofs.Stepping.{accepted_step, step-judged, own_row, same_verdict}
use Rattle.board.proofs.Lending.{tables-same}

-- a call other than start that any check refuses
pub refused-call : (c : Call) (m : Machine) (w : Verdict) (r : Refusal) → InRows c 1 → InRows c 2
    → Judged (machine_long m) m.state m.list (verdict_of c m.state.count (queries_of m)) w
    → w ≡ Err r → Ensures c m (refused (refusal_number r)) m
refused-call c m w r one two (is_short f) i =
    let e : machine_long m ≡ false = f in
    let n : 1 ≡ refusal_number r = ap refusal_number (refused-same _ r i) in
    record {
      short = λ k. ap refused (sym n);
      broken = λ k d. absurd (true≢false (sym k ∙ e));
      disordered = λ k d. absurd (true≢false (sym k ∙ e));
      agrees = λ s rep. absurd (true≢false (sym rep.long ∙ e));
      represents = λ s rep. absurd (true≢false (sym rep.long ∙ e));
      unchanged = λ k j. refl;
      own = λ k j. subst (InRows c) (n ∙ ap number_of j) one;
      accepts = λ p k j. true≢false (sym p.long ∙ e);
      list_kept = list_same m.list;
      kept = tables-same m.tables;
    }
refused-call c m w r one two (is_damaged l f) i =
    let e : machine_long m ≡ true = l in
    let n : 2 ≡ refusal_number r = ap refusal_number (refused-same _ r i) in
    record {
      short = λ k. absurd (true≢false (sym e ∙ k));
      broken = λ k d. ap refused (sym n);
      disordered = λ k d. ap refused (sym n);
      agrees = λ s rep. absurd (f (represents-intact s m rep));
      represents = λ s rep. absurd (f (represents-intact s m rep));
      unchanged = λ k j. refl;
      own = λ k j. subst (InRows c) (n ∙ ap number_of j) two;
      accepts = λ p k j. f p.intact;
      list_kept = list_same m.list;
      kept = tables-same m.tables;
    }
refused-call c m w r one two (is_judged l f) i =
    let e : machine_long m ≡ true = l in
    record {
      short = λ k. absurd (true≢false (sym e ∙ k));
      broken = λ k d. absurd (true≢false (sym d ∙ intact_undamaged m k f));
      disordered = λ k d. absurd (true≢false (sym (fits-ordered m.state.count m.state.registered m.list f.list) ∙ d));
      agrees = λ s rep. sym (ap (λ (x : Stepped). x.outcome) (step-refused s rep));
      represents = λ s rep. subst (λ (x : Stepped). Represents x.state m) (sym (step-refused s rep)) rep;
      unchanged = λ k j. refl;
      own = λ k j. subst (InRows c) (ap number_of j) (own_row c m.state.count (queries_of m) r i);
      accepts = λ p k j. refused_passed r (sym i ∙ p.own);
      list_kept = list_same m.list;
      kept = tables-same m.tables;
    }
  where
    step-refused : (s : model.State) → Represents s m → step s c ≡ record { state = s; outcome = refused (refusal_number r) }
    step-refused s rep = step-judged s c ∙ ap (λ (x : Verdict). judged x s (accepted_step s c)) (sym (same_verdict c s m rep) ∙ i)

-- a registration or withdrawal that any check refuses, by what it returned
pub refused_reply : (c : Call) (m : Machine) (w : Verdict) (r : Refusal) (result : Result State Refusal) → InRows c 1 → InRows c 2
    → Judged (machine_long m) m.state m.list (verdict_of c m.state.count (queries_of m)) w
    → w ≡ Err r → result ≡ Err r → Ensures c m (state_outcome result) (machine (state_after m.state result) m.list m.tables)
refused_reply c m w r result one two j i is =
    subst (λ (x : Result State Refusal). Ensures c m (state_outcome x) (machine (state_after m.state x) m.list m.tables)) (sym is)
    (refused-call c m w r one two j i)

-- a reading that any check refuses writes no place
pub refused-reading : (v : ℤ) (before : List ℤ) (m : Machine) (w : Verdict) (r : Refusal) (result : Result Answered Refusal)
    → Judged (machine_long m) m.state m.list (first_refusal (reading_checks m.state.count (queries_of m) (length before))) w
    → w ≡ Err r → result ≡ Err r
    → ReadingEnsures v before before m (reading_outcome (answers_written result) before) (machine (reading_state m.state result) m.list m.tables)
refused-reading v before m w r result j i is =
    subst (λ (x : Result Answered Refusal). ReadingEnsures v before before m (reading_outcome (answers_written x) before) (machine (reading_state m.state x) m.list m.tables)) (sym is)
    (record { ensures = refused-call (reading v (length before)) m w r refl refl j i; places = refl; uncut = λ e. refl; alone = refl })

-- a start that check 1 refuses
pub refused-start : (m : Machine) → machine_long m ≡ false → StartEnsures m (refused 1) m
refused-start m e =
    record {
      short = λ k. refl;
      accepts = λ k. absurd (true≢false (sym k ∙ e));
      represents = λ k. absurd (true≢false (sym k ∙ e));
      zeroes = λ k. absurd (true≢false (sym k ∙ e));
      list_kept = list_same m.list;
      unchanged = λ k j. refl;
      own = λ k j. subst (InRows start) (ap number_of j) refl;
    }
