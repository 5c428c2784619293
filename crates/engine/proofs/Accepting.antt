-- How an accepted call comes to what it promises: one law a call.
-- Assumes nothing.
use Rattle.std.specs.Prelude.{Ok}
use mathlib.Core.Path.{◌≡◌, refl, sym, ap, ◌∙◌, subst}
use mathlib.Core.Bool.{Bool, true, false, true≢false, not}
use mathlib.Core.List.{List, [], ◌∷◌, ◌++◌, map}
use Prim.Native.Nat.{ℕ, ◌+◌, ◌*◌, ◌<◌}
use lib.IntN.{ℤ}
use lib.ListN.{length, length-append, length-map, drop}
use Rattle.window.specs.declared.query.Query.{Query}
use Rattle.window.specs.Lists.{filter, any, Each}
use Rattle.window.specs.Queries.{Limits, joining, edge, horizon}
use Rattle.window.specs.Refusals.{Verdict, has_number, due_at, answer_places}
use Rattle.window.specs.Calls.{IsReading, Call, register, withdraw, reading, totals, OfReading, Answer, accepted}
use Rattle.window.specs.Model as model
use Rattle.window.specs.Model.{count, initial, after_register, after_withdraw, after_reading, answers, Stepped, answered, totals_of, judged, new_query, step}
use Rattle.window.specs.Invariant.{Invariant}
use Rattle.window.proofs.Lists.{each_map}
use Rattle.window.proofs.Queries.{none-due}
use Rattle.window.proofs.Refusals.{Joins, register_passed}
use Rattle.window.proofs.Preserved.{initial-invariant, step-invariant}
use Rattle.window.proofs.Steps.{accepted-refused, step-readings, register-queries, reading-queries}
use Rattle.registry.specs.Records.{used, ListKept}
use Rattle.registry.specs.Edits.{Appended, Withdrawn, Cleared}
use Rattle.registry.proofs.Intact.{used-count, fits-limits, fits-ordered}
use Rattle.registry.proofs.Ordering.{nothing_ordered}
use Rattle.engine.specs.declared.state.State.{State}
use Rattle.board.specs.Tables.{Tables, zeroed_tables, TablesKept}
use Rattle.engine.specs.States.{Judged, FreshState, with_reading, with_one_more, left_with}
use Rattle.engine.specs.Closings.{OpenClosed, ClosedWhere}
use Rattle.engine.specs.Answers.{places, answered_places, answers_in, answer_in, Backing}
use Rattle.engine.specs.Machine.{Machine, machine, queries_of, machine_long, closed_of, ledger_of, ListIs, StateIs, Represents}
use Rattle.engine.specs.Promises.{verdict_of, Passes, Ensures, ReadingEnsures, StartEnsures}
use Rattle.engine.proofs.Refinement.{read_is}
use Rattle.engine.proofs.Registration.{registered_is, withdrawn_is, fresh_is}
use Rattle.engine.proofs.Answering.{backing, answers_are}
use Rattle.engine.proofs.Stepping.{accepted_step, step-judged, same_verdict}
use Rattle.board.proofs.Lending.{tables-same}
use Rattle.engine.proofs.Keeping.{open_closed-kept, closed_where_kept, open_registered, where_registered}
use Rattle.engine.proofs.Listing.{list_same, still-long, zeroed-long, intact-distinct, intact_undamaged}
use Rattle.engine.proofs.Judging.{judged_passed}
use Rattle.engine.proofs.Taking.{taken-count}

-- ---- acceptances

-- so it is where the verdict on checks 1, 2 and the call's own passes
pub all_pass : (c : Call) (m : Machine) (w : Verdict)
    → Judged (machine_long m) m.state m.list (verdict_of c m.state.count (queries_of m)) w → w ≡ Ok tt → Passes c m
all_pass c m w j e =
    let p = judged_passed (machine_long m) m.state m.list (verdict_of c m.state.count (queries_of m)) w j e in
    record { long = p.0; intact = p.1; own = p.2 }

-- then the model's step is the accepted one
step-accepted : (c : Call) (m : Machine) → Passes c m → (s : model.State) → Represents s m → step s c ≡ accepted_step s c
step-accepted c m passes s rep = step-judged s c ∙ ap (λ (x : Verdict). judged x s (accepted_step s c)) (sym (same_verdict c s m rep) ∙ passes.own)

-- and the call keeps its promise where its outcome, list and state are those of the accepted step
accepted-call : (c : Call) (m : Machine) (ns : List ℕ) (given : List Answer) (m' : Machine)
    → Passes c m
    → OfReading IsReading c → ListKept m.list m'.list → TablesKept m.tables m'.tables
    → ((s : model.State) → Represents s m → ListIs (accepted_step s c).state m'.state.registered m'.list)
    → ((s : model.State) → Represents s m → StateIs (accepted_step s c).state m'.state m'.tables)
    → ((s : model.State) → Represents s m → accepted ns given ≡ (accepted_step s c).outcome)
    → Ensures c m (accepted ns given) m'
accepted-call c m ns given m' passes small listed kept lists state outcome =
    record {
      short = λ k. absurd (true≢false (sym passes.long ∙ k));
      broken = λ k d. absurd (true≢false (sym d ∙ intact_undamaged m k passes.intact));
      disordered = λ k d. absurd (true≢false (sym (fits-ordered m.state.count m.state.registered m.list passes.intact.list) ∙ d));
      agrees = λ s rep. outcome s rep ∙ sym (ap (λ (x : Stepped). x.outcome) (step-accepted c m passes s rep));
      represents = λ s rep. record {
        invariant = step-invariant s c rep.invariant;
        readings = step-readings IsReading s c small rep.readings;
        long = still-long m m'.state m'.list m'.tables listed kept passes.long;
        list = subst (λ (x : Stepped). ListIs x.state m'.state.registered m'.list) (sym (step-accepted c m passes s rep)) (lists s rep);
        state = subst (λ (x : Stepped). StateIs x.state m'.state m'.tables) (sym (step-accepted c m passes s rep)) (state s rep);
      };
      unchanged = λ k j. accepted-refused ns given k j;
      own = λ k j. accepted-refused ns given k j;
      accepts = λ p k j. accepted-refused ns given k j;
      list_kept = listed;
      kept = kept;
    }

-- an accepted registration: what is open closes, the query joins, and an empty partial is open
pub accepted-register : (number kind range slide : ℕ) (m : Machine) (st' st'' : State) (l' : List ℕ) (t' : Tables)
    → Passes (register number kind range slide) m
    → OpenClosed m.state.partial (horizon m.state.count (queries_of m)) m.state m.tables st' t'
    → Appended m.state.registered (joining number kind range slide m.state.count) m.list l'
    → st'' ≡ with_one_more st'
    → Ensures (register number kind range slide) m (accepted (0 ∷ []) []) (machine st'' l' t')
accepted-register number kind range slide m st' st'' l' t' passed closed joins opened =
    subst (λ (x : State). Ensures (register number kind range slide) m (accepted (0 ∷ []) []) (machine x l' t')) (sym opened)
    (accepted-call (register number kind range slide) m (0 ∷ []) [] (machine (with_one_more st') l' t') passed tt joins.kept
    (open_closed-kept m.state.partial (horizon m.state.count (queries_of m)) m.state m.tables st' t' closed)
    (λ s rep.
    let q : Query = new_query s number kind range slide in
    subst (λ (k : ℕ). ListIs (after_register s q) (k + 1) l') (sym (open_registered m.state.partial _ _ _ _ _ closed))
    (record {
      count = rw (rep.list.count, register-queries s q) (sym (length_snoc s.queries q));
      queries = joins.queries ∙ rw (rep.list.queries, rep.state.count) (sym (register-queries s q));
      in_order = joins.in_order rep.list.in_order passes.limits.number_low passes.new;
      tidy = joins.tidy rep.list.tidy;
    }))
    (λ s rep.
    registered_is s (new_query s number kind range slide) m.state m.tables st' t' rep.invariant rep.state refl
    (subst (λ (n : ℕ). OpenClosed m.state.partial (horizon n s.queries) m.state m.tables st' t') rep.state.count
    (subst (λ (qs : List Query). OpenClosed m.state.partial (horizon m.state.count qs) m.state m.tables st' t') rep.list.queries closed)))
    (λ s rep. refl))
  where
    passes : Joins (queries_of m) (joining number kind range slide m.state.count)
    passes = register_passed (queries_of m) (joining number kind range slide m.state.count) passed.own

    length_snoc : (qs : List Query) (q : Query) → length (qs ++ (q ∷ [])) ≡ length qs + 1
    length_snoc qs q = length-append qs (q ∷ [])

-- an accepted withdrawal: the query leaves
pub accepted-withdraw : (number : ℕ) (m : Machine) (st' : State) (left : ℕ) (l' : List ℕ)
    → Passes (withdraw number) m
    → Withdrawn number m.state.registered m.list left l'
    → st' ≡ left_with left m.state
    → Ensures (withdraw number) m (accepted (0 ∷ []) []) (machine st' l' m.tables)
unfolding after_withdraw
accepted-withdraw number m st' left l' passed leaves is =
    subst (λ (x : State). Ensures (withdraw number) m (accepted (0 ∷ []) []) (machine x l' m.tables)) (sym is)
    (accepted-call (withdraw number) m (0 ∷ []) [] (machine (left_with left m.state) l' m.tables) passed tt leaves.kept
    (tables-same m.tables)
    (λ s rep. record {
      count = few s rep;
      queries = same s rep;
      in_order = leaves.in_order (intact-distinct m passed.long passed.intact) (positive (queries_of m) (fits-limits m.state.count m.state.registered m.list passed.intact.list));
      tidy = leaves.tidy;
    })
    (λ s rep.
    subst (λ (k : ℕ). StateIs (after_withdraw s number) (left_with k m.state) m.tables) (sym (few s rep))
    (withdrawn_is s number m.state m.tables rep.invariant rep.state))
    (λ s rep. refl))
  where
    same : (s : model.State) → Represents s m → used left l' ≡ filter (λ (q : Query). not (has_number number q)) s.queries
    same s rep = leaves.queries ∙ ap (filter (λ (q : Query). not (has_number number q))) rep.list.queries

    few : (s : model.State) → Represents s m → left ≡ length (filter (λ (q : Query). not (has_number number q)) s.queries)
    few s rep = sym (used-count left l') ∙ ap length (same s rep)

    positive : (qs : List Query) → Each Limits qs → Each (λ (q : Query). 0 < q.number) qs
    positive = each_map Limits (λ (q : Query). 0 < q.number) (λ (q : Query) (h : Limits q). h.number_low)

-- accepted totals
pub accepted-totals : (m : Machine) → Passes totals m
    → Ensures totals m (accepted (m.state.count ∷ m.state.board.closed ∷ m.state.board.maxima.comparisons ∷ m.state.board.minima.comparisons ∷ []) []) m
unfolding totals_of
accepted-totals m passed =
    accepted-call totals m _ [] m passed tt (list_same m.list) (tables-same m.tables)
    (λ s rep. rep.list)
    (λ s rep. rep.state)
    (λ s rep. rw (rep.state.count, rep.state.board.closed ∙ length-map s.closed (closed_of s.readings), rep.state.board.max_total, rep.state.board.min_total))

-- ---- a reading

-- the answers that are read from places are those that were written there
answers-read : (given : List Answer) (rest : List ℤ) → answers_in (length given) (places given ++ rest) ≡ given
answers-read [] rest = refl
answers-read (a ∷ more) rest = ap (λ (x : List Answer). a ∷ x) (answers-read more rest)

-- a reading was taken, what was open closed at an edge, and the due queries were answered
pub record ReadingTaken (v : ℤ) (before after : List ℤ) (m : Machine) (k : ℕ) (given : List Answer) (st' : State) (t' : Tables) : Type 0 where
  pub closed : ClosedWhere (any (edge (m.state.count + 1)) (queries_of m)) (horizon (m.state.count + 1) (queries_of m)) (with_reading v m.state) m.tables st' t'
  pub number : length given ≡ k
  pub written : after ≡ answered_places given before
  pub answers : (x : Backing st'.count (queries_of m) st'.board t') → given ≡ map (answer_in x.ledger.closed st'.count) (due_at st'.count (queries_of m))

-- where there is no edge nothing closes, and no query is due
pub uncut-taken : (v : ℤ) (before : List ℤ) (m : Machine) (taken : State) → taken ≡ with_reading v m.state → any (edge (m.state.count + 1)) (queries_of m) ≡ false
    → ReadingTaken v before before m 0 [] taken m.tables
unfolding ClosedWhere
uncut-taken v before m taken is e =
    record {
      closed = subst (λ (b : Bool). ClosedWhere b (horizon (m.state.count + 1) (queries_of m)) (with_reading v m.state) m.tables taken m.tables) (sym e) (is, refl);
      number = refl;
      written = refl;
      answers = λ x. sym (ap (λ (n : ℕ). map (answer_in x.ledger.closed taken.count) (due_at n (queries_of m))) (taken-count v m.state taken is)
          ∙ ap (map (answer_in x.ledger.closed taken.count)) (none-due (m.state.count + 1) (queries_of m) e));
    }

-- a reading that every check passes
pub accepted-reading : (v : ℤ) (before after : List ℤ) (m : Machine) (k : ℕ) (given : List Answer) (st' : State) (t' : Tables)
    → Passes (reading v (length before)) m
    → IsReading v → ReadingTaken v before after m k given st' t'
    → ReadingEnsures v before after m (accepted (k ∷ []) (answers_in k after)) (machine st' m.list t')
unfolding answered ClosedWhere
accepted-reading v before after m k given st' t' passed small took =
    record {
      ensures = accepted-call c m (k ∷ []) (answers_in k after) (machine st' m.list t') passed small (list_same m.list)
          (closed_where_kept (any (edge (m.state.count + 1)) (queries_of m)) (horizon (m.state.count + 1) (queries_of m)) (with_reading v m.state) m.tables st' t' took.closed)
          (λ s rep. subst (λ (k : ℕ). ListIs (after_reading s v) k m.list) (sym registered)
          (record {
            count = rep.list.count ∙ sym (ap length (reading-queries s v));
            queries = rep.list.queries ∙ sym (reading-queries s v);
            in_order = rep.list.in_order;
            tidy = rep.list.tidy;
          }))
          is
          (λ s rep. rw (reads, same-answers s rep, sym took.number, same-answers s rep));
      places = took.written ∙ sym (ap (λ (x : List Answer). answered_places x before) reads);
      uncut = λ e. (subst (λ (b : Bool). ClosedWhere b (horizon (m.state.count + 1) (queries_of m)) (with_reading v m.state) m.tables st' t') e took.closed).1;
      alone = registered;
    }
  where
    c : Call
    c = reading v (length before)

    registered : st'.registered ≡ m.state.registered
    registered = where_registered (any (edge (m.state.count + 1)) (queries_of m)) _ _ _ _ _ took.closed

    reads : answers_in k after ≡ given
    reads = rw (sym took.number, took.written) (answers-read given (drop (answer_places * length given) before))

    is : (s : model.State) → Represents s m → StateIs (after_reading s v) st' t'
    is s rep =
        read_is s v m.state m.tables st' t' rep.invariant rep.state
        (subst (λ (n : ℕ). ClosedWhere (any (edge (n + 1)) s.queries) (horizon (n + 1) s.queries) (with_reading v m.state) m.tables st' t') rep.state.count
        (subst (λ (qs : List Query). ClosedWhere (any (edge (m.state.count + 1)) qs) (horizon (m.state.count + 1) qs) (with_reading v m.state) m.tables st' t') rep.list.queries took.closed))

    same-answers : (s : model.State) → Represents s m → given ≡ answers (after_reading s v)
    same-answers s rep =
        let queries : queries_of m ≡ (after_reading s v).queries = rep.list.queries ∙ sym (reading-queries s v) in
        let i : StateIs (after_reading s v) st' t' = is s rep in
        took.answers (backing (after_reading s v) st' t' (queries_of m) queries i)
        ∙ ap (λ (qs : List Query). map (answer_in (ledger_of (after_reading s v)).closed st'.count) (due_at st'.count qs)) queries
        ∙ answers_are (after_reading s v) st'.count (subst (λ (x : Stepped). Invariant x.state) (step-accepted c m passed s rep) (step-invariant s c rep.invariant)) i.count

-- ---- start

-- an accepted start
pub accepted-start : (m : Machine) (st : State) (l : List ℕ) (t' : Tables) → machine_long m ≡ true → FreshState st
    → Cleared 0 m.list l → t' ≡ zeroed_tables m.tables
    → StartEnsures m (accepted (0 ∷ []) []) (machine st l t')
accepted-start m st l t' long fresh cleared zeroes =
    record {
      short = λ k. absurd (true≢false (sym long ∙ k));
      accepts = λ k. refl;
      represents = λ k. record {
        invariant = initial-invariant;
        readings = tt;
        long = zeroed-long m st l t' cleared.kept zeroes long;
        list = subst (λ (k : ℕ). ListIs initial k l) (sym fresh.registered) (record { count = refl; queries = refl; in_order = nothing_ordered l; tidy = cleared.tidy });
        state = fresh_is st t' fresh;
      };
      zeroes = λ k. zeroes;
      list_kept = cleared.kept;
      unchanged = λ k j. accepted-refused (0 ∷ []) [] k j;
      own = λ k j. accepted-refused (0 ∷ []) [] k j;
    }
