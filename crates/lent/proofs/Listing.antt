-- The lent list over an accepted call: a start leaves it 0, a registration and a withdrawal do what `append` and
-- `withdraw` on it do, and the layer below can be lent the records anew.
-- Assumes nothing.
use Rattle.std.proofs.Common.{◌≡◌, ℕ, ◌-◌, ◌≤◌, ◌<◌, min, Bool, true, false, not, ◌&&◌, cond, List, [], ◌∷◌, ◌++◌, ℤ, length, take, drop, set, replicate, Ok, Err, refl, sym, ap, ap₂, ◌∙◌, subst, arith, take-append-drop, take_at, length-take-le, leb-true, le-leb, lt-ltb}
use Rattle.std.proofs.lemmas.Bool.{not-false}
use Rattle.std.proofs.lemmas.List.{set-append_left}
use Rattle.window.specs.declared.query.Query.{Query}
use Rattle.window.specs.Refusals.{Verdict, refusal_number, has_number, is_registered, withdraw_checks}
use Rattle.window.specs.Calls.{Call, register, withdraw, Answer, Outcome, accepted}
use Rattle.window.specs.Model as model
use Rattle.window.specs.Model.{count, initial, after_withdraw, answered, totals_of, Stepped, judged, new_query, step}
use Rattle.window.specs.Invariant.{Invariant}
use Rattle.window.proofs.Bounds.{bounded}
use Rattle.window.proofs.Lists.{and_left, and_right, not_left, length-filter}
use Rattle.window.proofs.Refusals.{passed_any, register_passed}
use Rattle.window.proofs.Steps.{accepted-refused, register-queries}
use Rattle.registry.specs.Records.{record_limit, list_places, unused}
use Rattle.registry.proofs.Intact.{fits-ordered}
use Rattle.records.specs.Laid.{laid}
use Rattle.records.specs.LentList.{overwritten, used_of, appended, without, filled_up, withdrawn}
use Rattle.records.proofs.Lists.{overwritten-first, overwritten_rest}
use Rattle.records.proofs.Editing.{filled-length}
use Rattle.records.proofs.Leaving.{filled-joined}
use Rattle.records.proofs.Laying.{laid-length, laid_kept, filled-used, filled-tidy, filled-fits, laid_filled}
use Rattle.board.specs.Tables.{Tables, tables_long}
use Rattle.engine.specs.declared.state.State.{State}
use Rattle.engine.specs.Machine.{machine, machine_long, ListIs, Represents}
use Rattle.engine.specs.Promises.{Ensures, StartEnsures, verdict_of}
use Rattle.window.specs.Queries.{joining}
use Rattle.engine.proofs.Listing.{still-long, zeroed-long}
use Rattle.engine.proofs.Stepping.{accepted_step, step-judged}
use Rattle.lent.specs.Lent.{Lent, list_long, lent_long, machine_with, lent_machine}
use Rattle.lent.specs.Promises.{OnLent, ReadingOnLent}

-- ---- plain lists

-- the first 32 of a list that begins with these, filled up
pub first-filled : (qs rest zs : List Query) → length qs ≤ record_limit → zs ≡ filled_up qs ++ rest → take record_limit zs ≡ filled_up qs
first-filled qs rest zs l e = ap (take record_limit) e ∙ take_at (filled_up qs) rest record_limit (filled-length qs l)

-- the record q joins a list whose first 32 are qs and unused ones
appended-filled : (qs xs : List Query) (q : Query) → record_limit ≤ length xs → length qs < record_limit → take record_limit xs ≡ filled_up qs
    → appended (length qs) q xs ≡ filled_up (qs ++ (q ∷ [])) ++ drop record_limit xs
appended-filled qs xs q l r e =
    let whole : length (filled_up qs) ≡ record_limit = filled-length qs (omega arith) in
    ap (λ (b : Bool). cond b (set xs (length qs) q) xs) (lt-ltb (length qs) (min (length xs) record_limit) (omega arith))
    ∙ ap (λ (ys : List Query). set ys (length qs) q) (sym (take-append-drop record_limit xs) ∙ ap (λ (ys : List Query). ys ++ drop record_limit xs) e)
    ∙ set-append_left (filled_up qs) (drop record_limit xs) (length qs) q (omega arith)
    ∙ ap (λ (ys : List Query). ys ++ drop record_limit xs) (filled-joined qs q r)

-- records put into the first places of a list that has them, and what follows there
overwritten-joined : (ys xs : List Query) → length ys ≤ length xs → overwritten ys xs ≡ ys ++ drop (length ys) xs
overwritten-joined ys xs l = sym (take-append-drop (length ys) (overwritten ys xs)) ∙ ap₂ (λ (us vs : List Query). us ++ vs) (overwritten-first ys xs l) (overwritten_rest ys xs)

-- a record leaves a list of whose used ones, qs, one has its number
withdrawn-filled : (number c : ℕ) (qs xs : List Query) → record_limit ≤ length xs → length qs ≤ record_limit → used_of c xs ≡ qs → is_registered number qs ≡ true
    → withdrawn number c xs ≡ filled_up (without number qs) ++ drop record_limit xs
withdrawn-filled number c qs xs l f u t =
    let left : List Query = without number qs in
    let whole : length (filled_up left) ≡ record_limit = filled-length left (omega (arith, length-filter (λ (q : Query). not (has_number number q)) qs)) in
    ap (λ (us : List Query). cond (is_registered number us) (overwritten (filled_up (without number us)) xs) xs) u
    ∙ ap (λ (b : Bool). cond b (overwritten (filled_up left) xs) xs) t
    ∙ overwritten-joined (filled_up left) xs (omega arith)
    ∙ ap (λ (k : ℕ). filled_up left ++ drop k xs) whole

-- ---- the list of a state of the model

-- where a list of 32 places or more is the model's, its first 32 records are the model's queries and unused ones
pub records-are : (s : model.State) (st : State) (xs : List Query) (t : Tables) → record_limit ≤ length xs → Represents s (machine_with st (take record_limit xs) t) → take record_limit xs ≡ filled_up s.queries
records-are s st xs t l rep =
    laid_filled st.registered (take record_limit xs) s.queries (length-take-le record_limit xs l) rep.invariant.within_limits.few rep.list.count rep.list.queries rep.list.tidy

-- and such records are the model's list, as the layer below is lent them
listed : (s : model.State) (k : ℕ) (rs : List Query) → k ≡ length s.queries → Invariant s → rs ≡ filled_up s.queries → ListIs s k (laid k rs)
listed s k rs e v f =
    subst (λ (n : ℕ). ListIs s n (laid n rs)) (sym e)
    (subst (λ (ys : List Query). ListIs s (length s.queries) (laid (length s.queries) ys)) (sym f)
    (record {
      count = refl;
      queries = filled-used s.queries few;
      in_order = fits-ordered (count s) (length s.queries) (laid (length s.queries) (filled_up s.queries)) (filled-fits s.queries few (count s) (bounded s v).not_damaged);
      tidy = filled-tidy s.queries few;
    }))
  where
    few : length s.queries ≤ record_limit
    few = v.within_limits.few

-- ---- check 1

-- the layer below is lent a list that is long enough, so the tables decide
pub long-laid : (k : ℕ) (st : State) (rs : List Query) (t : Tables) → machine_long (machine st (laid k rs) t) ≡ tables_long t
unfolding machine_long
long-laid k st rs t = ap (λ (b : Bool). b && tables_long t) (le-leb list_places (length (laid k rs)) (omega (arith, laid-length k rs)))

pub long-below : (st : State) (rs : List Query) (t : Tables) → machine_long (machine_with st rs t) ≡ tables_long t
long-below st rs t = long-laid st.registered st rs t

-- ---- an accepted call with another list

-- the machine before it, and what it left
module _ (st st' : State) (rs rs' : List Query) (t t' : Tables) (l' ns : List ℕ) (given : List Answer) where
  -- what the layer below promises of an accepted call it promises with these records in place of the list that it left,
  -- where they are the queries of every state that it can have come to
  pub relisted : (c : Call) → Ensures c (machine_with st rs t) (accepted ns given) (machine st' l' t')
      → ((s : model.State) → Represents s (machine_with st rs t) → rs' ≡ filled_up (step s c).state.queries) → Ensures c (machine_with st rs t) (accepted ns given) (machine_with st' rs' t')
  relisted c e are =
      record {
        short = e.short;
        broken = e.broken;
        disordered = e.disordered;
        agrees = e.agrees;
        represents = λ s rep.
            let r = e.represents s rep in
            record {
              invariant = r.invariant;
              readings = r.readings;
              long = still-long (machine_with st rs t) st' (laid st'.registered rs') t' (laid_kept st.registered st'.registered rs rs') e.kept rep.long;
              list = listed (step s c).state st'.registered rs' r.list.count r.invariant (are s rep);
              state = r.state;
            };
        unchanged = λ k i. accepted-refused ns given k i;
        own = e.own;
        accepts = e.accepts;
        list_kept = laid_kept st.registered st'.registered rs rs';
        kept = e.kept;
      }

  -- the same of a start, which comes to the first state, whatever was used of the list that it was lent
  pub relisted_start : (k : ℕ) → StartEnsures (machine st (laid k rs) t) (accepted ns given) (machine st' l' t') → rs' ≡ filled_up initial.queries
      → StartEnsures (machine_with st rs t) (accepted ns given) (machine_with st' rs' t')
  relisted_start k e are =
      record {
        short = λ f. e.short (same ∙ f);
        accepts = λ g. e.accepts (same ∙ g);
        represents = λ g.
            let r = e.represents (same ∙ g) in
            record {
              invariant = r.invariant;
              readings = r.readings;
              long = zeroed-long (machine_with st rs t) st' (laid st'.registered rs') t' (laid_kept st.registered st'.registered rs rs') (e.zeroes (same ∙ g)) g;
              list = listed initial st'.registered rs' r.list.count r.invariant are;
              state = r.state;
            };
        zeroes = λ g. e.zeroes (same ∙ g);
        list_kept = laid_kept st.registered st'.registered rs rs';
        unchanged = λ j i. accepted-refused ns given j i;
        own = e.own;
      }
    where
      -- both lists are long enough
      same : machine_long (machine st (laid k rs) t) ≡ machine_long (machine_with st rs t)
      same = long-laid k st rs t ∙ sym (long-below st rs t)

-- ---- the queries after an accepted call

-- it passed its checks
accepted_passed : (s : model.State) (c : Call) (ns : List ℕ) (given : List Answer) → accepted ns given ≡ (step s c).outcome → verdict_of c (count s) s.queries ≡ Ok tt
accepted_passed s c ns given e = go (verdict_of c (count s) s.queries) (e ∙ ap (λ (x : Stepped). x.outcome) (step-judged s c))
  where
    go : (v : Verdict) → accepted ns given ≡ (judged v s (accepted_step s c)).outcome → v ≡ Ok tt
    go (Ok _) k = refl
    go (Err r) k = accepted-refused ns given (refusal_number r) k

-- so the step is the accepted one
passed_queries : (s : model.State) (c : Call) → verdict_of c (count s) s.queries ≡ Ok tt → (step s c).state.queries ≡ (accepted_step s c).state.queries
passed_queries s c p = ap (λ (x : Stepped). x.state.queries) (step-judged s c ∙ ap (λ (v : Verdict). judged v s (accepted_step s c)) p)

module _ (s : model.State) (st : State) (xs : List Query) (t : Tables) (l : record_limit ≤ length xs) (rep : Represents s (machine_with st (take record_limit xs) t)) (ns : List ℕ) (given : List Answer) where
  -- after an accepted registration the lent list is the model's, with the query appended
  pub register_fills : (number kind range slide : ℕ) → accepted ns given ≡ (step s (register number kind range slide)).outcome
      → appended st.registered (joining number kind range slide st.count) xs ≡ filled_up (step s (register number kind range slide)).state.queries ++ drop record_limit xs
  register_fills number kind range slide a =
      ap₂ (λ (k n : ℕ). appended k (joining number kind range slide n) xs) rep.list.count rep.state.count
      ∙ appended-filled s.queries xs q l (register_passed s.queries q passed).room (records-are s st xs t l rep)
      ∙ ap (λ (qs : List Query). filled_up qs ++ drop record_limit xs) (sym (passed_queries s (register number kind range slide) passed ∙ register-queries s q))
    where
      q : Query
      q = new_query s number kind range slide

      passed : verdict_of (register number kind range slide) (count s) s.queries ≡ Ok tt
      passed = accepted_passed s (register number kind range slide) ns given a

  -- and after an accepted withdrawal with the query withdrawn
  pub withdraw_fills : (number : ℕ) → accepted ns given ≡ (step s (withdraw number)).outcome
      → withdrawn number st.registered xs ≡ filled_up (step s (withdraw number)).state.queries ++ drop record_limit xs
  unfolding withdraw_checks after_withdraw
  withdraw_fills number a =
      withdrawn-filled number st.registered s.queries xs l rep.invariant.within_limits.few used_are (not-false _ (not_left _ false (passed_any (withdraw_checks s.queries number) passed)))
      ∙ ap (λ (qs : List Query). filled_up qs ++ drop record_limit xs) (sym (passed_queries s (withdraw number) passed))
    where
      passed : verdict_of (withdraw number) (count s) s.queries ≡ Ok tt
      passed = accepted_passed s (withdraw number) ns given a

      used_are : used_of st.registered xs ≡ s.queries
      used_are =
          ap₂ (λ (k : ℕ) (qs : List Query). take k qs) rep.list.count (records-are s st xs t l rep)
          ∙ take_at s.queries (replicate (record_limit - length s.queries) unused) (length s.queries) refl

-- ---- what that says of the open calls

-- an accepted start leaves the first 32 records 0
pub start-zeroes : (m : Lent) (o : Outcome) (m' : Lent) → OnLent StartEnsures m o m' → lent_long m ≡ true → take record_limit m'.records ≡ replicate record_limit unused
start-zeroes m o m' e l =
    records-are initial m'.state m'.records m'.tables (omega (arith, leb-true record_limit (length m.records) (and_left (list_long m) (tables_long m.tables) l), e.kept.as_long))
    ((e.promised (and_left _ _ l)).represents (long-below m.state (take record_limit m.records) m.tables ∙ and_right (list_long m) _ l))

-- and what an accepted call left in the lent list are the queries of the step, unused records, and what was there
-- beyond the first 32
left_in_list : (c : Call) (s : model.State) (m : Lent) (m' : Lent) (ns : List ℕ) (given : List Answer)
    → OnLent (Ensures c) m (accepted ns given) m' → list_long m ≡ true → Represents s (lent_machine m) → m'.records ≡ filled_up (step s c).state.queries ++ drop record_limit m.records
left_in_list c s m m' ns given e l rep =
    sym (take-append-drop record_limit m'.records)
    ∙ ap₂ (λ (us vs : List Query). us ++ vs)
    (records-are (step s c).state m'.state m'.records m'.tables (omega (arith, leb-true record_limit (length m.records) l, e.kept.as_long)) ((e.promised l).represents s rep))
    e.kept.beyond

-- an accepted registration appends its record to the lent list
pub register_appends : (number kind range slide : ℕ) (s : model.State) (m : Lent) (m' : Lent) (ns : List ℕ) (given : List Answer)
    → OnLent (Ensures (register number kind range slide)) m (accepted ns given) m' → list_long m ≡ true → Represents s (lent_machine m)
    → m'.records ≡ appended m.state.registered (joining number kind range slide m.state.count) m.records
register_appends number kind range slide s m m' ns given e l rep =
    left_in_list (register number kind range slide) s m m' ns given e l rep
    ∙ sym (register_fills s m.state m.records m.tables (leb-true _ _ l) rep ns given number kind range slide ((e.promised l).agrees s rep))

-- an accepted withdrawal withdraws its record from it
pub withdraw_withdraws : (number : ℕ) (s : model.State) (m : Lent) (m' : Lent) (ns : List ℕ) (given : List Answer)
    → OnLent (Ensures (withdraw number)) m (accepted ns given) m' → list_long m ≡ true → Represents s (lent_machine m)
    → m'.records ≡ withdrawn number m.state.registered m.records
withdraw_withdraws number s m m' ns given e l rep =
    left_in_list (withdraw number) s m m' ns given e l rep
    ∙ sym (withdraw_fills s m.state m.records m.tables (leb-true _ _ l) rep ns given number ((e.promised l).agrees s rep))

-- a reading leaves as many queries registered
pub reading_keeps : (v : ℤ) (before after : List ℤ) (m : Lent) (o : Outcome) (m' : Lent) → ReadingOnLent v before after m o m' → list_long m ≡ true
    → m'.state.registered ≡ m.state.registered
reading_keeps v before after m o m' e l = (e.on_lent.promised l).alone
