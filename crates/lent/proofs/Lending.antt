-- From the engine's call on the first 32 records, laid out as numbers, to what the open calls promise of the lent list.
-- Assumes nothing.
use Rattle.std.proofs.Common.{◌≡◌, ℕ, ◌≤◌, ◌<◌, min, Bool, true, false, not, cond, List, [], ◌∷◌, ℤ, length, take, drop, set, replicate, refl, sym, ap, ap₂, ◌∙◌, subst, arith, length-set, length-take, drop-set-lt, ltb-true, le-leb}
use Rattle.window.specs.declared.query.Query.{Query}
use Rattle.window.specs.Refusals.{has_number, is_registered}
use Rattle.window.specs.Calls.{register, withdraw, totals, Answer, Outcome, accepted, refused}
use Rattle.window.specs.Model.{step}
use Rattle.window.proofs.Lists.{length-filter}
use Rattle.window.proofs.Steps.{accepted-refused}
use Rattle.registry.specs.Records.{record_limit, unused}
use Rattle.records.specs.Laid.{laid}
use Rattle.records.specs.LentList.{overwritten, used_of, has_place, appended, without, filled_up, withdrawn}
use Rattle.records.proofs.Lists.{overwritten-length, overwritten-first, overwritten_rest}
use Rattle.records.proofs.Editing.{filled-length}
use Rattle.board.specs.Tables.{Tables, tables_long, KeptBeyond}
use Rattle.engine.specs.declared.state.State.{State}
use Rattle.engine.specs.Machine.{Machine, machine}
use Rattle.engine.specs.Promises.{Promise, StartEnsures, Ensures, ReadingEnsures}
use Rattle.window.specs.Queries.{joining}
use Rattle.engine.proofs.Refusing.{refused-start}
use Rattle.engine.proofs.Steady.{Steady, start_steady, call_steady, reading_steady}
use Rattle.lent.specs.Lent.{lent, machine_with}
use Rattle.lent.specs.Promises.{OnLent}
use Rattle.lent.proofs.Listing.{first-filled, long-laid, long-below, relisted, relisted_start, register_fills, withdraw_fills}

-- ---- beyond the first 32

-- the first 32 records put into a list
stored_kept : (list xs : List Query) → length list ≡ record_limit → KeptBeyond record_limit xs (overwritten list xs)
stored_kept list xs n =
    record {
      as_long = overwritten-length list xs;
      beyond = subst (λ (k : ℕ). drop k (overwritten list xs) ≡ drop k xs) n (overwritten_rest list xs);
    }

same_kept : (xs : List Query) → KeptBeyond record_limit xs xs
same_kept xs = record { as_long = refl; beyond = refl }

-- a record that joins stands among the first 32
appended-kept : (k : ℕ) (q : Query) (xs : List Query) → KeptBeyond record_limit xs (appended k q xs)
appended-kept k q xs = go (has_place k xs) refl
  where
    go : (b : Bool) → has_place k xs ≡ b → KeptBeyond record_limit xs (cond b (set xs k q) xs)
    go true e =
        let inside : k < min (length xs) record_limit = ltb-true k (min (length xs) record_limit) e in
        record { as_long = length-set xs k q; beyond = drop-set-lt record_limit xs k q (omega arith) }
    go false e = same_kept xs

-- where a record leaves, the first 32 are written
withdrawn-kept : (number k : ℕ) (xs : List Query) → KeptBeyond record_limit xs (withdrawn number k xs)
withdrawn-kept number k xs = go (is_registered number (used_of k xs))
  where
    left : List Query
    left = without number (used_of k xs)

    few : length left ≤ record_limit
    few = omega (arith, length-filter (λ (q : Query). not (has_number number q)) (used_of k xs), length-take k (take record_limit xs), length-take record_limit xs)

    go : (b : Bool) → KeptBeyond record_limit xs (cond b (overwritten (filled_up left) xs) xs)
    go true = stored_kept (filled_up left) xs (filled-length left few)
    go false = same_kept xs

-- ---- a list that is long enough

module _ (st : State) (xs : List Query) (t : Tables) (l : record_limit ≤ length xs) where
  -- what the engine is lent
  abbrev before : Machine
  before = machine_with st (take record_limit xs) t

  -- what it promises of the first 32 records as they were and as they are left, is promised of the lent list, where the
  -- others are kept, and where a refused call leaves each as it was
  on-lent : (promise : Promise) → Steady promise → (o : Outcome) (st' : State) (zs : List Query) (t' : Tables)
      → KeptBeyond record_limit xs zs → ((k : ℕ) → o ≡ refused k → zs ≡ xs)
      → promise before o (machine_with st' (take record_limit zs) t') → OnLent promise (lent st xs t) o (lent st' zs t')
  on-lent promise steady o st' zs t' kept alone p =
      record {
        short = λ f. steady.short _ _ _ p (long-below st (take record_limit xs) t ∙ rw (le-leb record_limit (length xs) l) at f);
        promised = λ f. p;
        unchanged = λ k i. ap₂ (λ (m : Machine) (ys : List Query). lent m.state ys m.tables) (steady.unchanged _ _ _ k p i) (alone k i);
        kept = kept;
      }

  -- an accepted call: the others are kept
  accepted-lent : (promise : Promise) → Steady promise → (ns : List ℕ) (given : List Answer) (st' : State) (zs : List Query) (t' : Tables) → KeptBeyond record_limit xs zs
      → promise before (accepted ns given) (machine_with st' (take record_limit zs) t') → OnLent promise (lent st xs t) (accepted ns given) (lent st' zs t')
  accepted-lent promise steady ns given st' zs t' kept p =
      on-lent promise steady (accepted ns given) st' zs t' kept (λ k i. accepted-refused ns given k i) p

  -- a call that the engine refuses: the numbers that it leaves are those that it was lent
  pub refused-lent : (promise : Promise) → Steady promise → (k : ℕ) (l' : List ℕ) (t' : Tables)
      → promise before (refused k) (machine st l' t') → OnLent promise (lent st xs t) (refused k) (lent st xs t')
  refused-lent promise steady k l' t' p =
      on-lent promise steady (refused k) st xs t' (same_kept xs) (λ j i. refl)
      (subst (λ (n : List ℕ). promise before (refused k) (machine st n t')) (ap (λ (m : Machine). m.list) (steady.unchanged _ _ _ k p refl)) p)

  -- ---- the five calls

  module _ (st' : State) (zs : List Query) (t' : Tables) (l' ns : List ℕ) (given : List Answer) where
    -- a start, of whatever was used of the records that it was lent: the first 32 become unused
    pub start-lent : (n : ℕ) → StartEnsures (machine st (laid n (take record_limit xs)) t) (accepted ns given) (machine st' l' t')
        → zs ≡ overwritten (replicate record_limit unused) xs → OnLent StartEnsures (lent st xs t) (accepted ns given) (lent st' zs t')
    start-lent n p is =
        accepted-lent StartEnsures start_steady ns given st' zs t'
        (subst (KeptBeyond record_limit xs) (sym is) (stored_kept (replicate record_limit unused) xs refl))
        (relisted_start st st' (take record_limit xs) (take record_limit zs) t t' l' ns given n p (ap (take record_limit) is ∙ overwritten-first (replicate record_limit unused) xs l))

    -- a registration: the query is appended
    pub register-lent : (number kind range slide : ℕ) → Ensures (register number kind range slide) before (accepted ns given) (machine st' l' t')
        → zs ≡ appended st.registered (joining number kind range slide st.count) xs
        → OnLent (Ensures (register number kind range slide)) (lent st xs t) (accepted ns given) (lent st' zs t')
    register-lent number kind range slide p is =
        accepted-lent (Ensures (register number kind range slide)) (call_steady (register number kind range slide)) ns given st' zs t'
        (subst (KeptBeyond record_limit xs) (sym is) (appended-kept st.registered (joining number kind range slide st.count) xs))
        (relisted st st' (take record_limit xs) (take record_limit zs) t t' l' ns given (register number kind range slide) p
        (λ s rep.
        first-filled (step s (register number kind range slide)).state.queries (drop record_limit xs) zs (p.represents s rep).invariant.within_limits.few
        (is ∙ register_fills s st xs t l rep ns given number kind range slide (p.agrees s rep))))

    -- a withdrawal: the query is withdrawn
    pub withdraw-lent : (number : ℕ) → Ensures (withdraw number) before (accepted ns given) (machine st' l' t') → zs ≡ withdrawn number st.registered xs
        → OnLent (Ensures (withdraw number)) (lent st xs t) (accepted ns given) (lent st' zs t')
    withdraw-lent number p is =
        accepted-lent (Ensures (withdraw number)) (call_steady (withdraw number)) ns given st' zs t'
        (subst (KeptBeyond record_limit xs) (sym is) (withdrawn-kept number st.registered xs))
        (relisted st st' (take record_limit xs) (take record_limit zs) t t' l' ns given (withdraw number) p
        (λ s rep.
        first-filled (step s (withdraw number)).state.queries (drop record_limit xs) zs (p.represents s rep).invariant.within_limits.few
        (is ∙ withdraw_fills s st xs t l rep ns given number (p.agrees s rep))))

  -- a start that is refused: a table is too short
  pub start-refused : (n k : ℕ) (l' : List ℕ) (t' : Tables) → StartEnsures (machine st (laid n (take record_limit xs)) t) (refused k) (machine st l' t')
      → OnLent StartEnsures (lent st xs t) (refused k) (lent st xs t')
  start-refused n k l' t' p = go (tables_long t) refl
    where
      rs : List Query
      rs = take record_limit xs

      same : t ≡ t'
      same = sym (ap (λ (m : Machine). m.tables) (p.unchanged k refl))

      go : (b : Bool) → tables_long t ≡ b → OnLent StartEnsures (lent st xs t) (refused k) (lent st xs t')
      go true e = accepted-refused (0 ∷ []) [] k (sym (p.accepts (long-laid n st rs t ∙ e)))
      go false e =
          rw (p.short (long-laid n st rs t ∙ e))
          (refused-lent StartEnsures start_steady 1 (laid st.registered rs) t'
          (subst (λ (u : Tables). StartEnsures before (refused 1) (machine_with st rs u)) same (refused-start before (long-below st rs t ∙ e))))

  -- a reading: no record is written
  pub reading-lent : (v : ℤ) (places after : List ℤ) (o : Outcome) (st' : State) (t' : Tables)
      → ReadingEnsures v places after before o (machine st' (laid st.registered (take record_limit xs)) t')
      → OnLent (ReadingEnsures v places after) (lent st xs t) o (lent st' xs t')
  reading-lent v places after o st' t' p =
      on-lent (ReadingEnsures v places after) (reading_steady v places after) o st' xs t' (same_kept xs) (λ k i. refl)
      (subst (λ (n : ℕ). ReadingEnsures v places after before o (machine st' (laid n (take record_limit xs)) t')) (sym p.alone) p)

  -- totals: nor is one
  pub totals-lent : (o : Outcome) → Ensures totals before o before → OnLent (Ensures totals) (lent st xs t) o (lent st xs t)
  totals-lent o p = on-lent (Ensures totals) (call_steady totals) o st xs t (same_kept xs) (λ k i. refl) p
