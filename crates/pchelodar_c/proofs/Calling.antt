-- From an accepted call of the engine on what numbers are read as to what is promised of the numbers.
-- Assumes nothing.
use Rattle.std.proofs.Common.{ℕ, ◌≤◌, ◌≡◌, sym, ap, ◌∙◌, Bool, ◌&&◌, List, ◌++◌, length, take, drop}
use Rattle.std.proofs.lemmas.Bool.{le-leb}
use Rattle.window.specs.Calls.{Answer, accepted}
use Rattle.board.specs.Tables.{Tables}
use Rattle.engine.specs.declared.state.State.{State}
use Rattle.engine.specs.Machine.{Machine, machine, machine_long}
use Rattle.engine.specs.Promises.{Promise}
use Rattle.engine.proofs.Steady.{Steady}
use Rattle.encoding.specs.Written.{state_numbers, numbers_of_state, state_of}
use Rattle.encoding.proofs.States.{state_kept}
use Rattle.pchelodar_c.specs.Slices.{slices, slices_long, slices_machine}
use Rattle.pchelodar_c.specs.Promises.{OnNumbers}

-- where there is room, check 1 is that of the engine, and what is written is read again as the state that it came to
pub written_back : {promise : Promise} → Steady promise → {w w' ns ns' : List ℕ} {t t' : Tables} {xs : List ℕ} {answers : List Answer} {st st' : State}
    → (state_numbers ≤ length w) × (st ≡ state_of (take state_numbers w)) → promise (machine st ns t) (accepted xs answers) (machine st' ns' t')
    → w' ≡ numbers_of_state st' ++ drop state_numbers w → state_of (take state_numbers w') ≡ st' → OnNumbers promise (slices w ns t) (accepted xs answers) (slices w' ns' t')
written_back {promise} steady {w} {w'} {ns} {ns'} {t} {t'} {xs} {answers} {st} {st'} from p written read =
    let m : Machine = slices_machine (slices w ns t) in
    let q : promise m (accepted xs answers) (machine (state_of (take state_numbers w')) ns' t') = rw (read, ← from.1) p in
    let long : slices_long (slices w ns t) ≡ machine_long m = ap (λ (b : Bool). b && machine_long m) (le-leb state_numbers (length w) from.0) in
    record {
      short = λ f. steady.short m _ _ q (sym long ∙ f);
      promised = λ f. q;
      unchanged = λ k i. cc;
      state = state_kept st' w w' from.0 written;
      queries = steady.listed m _ _ q;
    }
