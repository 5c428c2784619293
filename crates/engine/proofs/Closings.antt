-- Laws of a closing of what is open.
-- Assumes nothing.
use Prim.Native.Nat.{ℕ}
use mathlib.Core.Path.{◌≡◌, sym, ◌∙◌, subst}
use mathlib.Core.Bool.{Bool, true}
use Rattle.board.specs.Tables.{Tables}
use Rattle.engine.specs.declared.partial.Open.{Open}
use Rattle.engine.specs.declared.state.State.{State}
use Rattle.engine.specs.Closings.{OpenClosed, ClosedWhere}

-- ---- the closing of what is open

-- where the test holds, what is open closes
pub closed_there : (b found : Bool) (h : ℕ) (st : State) (t : Tables) → found ≡ b → (st' : State) (t' : Tables) → found ≡ true → OpenClosed st.partial h st t st' t'
    → ClosedWhere b h st t st' t'
unfolding ClosedWhere
closed_there b found h st t same st' t' e c = subst (λ (x : Bool). ClosedWhere x h st t st' t') (sym e ∙ same) c

-- the same by an equal horizon
pub closed_at : (p : Open) (h h' : ℕ) (st : State) (t : Tables) (st' : State) (t' : Tables) → h ≡ h' → OpenClosed p h st t st' t' → OpenClosed p h' st t st' t'
closed_at p h h' st t st' t' e c = subst (λ (k : ℕ). OpenClosed p k st t st' t') e c
