-- What a closing makes of state and tables.
-- Assumes nothing.
use Rattle.std.specs.Prelude.{ℕ, ◌<◌, ◌≡◌, Bool, true, false}
use Rattle.ints.specs.Sizes.{Small}
use Rattle.window.specs.Queries.{count_limit}
use Rattle.deque.specs.Sums.{sum_limit}
use Rattle.board.specs.declared.aggregate.Aggregate.{Aggregate}
use Rattle.board.specs.Tables.{Tables}
use Rattle.board.specs.Boards.{Within, CloseEnsures}
use Rattle.engine.specs.declared.partial.Open.{Open}
use Rattle.engine.specs.declared.partial.Open.TheVariants.{Nothing, Empty, Holding}
use Rattle.engine.specs.declared.state.State.{State}

-- what a closing needs of the state, beside long tables: the numbers that it adds fit
pub record Ready (st : State) : Type 0 where
  pub board : Within st.board
  pub partial : (a : Aggregate) → st.partial ≡ Holding a → Small sum_limit a.sum × (st.board.closed < count_limit)

-- state and tables before and after the closing of the open partial a, with the horizon h
pub record Closed (a : Aggregate) (h : ℕ) (st : State) (t : Tables) (st' : State) (t' : Tables) : Type 0 where
  pub count : st'.count ≡ st.count
  pub registered : st'.registered ≡ st.registered
  pub partial : st'.partial ≡ Empty
  pub board : CloseEnsures a h st.board t st'.board t'

-- state and tables before and after the closing of what is open: an open partial that holds a reading closes, and
-- otherwise nothing changes
abbrev pub OpenClosed : Open → ℕ → State → Tables → State → Tables → Type 0
OpenClosed Nothing h st t st' t' = (st' ≡ st) × (t' ≡ t)
OpenClosed Empty h st t st' t' = (st' ≡ st) × (t' ≡ t)
OpenClosed (Holding a) h st t st' t' = Closed a h st t st' t'

-- the same, where the test holds; only laws use it
unfoldable pub ClosedWhere : Bool → ℕ → State → Tables → State → Tables → Type 0
ClosedWhere true h st t st' t' = OpenClosed st.partial h st t st' t'
ClosedWhere false h st t st' t' = (st' ≡ st) × (t' ≡ t)
