-- Bytes put into a lent slice.
-- Assumes nothing.
use Rattle.std.specs.Prelude.{◌≡◌, ℕ, ◌+◌, List, ◌++◌, length, take, drop}

-- the slice that held `old` holds `new`: as before up to `at`, then `bytes`, and from `next` on as before
pub record Put (old : List ℕ) (at : ℕ) (bytes new : List ℕ) (next : ℕ) : Type 0 where
  pub ends : next ≡ at + length bytes
  pub as_long : length new ≡ length old
  pub text : take next new ≡ take at old ++ bytes
  pub beyond : drop next new ≡ drop next old

-- some bytes were put, and no other place is written
pub record PutSome (old : List ℕ) (at : ℕ) (new : List ℕ) (next : ℕ) : Type 0 where
  pub bytes : List ℕ
  pub put : Put old at bytes new next
