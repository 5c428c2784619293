-- A ring over the first 4,096 places of lent tables (document 01, "The board"), and the list of entries that it holds.
-- Assumes nothing.
use Rattle.std.specs.Prelude.{ℕ, zero, suc, ◌+◌, ◌-◌, ◌%◌, ◌≤◌, ◌<◌, ◌≡◌, List, [], ◌∷◌, ◌++◌, length, get_or, drop}
use Rattle.std.specs.List.{position_or_len}
use Rattle.window.specs.Partials.{Entry, live}
use Rattle.deque.specs.declared.ring.Ring.{Ring}

-- each table is used as a ring over its first 4,096 places
abbrev pub capacity : ℕ
capacity = 4096

-- the place j places after p
abbrev pub place : ℕ → ℕ → ℕ
place p j = (p + j) % capacity

-- what the code asks of a ring, and keeps
pub record Fits (r : Ring) : Type 0 where
  pub inside : r.head < capacity
  pub few : r.len ≤ capacity

-- the list of f 0, f 1, .. with n elements
unfoldable pub listed : {A : Type 0} → ℕ → (ℕ → A) → List A
listed zero f = []
listed (suc n) f = f 0 ∷ listed n (λ j. f (suc j))

-- the view of a ring: what stands at the places of its entries, oldest first
abbrev pub view : {A : Type 0} → (ℕ → A) → Ring → List A
view content r = listed r.len (λ j. content (place r.head j))

-- an entry from its start and its value
abbrev pub entry_with : {A : Type 0} → ℕ → A → Entry A
entry_with s v = record { start = s; value = v }

-- the start that stands at a place of the table of starts
abbrev pub start_at : List ℕ → ℕ → ℕ
start_at starts p = get_or starts p 0

-- the starts of a ring's entries
abbrev pub starts_of : List ℕ → Ring → List ℕ
starts_of starts r = view (start_at starts) r

-- ---- eviction, room and search, by list functions

-- the ring without its k oldest entries
abbrev pub advanced : ℕ → Ring → Ring
advanced k r = record { head = place r.head k; len = r.len - k }

-- the ring with room for one entry more: a full one loses its oldest
abbrev pub with_room : Ring → Ring
with_room r = advanced (r.len + 1 - capacity) r

-- the ring with one entry more, after the newest
abbrev pub grown : Ring → Ring
grown r = record { head = r.head; len = r.len + 1 }

-- how many starts stand before the first that is at h or later; all of them where none is
abbrev pub count_before : ℕ → List ℕ → ℕ
count_before h ss = position_or_len (live h) ss

-- what stands beyond the first 4,096 places of a table is as it was
abbrev pub BeyondKept : {A : Type 0} → List A → List A → Type 0
BeyondKept before after = drop capacity after ≡ drop capacity before

-- the newest n of a list
abbrev pub newest : {A : Type 0} → ℕ → List A → List A
newest n xs = drop (length xs - n) xs

-- the entries of a ring with y after the newest: a full ring drops its oldest
abbrev pub appended : {A : Type 0} → A → List A → List A
appended y xs = newest capacity (xs ++ (y ∷ []))
