-- The laws of the checks of a call: the verdict of each run of tests that leads to it.
-- Assumes nothing.
use Rattle.std.proofs.Common.{◌≡◌, ℕ, ◌+◌, ◌*◌, ◌<◌, ◌≤◌, true, false, Ok, Err, List, length, sym, ◌∙◌, le-ltb, lt-ltb, le-leb}
use borrow.Author.Tests.{lt-leb}
use Rattle.window.specs.declared.query.Query.{Query}
use Rattle.window.specs.declared.refusal.Refusal.{Refusal}
use Rattle.window.specs.declared.refusal.Refusal.TheVariants.{NumberTaken, ListFull, AnswersTooShort}
use Rattle.window.specs.Queries.{query_limit, count_limit}
use Rattle.window.specs.Refusals.{first_refusal, is_registered, due_at, answer_places, field_checks, list_checks, register_checks, count_checks, places_checks, reading_checks, reading_checks_at}
use Rattle.registry.specs.Records.{used}
use Rattle.registry.proofs.Intact.{used-count}
use Rattle.window.proofs.Refusals.{passed_any, passed_then, refused_then}

-- ---- a registration

module _ (k : ℕ) (l : List ℕ) (number kind range slide : ℕ) where
  abbrev qs : List Query
  qs = used k l

  -- a field is refused
  pub register_field : (r : Refusal) → Err r ≡ first_refusal (field_checks number kind range slide) → Err r ≡ first_refusal (register_checks qs number kind range slide)
  unfolding register_checks
  register_field r e = sym (refused_then (field_checks number kind range slide) (list_checks qs number) r (sym e))

  module _ (e : Ok tt ≡ first_refusal (field_checks number kind range slide)) where
    -- where the fields pass, the list decides
    register_list : first_refusal (register_checks qs number kind range slide) ≡ first_refusal (list_checks qs number)
    unfolding register_checks
    register_list = passed_then (field_checks number kind range slide) (list_checks qs number) (passed_any (field_checks number kind range slide) (sym e))

    -- the number is taken
    pub register_taken : true ≡ is_registered number qs → Err NumberTaken ≡ first_refusal (register_checks qs number kind range slide)
    unfolding list_checks
    register_taken t = sym (register_list ∙ rw (sym t))

    -- the list is full
    pub register_full : false ≡ is_registered number qs → query_limit ≤ k → Err ListFull ≡ first_refusal (register_checks qs number kind range slide)
    unfolding list_checks
    register_full t h = sym (register_list ∙ rw (sym t, used-count k l, le-leb query_limit k h))

    -- neither
    pub register_joins : false ≡ is_registered number qs → k < query_limit → Ok tt ≡ first_refusal (register_checks qs number kind range slide)
    unfolding list_checks
    register_joins t h = sym (register_list ∙ rw (sym t, used-count k l, lt-leb query_limit k h))

-- ---- a reading

module _ (n : ℕ) (qs : List Query) (places : ℕ) where
  -- the answers have no room
  pub places_short : places < answer_places * length (due_at (n + 1) qs) → Err AnswersTooShort ≡ first_refusal (places_checks n qs places)
  unfolding places_checks
  places_short k = rw (lt-ltb places (answer_places * length (due_at (n + 1) qs)) k)

  -- they have
  pub places_enough : answer_places * length (due_at (n + 1) qs) ≤ places → Ok tt ≡ first_refusal (places_checks n qs places)
  unfolding places_checks
  places_enough k = rw (le-ltb places (answer_places * length (due_at (n + 1) qs)) k)

  -- the count is refused
  pub reading_uncounted : (r : Refusal) → Err r ≡ first_refusal (count_checks count_limit n) → Err r ≡ first_refusal (reading_checks n qs places)
  unfolding reading_checks_at
  reading_uncounted r e = sym (refused_then (count_checks count_limit n) (places_checks n qs places) r (sym e))

  -- where it passes, the places decide
  pub reading_counted : Ok tt ≡ first_refusal (count_checks count_limit n) → first_refusal (places_checks n qs places) ≡ first_refusal (reading_checks n qs places)
  unfolding reading_checks_at
  reading_counted e = sym (passed_then (count_checks count_limit n) (places_checks n qs places) (passed_any (count_checks count_limit n) (sym e)))
