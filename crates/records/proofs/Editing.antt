-- Whether a number is registered in a list of records; records that are filled up to 32.
-- Assumes nothing.
use Rattle.std.proofs.Common.{◌≡◌, ℕ, ◌≤◌, List, length, is_some, arith, length-append}
use Rattle.std.proofs.lemmas.List.{length-replicate}
use Rattle.window.specs.declared.query.Query.{Query}
use Rattle.window.specs.Refusals.{is_registered}
use Rattle.registry.specs.Records.{record_limit, place_of}
use Rattle.registry.proofs.Finding.{registered-at}
use Rattle.records.specs.LentList.{filled_up}

-- ---- the place of a number

-- a number is registered where it has a place
pub registered_place : (number : ℕ) (qs : List Query) → is_registered number qs ≡ is_some (place_of number qs)
registered_place number qs = registered-at number qs

-- ---- records filled up

-- records that are filled up are 32
pub filled-length : (qs : List Query) → length qs ≤ record_limit → length (filled_up qs) ≡ record_limit
filled-length qs l = simp (length-append, length-replicate) (omega arith)
