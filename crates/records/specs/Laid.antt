-- The records of a query list as the numbers that the layer below is lent.
-- Assumes nothing.
use Rattle.std.specs.Prelude.{ℕ, zero, suc, min, List, get_or, replicate}
use Rattle.window.specs.declared.query.Query.{Query}
use Rattle.registry.specs.Records.{record_limit, list_places, with_record, inserted, unused}

-- numbers with the first n of these records
unfoldable pub written : ℕ → List Query → List ℕ → List ℕ
written zero rs l = l
written (suc n) rs l = with_record n (get_or rs n unused) (written n rs l)

-- with the places of the first k records by ascending number
unfoldable pub placed : ℕ → List ℕ → List ℕ
placed zero l = l
placed (suc k) l = inserted k (placed k l)

-- all 32 records, with the places of the first k, the used ones
unfoldable pub laid : ℕ → List Query → List ℕ
laid k rs = placed (min k record_limit) (written record_limit rs (replicate list_places 0))
