-- The types `Query` and `[Query; 32]` as `Giving` and `Steps` cite them: their rows, how a value's machine value is
-- spelled, and the laws. Assumes nothing; the laws over `Logic` take it.
use mathlib.Core.List.{List, [], ◌∷◌}
use seplogic.Ra.Ura.{Ura}
use mir.Val.{Val}
use types.Logic.{Logic}
use denote.RattleType.{RattleType}
use denote.Laws.{Is, Makes}
use denote.Array.{Array, array_vals, Array-Makes}
use denote.Struct.Laws as LL
use denote.Steps.{only}
use Rattle.window.specs.declared.query.Query.{Query}
use Rattle.window.specs.contracts.query.Query as T
use Rattle.window.proofs.query.Query.TheLaws as T'

abbrev pub Q : RattleType
Q = T.the_row

abbrev pub L : RattleType
L = Array Q 32

abbrev pub q_vals : Query → List Val
q_vals x = T'.lowered x ∷ []

abbrev pub l_vals : List Query → List Val
l_vals = array_vals q_vals

abbrev pub l_val : List Query → Val
l_val xs = only (l_vals xs)

module _ {M : Type 1} {𝓤 : Ura M} (𝓛 : Logic 𝓤) where
  pub q_makes : Makes 𝓛 Q (Is Q)
  q_makes = LL.makes T.the_type T'.the_plain 𝓛

  pub l_makes : Makes 𝓛 L (Is L)
  l_makes = Array-Makes 𝓛 Q q_makes 32
