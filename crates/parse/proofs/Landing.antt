-- A call's result inside a walk: its machine value is written out field by field, so that a later statement can read a
-- field of it. It says nothing of the crate. Assumes nothing.
use mathlib.Core.Path.{sym, ap, subst}
use mathlib.Core.List.{List, [], ◌∷◌}
use seplogic.Ra.Ura.{Ura}
use mir.Syntax.{Place, Body}
use mir.Val.{Val}
use prog.Wp.{Env, Calls, Loops}
use types.Logic.{Logic}
use types.Kit.{Item, Post, lands, Seq}
use denote.RattleType.{RattleType}
use denote.Laws.{Is, Tells}
use denote.Steps.{only}

module _ {M : Type 1} {𝓤 : Ura M} {𝓛 : Logic 𝓤} {K : Type 0} {Γ : List (Item 𝓤)} {E : Env 𝓤 𝓛.H} {C : Calls 𝓤 𝓛.H} {Λ : Loops 𝓤 𝓛.H} {q : Post 𝓤 𝓛.H} {d : Place} where
  pub written_out : K → (R : RattleType) (vals : R.Denot → List Val) → Tells R (Is R) vals → {rest : Body} (r : R.Denot) (u : Val) → Is R r (u ∷ [])
      → (Is R r (vals r) → Seq K 𝓛 Γ (lands C Λ E d (only (vals r)) rest q)) → Seq K 𝓛 Γ (lands C Λ E d u rest q)
  written_out t R vals tells {rest} r u is k =
      subst (λ (w : Val). Seq K 𝓛 Γ (lands C Λ E d w rest q)) (sym (ap only (tells r (u ∷ []) is))) (k (subst (Is R r) (tells r (u ∷ []) is) is))
