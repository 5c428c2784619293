-- A call of a function over plain values, inside a proof that goes through a function's code statement by statement:
-- one step. It says nothing of the crate, and no proof of the crate needs it today.
--     calls_plain      nothing that the caller has is needed by the callee, and all that is had from it is what its
--     result is and a fact of it.        The result's machine value is written out (`only (vals r)`)
--     plain_post       the callee's `post`, at a signature with no lifetime, gives that, from what its `ensured` says
-- Assumes `Logic`, and that the table of calls is monotone under a frame.
use mathlib.Core.Path.{sym, ap, subst}
use mathlib.Core.List.{List, [], ◌∷◌}
use seplogic.Ra.Ura.{Ura}
use mir.Syntax.{Callee, Place, Opd as Operand, Body, seq, call}
use mir.Val.{Val}
use base.Logic.{SProp, ent, sep, ex, emp, id⊢}
use prog.Wp.{Env, Calls, Loops}
use types.Logic.{Logic, sem}
use sound.WpLaws.{FmC}
use contract.Monad.{fact}
use types.Kit.{Item, ‵, raw, ◌⊛◌, some, later, Post, runs, lands, Seq, ◌$◌, ◌∵◌, !, qed, move, drop, use0, use1, split, pick, await, updating, now as at_once, show, done}
use types.Run.{Opds}
use denote.RattleType.{RattleType}
use denote.Laws.{Is, Tells, shows}
use denote.Steps.{heard, peeks, only}
use denote.Triple.Statement.{Contract, Triple}
use denote.Triple.Call.{calls_at}

-- what is known of a value at some machine value is known at the one that is written out
pub seen : (R : RattleType) (vals : R.Denot → List Val) → Tells R (Is R) vals → (r : R.Denot) (u : Val) → Is R r (u ∷ []) → Is R r (vals r)
seen R vals tells r u is = subst (Is R r) (tells r (u ∷ []) is) is

-- what is had after a call: the result at the machine value u, and the fact
abbrev pub Had : {M : Type 1} {𝓤 : Ura M} (𝓛 : Logic 𝓤) (R : RattleType) → (R.Denot → Type 0) → Val → SProp 𝓤
Had {𝓤 = 𝓤} 𝓛 R φ u = 𝓛.H.⇛ (ex 𝓤 (λ (r : R.Denot). sep 𝓤 (sem 𝓛 (R.own_val r (u ∷ []))) (fact 𝓤 (φ r))))

module _ {M : Type 1} {𝓤 : Ura M} (𝓛 : Logic 𝓤) (R : RattleType) where
  open 𝓛 use {H}

  pub plain_post : (Ens : R.Denot → SProp 𝓤) (φ : R.Denot → Type 0) → ((r : R.Denot) → ent 𝓤 (Ens r) (fact 𝓤 (φ r))) → (u : Val)
      → ent 𝓤 (H.⇛ (ex 𝓤 (λ (r : R.Denot). sep 𝓤 (sep 𝓤 (emp 𝓤) (sem 𝓛 (R.own_val r (u ∷ [])))) (Ens r)))) (Had 𝓛 R φ u)
  plain_post Ens φ said u =
      qed 𝓛 (raw (H.⇛ (ex 𝓤 (λ (r : R.Denot). sep 𝓤 (sep 𝓤 (emp 𝓤) (sem 𝓛 (R.own_val r (u ∷ [])))) (Ens r)))) ∷ []) ∵ updating ! $
      use1 𝓛 (later (some (λ (r : R.Denot). (raw (emp 𝓤) ⊛ ‵ (R.own_val r (u ∷ []))) ⊛ raw (Ens r)))) (id⊢ 𝓤 _) $ await ! tt $ pick ! (λ r. split ! $ split ! $ drop ! $ move ! (1 ∷ []) $
      use1 𝓛 (raw (fact 𝓤 (φ r))) (said r) $ at_once ! $ show ! (λ (t : R.Denot). sep 𝓤 (sem 𝓛 (R.own_val t (u ∷ []))) (fact 𝓤 (φ t))) r $ move ! (1 ∷ 0 ∷ []) $ done !)

module _ {M : Type 1} {𝓤 : Ura M} {𝓛 : Logic 𝓤} {K : Type 0} {Γ : List (Item 𝓤)} {E : Env 𝓤 𝓛.H} {C : Calls 𝓤 𝓛.H} {f : Callee} {xs : List Operand} {Λ : Loops 𝓤 𝓛.H} {q : Post 𝓤 𝓛.H} {d : Place} where
  open 𝓛 use {H}

  pub calls_plain : K → FmC 𝓤 H 𝓛.laws C → {rest : Body} (c : Contract 𝓤) → Triple 𝓤 (C f) c → (x : c.Ghost) → ent 𝓤 (emp 𝓤) (c.pre x)
      → (R : RattleType) (vals : R.Denot → List Val) → Tells R (Is R) vals → (φ : R.Denot → Type 0) → ((u : Val) → ent 𝓤 (c.post x u) (Had 𝓛 R φ u))
      → Opds K 𝓛 (raw (c.pre x) ∷ Γ) E xs (c.args x)
      → ((r : R.Denot) → φ r → Is R r (vals r) → Seq K 𝓛 Γ (lands C Λ E d (only (vals r)) rest q))
      → Seq K 𝓛 Γ (runs C Λ E (seq (call f xs d) rest) q)
  calls_plain t fm {rest} c met x go R vals tl φ post os k =
      use0 𝓛 (raw (c.pre x)) go $ calls_at t fm c met x os (λ u.
      use1 𝓛 (later (some (λ (r : R.Denot). ‵ (R.own_val r (u ∷ [])) ⊛ raw (fact 𝓤 (φ r))))) (post u) $ await t tt $ pick t (λ r. split t $ move t (1 ∷ []) $ heard t (φ r) (λ e.
      peeks t R (Is R) (shows 𝓛 R) r (u ∷ []) (λ is. drop t $
      subst (λ (w : Val). Seq K 𝓛 Γ (lands C Λ E d w rest q)) (sym (ap only (tl r (u ∷ []) is))) (k r e (seen R vals tl r u is))))))
