-- The call of `store` inside the walk of a function that was lent the records as a `&κ mut [Query]`: one step.
--     calls_store      the slice is given up to `store`. What is left is what says its last records: `overwritten`
-- In front of the context stand the token of κ and what the slice owns; each operand is read with one entry less in
-- front: see the type. Assumes `Logic`, and that the table of calls is monotone under a frame. No proof needs this law
-- today.
use mathlib.Core.Path.{◌≡◌, refl, sym, ap, subst}
use Prim.Native.Nat.{ℕ, ◌<◌, ◌^◌}
use mathlib.Core.List.{List, [], ◌∷◌}
use lib.ListN.{length, take}
use seplogic.Ra.Ura.{Ura}
use mir.Syntax.{Callee, Place, Opd as Operand, Body, seq, call, named, w64}
use mir.Val.{Val, vunit, vint}
use base.Logic.{SProp, ent, sep, id⊢}
use base.Fml.{Lft, GName, Share, ftrue, flft}
use prog.Memory.{Memory}
use prog.Routine.{Routine}
use prog.Wp.{Env, Calls, Loops}
use types.Logic.{Logic, sem}
use sound.WpLaws.{FmC}
use contract.Monad.{Fun, fact}
use types.Kit.{Item, ‵, raw, ◌⊛◌, some, later, Post, runs, lands, Seq, ◌$◌, ◌∵◌, !, qed, move, drop, use1, use2, split, join, pick, fsplit, fjoin, feq_l, frame, await, done}
use types.Run.{Opds}
use denote.Laws.{Is, shows}
use denote.Ref.{MutBor}
use denote.Slice.{slice_val, MutSlice, finally}
use denote.Builtin.{unit, usize}
use denote.Plain.{uint_Makes}
use denote.Steps.{heard, peeks, owned, nothing, only}
use denote.Triple.Clauses.{lasts}
use denote.Triple.Spec.{triple_of}
use denote.Triple.Statement.{Contract, Triple}
use denote.Triple.Call.{calls_at}
use Rattle.window.specs.declared.query.Query.{Query}
use Rattle.records.specs.LentList.{overwritten}
use Rattle.records.proofs.Rows.{Q, L, l_vals, l_val, l_makes}
use Rattle.records.specs.contracts.copy.store as store

module _ {M : Type 1} {𝓤 : Ura M} (𝓛 : Logic 𝓤) (mem : Memory → SProp 𝓤) (run : Routine → Fun 𝓤) where
  -- the contract
  abbrev pub Store : Contract 𝓤
  Store = triple_of 𝓛 store.signature (store.spec 𝓛 mem run)

module _ {M : Type 1} {𝓤 : Ura M} (𝓛 : Logic 𝓤) (mem : Memory → SProp 𝓤) (run : Routine → Fun 𝓤) (b o : ℕ) (ys : List Query) where
  open 𝓛 use {A}

  abbrev at_name : GName → MutBor (List Query)
  at_name δ = record { ref_ptr = (b, o); ghost_name = δ; now = ys }

  abbrev v : Val
  v = slice_val (b, o) (length ys)

  module _ (κ : Lft) (q : Share) (γ : GName) (list : List Query) (m : ℕ) where
    abbrev to_store : (Store 𝓛 mem run).Ghost
    to_store = (((κ, tt), (q, tt), tt, (at_name γ, (list, (m, tt))), (v ∷ [], (l_vals list, (vint w64 m ∷ [], tt)))), tt)

    goes_store : Is L list (l_vals list) → m < 2 ^ 64 → ent 𝓤 (sep 𝓤 (A.lft κ q) (sem 𝓛 ((MutSlice (named 0) κ Q).own_val (at_name γ) (v ∷ [])))) ((Store 𝓛 mem run).pre to_store)
    goes_store gl m-fits =
        qed 𝓛 (‵ (flft κ q) ∷ ‵ ((MutSlice (named 0) κ Q).own_val (at_name γ) (v ∷ [])) ∷ []) ∵ nothing ! $ owned ! usize (Is usize) (uint_Makes 𝓛 w64) m _ (refl, m-fits) $ fjoin ! $ owned ! L (Is L) (l_makes 𝓛) list _ gl $ fjoin ! $ move ! (2 ∷ 0 ∷ []) $ fjoin ! $ nothing ! $ move ! (2 ∷ 0 ∷ []) $ join ! $ join ! $ frame ! $ done !

module _ {M : Type 1} {𝓤 : Ura M} {𝓛 : Logic 𝓤} {K : Type 0} {Γ : List (Item 𝓤)} {E : Env 𝓤 𝓛.H} {C : Calls 𝓤 𝓛.H} {f : Callee} {xs : List Operand} {Λ : Loops 𝓤 𝓛.H} {p : Post 𝓤 𝓛.H} {d : Place} where
  open 𝓛 use {H}

  pub calls_store : K → FmC 𝓤 H 𝓛.laws C → {rest : Body} (mem : Memory → SProp 𝓤) (run : Routine → Fun 𝓤) → Triple 𝓤 (C f) (Store 𝓛 mem run) → (κ : Lft) (q : Share) (b o : ℕ) (γ : GName) (ys list : List Query) (m : ℕ) → Is L list (l_vals list) → m < 2 ^ 64
      → ((i : Item 𝓤) → Opds K 𝓛 (i ∷ Γ) E xs (slice_val (b, o) (length ys) ∷ l_val list ∷ vint w64 m ∷ []))
      → ((zs : List Query) → zs ≡ overwritten (take m list) ys → length zs ≡ length ys → Seq K 𝓛 (‵ (flft κ q) ∷ ‵ (finally Q γ zs) ∷ Γ) (lands C Λ E d vunit rest p))
      → Seq K 𝓛 (‵ (flft κ q) ∷ ‵ ((MutSlice (named 0) κ Q).own_val (record { ref_ptr = (b, o); ghost_name = γ; now = ys }) (slice_val (b, o) (length ys) ∷ [])) ∷ Γ) (runs C Λ E (seq (call f xs d) rest) p)
  calls_store t fm {rest} mem run known κ q b o γ ys list m gl m-fits os k =
      use2 𝓛 (raw ((Store 𝓛 mem run).pre (to_store 𝓛 mem run b o ys κ q γ list m))) (goes_store 𝓛 mem run b o ys κ q γ list m gl m-fits) $
      calls_at t fm (Store 𝓛 mem run) known (to_store 𝓛 mem run b o ys κ q γ list m) (os _) (λ u.
      use1 𝓛 (later (some (λ (r : Unit {0}). ((‵ (flft κ q) ⊛ ‵ ftrue) ⊛ ‵ (unit.own_val r (u ∷ []))) ⊛ some (λ (zs : List Query × (Unit {0} × (Unit {0} × Unit {0}))). ‵ (lasts store.ended (κ, tt) (at_name 𝓛 mem run b o ys γ, (list, (m, tt))) zs) ⊛ raw (fact 𝓤 (zs.0 ≡ overwritten (take m list) ys)))))) (id⊢ 𝓤 _) $ await t tt $ pick t (λ r.
      split t $ move t (1 ∷ []) $ pick t (λ zs. split t $ move t (1 ∷ []) $ heard t (zs.0 ≡ overwritten (take m list) ys) (λ e. fsplit t $ fsplit t $ fsplit t $ move t (1 ∷ []) $ feq_l t (λ l.
      -- [the last records; the slice's borrow; nothing of list; the token and the result; …]
      move t (3 ∷ []) $ split t $ split t $ move t (2 ∷ []) $ peeks t unit (Is unit) (shows 𝓛 unit) r (u ∷ []) (λ is. drop t $
      -- [the token; true; the last records; the slice's borrow; nothing of list; …]
      move t (1 ∷ []) $ drop t $ move t (2 ∷ []) $ drop t $ move t (2 ∷ []) $ drop t $
      subst (λ (w : Val). Seq K 𝓛 (‵ (flft κ q) ∷ ‵ (finally Q γ zs.0) ∷ Γ) (lands C Λ E d w rest p)) (sym (ap only is)) (k zs.0 e l)))))))
