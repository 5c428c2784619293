-- A call that the records are given up to, inside the walk of a function that was lent them as a `&κ mut [Query]`: one
-- step. The callee takes them as its first parameter, and plain values after it.
--     calls_given      of any such callee
--     calls_append     of `append`, calls_withdraw of `withdraw`
-- In front of the context stand the token of κ and what the slice owns; what is left is what says its last records.
-- Each operand is read with one entry less in front. Assumes `Logic`, and that the table of calls is monotone under a
-- frame. No proof needs these laws today, but `Steps` of `lent`, which stands as they do.
use mathlib.Core.Path.{◌≡◌, sym, ap, subst}
use Prim.Native.Nat.{ℕ}
use mathlib.Core.List.{List, [], ◌∷◌}
use lib.ListN.{length}
use seplogic.Ra.Ura.{Ura}
use mir.Syntax.{Callee, Place, Opd as Operand, Body, seq, call, named, w32, w64}
use mir.Val.{Val}
use base.Logic.{SProp, ent, sep, ex, id⊢}
use base.Fml.{Fml, Lft, GName, Share, ftrue, flft, fsep}
use prog.Memory.{Memory}
use prog.Routine.{Routine}
use prog.Wp.{Env, Calls, Loops}
use types.Logic.{Logic, sem}
use sound.WpLaws.{FmC}
use contract.Monad.{Fun, fact}
use types.Kit.{Goal, Item, ‵, raw, ◌⊛◌, some, later, Post, runs, lands, Seq, ◌$◌, ◌∵◌, !, qed, move, drop, use1, use2, split, join, pick, fsplit, fjoin, feq_l, frame, await, done}
use types.Run.{Opds}
use denote.RattleType.{RattleType}
use denote.Laws.{Is, Tells, shows}
use denote.Ref.{MutBor}
use denote.Slice.{slice_val, MutSlice, finally}
use denote.Builtin.{usize, u32}
use denote.Plain.{uint_vals, uint_Tells, uint_Makes}
use denote.Steps.{heard, peeks, owned, nothing, only}
use denote.Triple.Clauses.{lasts}
use denote.Triple.Spec.{triple_of}
use denote.Triple.Statement.{Contract, Triple}
use denote.Triple.Call.{calls_at}
use Rattle.window.specs.declared.query.Query.{Query}
use Rattle.records.specs.LentList.{appended, appended_count, withdrawn, withdrawn_count}
use Rattle.records.proofs.Plain.{seen}
use Rattle.records.proofs.Rows.{Q, q_vals, q_makes}
use Rattle.records.specs.contracts.list.append as append
use Rattle.records.specs.contracts.list.withdraw as withdraw

module _ {M : Type 1} {𝓤 : Ura M} {𝓛 : Logic 𝓤} {K : Type 0} {Γ : List (Item 𝓤)} {E : Env 𝓤 𝓛.H} {C : Calls 𝓤 𝓛.H} {f : Callee} {xs : List Operand} {Λ : Loops 𝓤 𝓛.H} {p : Post 𝓤 𝓛.H} {d : Place} where
  -- `last` is the last list of records in what the callee leaves of its parameters, and `after` what says that, from
  -- which `opens` takes what says the records
  open 𝓛 use {H, A}

  pub calls_given : K → FmC 𝓤 H 𝓛.laws C → {rest : Body} (c : Contract 𝓤) → Triple 𝓤 (C f) c → (x : c.Ghost) (κ : Lft) (q : Share) (γ : GName) (own : Fml) (ys : List Query)
      → ent 𝓤 (sep 𝓤 (A.lft κ q) (sem 𝓛 own)) (c.pre x)
      → (R : RattleType) (vals : R.Denot → List Val) → Tells R (Is R) vals → (Z : Type 0) (last : Z → List Query) (after : Z → Fml) (φ : R.Denot → Z → Type 0)
      → ((u : Val) → ent 𝓤 (c.post x u) (H.⇛ (ex 𝓤 (λ (r : R.Denot). sep 𝓤 (sep 𝓤 (sem 𝓛 (fsep (flft κ q) ftrue)) (sem 𝓛 (R.own_val r (u ∷ []))))
      (ex 𝓤 (λ (z : Z). sep 𝓤 (sem 𝓛 (after z)) (fact 𝓤 (φ r z))))))))
      → ((z : Z) (Δ : List (Item 𝓤)) (G : Goal 𝓤 H) → (length (last z) ≡ length ys → Seq K 𝓛 (‵ (finally Q γ (last z)) ∷ Δ) G) → Seq K 𝓛 (‵ (after z) ∷ Δ) G)
      → ((i : Item 𝓤) → Opds K 𝓛 (i ∷ Γ) E xs (c.args x))
      → ((r : R.Denot) (z : Z) → φ r z → length (last z) ≡ length ys → Is R r (vals r) → Seq K 𝓛 (‵ (flft κ q) ∷ ‵ (finally Q γ (last z)) ∷ Γ) (lands C Λ E d (only (vals r)) rest p))
      → Seq K 𝓛 (‵ (flft κ q) ∷ ‵ own ∷ Γ) (runs C Λ E (seq (call f xs d) rest) p)
  calls_given t fm {rest} c known x κ q γ own ys goes R vals tells Z last after φ post opens os k =
      use2 𝓛 (raw (c.pre x)) goes $ calls_at t fm c known x (os _) (λ u.
      use1 𝓛 (later (some (λ (r : R.Denot). (‵ (fsep (flft κ q) ftrue) ⊛ ‵ (R.own_val r (u ∷ []))) ⊛ some (λ (z : Z). ‵ (after z) ⊛ raw (fact 𝓤 (φ r z)))))) (post u) $ await t tt $ pick t (λ r.
      split t $ move t (1 ∷ []) $ pick t (λ z. split t $ move t (1 ∷ []) $ heard t (φ r z) (λ e. opens z _ _ (λ l.
      -- [the last records; the token and the result; …]
      move t (1 ∷ []) $ split t $ fsplit t $ move t (2 ∷ []) $ peeks t R (Is R) (shows 𝓛 R) r (u ∷ []) (λ is. drop t $
      -- [the token; true; the last records; …]
      move t (1 ∷ []) $ drop t $
      subst (λ (w : Val). Seq K 𝓛 (‵ (flft κ q) ∷ ‵ (finally Q γ (last z)) ∷ Γ) (lands C Λ E d w rest p)) (sym (ap only (tells r (u ∷ []) is)))
      (k r z e l (seen R vals tells r u is))))))))

module _ {M : Type 1} {𝓤 : Ura M} (𝓛 : Logic 𝓤) (mem : Memory → SProp 𝓤) (run : Routine → Fun 𝓤) where
  -- the contracts
  abbrev pub Append : Contract 𝓤
  Append = triple_of 𝓛 append.signature (append.spec 𝓛 mem run)

  abbrev pub Withdraw : Contract 𝓤
  Withdraw = triple_of 𝓛 withdraw.signature (withdraw.spec 𝓛 mem run)

module _ {M : Type 1} {𝓤 : Ura M} (𝓛 : Logic 𝓤) (mem : Memory → SProp 𝓤) (run : Routine → Fun 𝓤) (κ : Lft) (q : Share) (b o : ℕ) (γ : GName) (ys : List Query) (count : ℕ) (count-is : Is usize count (uint_vals w64 count)) where
  open 𝓛 use {A}

  abbrev at_name : MutBor (List Query)
  at_name = record { ref_ptr = (b, o); ghost_name = γ; now = ys }

  abbrev v : Val
  v = slice_val (b, o) (length ys)

  module _ (x : Query) (x-is : Is Q x (q_vals x)) where
    abbrev to_append : (Append 𝓛 mem run).Ghost
    to_append = (((κ, tt), (q, tt), tt, (at_name, (count, (x, tt))), (v ∷ [], (uint_vals w64 count, (q_vals x, tt)))), tt)

    goes_append : ent 𝓤 (sep 𝓤 (A.lft κ q) (sem 𝓛 ((MutSlice (named 0) κ Q).own_val at_name (v ∷ [])))) ((Append 𝓛 mem run).pre to_append)
    goes_append =
        qed 𝓛 (‵ (flft κ q) ∷ ‵ ((MutSlice (named 0) κ Q).own_val at_name (v ∷ [])) ∷ []) ∵ nothing ! $
        owned ! Q (Is Q) (q_makes 𝓛) x _ x-is $ fjoin ! $ owned ! usize (Is usize) (uint_Makes 𝓛 w64) count _ count-is $ fjoin ! $ move ! (2 ∷ 0 ∷ []) $ fjoin ! $ nothing ! $ move ! (2 ∷ 0 ∷ []) $ join ! $ join ! $ frame ! $ done !

  module _ (number : ℕ) (number_is : Is u32 number (uint_vals w32 number)) where
    abbrev to_withdraw : (Withdraw 𝓛 mem run).Ghost
    to_withdraw = (((κ, tt), (q, tt), tt, (at_name, (count, (number, tt))), (v ∷ [], (uint_vals w64 count, (uint_vals w32 number, tt)))), tt)

    goes_withdraw : ent 𝓤 (sep 𝓤 (A.lft κ q) (sem 𝓛 ((MutSlice (named 0) κ Q).own_val at_name (v ∷ [])))) ((Withdraw 𝓛 mem run).pre to_withdraw)
    goes_withdraw =
        qed 𝓛 (‵ (flft κ q) ∷ ‵ ((MutSlice (named 0) κ Q).own_val at_name (v ∷ [])) ∷ []) ∵ nothing ! $
        owned ! u32 (Is u32) (uint_Makes 𝓛 w32) number _ number_is $ fjoin ! $ owned ! usize (Is usize) (uint_Makes 𝓛 w64) count _ count-is $ fjoin ! $ move ! (2 ∷ 0 ∷ []) $ fjoin ! $ nothing ! $ move ! (2 ∷ 0 ∷ []) $ join ! $ join ! $ frame ! $ done !

module _ {M : Type 1} {𝓤 : Ura M} {𝓛 : Logic 𝓤} {K : Type 0} {Γ : List (Item 𝓤)} {E : Env 𝓤 𝓛.H} {C : Calls 𝓤 𝓛.H} {f : Callee} {xs : List Operand} {Λ : Loops 𝓤 𝓛.H} {p : Post 𝓤 𝓛.H} {d : Place} where
  open 𝓛 use {H}

  pub calls_append : K → FmC 𝓤 H 𝓛.laws C → {rest : Body} (mem : Memory → SProp 𝓤) (run : Routine → Fun 𝓤) → Triple 𝓤 (C f) (Append 𝓛 mem run)
      → (κ : Lft) (q : Share) (b o : ℕ) (γ : GName) (ys : List Query) (count : ℕ) → Is usize count (uint_vals w64 count) → (x : Query) → Is Q x (q_vals x)
      → ((i : Item 𝓤) → Opds K 𝓛 (i ∷ Γ) E xs (slice_val (b, o) (length ys) ∷ only (uint_vals w64 count) ∷ only (q_vals x) ∷ []))
      → ((r : ℕ) (zs : List Query) → zs ≡ appended count x ys → length zs ≡ length ys → Is usize r (uint_vals w64 r)
      → Seq K 𝓛 (‵ (flft κ q) ∷ ‵ (finally Q γ zs) ∷ Γ) (lands C Λ E d (only (uint_vals w64 r)) rest p))
      → Seq K 𝓛 (‵ (flft κ q) ∷ ‵ ((MutSlice (named 0) κ Q).own_val (record { ref_ptr = (b, o); ghost_name = γ; now = ys }) (slice_val (b, o) (length ys) ∷ [])) ∷ Γ) (runs C Λ E (seq (call f xs d) rest) p)
  calls_append t fm mem run known κ q b o γ ys count count-is x x-is os k =
      calls_given t fm (Append 𝓛 mem run) known (to_append 𝓛 mem run κ q b o γ ys count count-is x x-is) κ q γ _ ys (goes_append 𝓛 mem run κ q b o γ ys count count-is x x-is)
      usize (uint_vals w64) (uint_Tells w64) (List Query × (Unit {0} × (Unit {0} × Unit {0}))) (λ z. z.0) (lasts append.ended (κ, tt) (record { ref_ptr = (b, o); ghost_name = γ; now = ys }, (count, (x, tt)))) (λ r z. (r ≡ appended_count count ys) × (z.0 ≡ appended count x ys)) (λ u. id⊢ 𝓤 _)
      (λ z Δ G k. fsplit t $ fsplit t $ fsplit t $ move t (1 ∷ []) $ feq_l t (λ l. move t (1 ∷ []) $ drop t $ move t (1 ∷ []) $ drop t $ k l)) os
      (λ r z e l is. k r z.0 e.1 l is)

  pub calls_withdraw : K → FmC 𝓤 H 𝓛.laws C → {rest : Body} (mem : Memory → SProp 𝓤) (run : Routine → Fun 𝓤) → Triple 𝓤 (C f) (Withdraw 𝓛 mem run)
      → (κ : Lft) (q : Share) (b o : ℕ) (γ : GName) (ys : List Query) (count : ℕ) → Is usize count (uint_vals w64 count) → (number : ℕ) → Is u32 number (uint_vals w32 number)
      → ((i : Item 𝓤) → Opds K 𝓛 (i ∷ Γ) E xs (slice_val (b, o) (length ys) ∷ only (uint_vals w64 count) ∷ only (uint_vals w32 number) ∷ []))
      → ((r : ℕ) (zs : List Query) → zs ≡ withdrawn number count ys → length zs ≡ length ys → Is usize r (uint_vals w64 r)
      → Seq K 𝓛 (‵ (flft κ q) ∷ ‵ (finally Q γ zs) ∷ Γ) (lands C Λ E d (only (uint_vals w64 r)) rest p))
      → Seq K 𝓛 (‵ (flft κ q) ∷ ‵ ((MutSlice (named 0) κ Q).own_val (record { ref_ptr = (b, o); ghost_name = γ; now = ys }) (slice_val (b, o) (length ys) ∷ [])) ∷ Γ) (runs C Λ E (seq (call f xs d) rest) p)
  calls_withdraw t fm mem run known κ q b o γ ys count count-is number number_is os k =
      calls_given t fm (Withdraw 𝓛 mem run) known (to_withdraw 𝓛 mem run κ q b o γ ys count count-is number number_is) κ q γ _ ys (goes_withdraw 𝓛 mem run κ q b o γ ys count count-is number number_is)
      usize (uint_vals w64) (uint_Tells w64) (List Query × (Unit {0} × (Unit {0} × Unit {0}))) (λ z. z.0) (lasts withdraw.ended (κ, tt) (record { ref_ptr = (b, o); ghost_name = γ; now = ys }, (count, (number, tt)))) (λ r z. (r ≡ withdrawn_count number count ys) × (z.0 ≡ withdrawn number count ys)) (λ u. id⊢ 𝓤 _)
      (λ z Δ G k. fsplit t $ fsplit t $ fsplit t $ move t (1 ∷ []) $ feq_l t (λ l. move t (1 ∷ []) $ drop t $ move t (1 ∷ []) $ drop t $ k l)) os
      (λ r z e l is. k r z.0 e.1 l is)
