-- A call of a function from one number to another, as one rule of a walk: n goes in, and f n comes back, as the function's contract says. A walk uses
-- it beside an open borrow and sees nothing of the call's inside. Assumes nothing.
use Rattle.std.proofs.Common.{◌≡◌, ℕ, ◌^◌, ◌<◌, List, [], ◌∷◌, sym, refl, ap, subst, w32}
use seplogic.Ra.Ura.{Ura}
use mir.Syntax.{Callee, seq, call, Place, Body as Stmt, Opd as Operand}
use mir.Val.{Val, vint}
use base.Logic.{SProp, ent, emp, id⊢, snd∗, ex_e}
use base.Fml.{ftrue}
use prog.Wp.{Env, Calls, Loops}
use types.Logic.{Logic, sem}
use contract.Monad.{fact}
use types.Kit.{Item, Post, Go, Sq, runs, lands, ‵, raw, some, later, ◌⊛◌, ◌$◌, ◌∵◌, !, qed, move, drop, use0, use1, split, join, fjoin, pick, frame, await, done}
use types.Run.{Opds}
use sound.WpLaws.{FmC}
use denote.Laws.{Is, shows}
use denote.Builtin.{u32}
use denote.Exit.{yes}
use denote.Plain.{uint_Makes}
use denote.Signature.{Signature, plain}
use denote.Steps.{only, owned, peeks, heard, nothing}
use denote.Triple.Call.{calls_at}
use denote.Triple.Clauses.{Ended, Clauses, ensured, closing, lasts}
use denote.Triple.Spec.{triple_of}
use denote.Triple.Statement.{Contract, Triple}

abbrev signature : Signature
signature = record { lifetimes = 0; outlives = []; params = plain (λ κs. u32) ∷ []; result = plain (λ κs. u32) }

abbrev ended : Ended
ended = record { signature = signature; kept = (yes, tt) }

module _ {M : Type 1} {𝓤 : Ura M} (𝓛 : Logic 𝓤) (f : ℕ → ℕ) where
  abbrev clauses : Clauses 𝓤 ended
  clauses κs a = record { ghost = Unit {0}; requires = λ g. emp 𝓤; ensures = λ g r e. fact 𝓤 (r ≡ f a.0) }

  -- the contract `ensures { λ r. ⌜ r ≡ f n ⌝ }`
  abbrev pub Gives : Contract 𝓤
  Gives = triple_of 𝓛 signature (closing 𝓛 ended clauses)

module _ {M : Type 1} {𝓤 : Ura M} (𝓛 : Logic 𝓤) (f : ℕ → ℕ) (n : ℕ) (fits : n < 2 ^ 32) where
  -- what the contract binds outside, what it asks, and of what it ensures the clause alone
  open 𝓛 use {H}

  abbrev at : (Gives 𝓛 f).Ghost
  at = ((tt, tt, tt, (n, tt), (vint w32 n ∷ [], tt)), tt)

  goes : ent 𝓤 (emp 𝓤) ((Gives 𝓛 f).pre at)
  goes = qed 𝓛 [] ∵ nothing ! $ nothing ! $ owned ! u32 (Is u32) (uint_Makes 𝓛 w32) n _ (refl, fits) $ fjoin ! $ nothing ! $ join ! $ frame ! $ done !

  abbrev told : ℕ → SProp 𝓤
  told r = ensured 𝓛 ended (clauses 𝓛 f) tt (n, tt) tt r

  tells : (r : ℕ) → ent 𝓤 (told r) (fact 𝓤 (r ≡ f n))
  tells r = ex_e 𝓤 _ (λ ws. snd∗ 𝓤 (sem 𝓛 (lasts ended tt (n, tt) ws)) (fact 𝓤 (r ≡ f n)))

  module _ {C : Calls 𝓤 H} (fm : FmC 𝓤 H 𝓛.laws C) {g : Callee} (known : Triple 𝓤 (C g) (Gives 𝓛 f))
      {Λ : Loops 𝓤 H} {Γ : List (Item 𝓤)} {E : Env 𝓤 H} {xs : List Operand} {d : Place} {rest : Stmt} {q : Post 𝓤 H} where
    pub calls_number : ((i : Item 𝓤) → Opds (Go {0}) 𝓛 (i ∷ Γ) E xs (vint w32 n ∷ []))
        → ((r : ℕ) → r < 2 ^ 32 → r ≡ f n → Sq 𝓛 Γ (lands C Λ E d (vint w32 r) rest q)) → Sq 𝓛 Γ (runs C Λ E (seq (call g xs d) rest) q)
    calls_number os k =
        use0 𝓛 (raw ((Gives 𝓛 f).pre at)) goes $ calls_at ! fm (Gives 𝓛 f) known at (os _) (λ v.
        use1 𝓛 (later (some (λ (r : ℕ). (‵ ftrue ⊛ ‵ (u32.own_val r (v ∷ []))) ⊛ raw (told r)))) (id⊢ 𝓤 _) $ await ! tt $ pick ! (λ r.
        split ! $ move ! (1 ∷ []) $ use1 𝓛 (raw (fact 𝓤 (r ≡ f n))) (tells r) $ heard ! (r ≡ f n) (λ e. split ! $ drop ! $
        peeks ! u32 (Is u32) (shows 𝓛 u32) r (v ∷ []) (λ is. drop ! $
        subst (λ (u : Val). Sq 𝓛 Γ (lands C Λ E d u rest q)) (sym (ap only is.0)) (k r is.1 e)))))
