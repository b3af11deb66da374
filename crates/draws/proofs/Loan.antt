-- A loan of a local `Generator` to `draw`, as one rule of a walk: before the call the local's cell holds the number m, after it the next state,
-- and what comes back is what a draw at m hands out. Inside, a lifetime is made for the call, the local is lent for it, and comes back at the
-- last value that `draw` ensures. A walk that makes `&mut g` of a local g uses this rule and sees no lifetime, no ghost name and no borrow.
-- All that is known of `draw` is that it meets its contract. Assumes nothing.
use Rattle.std.proofs.Common.{◌≡◌, ℕ, ◌^◌, ◌<◌, List, [], ◌∷◌, sym, refl, ap, subst, w32, MutBor}
use seplogic.Ra.Ura.{Ura}
use base.Fraction.{full_share}
use mir.Syntax.{named, seq, call, Place, Body as Stmt, Opd as Operand}
use mir.Val.{Val, vint, vptr}
use base.Logic.{SProp, ent, sep, guard, id⊢}
use base.Fml.{GName, ftrue, fsep, fat, flft, flent}
use prog.Memory.{Memory}
use prog.Routine.{Routine}
use prog.Wp.{Env, Calls, Loops}
use types.Logic.{Logic, sem}
use contract.Monad.{Fun, fact}
use types.Kit.{Item, Post, Go, Sq, runs, lands, ‵, raw, some, given, later, ◌⊛◌, ◌$◌, ◌∵◌, !, qed, move, drop, use1, use2, use3, split, join, pick, learn, check, rewrite, fsplit, fjoin, fpick, fpack, frame, await, done}
use types.Run.{Opds}
use types.SemTy.{Body}
use types.Tokens.{lft_new, lft_end}
use sound.WpLaws.{FmC}
use denote.Laws.{Is, shows}
use denote.Memory.{mem, cell_at, part_of, part_at}
use denote.Builtin.{u32}
use denote.Ref.{MutRef}
use denote.Lend.{lends_ref, ref_back}
use denote.Steps.{only, owned, peeks, heard, nothing}
use denote.Struct.Steps.{spelt}
use denote.Struct.Laws as LL
use denote.Triple.Spec.{triple_of}
use denote.Triple.Statement.{Contract, Triple}
use denote.Triple.Call.{calls_at}
use denote.Triple.Clauses.{ensured, lasts}
use Rattle.draws.specs.Draws.{moved, drawn}
use Rattle.draws.specs.declared.generator.Generator.{Generator}
use Rattle.draws.proofs.Generators.{R, generator, machine, made}
use Rattle.draws.specs.contracts.generator.Generator as T
use Rattle.draws.proofs.generator.Generator.TheLaws as T'
use Rattle.draws.specs.contracts.generator.Generator.draw as draw
use Rattle.draws.proofs.generator.Generator.draw.Symbol.{name as #draw}

-- `draw`'s contract
abbrev pub Draw : {M : Type 1} {𝓤 : Ura M} (𝓛 : Logic 𝓤) (mem : Memory → SProp 𝓤) (run : Routine → Fun 𝓤) → Contract 𝓤
Draw 𝓛 mem run = triple_of 𝓛 draw.signature (draw.spec 𝓛 mem run)

-- the cell of a local that holds a generator
abbrev pub held : {M : Type 1} {𝓤 : Ura M} → ℕ → ℕ → Item 𝓤
held l n = ‵ (fat full_share T'.mir l 0 (machine n))

-- a local that holds a generator, lent and taken back
module _ {M : Type 1} {𝓤 : Ura M} (𝓛 : Logic 𝓤) where
  lies_in : (n l : ℕ) → n < 2 ^ 32 → ent 𝓤 (sem 𝓛 (fat full_share T'.mir l 0 (machine n))) (sem 𝓛 (part_at R full_share (generator n) l 0))
  unfolding part_of
  lies_in n l fits =
      qed 𝓛 (‵ (fat full_share T'.mir l 0 (machine n)) ∷ []) ∵ use1 𝓛 (‵ (cell_at full_share R.mir (machine n ∷ []) l 0)) (𝓛.laws.at_raw full_share T'.mir l 0 (machine n)) $
      owned ! R (Is R) ((LL.makes T.the_type T'.the_plain) 𝓛) (generator n) _ (made n fits) $ move ! (1 ∷ 0 ∷ []) $ fjoin ! $
      fpack ! (List Val) (λ us. fsep (cell_at full_share R.mir us l 0) (R.own_val (generator n) us)) (machine n ∷ []) $ done !

  lies_out : (h : Generator) (l : ℕ) → ent 𝓤 (sem 𝓛 (part_at R full_share h l 0)) (guard 𝓤 (h.state < 2 ^ 32) (sem 𝓛 (fat full_share T'.mir l 0 (machine h.state))))
  unfolding part_of
  lies_out h l =
      qed 𝓛 (‵ (part_at R full_share h l 0) ∷ []) ∵ fpick ! (λ vs. fsplit ! $
      spelt ! R (Is R) (shows 𝓛 R) (LL.vals T.the_type T'.the_laws) (LL.tells T.the_type T'.the_laws) full_share h vs l 0 $
      move ! (1 ∷ []) $ peeks ! R (Is R) (shows 𝓛 R) h (machine h.state ∷ []) (λ g. drop ! $
      use1 𝓛 (‵ (fat full_share T'.mir l 0 (machine h.state))) (𝓛.laws.raw_at full_share T'.mir l 0 (machine h.state)) $ check ! g.1.1.0.1 $ done !))

module _ {M : Type 1} {𝓤 : Ura M} (𝓛 : Logic 𝓤) (at_mem : Memory → SProp 𝓤) (run : Routine → Fun 𝓤) where
  -- the reference that is lent at the number m: to the local at l, under the name δ
  open 𝓛 use {H, A}

  abbrev x : ℕ → ℕ → GName → MutBor Generator
  x m l δ = record { ref_ptr = (l, 0); ghost_name = δ; now = generator m }

  -- what `draw`'s triple binds outside, at the lifetime ν
  abbrev to_draw : ℕ → ℕ → ℕ → GName → (Draw 𝓛 at_mem run).Ghost
  to_draw m ν l δ = (((ν ∷ [], tt), (full_share, tt), tt, (x m l δ, tt), (vptr l 0 ∷ [], tt)), tt)

  goes_draw : (m ν l : ℕ) (δ : GName) → ent 𝓤 (sep 𝓤 (A.lft (ν ∷ []) full_share) (sem 𝓛 ((MutRef (named 0) (ν ∷ []) R).own_val (x m l δ) (vptr l 0 ∷ [])))) ((Draw 𝓛 at_mem run).pre (to_draw m ν l δ))
  goes_draw m ν l δ =
      qed 𝓛 (‵ (flft (ν ∷ []) full_share) ∷ ‵ ((MutRef (named 0) (ν ∷ []) R).own_val (x m l δ) (vptr l 0 ∷ [])) ∷ []) ∵
      nothing ! $ nothing ! $ move ! (2 ∷ 0 ∷ []) $ join ! $ move ! (2 ∷ 1 ∷ []) $ join ! $ move ! (1 ∷ 0 ∷ []) $ join ! $ frame ! $ done !

  module _ {C : Calls 𝓤 H} (fm : FmC 𝓤 H 𝓛.laws C) (known : Triple 𝓤 (C #draw) (Draw 𝓛 at_mem run))
      {Λ : Loops 𝓤 H} {Γ : List (Item 𝓤)} {E : Env 𝓤 H} {xs : List Operand} {d : Place} {rest : Stmt} {q : Post 𝓤 H} where
    pub lends_draw : (m l : ℕ) → m < 2 ^ 32 → ((i j : Item 𝓤) → Opds (Go {0}) 𝓛 (i ∷ j ∷ Γ) E xs (vptr l 0 ∷ []))
        → ((r : ℕ) → r < 2 ^ 32 → r ≡ drawn m 0 → moved m < 2 ^ 32 → Sq 𝓛 (held l (moved m) ∷ Γ) (lands C Λ E d (vint w32 r) rest q))
        → Sq 𝓛 (held l m ∷ Γ) (runs C Λ E (seq (call #draw xs d) rest) q)
    lends_draw m l fits os k =
        use1 𝓛 (‵ (part_at R full_share (generator m) l 0)) (lies_in 𝓛 m l fits) $
        lft_new ! tt (λ ν. move ! (1 ∷ []) $
        use1 𝓛 (later (some (λ (δ : GName). ‵ ((MutRef (named 0) (ν ∷ []) R).own_val (x m l δ) (vptr l 0 ∷ [])) ⊛ ‵ (flent (ν ∷ []) (Body (mem R) l 0 δ))))) (lends_ref 𝓛 R (named 0) (ν ∷ []) (generator m) l 0) $
        await ! tt $ pick ! (λ δ. split ! $ move ! (2 ∷ 0 ∷ []) $
        use2 𝓛 (raw ((Draw 𝓛 at_mem run).pre (to_draw m ν l δ))) (goes_draw m ν l δ) $
        -- [what `draw` asks; the lender's part; …]
        calls_at ! fm (Draw 𝓛 at_mem run) known (to_draw m ν l δ) (os _ _) (λ v.
        use1 𝓛 (later (some (λ (r : ℕ). ((‵ (flft (ν ∷ []) full_share) ⊛ ‵ ftrue) ⊛ ‵ (u32.own_val r (v ∷ []))) ⊛ raw (ensured 𝓛 draw.ended (draw.clauses 𝓛 at_mem run) (ν ∷ [], tt) (x m l δ, tt) tt r)))) (id⊢ 𝓤 _) $ await ! tt $ pick ! (λ r.
        -- what `draw` ensures, at some last value
        split ! $ move ! (1 ∷ []) $ use1 𝓛 (some (λ (zs : Generator × Unit {0}). ‵ (lasts draw.ended (ν ∷ [], tt) (x m l δ, tt) zs) ⊛ raw (fact 𝓤 ((zs.0.state ≡ moved m) × (r ≡ drawn m 0))))) (id⊢ 𝓤 _) $ pick ! (λ zs.
        split ! $ move ! (1 ∷ []) $ heard ! ((zs.0.state ≡ moved m) × (r ≡ drawn m 0)) (λ e. fsplit ! $ fsplit ! $
        move ! (3 ∷ []) $ split ! $ move ! (1 ∷ []) $ peeks ! u32 (Is u32) (shows 𝓛 u32) r (v ∷ []) (λ is. drop ! $
        -- [the token; the last value; the borrow; true; the lender's part; …]: the lifetime is ended, and the local comes back at that value
        split ! $ lft_end ! tt $ move ! (0 ∷ 5 ∷ 2 ∷ []) $ use3 𝓛 (later (‵ (part_at R full_share zs.0 l 0))) (ref_back 𝓛 R (ν ∷ []) δ zs.0 l 0) $ await ! tt $
        use1 𝓛 (given (zs.0.state < 2 ^ 32) (held l zs.0.state)) (lies_out 𝓛 zs.0 l) $ learn ! (λ small.
        move ! (1 ∷ 2 ∷ 3 ∷ []) $ drop ! $ drop ! $ drop ! $ rewrite ! 0 (λ (s : ℕ). held l s) e.0 refl $
        subst (λ (u : Val). Sq 𝓛 (held l (moved m) ∷ Γ) (lands C Λ E d u rest q)) (sym (ap only is.0)) (k r is.1 e.1 (subst (λ (s : ℕ). s < 2 ^ 32) e.0 small))))))))))
