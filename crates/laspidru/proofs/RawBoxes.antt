-- A `RawBox` by value: how it is stored, and how it is opened and closed. Assumes `Logic`.
--     pair, pair_fits         its machine value at a pointer and a handle, which has its type
--     opens_raw, closes_raw   by value it is [what is behind the pointer, with the right to free it; the handle]
use Rattle.laspidru.proofs.Prelude.{◌≡◌, ℕ, List, [], ◌∷◌, ◌++◌, refl, subst, true, ◌&&◌, T, Ura, impl, tnil, dnil, Val, vptr, vstruct, vcons, vnil, of_list, has_ty, WT, never, fst∗, Logic, sem, Item, Goal, Seq, Step, step, ‵, ◌$◌, move, drop, fsplit, fjoin, fpick, fpack, feq_i, feq_l, RattleType, Valss, RawPtr, lone, Ptr, block_ptr, null_ptr, ptr_val, in_a_block, nothing, layout, Laws, within, shape, Al, handle_tells, Good, box_owns, and_tt}
use mir.Raw.{raw as bare}
use Rattle.core.specs.declared.alloc.Allocator.{Ghosts}
use Rattle.laspidru.specs.contracts.raw_box.RawBox as raw_box

-- a pointer and a handle
abbrev pub pair : ℕ → ℕ → Val → Val
pair b o h = vstruct (vcons (vptr b o) (vcons h vnil))

module _ (R A : RattleType) (laws : Laws A) (g : Ghosts A.Denot) where
  abbrev pub Row : RattleType
  Row = raw_box.the_row R A g

  abbrev allocator : Al
  allocator = record { row = A; laws = laws; g = g; d = impl [] tnil dnil; drops = impl [] tnil dnil }

  pub pair_fits : (b o : ℕ) (h : Val) → Good (layout A) h → T (has_ty (layout A) h && true) × WT (pair b o h)
  pair_fits b o h fits = (and_tt (has_ty (layout A) h) fits.0, (tt, (fits.1, tt)))

  module _ {M : Type 1} {𝓤 : Ura M} {𝓛 : Logic 𝓤} {K : Type 0} {Γ : List (Item 𝓤)} {G : Goal 𝓤 𝓛.H} where
    pub opens_raw : K → (raw : Row.Denot) (vs : List Val)
        → ((b o : ℕ) (h : Val) → raw.pointer ≡ block_ptr b o → vs ≡ pair b o h ∷ [] → Good (layout A) h
        → Seq K 𝓛 (‵ (box_owns (g.dealloc_token raw.alloc) R (block_ptr b o) raw.value)
        ∷ ‵ (A.own_val raw.alloc (h ∷ [])) ∷ Γ) G) → Seq K 𝓛 (‵ (Row.own_val raw vs) ∷ Γ) G
    opens_raw t raw vs next =
        let stored : List Val → List Val → Type 0 = λ ps hs. vs ≡ vstruct (of_list (ps ++ (hs ++ []))) ∷ [] in
        -- [the fields; what is behind the pointer]
        fsplit t $ fpick t (λ vss. fsplit t $ feq_l t (λ whole. fsplit t $ feq_l t (λ pointer. fsplit t $
        handle_tells allocator t raw.alloc vss.1.0 (λ h handle fits.
        -- [the handle; an empty entry; what is behind the pointer]
        move t (1 ∷ []) $ drop t $ move t (1 ∷ []) $
        in_a_block t raw.pointer (λ p. box_owns (g.dealloc_token raw.alloc) R p raw.value)
        (fst∗ 𝓤 (never 𝓤) (sem 𝓛 (g.dealloc_token raw.alloc (bare (lone R.mir)) null_ptr)))
        (λ b o at. next b o h at
        (subst (λ (p : Ptr). vs ≡ vstruct (of_list (ptr_val p ∷ h ∷ [])) ∷ []) at
        (subst (λ (hs : List Val). stored (ptr_val raw.pointer ∷ []) hs) handle
        (subst (λ (ps : List Val). stored ps vss.1.0) pointer whole)))
        fits)))))

    pub closes_raw : K → (b o : ℕ) (h : Val) (alloc : A.Denot) (value : R.Denot)
        → Step K 𝓛 (‵ (Row.own_val (record { pointer = block_ptr b o; alloc = alloc; value = value }) (pair b o h ∷ []))
        ∷ Γ) G
        (‵ (box_owns (g.dealloc_token alloc) R (block_ptr b o) value) ∷ ‵ (A.own_val alloc (h ∷ [])) ∷ Γ) G
    closes_raw t b o h alloc value = step (λ next. let v : Val = pair b o h in
        nothing t $ move t (2 ∷ 0 ∷ []) $ fjoin t $ feq_i t (List Val) (vptr b o ∷ []) (vptr b o ∷ []) refl $ fjoin t $
        feq_i t (List Val) (v ∷ []) (v ∷ []) refl $ fjoin t $
        fpack t (Valss (RawPtr ∷ A ∷ [])) (within (shape (raw_box.the_type R A g)) (
          block_ptr b o,
          (alloc, tt),
        ) (v ∷ []))
        (vptr b o ∷ [], (h ∷ [], tt)) $ fjoin t $ next)
