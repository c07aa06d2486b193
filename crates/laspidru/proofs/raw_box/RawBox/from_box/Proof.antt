-- `from_box` takes the box apart by `into_raw_with_allocator`, and puts the two parts side by side. Assumes `Logic`.
use Rattle.laspidru.proofs.Prelude.{◌≡◌, List, [], ◌∷◌, ◌++◌, refl, sym, ap, ◌∙◌, subst, a_type, dcons, dnil, Val, vstruct, of_list, inst_fn, SProp, ent, emp, never, id⊢, fst∗, Fml, ftrue, fsep, flft, WpFn, sem, ‵, raw, ◌⊛◌, some, later, ◌$◌, ◌∵◌, !, qed, by, move, keep, drop, split, split3, join, fsplit, fjoin, fpick, pick, suffices, use0, use1, await, rewrite, feq_l, stop, fld, of_opd, no_more, and_then, returns, enter, alloc_all, pass_all, free_all, look_at, get, get_in, sets, lands_as, agg, sub, whole, fact, fact_i, tables, no, RattleType, owns, types_at, plain, RawPtr, Ptr, block_ptr, null_ptr, ptr_val, in_a_block, nothing, only, heard, param, layout, bounded, param_laws, Tuple, triple_of, calls_at, Stays, stay_dropped, walk_of, Goes-blank, handle_tells, fm, box_owns, box_out, box_in, proved_at, leaves}
use mir.Raw.{raw as bare}
use Rattle.std_alloc.proofs.boxed.Box.into_raw_with_allocator.Met.{met}
use Rattle.laspidru.proofs.RawBoxes.{pair, pair_fits, closes_raw}
use Rattle.laspidru.specs.contracts.raw_box.RawBox.from_box.Key.{name}
use Rattle.laspidru.proofs.raw_box.RawBox.from_box.Statement.{statement}
use Rattle.std_alloc.proofs.BoxSteps.Form as box
use Rattle.std_alloc.specs.contracts.boxed.Box.into_raw_with_allocator as callee
use Rattle.laspidru.specs.contracts.raw_box.RawBox.from_box as its
use Rattle.laspidru.proofs.raw_box.RawBox.from_box.Code as code

pub from_box_spec : {M : Type 1} → statement M
from_box_spec 𝓤 𝓛 𝓜 𝓡 wired T A laws A-laws g d dx dd allocator glue glued =
    let H = 𝓛.H in let 𝓣 = tables 𝓤 H 𝓜 𝓡 𝓡.env in
    let R : RattleType = param 0 T in let P : RattleType = param 1 A in let P-laws = param_laws 1 A A-laws in
    let E : box.Bx = record {
      row = T;
      laws = laws;
      al = record { row = A; laws = A-laws; g = g; d = d; drops = dd };
    } in
    let args = bounded (a_type ∷ a_type ∷ []) (T, (A, tt)) (dcons d (dcons dx (dcons dd dnil))) in
    let f = inst_fn args code.function in
    let End = its.ended T A g d dx dd in let c = its.clauses T A g d dx dd 𝓛 𝓜.mem 𝓡.returns in
    let stays : Stays End.signature.params End.kept = (stay_dropped (plain (λ _. box.B E)) no, tt) in
    proved_at 𝓛 End stays c 𝓜 𝓡 (Goes-blank 𝓛 2 (plain (λ _. box.B E)) no (λ κs x w. tt), tt) (name args) f
    (code.unfolded 𝓤 H 𝓜 𝓡 wired (T, (A, tt)) d dx dd) (λ y are.
    let κs = y.0.0 in let qs = y.0.1 in let owned = y.0.3.0 in let alloc = owned.alloc in
    let Post : Val → SProp 𝓤 = (walk_of 𝓛 End stays c).post y in
    let Runs : List Val → SProp 𝓤 = λ vs. WpFn 𝓤 H 𝓣.C 𝓣.Λ f vs Post in
    let tokens = ‵ (flft κs.0 qs.0) ⊛ ‵ (flft κs.1.0 qs.1.0) ⊛ ‵ ftrue in
    let own : Ptr → Fml = λ p. box_owns (g.dealloc_token alloc) R p owned.value in
    qed 𝓛 ((tokens ⊛ ‵ (owns (types_at End.signature.params κs) y.0.3 y.0.4)) ∷ raw ((c κs y.0.3).requires y.1) ∷ []) ∵
    split ! $ move ! (1 ∷ []) $ fsplit ! $
    box_out E ! owned y.0.4.0 (λ b o h at stored fits. box_in E ! owned b o owned.value at refl $
    let v : Val = box.word E h b o in let v-fits = pair_fits R P P-laws g b o h fits in
    -- the call: [what it returns, for the tokens and the box; the empty list of parameters; the requires]
    let G = triple_of 𝓛 (callee.signature T A g d dd dx) (callee.spec T A g d dd dx 𝓛 𝓜.mem 𝓡.returns) in
    let z : G.Ghost = ((κs, qs, tt, (owned, tt), (v ∷ [], tt)), tt) in
    let Pair = Tuple (RawPtr ∷ P ∷ []) in
    let Left : Type 0 = (Unit {0} × (Unit {0} × Unit {0})) × Unit {0} in
    fjoin ! $ move ! (1 ∷ 0 ∷ []) $ join ! $ join ! $ use1 𝓛 (raw (G.pre z)) (id⊢ 𝓤 _) $
    suffices ! (Runs (v ∷ [])) (subst (λ (vs : List Val). ent 𝓤 (Runs (v ∷ [])) (Runs vs)) (sym (λ i. stored i ++ []))
    (id⊢ 𝓤 (Runs (v ∷ [])))) $
    enter ! 𝓣.C 𝓣.Λ f (v ∷ []) Post $ alloc_all ! (λ l. pass_all ! refl (v-fits, tt) $
    sets ! (of_opd ! (get ! refl)) refl v-fits $
    calls_at ! (fm 𝓛 𝓜 𝓡) G
    (met 𝓤 𝓛 𝓜 𝓡 (code.calls-std_alloc::boxed::Box::into_raw_with_allocator 𝓡.env wired) T A laws A-laws g d dd dx
    allocator glued glue)
    z (and_then ! (get ! refl) (no_more !)) (λ u.
    use1 𝓛 (later (some (λ (r : Ptr × A.Denot). (tokens ⊛ ‵ (Pair.own_val r (u ∷ []))) ⊛
    some (λ (_ : Left). ‵ (fsep (fsep ftrue (fsep ftrue ftrue)) ftrue) ⊛ (raw (fact 𝓤 (r.1 ≡ alloc)) ⊛ ‵ (own r.0))))))
    (id⊢ 𝓤 _) $
    await ! tt $ pick
    ! (λ r. split ! $ move ! (1 ∷ []) $ pick ! (λ _. split3 ! $ drop ! $ heard ! (r.1 ≡ alloc) (λ same.
    in_a_block ! r.0 own (fst∗ 𝓤 (never 𝓤) (sem 𝓛 (g.dealloc_token alloc (bare (layout T)) null_ptr))) (λ b' o' at'.
    -- the pair that came back is a pointer and a handle
    move ! (1 ∷ []) $ split ! $ move ! (1 ∷ []) $ fpick
    ! (λ vss. fsplit ! $ feq_l ! (λ both. fsplit ! $ feq_l ! (λ pointer. fsplit ! $
    rewrite ! 0 (λ (s : A.Denot). ‵ (A.own_val s vss.1.0)) same refl $
    handle_tells E.al ! alloc vss.1.0 (λ h' handle fits'.
    let fits-pair = pair_fits R P P-laws g b' o' h' fits' in
    let at-pointer : vss.0 ≡ ptr_val (block_ptr b' o') ∷ [] = pointer ∙ ap (λ (p : Ptr). ptr_val p ∷ []) at' in
    lands_as ! (ap only (both ∙ (λ j. vstruct (of_list (at-pointer j ++ (handle j ++ []))) ∷ []))) refl fits-pair $
    sets ! (of_opd ! (get_in ! (fld ! refl (stop !)) (sub ! 0 refl (whole !)))) refl (tt, tt) $
    sets ! (of_opd ! (get_in ! (fld ! refl (stop !)) (sub ! 1 refl (whole !)))) refl fits' $
    sets ! (of_opd ! (get ! refl)) refl fits' $
    sets ! (agg ! (and_then ! (get ! refl) (and_then ! (get ! refl) (no_more !)))) refl fits-pair $
    move ! (3 ∷ 0 ∷ []) $ closes_raw R P P-laws g ! b' o' h' alloc owned.value $
    use0 𝓛 (raw (fact 𝓤 (owned.value ≡ owned.value))) (fact_i 𝓤 (owned.value ≡ owned.value) (emp 𝓤) refl) $
    nothing ! $ nothing ! $ fjoin ! $ returns ! (look_at ! 0 refl) $ free_all ! refl $ keep ! (4 ∷ 0 ∷ 2 ∷ 1 ∷ []) $
    by ! (leaves 𝓛 End stays c y (pair b' o' h') (record {
      pointer = block_ptr b' o';
      alloc = alloc;
      value = owned.value;
    })
    ((tt, (tt, tt)), tt) (tt, tt))))))))))))))
