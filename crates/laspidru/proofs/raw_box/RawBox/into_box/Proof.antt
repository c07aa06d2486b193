-- `into_box` makes the box again by `from_raw`. Assumes `Logic`.
use Rattle.laspidru.proofs.Prelude.{◌≡◌, List, [], ◌∷◌, ◌++◌, refl, sym, ap, subst, a_type, dcons, dnil, Val, vptr, inst_fn, SProp, ent, id⊢, ftrue, flft, WpFn, ‵, raw, ◌⊛◌, some, later, at_ret, ◌$◌, ◌∵◌, !, qed, by, move, keep, drop, split, split3, join, fsplit, fjoin, pick, suffices, use1, await, rewrite, feq_i, stop, fld, of_opd, no_more, and_then, first, blocks, exec, returns, enter, alloc_all, pass_all, free_all, look_at, get, get_in, sets, lands_last, env, sub, whole, fact, tables, no, RattleType, owns, types_at, plain, block_ptr, nothing, only, param, layout, bounded, param_laws, triple_of, calls_at_last, Stays, stay_dropped, walk_of, Goes-blank, fm, Good, box_out, box_in, proved_at, leaves}
use contract.BorrowLft.{◌⊑◌}
use denote.Triple.Clauses.{Lasts, lasts}
use Rattle.core.proofs.alloc.Shapes.{after}
use Rattle.std_alloc.proofs.boxed.Box.from_raw.Met.{met}
use Rattle.laspidru.proofs.RawBoxes.{Row, pair, pair_fits, opens_raw}
use Rattle.laspidru.specs.contracts.raw_box.RawBox.into_box.Key.{name}
use Rattle.laspidru.proofs.raw_box.RawBox.into_box.Statement.{statement}
use Rattle.std_alloc.proofs.BoxSteps.Form as box
use Rattle.std_alloc.specs.contracts.boxed.Box.from_raw as callee
use Rattle.laspidru.specs.contracts.raw_box.RawBox.into_box as its
use Rattle.laspidru.proofs.raw_box.RawBox.into_box.Code as code

pub into_box_spec : {M : Type 1} → statement M
into_box_spec 𝓤 𝓛 𝓜 𝓡 wired T A laws A-laws g d dx dd allocator glue glued =
    let H = 𝓛.H in let 𝓣 = tables 𝓤 H 𝓜 𝓡 𝓡.env in
    let R : RattleType = param 0 T in let P : RattleType = param 1 A in let P-laws = param_laws 1 A A-laws in
    let E : box.Bx = record {
      row = T;
      laws = laws;
      al = record { row = A; laws = A-laws; g = g; d = d; drops = dd };
    } in
    let B : RattleType = box.B E in let Raw : RattleType = Row R P P-laws g in
    let args = bounded (a_type ∷ a_type ∷ []) (T, (A, tt)) (dcons d (dcons dx (dcons dd dnil))) in
    let f = inst_fn args code.function in
    let End = its.ended T A g d dx dd in let c = its.clauses T A g d dx dd 𝓛 𝓜.mem 𝓡.returns in
    let stays : Stays End.signature.params End.kept = (stay_dropped (plain (λ _. Raw)) no, tt) in
    proved_at 𝓛 End stays c 𝓜 𝓡 (Goes-blank 𝓛 2 (plain (λ _. Raw)) no (λ κs x w. tt), tt) (name args) f
    (code.unfolded 𝓤 H 𝓜 𝓡 wired (T, (A, tt)) d dx dd) (λ y are.
    let κs = y.0.0 in let qs = y.0.1 in let owned = y.0.3.0 in let alloc = owned.alloc in
    let Post : Val → SProp 𝓤 = (walk_of 𝓛 End stays c).post y in
    let Runs : List Val → SProp 𝓤 = λ vs. WpFn 𝓤 H 𝓣.C 𝓣.Λ f vs Post in
    let tokens = ‵ (flft κs.0 qs.0) ⊛ ‵ (flft κs.1.0 qs.1.0) ⊛ ‵ ftrue in
    qed 𝓛 ((tokens ⊛ ‵ (owns (types_at End.signature.params κs) y.0.3 y.0.4)) ∷ raw ((c κs y.0.3).requires y.1) ∷ []) ∵
    split ! $ move ! (1 ∷ []) $ fsplit ! $
    opens_raw R P P-laws g ! owned y.0.4.0 (λ b o h at stored fits.
    let v : Val = pair b o h in let v-fits = pair_fits R P P-laws g b o h fits in
    let G = triple_of 𝓛 (callee.signature T A g d dd) (callee.spec T A g d dd 𝓛 𝓜.mem 𝓡.returns) in
    let z : G.Ghost = ((κs, qs, tt, (alloc, (block_ptr b o, tt)), (h ∷ [], (vptr b o ∷ [], tt))), owned.value) in
    -- the requires: two lifetimes are long enough, of which the call needs none
    move ! (4 ∷ []) $ use1 𝓛 (raw (fact 𝓤 (κs.0 ⊑ T.lives)) ⊛ raw (fact 𝓤 (κs.1.0 ⊑ A.lives)) ⊛ ‵ ftrue) (id⊢ 𝓤 _) $
    split3 ! $ move ! (2 ∷ []) $ drop ! $ move ! (1 ∷ 2 ∷ []) $ join ! $ move ! (1 ∷ 0 ∷ []) $ join ! $
    move ! (2 ∷ []) $ feq_i ! (List Val) (vptr b o ∷ []) (vptr b o ∷ []) refl $ fjoin ! $ move ! (2 ∷ 0 ∷ []) $ fjoin
    ! $
    move ! (2 ∷ 0 ∷ []) $ join ! $ join ! $ use1 𝓛 (raw (G.pre z)) (id⊢ 𝓤 _) $
    suffices ! (Runs (v ∷ [])) (subst (λ (vs : List Val). ent 𝓤 (Runs (v ∷ [])) (Runs vs)) (sym (λ i. stored i ++ []))
    (id⊢ 𝓤 (Runs (v ∷ [])))) $
    enter ! 𝓣.C 𝓣.Λ f (v ∷ []) Post $ alloc_all ! (λ l. pass_all ! refl (v-fits, tt) $ let locals = env f.locals l in
    sets ! (of_opd ! (get_in ! (fld ! refl (stop !)) (sub ! 0 refl (whole !)))) refl (tt, tt) $
    sets ! (of_opd ! (get_in ! (fld ! refl (stop !)) (sub ! 1 refl (whole !)))) refl fits $
    first ! $ blocks ! $ sets ! (of_opd ! (get ! refl)) refl fits $
    calls_at_last ! (fm 𝓛 𝓜 𝓡) G
    (met 𝓤 𝓛 𝓜 𝓡 (code.calls-std_alloc::boxed::Box::from_raw 𝓡.env wired) T A laws A-laws g d dd allocator glued)
    z (and_then ! (get ! refl) (and_then ! (get ! refl) (no_more !))) (λ u.
    use1 𝓛 (later (some (λ (r : B.Denot). (tokens ⊛ ‵ (B.own_val r (u ∷ []))) ⊛
    some (λ (ls : Lasts (callee.ended T A g d dd) κs z.0.3). ‵ (lasts (callee.ended T A g d dd) κs z.0.3 ls) ⊛
    (raw (fact 𝓤 (r.value ≡ owned.value)) ⊛ raw (fact 𝓤 (r.alloc ≡ alloc))))))) (id⊢ 𝓤 (G.post z u)) $
    await ! tt $ pick ! (λ r. split ! $ move ! (1 ∷ []) $ pick ! (λ _. split3 ! $ drop ! $ move ! (2 ∷ []) $ split
    ! $ move ! (1 ∷ []) $
    -- the box that came back, as it is stored
    box_out E ! r (u ∷ []) (λ b' o' h' at' stored' fits'. box_in E ! r b' o' r.value at' refl $
    rewrite ! 0 (λ (vs : List Val). ‵ (B.own_val r vs)) (sym stored') refl $
    let u-fits : Good (layout B) u =
    subst (Good (layout B)) (sym (ap only stored')) (pair_fits R P P-laws g b' o' h' fits') in
    lands_last ! refl u-fits $ exec ! 𝓣.C 𝓣.Λ locals (after 3 f.body) (at_ret locals Post) $ sets
    ! (of_opd ! (get ! refl)) refl u-fits $
    nothing ! $ nothing ! $ fjoin ! $ returns ! (look_at ! 0 refl) $ free_all ! refl $ keep ! (2 ∷ 0 ∷ 1 ∷ 3 ∷ []) $
    by ! (leaves 𝓛 End stays c y u r ((tt, (tt, tt)), tt) (tt, tt)))))))))
