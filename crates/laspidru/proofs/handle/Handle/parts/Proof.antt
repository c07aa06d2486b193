-- `parts` says whether a handle is full, and hands it back. Assumes `Logic`.
use Rattle.laspidru.proofs.Prelude.{◌≡◌, List, [], ◌∷◌, ◌++◌, refl, sym, subst, Val, vbool, SProp, ent, id⊢, emp, WpFn, ‵, raw, ◌⊛◌, ◌$◌, ◌∵◌, !, qed, by, move, keep, split, fsplit, fjoin, join, suffices, use0, feq_i, whole, sub, agg, stop, fld, of_opd, no_more, and_then, returns, enter, alloc_all, pass_all, free_all, look_at, get, get_in, sets, fact, fact_i, tables, owns, bool, types_at, plain, nothing, alive, Stays, stay_dropped, walk_of, Goes-blank, proved_at, leaves, and_tt, is_some}
use Rattle.laspidru.proofs.Values.{two, triple, triple_fits, pointer_fits, opens_handle, closes_handle, tuple_of, says_full}
use Rattle.laspidru.specs.contracts.handle.Handle.parts.{ended, clauses}
use Rattle.laspidru.specs.contracts.handle.Handle.parts.Key.{name}
use Rattle.laspidru.proofs.handle.Handle.parts.Statement.{statement}
use Rattle.laspidru.specs.contracts.handle.Handle as handle
use Rattle.laspidru.proofs.handle.Handle.parts.Code as code

pub parts_spec : {M : Type 1} → statement M
parts_spec 𝓤 𝓛 𝓜 𝓡 wired =
    let H = 𝓛.H in let 𝓣 = tables 𝓤 H 𝓜 𝓡 𝓡.env in let c = clauses 𝓛 𝓜.mem 𝓡.returns in let f = code.function in
    let P = handle.the_row in
    let stays : Stays ended.signature.params ended.kept = (stay_dropped (plain (λ _. P)) ended.kept.0, tt) in
    proved_at 𝓛 ended stays c 𝓜 𝓡 (Goes-blank 𝓛 0 (plain (λ _. P)) ended.kept.0 (λ κs x w. tt), tt) name f
    (code.unfolded 𝓤 H 𝓜 𝓡 wired) (λ y are.
    let κs = y.0.0 in let given = y.0.3.0 in
    let Post : Val → SProp 𝓤 = (walk_of 𝓛 ended stays c).post y in
    let Runs : List Val → SProp 𝓤 = λ vs. WpFn 𝓤 H 𝓣.C 𝓣.Λ f vs Post in
    qed 𝓛 ((raw (alive 𝓛 ended.signature κs y.0.1) ⊛ ‵ (owns (types_at ended.signature.params κs) y.0.3 y.0.4))
    ∷ raw ((c κs y.0.3).requires y.1) ∷ []) ∵
    split ! $ move ! (1 ∷ []) $ fsplit ! $
    opens_handle ! given y.0.4.0 (λ h stored fits. says_full ! given.is_full given.alloc given.pointer given.value
    (λ says.
    let v : Val = triple given.pointer given.is_full h in let v-fits = triple_fits given.pointer given.is_full h fits in
    suffices ! (Runs (v ∷ [])) (subst (λ (vs : List Val). ent 𝓤 (Runs (v ∷ [])) (Runs vs)) (sym (λ i. stored i ++ []))
    (id⊢ 𝓤 (Runs (v ∷ [])))) $
    enter ! 𝓣.C 𝓣.Λ f (v ∷ []) Post $ alloc_all ! (λ l. pass_all ! refl (v-fits, tt) $
    sets ! (of_opd ! (get_in ! (fld ! refl (stop !)) (sub ! 0 refl (whole !)))) refl (pointer_fits given.pointer) $
    sets ! (of_opd ! (get_in ! (fld ! refl (stop !)) (sub ! 1 refl (whole !)))) refl (tt, tt) $
    sets ! (of_opd ! (get_in ! (fld ! refl (stop !)) (sub ! 2 refl (whole !)))) refl fits $
    sets ! (agg ! (and_then ! (get ! refl) (and_then ! (get ! refl) (and_then ! (get ! refl) (no_more !))))) refl v-fits
    $
    sets ! (agg ! (and_then ! (get ! refl) (and_then ! (get ! refl) (no_more !)))) refl (
      and_tt _ v-fits.0,
      (tt, (v-fits.1, tt)),
    ) $
    let same : (handle.the_row).Denot = record {
      pointer = given.pointer;
      is_full = given.is_full;
      alloc = given.alloc;
      value = given.value;
    } in
    closes_handle ! given.pointer given.is_full h given.alloc given.value $
    feq_i ! (List Val) (vbool given.is_full ∷ []) (vbool given.is_full ∷ []) refl $
    tuple_of bool handle.the_row ! given.is_full same (vbool given.is_full) v $
    use0 𝓛 (raw (fact 𝓤 (given.value ≡ given.value))) (fact_i 𝓤 (given.value ≡ given.value) (emp 𝓤) refl) $
    use0 𝓛 (raw (fact 𝓤 (given.is_full ≡ is_some given.value))) (fact_i 𝓤 (given.is_full ≡ is_some given.value) (emp 𝓤)
    says) $
    join ! $ nothing ! $ nothing ! $ fjoin ! $
    returns ! (look_at ! 0 refl) $ free_all ! refl $ keep ! (4 ∷ 0 ∷ 2 ∷ 1 ∷ []) $
    by ! (leaves 𝓛 ended stays c y (two (vbool given.is_full) v) (given.is_full, same) (tt, tt) (tt, tt))))))
