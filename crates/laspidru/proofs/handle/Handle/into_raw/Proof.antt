-- `into_raw` takes the object of a full handle. Assumes `Logic`.
use Rattle.laspidru.proofs.Prelude.{◌≡◌, List, [], ◌∷◌, ◌++◌, refl, sym, subst, Val, SProp, ent, id⊢, emp, WpFn, ‵, raw, ◌⊛◌, ◌$◌, ◌∵◌, !, qed, by, move, keep, split, fsplit, fjoin, suffices, use0, whole, sub, agg, stop, fld, of_opd, no_more, and_then, returns, enter, alloc_all, pass_all, free_all, look_at, get, get_in, sets, fact, fact_i, tables, owns, block_ptr, types_at, plain, nothing, heard, alive, Stays, stay_dropped, walk_of, Goes-blank, proved_at, leaves, ghosts, Some, IsSome}
use Rattle.laspidru.proofs.RawBoxes.{pair, pair_fits, closes_raw}
use Rattle.laspidru.proofs.Values.{A, triple, triple_fits, opens_handle, is_there}
use Rattle.laspidru.specs.contracts.handle.Handle.into_raw.{ended, clauses}
use Rattle.laspidru.specs.contracts.handle.Handle.into_raw.Key.{name}
use Rattle.laspidru.proofs.handle.Handle.into_raw.Statement.{statement}
use Rattle.std.proofs.alloc.Global.TheLaws as global-laws
use Rattle.laspidru.specs.contracts.object.Object as object
use Rattle.laspidru.specs.contracts.handle.Handle as handle
use Rattle.laspidru.proofs.handle.Handle.into_raw.Code as code

pub into_raw_spec : {M : Type 1} → statement M
into_raw_spec 𝓤 𝓛 𝓜 𝓡 wired =
    let H = 𝓛.H in let 𝓣 = tables 𝓤 H 𝓜 𝓡 𝓡.env in let c = clauses 𝓛 𝓜.mem 𝓡.returns in let f = code.function in
    let P = handle.the_row in
    let stays : Stays ended.signature.params ended.kept = (stay_dropped (plain (λ _. P)) ended.kept.0, tt) in
    proved_at 𝓛 ended stays c 𝓜 𝓡 (Goes-blank 𝓛 0 (plain (λ _. P)) ended.kept.0 (λ κs x w. tt), tt) name f
    (code.unfolded 𝓤 H 𝓜 𝓡 wired) (λ y are.
    let κs = y.0.0 in let given = y.0.3.0 in
    let Post : Val → SProp 𝓤 = (walk_of 𝓛 ended stays c).post y in
    let Runs : List Val → SProp 𝓤 = λ vs. WpFn 𝓤 H 𝓣.C 𝓣.Λ f vs Post in
    qed 𝓛 ((raw (alive 𝓛 ended.signature κs y.0.1) ⊛ ‵ (owns (types_at ended.signature.params κs) y.0.3 y.0.4))
    ∷ raw ((c κs y.0.3).requires y.1) ∷ []) ∵
    split ! $ move ! (1 ∷ []) $ fsplit ! $
    opens_handle ! given y.0.4.0 (λ h stored₀ fits. move ! (4 ∷ []) $ heard ! (IsSome given.value) (λ is.
    is_there ! given.is_full given.alloc given.pointer given.value is (λ b o x full at holds.
    let v : Val = triple (block_ptr b o) given.is_full h in let v-fits =
    triple_fits (block_ptr b o) given.is_full h fits in
    let stored : y.0.4.0 ≡ v ∷ [] = subst (λ p. y.0.4.0 ≡ triple p given.is_full h ∷ []) at stored₀ in
    let raw-fits = pair_fits object.the_row A global-laws.the_row_laws ghosts b o h fits in
    suffices ! (Runs (v ∷ [])) (subst (λ (vs : List Val). ent 𝓤 (Runs (v ∷ [])) (Runs vs)) (sym (λ i. stored i ++ []))
    (id⊢ 𝓤 (Runs (v ∷ [])))) $
    enter ! 𝓣.C 𝓣.Λ f (v ∷ []) Post $ alloc_all ! (λ l. pass_all ! refl (v-fits, tt) $
    sets ! (of_opd ! (get_in ! (fld ! refl (stop !)) (sub ! 0 refl (whole !)))) refl (tt, tt) $
    sets ! (of_opd ! (get_in ! (fld ! refl (stop !)) (sub ! 2 refl (whole !)))) refl fits $
    sets ! (of_opd ! (get ! refl)) refl (tt, tt) $
    sets ! (agg ! (and_then ! (get ! refl) (and_then ! (get ! refl) (no_more !)))) refl raw-fits $
    closes_raw object.the_row A global-laws.the_row_laws ghosts ! b o h given.alloc x $
    use0 𝓛 (raw (fact 𝓤 (given.value ≡ Some x))) (fact_i 𝓤 (given.value ≡ Some x) (emp 𝓤) holds) $ nothing ! $ nothing
    ! $ fjoin ! $
    returns ! (look_at ! 0 refl) $ free_all ! refl $ keep ! (4 ∷ 0 ∷ 2 ∷ 1 ∷ []) $
    by ! (leaves 𝓛 ended stays c y (pair b o h) (record { pointer = block_ptr b o; alloc = given.alloc; value = x }) (
      tt,
      tt,
    ) (tt, tt)))))))
