-- Parts: putting one behind others, and cutting at a place.
use Rattle.lsp_edit.proofs.Prelude.{ℕ, ◌≡◌, List, [], ◌∷◌, ◌++◌, refl, sym, ap, ◌∙◌, append_assoc, append-nil, map-append, Span, Part, part_of, parts_of, joined, put_part, front_parts, AreCut, arith, common_steps}

put_behind : (parts : List Part) (last part : Part) → put_part (parts ++ last ∷ []) part ≡ parts ++ joined last part
put_behind [] last part = refl
put_behind (first ∷ []) last part = refl
put_behind (first ∷ second ∷ parts) last part =
    ap (λ (ps : List Part). first ∷ ps) (put_behind (second ∷ parts) last part)

-- What a span does that is put behind others: one that it touches is joined, any other stays.
pub put_joined : (spans : List Span) (last span one : Span) → joined (part_of last) (part_of span) ≡ part_of one ∷ []
    → parts_of (spans ++ one ∷ []) ≡ put_part (parts_of (spans ++ last ∷ [])) (part_of span)
put_joined spans last span one e = grind (arith, common_steps, map-append, put_behind)

pub put_apart : (spans : List Span) (last span : Span) → joined (part_of last) (part_of span) ≡ part_of last
    ∷ part_of span ∷ [] → parts_of ((spans ++ last ∷ []) ++ span ∷ []) ≡ put_part (parts_of (spans ++ last ∷ []))
    (part_of span)
put_apart spans last span e = grind (arith, common_steps, map-append, put_behind, append_assoc)

pub fronts_none : (parts : List Part) → front_parts parts 0 ≡ []
fronts_none [] = refl
fronts_none (part ∷ parts) = refl

-- How far the parts before a place were put behind others: what is left to put gives the rest.
pub record Fronts (made rest : List Part) (left : ℕ) (first parts : List Part) (place : ℕ) : Type 0 where
  pub made_is : made ++ front_parts rest left ≡ first ++ front_parts parts place
  pub cut : AreCut rest left

module _ (made rest first parts : List Part) (left place : ℕ) (fronts : Fronts made rest left first parts place) where
  pub front_none : left ≡ 0 → made ≡ first ++ front_parts parts place
  front_none e =
      sym (append-nil made) ∙ (sym (ap (λ (ps : List Part). made ++ ps) (ap (front_parts rest) e ∙ fronts_none rest))
      ∙ fronts.made_is)
