-- The frames of a whole stream, and that a stream has one reading.
use Rattle.lsp_frame.proofs.Prelude.{◌≡◌, ℕ, ◌+◌, ◌-◌, ◌<◌, ◌≤◌, true, false, List, [], ◌∷◌, ◌++◌, length, take, drop, refl, sym, ◌∙◌, ap, subst, append_assoc, append-nil, take-append-drop, arith, inl, inr, Result, Ok, Err, OnErr, Some, None, replicate, length-append, take-append-le, length-replicate, IsFrameOf, HasNoFrame, IsJudgedAt, IsDecidedAt, place_after, FramerData, IsFrame, IsPart, AreFrames, IsSound, IsRead, IsStreamFault, IsFeedFault, released, IsHolding, HasTaken, IsFaulty, HeaderFault, FrameFault, LimitsData, flat_map, length-flat_map-take, take_more, Vec, Global, get_or, common_steps}
use Rattle.lsp_frame.proofs.ProgressLemmas.{all_of}
use Rattle.std.proofs.lemmas.List.Concat.{flat_map-append}
use Rattle.lsp_frame.proofs.FaultLemmas.{decided_hopeless, part_one}
use Rattle.lsp_frame.proofs.FramedLemmas.{begins_front, way_of, ends_here, way_within, no_empty_frame, nothing_part, framed_push, framed_more, framed_len}
use Rattle.lsp_frame.specs.declared.fault.HeaderFault.TheVariants as header
use Rattle.lsp_frame.specs.declared.fault.FrameFault.TheVariants as fault_of

-- The place behind one more frame.
pub place_more : (whole buffered place : ℕ) → buffered ≤ whole → place ≡ place_after 0 (whole - buffered)
    → place_after place buffered ≡ place_after 0 (whole - 0)
place_more whole buffered place less e = omega (arith, less, e)

-- A framer that gave a frame up.
pub given_none : (f n : FramerData) → n ≡ released f → f.failed ≡ false → (IsFrame n.limits.max_body n.buffered → ⊥)
    × (n.failed ≡ false)
given_none f n e sound = subst (λ (g : FramerData). (IsFrame g.limits.max_body g.buffered → ⊥) × (g.failed ≡ false))
    (sym e) (no_empty_frame f.limits.max_body, sound)

pub given_behind : (max_body : ℕ) (stream : List ℕ) (bodies more : List (List ℕ)) (f n : FramerData) (body : List ℕ)
    → IsHolding max_body stream bodies f → n ≡ released f → IsFrameOf f.limits.max_body f.buffered body
    → more ≡ bodies ++ body ∷ [] → HasTaken max_body stream more n
given_behind max_body stream bodies more f n body at e s m =
    let is_frame_of : IsFrameOf max_body f.buffered body = subst (λ (k : ℕ). IsFrameOf k f.buffered body) at.limit s in
    let framed : AreFrames max_body stream more [] =
    subst (λ (b : List (List ℕ)). AreFrames max_body stream b []) (sym m) (framed_push max_body stream bodies f.buffered
    body at.framed is_frame_of) in
    let rest_after : HasTaken max_body stream more (released f) = record {
      holding = record {
        framed = framed;
        place = place_more (length stream) (length f.buffered) f.place (framed_len max_body stream bodies f.buffered
            at.framed) at.place;
        sound = at.sound;
        part = nothing_part max_body;
        limit = at.limit;
      };
      none = no_empty_frame max_body;
    } in
    subst (λ (g : FramerData). HasTaken max_body stream more g) (sym e) rest_after

-- A framer that was fed.
pub fed_holding : (max_body : ℕ) (stream : List ℕ) (bodies : List (List ℕ)) (f n : FramerData) (more : List ℕ)
    → HasTaken max_body stream bodies f → n ≡ record f {
      buffered = f.buffered ++ more;
    } → IsPart n.limits.max_body n.buffered → IsHolding max_body (stream ++ more) bodies n
fed_holding max_body stream bodies f n more at e part =
    grind (arith, common_steps, framed_len, length-append, framed_more)

-- What was decided stays so with more bytes.
pub front_more : (bytes more : List ℕ) (k : ℕ) → k < length bytes → take (k + 1) bytes ≡ take (k + 1) (bytes ++ more)
front_more bytes more k there = sym (take-append-le (k + 1) bytes more (omega arith))

pub judged_more : (max_body : ℕ) (bytes more : List ℕ) (k : ℕ) (kind : HeaderFault) → IsJudgedAt max_body bytes k kind
    → IsJudgedAt max_body (bytes ++ more) k kind
judged_more max_body bytes more k kind at = grind (arith, common_steps, front_more, length-append)

pub decided_more : (max_body : ℕ) (bytes more : List ℕ) (k : ℕ) (kind : HeaderFault) → IsDecidedAt max_body bytes k kind
    → IsDecidedAt max_body (bytes ++ more) k kind
decided_more max_body bytes more k header.BadHeader at =
    grind (arith, common_steps, front_more, length-append, take-append-le)
decided_more max_body bytes more k header.HeaderTooLong at = grind (arith, common_steps, length-append, front_more)
decided_more max_body bytes more k kind at = judged_more max_body bytes more k kind at

pub faulty_more : (max_body : ℕ) (stream more : List ℕ) (bodies : List (List ℕ)) (fault : FrameFault)
    → IsFaulty max_body stream bodies fault → IsFaulty max_body (stream ++ more) bodies fault
faulty_more max_body stream more bodies fault at =
    let less = framed_len max_body stream bodies at.rest at.framed in
    let same : length stream - length at.rest ≡ length (stream ++ more) - length (at.rest ++ more) =
    omega (arith, less, length-append stream more, length-append at.rest more) in
    record {
      rest = at.rest ++ more;
      framed = framed_more max_body stream bodies at.rest more at.framed;
      decided = grind (arith, common_steps, decided_more);
      hopeless = λ tail raw body last s e. at.hopeless (more ++ tail) raw body last s
          (sym (append_assoc at.rest more tail) ∙ e);
    }

pub faulty_read : (max_body : ℕ) (stream : List ℕ) (bodies : List (List ℕ)) (fault : FrameFault)
    → IsFaulty max_body stream bodies fault → IsRead max_body stream bodies (Some fault)
faulty_read max_body stream bodies fault at =
    record {
      rest = at.rest;
      frames = record {
        framed = at.framed;
        longest = λ raw body more s e. at.hopeless [] raw body more s (append-nil at.rest ∙ e);
      };
      end = at.decided;
    }

-- Where a part of a frame is held no fault was decided, and no frame begins but the one that is held.
pub part_sound : (max_body : ℕ) (buffered : List ℕ) → IsPart max_body buffered → IsSound max_body buffered
part_sound max_body buffered (inl part) k kind at =
    grind (arith, common_steps, way_of, way_within, ends_here, begins_front)
part_sound max_body buffered (inr part) k kind at =
    let missing : List ℕ = replicate (part.wanted - length part.body) 0 in
    let len : part.wanted ≡ length (part.body ++ replicate (part.wanted - length part.body) 0) =
    grind (arith, common_steps, length-append, length-replicate) in
    let is_frame_of : IsFrameOf max_body (buffered ++ replicate (part.wanted - length part.body) 0)
    (part.body ++ replicate (part.wanted - length part.body) 0) = grind (arith, common_steps, append_assoc) in
    decided_hopeless max_body buffered k kind at (replicate (part.wanted - length part.body) 0)
    (buffered ++ replicate (part.wanted - length part.body) 0) (part.body ++ replicate (part.wanted - length part.body)
    0) [] is_frame_of (sym (append-nil (buffered ++ replicate (part.wanted - length part.body) 0)))

pub part_longest : (max_body : ℕ) (buffered : List ℕ) → IsPart max_body buffered → (IsFrame max_body buffered → ⊥)
    → HasNoFrame max_body buffered
part_longest max_body buffered part none raw body more s e =
    let nothing : more ≡ [] = part_one max_body buffered part raw body more s e in
    let all : raw ≡ buffered = sym (e ∙ ap (λ z. raw ++ z) nothing ∙ append-nil raw) in
    none (record { body = body; is_frame_of = subst (λ (z : List ℕ). IsFrameOf max_body z body) all s })

pub behind_read : (max_body : ℕ) (stream : List ℕ) (bodies : List (List ℕ)) (f : FramerData)
    → HasTaken max_body stream bodies f → IsRead max_body stream bodies None
behind_read max_body stream bodies f at =
    record {
      rest = f.buffered;
      frames = record {
        framed = at.holding.framed;
        longest = part_longest max_body f.buffered at.holding.part at.none;
      };
      end = part_sound max_body f.buffered at.holding.part;
    }

-- The fault of a feed is the stream's, but for want of memory.
pub stream_fault_of : (f n : FramerData) (piece : List ℕ) (fault : FrameFault) → IsFeedFault f n piece fault → f.failed
    ≡ false → (fault ≡ fault_of.NoMemory → ⊥) → IsStreamFault f n piece fault
stream_fault_of f n piece fault_of.Failed at sound some = let failed : f.failed ≡ true = at.0 in cc
stream_fault_of f n piece fault_of.NoMemory at sound some = absurd (some refl)
stream_fault_of f n piece _ at sound some = at

pub fault_behind : (max_body : ℕ) (stream piece : List ℕ) (at : ℕ) (bodies : List (List ℕ)) (f n : FramerData)
    (fault : FrameFault) → HasTaken max_body (stream ++ take at piece) bodies f
    → IsFeedFault f n (take (length piece - at) (drop at piece)) fault → (fault ≡ fault_of.NoMemory → ⊥)
    → IsFaulty max_body (stream ++ piece) bodies fault
fault_behind max_body stream piece at bodies f n fault rest_after fed some =
    let rest : List ℕ = take (length piece - at) (drop at piece) in
    let why = stream_fault_of f n (take (length piece - at) (drop at piece)) fault fed rest_after.holding.sound some in
    let here : IsDecidedAt max_body (f.buffered ++ take (length piece - at) (drop at piece)) why.decided.k
    why.decided.kind =
    subst (λ (m : ℕ). IsDecidedAt m (f.buffered ++ take (length piece - at) (drop at piece)) why.decided.k
    why.decided.kind) rest_after.holding.limit why.decided.decided in
    let less = framed_len max_body (stream ++ take at piece) bodies f.buffered rest_after.holding.framed in
    let same : length (stream ++ take at piece) - length f.buffered
    ≡ length ((stream ++ take at piece) ++ take (length piece - at) (drop at piece))
    - length (f.buffered ++ take (length piece - at) (drop at piece)) =
    grind (arith, common_steps, length-append) in
    let faulty : IsFaulty max_body ((stream ++ take at piece) ++ take (length piece - at) (drop at piece)) bodies
    fault = grind (arith, common_steps, framed_more, decided_hopeless) in
    subst (λ (z : List ℕ). IsFaulty max_body z bodies fault) (all_of stream piece (stream ++ take at piece) at refl)
    faulty

-- A new framer.
pub new_behind : (limits : LimitsData) (f : FramerData) → f ≡ record {
  place = 0;
  buffered = [];
  failed = false;
  limits = limits;
} → HasTaken limits.max_body [] [] f
new_behind limits f e =
    let fresh : FramerData = record { place = 0; buffered = []; failed = false; limits = limits } in
    let rest_after : HasTaken limits.max_body [] [] (record {
      place = 0;
      buffered = [];
      failed = false;
      limits = limits;
    }) = record {
      holding = record { framed = refl; place = refl; sound = refl; part = nothing_part limits.max_body; limit = refl };
      none = no_empty_frame limits.max_body;
    } in
    subst (λ (g : FramerData). HasTaken limits.max_body [] [] g) (sym e) rest_after

-- The pieces of a stream, one after another.
pub joined_more : (f : Vec ℕ Global → List ℕ) (pieces : List (Vec ℕ Global)) (i : ℕ) (piece : Vec ℕ Global)
    → i < length pieces → piece ≡ get_or pieces i piece → flat_map f (take i pieces) ++ f piece
    ≡ flat_map f (take (i + 1) pieces)
joined_more f pieces i piece within is = grind (arith, common_steps, take_more, append-nil, flat_map-append)

pub joined_all : (f : Vec ℕ Global → List ℕ) (pieces : List (Vec ℕ Global)) (i : ℕ) → flat_map f (take i pieces)
    ++ flat_map f (drop i pieces) ≡ flat_map f pieces
joined_all f pieces i = sym (flat_map-append f (take i pieces) (drop i pieces))
    ∙ ap (flat_map f) (take-append-drop i pieces)

pub piece_faulty : (max_body : ℕ) (f : Vec ℕ Global → List ℕ) (pieces : List (Vec ℕ Global)) (i : ℕ)
    (piece : Vec ℕ Global) (now : List ℕ) (bodies : List (List ℕ)) (fault : FrameFault) → i < length pieces
    → piece ≡ get_or pieces i piece → now ≡ f piece → IsFaulty max_body (flat_map f (take i pieces) ++ now) bodies fault
    → IsRead max_body (flat_map f pieces) bodies (Some fault)
piece_faulty max_body f pieces i piece now bodies fault within is e faulty =
    let joined : flat_map f (take i pieces) ++ now ≡ flat_map f (take (i + 1) pieces) =
    ap (λ z. flat_map f (take i pieces) ++ z) e ∙ joined_more f pieces i piece within is in
    let here : IsFaulty max_body (flat_map f (take (i + 1) pieces)) bodies fault =
    subst (λ (z : List ℕ). IsFaulty max_body z bodies fault) joined faulty in
    let all : IsFaulty max_body (flat_map f (take (i + 1) pieces) ++ flat_map f (drop (i + 1) pieces)) bodies fault =
    faulty_more max_body (flat_map f (take (i + 1) pieces)) (flat_map f (drop (i + 1) pieces)) bodies fault here in
    faulty_read max_body (flat_map f pieces) bodies fault (subst (λ (z : List ℕ). IsFaulty max_body z bodies fault)
    (joined_all f pieces (i + 1)) all)

pub piece_behind : (max_body : ℕ) (f : Vec ℕ Global → List ℕ) (pieces : List (Vec ℕ Global)) (i : ℕ)
    (piece : Vec ℕ Global) (now : List ℕ) (bodies : List (List ℕ)) (g : FramerData) → i < length pieces
    → piece ≡ get_or pieces i piece → now ≡ f piece → HasTaken max_body (flat_map f (take i pieces) ++ now) bodies g
    → HasTaken max_body (flat_map f (take (i + 1) pieces)) bodies g
piece_behind max_body f pieces i piece now bodies g within is e rest_after = grind (arith, common_steps, joined_more)

-- A stream has the bytes of each of its pieces.
pub piece_some : (f : Vec ℕ Global → List ℕ) (pieces : List (Vec ℕ Global)) (i : ℕ) (piece : Vec ℕ Global)
    (now : List ℕ) → i < length pieces → piece ≡ get_or pieces i piece → now ≡ f piece → 0 < length now
    → 0 < length (flat_map f pieces)
piece_some f pieces i piece now within is e some = grind (arith, common_steps, length-flat_map-take)

pub on_err : {X Y Z : Type 0} (r : Result X Y) → Z → OnErr r Z
on_err (Ok x) z = tt
on_err (Err y) z = z
