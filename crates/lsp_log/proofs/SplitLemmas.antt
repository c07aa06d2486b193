-- A splitter on its way through a log.
use Rattle.lsp_log.proofs.Prelude.{◌≡◌, ℕ, ◌+◌, ◌-◌, ◌≤◌, ◌^◌, Bool, true, false, List, [], ◌∷◌, ◌++◌, length, take, drop, Option, Some, None, refl, sym, ◌∙◌, ap, subst, arith, append_assoc, inl, inr, ◌⊎◌, min, not, is_some, length-append, take-append-drop, IsFrameOf, place_after, IsDecided, FramerData, IsFrame, IsPart, HoldsOne, IsFeedFault, IsStreamFault, released, Version, One, Two, Sender, Client, Splitter, LogRules, Record, IsRecord, IsReadAs, IsMalformed, line_of, mark_of, is_line_due, together, record_bytes, IsFed, IsReady, IsAfter, IsSplitFault, IsSide, IsOpen, mark_part, buffered_of, log_at, side_of, record_at, common_steps}
use Rattle.lsp_stream.specs.Faults.{engine_fault}
use Rattle.lsp_frame.specs.declared.fault.FrameFault.{FrameFault}
use Rattle.lsp_frame.proofs.FaultLemmas.{part_one}
use Rattle.lsp_frame.proofs.FramedLemmas.{nothing_part, no_empty_frame}
use Rattle.lsp_log.proofs.LogLemmas.{together_push, input_len, are_push, due_now, not_due}
use Rattle.lsp_frame.specs.declared.fault.FrameFault.TheVariants as fault_of

-- A frame has at least two bytes, so nothing is none.
pub frame_len : (max_body : ℕ) (raw body : List ℕ) → IsFrameOf max_body raw body → 2 ≤ length raw
frame_len max_body raw body s = grind (arith, common_steps, length-append)

pub nothing_one : (max_body : ℕ) → HoldsOne max_body []
nothing_one max_body = part_one max_body [] (nothing_part max_body)

-- Who wrote the record that comes in is known.
pub known_side : (o : Option Sender) → (o ≡ None → ⊥) → (side : Sender) × (o ≡ Some side)
known_side None some = absurd (some refl)
known_side (Some side) some = (side, refl)

pub some_or : (o : Option Sender) → ((side : Sender) × (o ≡ Some side)) ⊎ (o ≡ None)
some_or None = inr refl
some_or (Some side) = inl (side, refl)

pub not_none : (o : Option Sender) (none : Bool) → is_some o ≡ not none → none ≡ false → o ≡ None → ⊥
not_none o none said some is = let two : false ≡ true = sym (ap is_some is) ∙ said ∙ ap not some in cc

pub none_there : (o : Option Sender) (none : Bool) → is_some o ≡ not none → none ≡ true → o ≡ None
none_there None none said is = refl
none_there (Some side) none said is = let two : true ≡ false = said ∙ ap not is in cc

-- Bytes were taken.
fed_bytes : (buffered piece : List ℕ) (k : ℕ) → (buffered ++ take k piece) ++ drop k piece ≡ buffered ++ piece
fed_bytes buffered piece k = append_assoc buffered (take k piece) (drop k piece)
    ∙ ap (λ z. buffered ++ z) (take-append-drop k piece)

fed_held : (mark buffered piece : List ℕ) (k : ℕ) → (mark ++ (buffered ++ take k piece)) ++ drop k piece
    ≡ (mark ++ buffered) ++ piece
fed_held mark buffered piece k = grind (arith, common_steps, append_assoc, fed_bytes)

pub fed_stands : (log_rules : LogRules) (input piece : List ℕ) (records : List Record) (s : Splitter) (f : FramerData)
    (k : ℕ) → f ≡ record s.framer { buffered = s.framer.buffered ++ take k piece }
    → IsPart f.limits.max_body f.buffered → HoldsOne f.limits.max_body f.buffered
    → IsAfter log_rules input piece records s → IsAfter log_rules input (drop k piece) records (record s { framer = f })
fed_stands log_rules input piece records s f k e part one at =
    let bytes = fed_bytes s.framer.buffered piece k in
    let all = fed_held (mark_part s.version s.side) s.framer.buffered piece k in
    let part_here : IsPart s.framer.limits.max_body (s.framer.buffered ++ take k piece) =
    subst (λ (g : FramerData). IsPart g.limits.max_body g.buffered) e part in
    let one_here : HoldsOne s.framer.limits.max_body (s.framer.buffered ++ take k piece) =
    subst (λ (g : FramerData). HoldsOne g.limits.max_body g.buffered) e one in
    let is_after : IsAfter log_rules input (drop k piece) records (record s {
      framer = record s.framer { buffered = s.framer.buffered ++ take k piece };
    }) = record {
      reads = grind (arith, common_steps);
      limit = at.limit;
      placed = at.placed ∙ ap (λ z. place_after 0 (length input - length z)) (sym all);
      framed = at.framed ∙ ap (λ z. place_after 0 (length input - length z)) (sym bytes);
      part = subst (λ (m : ℕ). IsPart m (s.framer.buffered ++ take k piece)) at.limit part_here;
      one = subst (λ (m : ℕ). HoldsOne m (s.framer.buffered ++ take k piece)) at.limit one_here;
      side = at.side;
      due = at.due;
    } in
    subst (λ (g : FramerData). IsAfter log_rules input (drop k piece) records (record s { framer = g })) (sym e)
    is_after

-- No more of them can be taken.
malformed : (log_rules : LogRules) (input piece : List ℕ) (records : List Record) (s : Splitter) (side : Sender)
    (n : FramerData) (fault : FrameFault) → s.side ≡ Some side
    → IsStreamFault s.framer n piece fault → IsAfter log_rules input piece records s
    → IsMalformed log_rules.max_body input fault (log_at s records piece)
malformed log_rules input piece records s side n fault is why at =
    let limited : IsDecided log_rules.max_body s.framer.place (s.framer.buffered ++ piece) fault =
    subst (λ (m : ℕ). IsDecided m s.framer.place (s.framer.buffered ++ piece) fault) at.limit why.decided in
    record {
      side = side;
      part = s.framer.buffered ++ piece;
      is = ap (λ (o : Option Sender). (mark_part s.version o ++ s.framer.buffered) ++ piece) is
          ∙ append_assoc (mark_of s.version side) s.framer.buffered piece;
      decided = subst (λ (p : ℕ). IsDecided log_rules.max_body p (s.framer.buffered ++ piece) fault) at.framed limited;
      hopeless = λ more raw body tail t. why.hopeless more raw body tail
          (subst (λ (m : ℕ). IsFrameOf m raw body) (sym at.limit) t);
    }

split_fault : (log_rules : LogRules) (input piece : List ℕ) (records : List Record) (s : Splitter) (side : Sender)
    (n : FramerData) (fault : FrameFault) → s.side ≡ Some side
    → IsFeedFault s.framer n piece fault → s.framer.failed ≡ false → IsAfter log_rules input piece records s
    → IsSplitFault log_rules.max_body input (log_at s records piece) (engine_fault fault)
split_fault log_rules input piece records s side n fault_of.Failed is why sound at =
    let failed : s.framer.failed ≡ true = why.0 in let two : true ≡ false = sym failed ∙ sound in cc
split_fault log_rules input piece records s side n fault_of.NoMemory is why sound at = tt
split_fault log_rules input piece records s side n fault is why sound at =
    malformed log_rules input piece records s side n fault is why at

pub feed_fault : (log_rules : LogRules) (input piece : List ℕ) (records : List Record) (s : Splitter) (n : FramerData)
    (fault : FrameFault) → (s.side ≡ None → ⊥)
    → IsFeedFault s.framer n piece fault → s.framer.failed ≡ false → IsAfter log_rules input piece records s
    → IsSplitFault log_rules.max_body input (log_at s records piece) (engine_fault fault)
feed_fault log_rules input piece records s n fault some why sound at =
    let known = known_side s.side some in
    split_fault log_rules input piece records s known.0 n fault known.1 why sound at

-- A mark was taken.
two_between : (version : Version) → IsSide version None → version ≡ Two
two_between One side = absurd side
two_between Two side = refl

pub marked_stands : (log_rules : LogRules) (input piece tail : List ℕ) (mark : ℕ) (records : List Record) (s : Splitter)
    (side : Sender) (f : FramerData) → s.side ≡ None → s.framer.buffered ≡ []
    → piece ≡ mark ∷ tail → mark_of Two side ≡ mark ∷ [] → f ≡ record s.framer { place = place_after s.framer.place 1 }
    → IsAfter log_rules input piece records s
    → IsAfter log_rules input tail records (record s { framer = f; side = Some side })
marked_stands log_rules input piece tail mark records s side f none nothing is said e at =
    let two : s.version ≡ Two = two_between s.version (subst (λ (o : Option Sender). IsSide s.version o) none at.side) in
    let marked : mark_of s.version side ≡ mark ∷ [] = ap (λ (v : Version). mark_of v side) two ∙ said in
    let was : buffered_of s ++ piece ≡ mark ∷ tail =
    ap (λ (o : Option Sender). (mark_part s.version o ++ s.framer.buffered) ++ piece) none ∙ ap (λ z. z ++ piece) nothing
    ∙ is in
    let now : (mark_of s.version side ++ s.framer.buffered) ++ tail ≡ mark ∷ tail =
    ap (λ z. (z ++ s.framer.buffered) ++ tail) marked ∙ ap (λ z. ((mark ∷ []) ++ z) ++ tail) nothing in
    let all : buffered_of s ++ piece ≡ (mark_of s.version side ++ s.framer.buffered) ++ tail = was ∙ sym now in
    let rest_after : s.framer.buffered ++ tail ≡ tail = ap (λ z. z ++ tail) nothing in
    let before : s.framer.buffered ++ piece ≡ mark ∷ tail = ap (λ z. z ++ piece) nothing ∙ is in
    let len = input_len log_rules input (log_at s records piece) at.reads in
    let is_after : IsAfter log_rules input tail records (record s {
      framer = record s.framer { place = place_after s.framer.place 1 };
      side = Some side;
    }) = grind (arith, common_steps) in
    subst (λ (g : FramerData). IsAfter log_rules input tail records (record s { framer = g; side = Some side })) (sym e)
    is_after

-- A record was given up.
one_side : (version : Version) (side : Sender) → IsSide version (Some side) → version ≡ One → side ≡ Client
one_side One side is e = is
one_side Two side is e = let other : Two ≡ One = e in cc

pub known_reads : (log_rules : LogRules) (input more body : List ℕ) (records : List Record) (s : Splitter)
    (was : Sender) → s.side ≡ Some was → IsFrameOf log_rules.max_body s.framer.buffered body
    → IsAfter log_rules input more records s → IsReadAs log_rules input (record {
      version = s.version;
      records = records ++ record_at s body ∷ [];
      rest = more;
    })
known_reads log_rules input more body records s was is is_frame_of at =
    let bytes : buffered_of s ≡ record_bytes s.version (record_at s body) =
    ap (λ (o : Option Sender). mark_part s.version o ++ s.framer.buffered) is
    ∙ ap (λ (w : Sender). mark_of s.version w ++ s.framer.buffered) (sym (ap side_of is)) in
    let len = input_len log_rules input (log_at s records more) at.reads in
    let record_here : IsRecord log_rules.max_body s.version
    (length (line_of s.version) + length (together s.version records [])) (is_line_due s.version records)
    (record_at s body) = grind (arith, common_steps, one_side) in
    record {
      version = at.reads.version;
      accepted = at.reads.accepted;
      is = at.reads.is ∙ ap (λ z. line_of s.version ++ together s.version records (z ++ more)) bytes
          ∙ ap (λ z. line_of s.version ++ z) (sym (together_push s.version records (record_at s body) more));
      each = grind (arith, common_steps, are_push, due_now);
    }

pub some_side : (s : Splitter) → IsFed s → IsFrame s.framer.limits.max_body s.framer.buffered → s.side ≡ None → ⊥
some_side s fed frame none =
    no_empty_frame s.framer.limits.max_body (subst (λ (z : List ℕ). IsFrame s.framer.limits.max_body z)
    (fed.between none) frame)

pub given_stands : (log_rules : LogRules) (input more body : List ℕ) (records : List Record) (s : Splitter)
    (f : FramerData) (side : Option Sender) (mark place : ℕ) → (s.side ≡ None → ⊥)
    → f ≡ released s.framer → IsSide s.version side → mark_part s.version side ≡ []
    → ((was : Sender) → mark ≡ length (mark_of s.version was))
    → place ≡ min (min (s.place + mark) (2 ^ 64 - 1) + length s.framer.buffered) (2 ^ 64 - 1)
    → IsFrameOf log_rules.max_body s.framer.buffered body → IsAfter log_rules input more records s
    → IsAfter log_rules input more (records ++ record_at s body ∷ [])
    (record { framer = f; version = s.version; side = side; place = place; line_due = false })
given_stands log_rules input more body records s f side mark place some e sided none marked placed is_frame_of at =
    let known = known_side s.side some in
    let is : s.side ≡ Some known.0 = known.1 in
    let counted : mark ≡ length (mark_of s.version known.0) = marked known.0 in
    let len = input_len log_rules input (log_at s records more) at.reads in
    let buffered : length (buffered_of s) ≡ mark + length s.framer.buffered =
    grind (arith, common_steps, length-append) in
    let whole : length (buffered_of s ++ more) ≡ length (buffered_of s) + length more =
    length-append (buffered_of s) more in
    let framed : length (s.framer.buffered ++ more) ≡ length s.framer.buffered + length more =
    length-append s.framer.buffered more in
    let reads = known_reads log_rules input more body records s known.0 known.1 is_frame_of at in
    let is_after : IsAfter log_rules input more (records ++ record_at s body ∷ []) (record {
      framer = released s.framer;
      version = s.version;
      side = side;
      place = place;
      line_due = false;
    }) = record {
      reads = grind (arith, common_steps);
      limit = at.limit;
      placed = omega (arith, placed, at.placed, len, buffered, whole, ap (λ z. length ((z ++ []) ++ more)) none);
      framed = omega (arith, at.framed, len, buffered, whole, framed);
      part = nothing_part log_rules.max_body;
      one = nothing_one log_rules.max_body;
      side = sided;
      due = sym (not_due s.version records (record_at s body));
    } in
    subst (λ (g : FramerData). IsAfter log_rules input more (records ++ record_at s body ∷ [])
    (record { framer = g; version = s.version; side = side; place = place; line_due = false })) (sym e) is_after

pub given_ready : (s : Splitter) (f : FramerData) (side : Option Sender) (place : ℕ) → f ≡ released s.framer
    → s.framer.failed ≡ false
    → IsReady (record { framer = f; version = s.version; side = side; place = place; line_due = false })
given_ready s f side place e sound =
    subst (λ (g : FramerData). IsReady (record {
      framer = g;
      version = s.version;
      side = side;
      place = place;
      line_due = false;
    })) (sym e)
    (record { fed = record { sound = sound; between = λ _. refl }; none = no_empty_frame s.framer.limits.max_body })

line_len : (version : Version) → length (line_of version) ≤ 18
line_len One = omega arith
line_len Two = omega arith

-- A splitter at the start of a log.
pub new_stands : (log_rules : LogRules) (input more : List ℕ) (s : Splitter) → s.framer.buffered ≡ []
    → s.framer.limits.max_body ≡ log_rules.max_body → s.framer.place ≡ place_after 0 (length (line_of s.version))
    → mark_part s.version s.side ≡ [] → IsSide s.version s.side → s.place ≡ length (line_of s.version) → s.line_due
    ≡ is_line_due s.version [] → IsOpen log_rules input s.version more → IsAfter log_rules input more [] s
new_stands log_rules input more s nothing limit framed none side placed due at_start =
    let buffered : buffered_of s ≡ [] = ap (λ z. z ++ s.framer.buffered) none ∙ nothing in
    let len : length input ≡ length (line_of s.version) + length more =
    omega (arith, ap length at_start.is, length-append (line_of s.version) more) in
    let line : length (line_of s.version) ≤ 18 = line_len s.version in
    record {
      reads = grind (arith, common_steps);
      limit = limit;
      placed = omega (arith, len, line, placed, ap (λ z. length (z ++ more)) buffered);
      framed = omega (arith, len, line, framed, ap (λ z. length (z ++ more)) nothing);
      part = subst (λ (z : List ℕ). IsPart log_rules.max_body z) (sym nothing) (nothing_part log_rules.max_body);
      one = subst (λ (z : List ℕ). HoldsOne log_rules.max_body z) (sym nothing) (nothing_one log_rules.max_body);
      side = side;
      due = due;
    }
