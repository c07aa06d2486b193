-- After a fault no frame can come, and no more than one frame is ever held.
use Rattle.lsp_frame.proofs.Prelude.{◌≡◌, ℕ, ◌+◌, ◌-◌, ◌≤◌, Bool, true, false, List, [], ◌∷◌, ◌++◌, length, take, drop, refl, sym, ◌∙◌, ap, subst, append_assoc, append-nil, take-append-drop, arith, inl, inr, Ok, Err, ◌⊎◌, length-append, length-take, take-take, nil_from_length, take-append-add, Line, AreLines, header_of, BeginsHeader, judge_header, IsFrameOf, IsHopeless, LimitsData, FramerData, IsFrame, IsPart, HoldsOne, IsStreamFault, IsFeedFault, FrameFault, Failed, IsBadHeaderAt, IsHeaderTooLongAt, IsJudgedAt, IsDecidedAt, header_fault_at, place_after, IsInBody, IsAtStage, has_failed, IsHeaderStop, stage_after, stopped_at, Stop, HeaderFault, Stage, common_steps}
use Rattle.lsp_frame.proofs.HeaderLemmas.{same_header}
use Rattle.lsp_frame.proofs.ProgressLemmas.{so_far_begins}
use Rattle.lsp_frame.specs.declared.framer.header.Stop.TheVariants as stop
use Rattle.lsp_frame.specs.declared.fault.HeaderFault.TheVariants as header
use Rattle.lsp_frame.specs.declared.framer.stage.Stage.TheVariants as stage

-- Of two fronts of the same bytes one begins the other.
pub record Front (a b x y : List ℕ) : Type 0 where
  pub more : List ℕ
  pub is : a ≡ b ++ more
  pub rest : y ≡ more ++ x

pub one_front : (a b x y : List ℕ) → a ++ x ≡ b ++ y → Front a b x y ⊎ Front b a y x
one_front [] b x y e = inr (record { more = b; is = refl; rest = e })
one_front (c ∷ a) [] x y e = inl (record { more = c ∷ a; is = refl; rest = sym e })
one_front (c ∷ a) (d ∷ b) x y e =
    let h : c ≡ d = cc in
    let t : a ++ x ≡ b ++ y = cc in
    elim (one_front a b x y t) [
      | inl f ↦ let i : a ≡ b ++ f.more = f.is in let r : c ∷ a ≡ d ∷ (b ++ f.more) = cc in
          inl (record { more = f.more; is = r; rest = f.rest })
      | inr f ↦ let i : b ≡ a ++ f.more = f.is in let r : d ∷ b ≡ c ∷ (a ++ f.more) = cc in
          inr (record { more = f.more; is = r; rest = f.rest })
    ]

-- What a header is at the front of is no beginning of a header.
pub begins_none : (lines : List Line) (x : List ℕ) → AreLines lines → BeginsHeader (header_of lines ++ x) → ⊥
begins_none lines x each begins =
    let e : header_of begins.lines ++ [] ≡ header_of lines ++ (x ++ begins.rest) =
    append-nil (header_of begins.lines) ∙ begins.is ∙ append_assoc (header_of lines) x begins.rest in
    let s = same_header begins.lines lines [] (x ++ begins.rest) begins.each each e in
    let len : 0 ≡ length (x ++ begins.rest) = ap length s.1 in
    omega (arith, len, length-append x begins.rest, begins.more)

pub header_begins_none : (lines : List Line) → AreLines lines → BeginsHeader (header_of lines) → ⊥
header_begins_none lines each begins =
    begins_none lines [] each (subst BeginsHeader (sym (append-nil (header_of lines))) begins)

-- Bytes cut behind byte k.
pub cut_at : (bytes more : List ℕ) (k : ℕ) → bytes ++ more ≡ take k bytes ++ (drop k bytes ++ more)
cut_at bytes more k = ap (λ x. x ++ more) (sym (take-append-drop k bytes)) ∙ append_assoc (take k bytes) (drop k bytes)
    more

pub bad_hopeless : (bytes more tail : List ℕ) (k : ℕ) (lines : List Line) → IsBadHeaderAt bytes k → AreLines lines
    → bytes ++ more ≡ header_of lines ++ tail → ⊥
bad_hopeless bytes more tail k lines bad each e =
    elim (one_front (take (k + 1) bytes) (header_of lines) (drop (k + 1) bytes ++ more) tail
    (sym (cut_at bytes more (k + 1)) ∙ e)) [
      | inl f ↦ shorter f.more f.is
      | inr f ↦ longer f.more f.is
    ]
  where
    longer : (c : List ℕ) → header_of lines ≡ take (k + 1) bytes ++ c → ⊥
    longer [] is =
        bad.not_whole (record { lines = lines; each = each; is = sym (is ∙ append-nil (take (k + 1) bytes)) })
    longer (b ∷ c) is = bad.not_on (record { lines = lines; rest = b ∷ c; each = each; is = is; more = omega arith })

    shorter : (c : List ℕ) → take (k + 1) bytes ≡ header_of lines ++ c → ⊥
    shorter [] is = bad.not_whole (record { lines = lines; each = each; is = is ∙ append-nil (header_of lines) })
    shorter (b ∷ c) is =
        let len : k + 1 ≡ length (header_of lines) + length (b ∷ c) =
        omega (arith, ap length is, length-append (header_of lines) (b ∷ c), length-take (k + 1) bytes, bad.there) in
        let left : ℕ = k - length (header_of lines) in
        let sum : k ≡ length (header_of lines) + (k - length (header_of lines)) = omega (arith, len) in
        let front : take k bytes ≡ header_of lines ++ take (k - length (header_of lines)) (b ∷ c) =
        sym (take-take k (k + 1) bytes (omega arith)) ∙ ap (take k) is ∙ ap (λ n. take n (header_of lines ++ (b ∷ c)))
        sum ∙ take-append-add (header_of lines) (b ∷ c) (k - length (header_of lines)) in
        begins_none lines (take (k - length (header_of lines)) (b ∷ c)) each (subst BeginsHeader front bad.before)

pub too_long_hopeless : (bytes more tail : List ℕ) (k : ℕ) (lines : List Line) → IsHeaderTooLongAt bytes k
    → AreLines lines → length (header_of lines) ≤ 8192 → bytes ++ more ≡ header_of lines ++ tail → ⊥
too_long_hopeless bytes more tail k lines long each short e =
    let len : length (take (k + 1) bytes) ≡ 8192 = omega (arith, length-take (k + 1) bytes, long.there, long.place) in
    elim (one_front (take (k + 1) bytes) (header_of lines) (drop (k + 1) bytes ++ more) tail
    (sym (cut_at bytes more (k + 1)) ∙ e)) [
      | inl f ↦ begins_none lines f.more each (subst BeginsHeader f.is long.on)
      | inr f ↦ longer f.more f.is len
    ]
  where
    longer : (c : List ℕ) → header_of lines ≡ take (k + 1) bytes ++ c → length (take (k + 1) bytes) ≡ 8192 → ⊥
    longer [] is len =
        header_begins_none lines each (subst BeginsHeader (sym (is ∙ append-nil (take (k + 1) bytes))) long.on)
    longer (b ∷ c) is len = omega (arith, ap length is, length-append (take (k + 1) bytes) (b ∷ c), len, short)

pub judged_hopeless : (max_body : ℕ) (bytes more tail : List ℕ) (k n : ℕ) (fault : HeaderFault) (lines : List Line)
    → IsJudgedAt max_body bytes k fault → AreLines lines → judge_header max_body lines ≡ Ok n
    → bytes ++ more ≡ header_of lines ++ tail → ⊥
judged_hopeless max_body bytes more tail k n fault lines at each good e =
    let e2 : header_of at.lines ++ (drop (k + 1) bytes ++ more) ≡ header_of lines ++ tail =
    ap (λ x. x ++ (drop (k + 1) bytes ++ more)) (sym at.is) ∙ sym (cut_at bytes more (k + 1)) ∙ e in
    let s = same_header at.lines lines (drop (k + 1) bytes ++ more) tail at.each each e2 in
    let both : Err fault ≡ Ok n = sym at.judged ∙ ap (judge_header max_body) s.0 ∙ good in
    cc

-- After a decision no frame comes, whatever follows.
pub decided_hopeless : (max_body : ℕ) (bytes : List ℕ) (k : ℕ) (fault : HeaderFault)
    → IsDecidedAt max_body bytes k fault → IsHopeless max_body bytes
decided_hopeless max_body bytes k header.BadHeader at more raw body tail s e =
    grind (arith, common_steps, bad_hopeless, append_assoc)
decided_hopeless max_body bytes k header.HeaderTooLong at more raw body tail s e =
    too_long_hopeless bytes more (body ++ tail) k s.lines at s.each s.short (e ∙ ap (λ x. x ++ tail) s.is
    ∙ append_assoc (header_of s.lines) body tail)
decided_hopeless max_body bytes k fault at more raw body tail s e =
    judged_hopeless max_body bytes more (body ++ tail) k (length body) fault s.lines at s.each s.good
    (e ∙ ap (λ x. x ++ tail) s.is ∙ append_assoc (header_of s.lines) body tail)

-- The body of a raw is the rest behind a good header.
pub record SameBody (max_body : ℕ) (body framed tail : List ℕ) (wanted : ℕ) : Type 0 where
  pub is : body ≡ framed ++ tail
  pub len : wanted ≡ length framed

pub same_body : (max_body : ℕ) (lines : List Line) (buffered body raw framed tail : List ℕ) (wanted : ℕ)
    → AreLines lines → buffered ≡ header_of lines ++ body → judge_header max_body lines ≡ Ok wanted
    → IsFrameOf max_body raw framed → buffered ≡ raw ++ tail → SameBody max_body body framed tail wanted
same_body max_body lines buffered body raw framed tail wanted each is good s e =
    grind (arith, common_steps, append_assoc, same_header)

pub no_frame_in_header : (max_body : ℕ) (buffered raw body more : List ℕ) → BeginsHeader buffered
    → IsFrameOf max_body raw body → buffered ≡ raw ++ more → ⊥
no_frame_in_header max_body buffered raw body more begins s e =
    begins_none s.lines (body ++ more) s.each
    (subst BeginsHeader (e ∙ ap (λ x. x ++ more) s.is ∙ append_assoc (header_of s.lines) body more) begins)

-- No more than one frame is held.
pub part_one : (max_body : ℕ) (buffered : List ℕ) → IsPart max_body buffered → HoldsOne max_body buffered
part_one max_body buffered (inl part) raw body more s e =
    absurd (no_frame_in_header max_body buffered raw body more part.begins s e)
part_one max_body buffered (inr part) raw body more s e =
    let same = same_body max_body part.lines buffered part.body raw body more part.wanted part.each part.is part.good s
    e in
    nil_from_length more (omega (arith, ap length same.is, length-append body more, same.len, part.within))

pub stage_part : (max_body : ℕ) (buffered : List ℕ) (s : Stage) → IsAtStage max_body buffered s → has_failed s ≡ false
    → IsPart max_body buffered
stage_part max_body buffered (stage.Header header) at sound =
    inl (record { begins = so_far_begins max_body buffered header at.so_far at.line_open; short = at.short })
stage_part max_body buffered (stage.Body start stop_at) at sound = grind (arith, common_steps, inr, length-append)
stage_part max_body buffered stage.Failed at sound = cc

-- Where a whole frame is held, its body is all there.
pub frame_len : (max_body : ℕ) (buffered : List ℕ) (start stop_at : ℕ) → IsInBody max_body buffered start stop_at
    → IsFrame max_body buffered → length buffered ≡ stop_at
frame_len max_body buffered start stop_at at frame =
    let same = same_body max_body at.lines buffered at.body buffered frame.body [] at.wanted at.each at.is at.good
    frame.is_frame_of (sym (append-nil buffered)) in
    omega (
      arith,
      ap length same.is,
      length-append frame.body [],
      same.len,
      ap length at.is,
      length-append (header_of at.lines) at.body,
      at.starts,
      at.ends,
    )

pub no_frame_at_header : {A : Type 0} (max_body : ℕ) (buffered : List ℕ) → BeginsHeader buffered
    → IsFrame max_body buffered → A
no_frame_at_header max_body buffered begins frame =
    absurd (no_frame_in_header max_body buffered buffered frame.body [] begins frame.is_frame_of
    (sym (append-nil buffered)))

pub not_failed : (s : Stage) → (s ≡ stage.Failed → ⊥) → has_failed s ≡ false
not_failed stage.Failed sound = absurd (sound refl)
not_failed _ sound = refl

-- A fault of a header is not the one that comes after it.
pub never_failed : (kind : HeaderFault) (place : ℕ) → header_fault_at kind place ≡ Failed → ⊥
never_failed header.BadHeader place e = cc
never_failed _ place e = cc

pub same_framing : (place : ℕ) (buffered other : List ℕ) (failed other_failed : Bool) (limits : LimitsData) → buffered
    ≡ other → failed ≡ other_failed → (let f : FramerData = record {
      place = place;
      buffered = buffered;
      failed = failed;
      limits = limits;
    } in f) ≡ (let f : FramerData = record {
      place = place;
      buffered = other;
      failed = other_failed;
      limits = limits;
    } in f)
same_framing place buffered other failed other_failed limits e f = grind (arith, common_steps)

-- A fault of the stream, from what the framer held.
pub stream_fault : (old : FramerData) (piece : List ℕ) (new : FramerData) (kind : HeaderFault) (k place : ℕ)
    (fault : FrameFault) → old.failed ≡ false → IsDecidedAt old.limits.max_body (old.buffered ++ piece) k kind
    → place ≡ place_after old.place k → fault ≡ header_fault_at kind place → new ≡ record old { failed = true }
    → IsStreamFault old new piece fault
stream_fault old piece new kind k place fault sound decided placed is after =
    record {
      sound = sound;
      decided = record { kind = kind; k = k; decided = decided; is = is ∙ ap (header_fault_at kind) placed };
      hopeless = decided_hopeless old.limits.max_body (old.buffered ++ piece) k kind decided;
      after = after;
    }

pub feed_fault : (old : FramerData) (piece : List ℕ) (new : FramerData) (kind : HeaderFault) (place : ℕ)
    (fault : FrameFault) → fault ≡ header_fault_at kind place → IsStreamFault old new piece fault
    → IsFeedFault old new piece fault
feed_fault old piece new header.BadHeader place fault e at =
    subst (IsFeedFault old new piece) (sym e) (subst (IsStreamFault old new piece) e at)
feed_fault old piece new _ place fault e at =
    subst (IsFeedFault old new piece) (sym e) (subst (IsStreamFault old new piece) e at)

-- The same from the fields.
pub feed_fault_at : (now : FramerData) (place max_body : ℕ) (buffered other piece : List ℕ) (was : Bool)
    (limits : LimitsData) (why : Stop) (kind : HeaderFault) (k error : ℕ) (fault : FrameFault)
    → (let f : FramerData = record { place = place; buffered = buffered; failed = was; limits = limits } in f) ≡ now
    → was ≡ false → max_body ≡ limits.max_body → IsHeaderStop max_body (buffered ++ piece) why → why ≡ stop.Fault kind k
    → error ≡ place_after place k → fault ≡ header_fault_at kind error → other ≡ buffered
    → IsFeedFault now (record { place = place; buffered = other; failed = true; limits = limits }) piece fault
feed_fault_at now place max_body buffered other piece was limits why kind k error fault is sound limit stops why_is
    told_is fault_is same =
    grind (arith, common_steps, same_framing, stream_fault, feed_fault)

-- Why a piece was not taken, as the stream tells it.
pub feed_stop : (now : FramerData) (place max_body : ℕ) (buffered other piece : List ℕ) (was next : Stage)
    (limits : LimitsData) (why : Stop) (error : FrameFault)
    → (let f : FramerData = record { place = place; buffered = buffered; failed = has_failed was; limits = limits } in
    f) ≡ now → has_failed was ≡ false → max_body ≡ limits.max_body → IsHeaderStop max_body (buffered ++ piece) why
    → error ≡ stopped_at place why → other ≡ buffered → next ≡ stage_after was why
    → IsFeedFault now (record { place = place; buffered = other; failed = has_failed next; limits = limits }) piece
    error × (error ≡ Failed → ⊥)
feed_stop now place max_body buffered other piece was next limits (stop.Fault kind k) error is sound limit stops told_is
    same after =
    let at = feed_fault_at now place max_body buffered other piece (has_failed was) limits (stop.Fault kind k) kind k
    (place_after place k) error is sound limit stops refl refl told_is same in
    (rw after at, λ e. never_failed kind (place_after place k) (sym told_is ∙ e))
feed_stop now place max_body buffered other piece was next limits stop.NoMemory error is sound limit stops told_is same
    after =
    grind (arith, common_steps)

-- A framer that hasn't failed holds a part of a frame, or one.
pub framing_part : (now : FramerData) (place : ℕ) (buffered : List ℕ) (s : Stage) (limits : LimitsData)
    → (let f : FramerData = record { place = place; buffered = buffered; failed = has_failed s; limits = limits } in f)
    ≡ now → IsAtStage limits.max_body buffered s → now.failed ≡ false → IsPart now.limits.max_body now.buffered
framing_part now place buffered s limits is at =
    subst (λ (f : FramerData). f.failed ≡ false → IsPart f.limits.max_body f.buffered) is
    (stage_part limits.max_body buffered s at)

-- A framer that holds no whole frame.
abbrev pub HasNone : FramerData → Type 0
HasNone now = now.failed ≡ false → IsFrame now.limits.max_body now.buffered → ⊥

pub unfinished : (now : FramerData) (place : ℕ) (buffered : List ℕ) (s : Stage) (limits : LimitsData)
    (start stop_at : ℕ) → (let f : FramerData = record {
      place = place;
      buffered = buffered;
      failed = has_failed s;
      limits = limits;
    } in f) ≡ now → IsAtStage limits.max_body buffered s → s ≡ stage.Body start stop_at
    → (length buffered ≡ stop_at → ⊥) → HasNone now
unfinished now place buffered s limits start stop_at is at body less =
    let in_body : IsInBody limits.max_body buffered start stop_at =
    subst (IsAtStage limits.max_body buffered) body at in
    subst HasNone is (λ sound frame. less (frame_len limits.max_body buffered start stop_at in_body frame))

pub none_at : (max_body : ℕ) (buffered : List ℕ) (s : Stage) → IsAtStage max_body buffered s
    → ((start stop_at : ℕ) → s ≡ stage.Body start stop_at → ⊥) → has_failed s ≡ false → IsFrame max_body buffered → ⊥
none_at max_body buffered (stage.Header header) at none sound frame =
    no_frame_at_header max_body buffered (so_far_begins max_body buffered header at.so_far at.line_open) frame
none_at max_body buffered (stage.Body start stop_at) at none sound frame = none start stop_at refl
none_at max_body buffered stage.Failed at none sound frame = cc

pub no_body : (now : FramerData) (place : ℕ) (buffered : List ℕ) (s : Stage) (limits : LimitsData)
    → (let f : FramerData = record { place = place; buffered = buffered; failed = has_failed s; limits = limits } in f)
    ≡ now → IsAtStage limits.max_body buffered s → ((start stop_at : ℕ) → s ≡ stage.Body start stop_at → ⊥)
    → HasNone now
no_body now place buffered s limits is at none = subst HasNone is (none_at limits.max_body buffered s at none)

pub frame_of : (max_body : ℕ) (buffered body : List ℕ) → IsFrameOf max_body buffered body → IsFrame max_body buffered
frame_of max_body buffered body s = record { body = body; is_frame_of = s }
