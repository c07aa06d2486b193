-- An input is taken apart in one way.
use Rattle.lsp_log.proofs.Prelude.{◌≡◌, ◌≢◌, ℕ, ◌+◌, Bool, false, List, [], ◌∷◌, ◌++◌, length, refl, sym, ap, ◌∙◌, subst, arith, append_assoc, append-nil, append_cancel_left, IsFrameOf, FrontLaw, SameFrame, Version, One, Two, Sender, Client, Server, Record, IsRecord, AreRecords, HasNoRecord, together, record_bytes, mark_of, line_of, is_line_due, UniqueLaw, FirstLaw, VersionLaw, common_steps}

pub same_version : VersionLaw
same_version versions One Two input is also = absurd (is also.0 also.1.0 also.1.1)
same_version versions Two One input is also = absurd (also is.0 is.1.0 is.1.1)
same_version versions _ _ input is also = refl

pub first_byte : (x y : ℕ) (xs ys : List ℕ) → x ∷ xs ≡ y ∷ ys → x ≡ y
first_byte x y xs ys e = cc

-- Two marks are one where the same stands behind them.
same_mark : (version : Version) (side other : Sender) (a b : List ℕ) → (version ≡ One → side ≡ Client)
    → (version ≡ One → other ≡ Client) → mark_of version side ++ a ≡ mark_of version other ++ b
    → (side ≡ other) × (a ≡ b)
same_mark One side other a b one also e = (one refl ∙ sym (also refl), e)
same_mark Two Client Client a b one also e = (refl, append_cancel_left (62 ∷ []) a b e)
same_mark Two Server Server a b one also e = (refl, append_cancel_left (60 ∷ []) a b e)
same_mark Two Client Server a b one also e = let byte = first_byte 62 60 a b e in absurd (omega arith)
same_mark Two Server Client a b one also e = let byte = first_byte 60 62 a b e in absurd (omega arith)

same_head : (max_body : ℕ) (version : Version) (place : ℕ) (due : Bool) (r q : Record) → r.head.side ≡ q.head.side
    → IsRecord max_body version place due r → IsRecord max_body version place due q → r.head ≡ q.head
same_head max_body version place due r q side is also = grind (arith, common_steps)

record IsSame (r q : Record) (rest other : List ℕ) : Type 0 where
  record_is : r ≡ q
  rest_is : rest ≡ other

same_record : FrontLaw → (max_body : ℕ) (version : Version) (place : ℕ) (due : Bool) (r q : Record)
    (rest other : List ℕ) → IsRecord max_body version place due r → IsRecord max_body version place due q
    → record_bytes version r ++ rest ≡ record_bytes version q ++ other → IsSame r q rest other
same_record front max_body version place due r q rest other is also e =
    let apart : mark_of version r.head.side ++ (r.raw ++ rest) ≡ mark_of version q.head.side ++ (q.raw ++ other) =
    sym (append_assoc (mark_of version r.head.side) r.raw rest) ∙ e ∙ append_assoc (mark_of version q.head.side) q.raw
    other in
    let marks = same_mark version r.head.side q.head.side (r.raw ++ rest) (q.raw ++ other) is.side also.side apart in
    let frames : SameFrame r.raw q.raw r.body q.body rest other =
    front max_body r.raw q.raw r.body q.body rest other is.is_frame_of also.is_frame_of marks.1 in
    let heads : r.head ≡ q.head = same_head max_body version place due r q marks.0 is also in
    record {
      record_is = λ i. record { head = heads i; raw = frames.same_bytes i; body = frames.body_is i };
      rest_is = frames.rest_is;
    }

-- No record begins a rest.
abbrev pub IsEnd : ℕ → Version → List ℕ → Type 0
IsEnd max_body version rest = (side : Sender) (raw body more : List ℕ) → IsFrameOf max_body raw body
    → rest ≢ mark_of version side ++ (raw ++ more)

-- The records of an input are the first of all its records.
pub record AreFirst (version : Version) (rs all : List Record) (rest end : List ℕ) : Type 0 where
  pub more : List Record
  pub all_are : all ≡ rs ++ more
  pub rest_is : rest ≡ together version more end

pub first_records : FrontLaw → (max_body : ℕ) (version : Version) (place : ℕ) (due : Bool) (rs all : List Record)
    (rest end : List ℕ) → AreRecords max_body version place due rs → AreRecords max_body version place due all
    → together version rs rest ≡ together version all end → IsEnd max_body version end
    → AreFirst version rs all rest end
first_records front max_body version place due [] all rest end each also e ends =
    record { more = all; all_are = refl; rest_is = e }
first_records front max_body version place due (r ∷ rs) [] rest end each also e ends =
    absurd (ends r.head.side r.raw r.body (together version rs rest) each.0.is_frame_of
    (sym e ∙ append_assoc (mark_of version r.head.side) r.raw (together version rs rest)))
first_records front max_body version place due (r ∷ rs) (q ∷ all) rest end each also e ends =
    let same = same_record front max_body version place due r q (together version rs rest) (together version all end)
    each.0 also.0 e in
    let later : AreRecords max_body version (place + length (record_bytes version r)) false all =
    subst (λ (x : Record). AreRecords max_body version (place + length (record_bytes version x)) false all)
    (sym same.record_is) also.1 in
    let more = first_records front max_body version (place + length (record_bytes version r)) false rs all rest end
    each.1 later same.rest_is ends in
    record {
      more = more.more;
      all_are = ap (λ x. x ∷ all) (sym same.record_is) ∙ ap (λ l. r ∷ l) more.all_are;
      rest_is = more.rest_is;
    }

-- With no record behind them they are all.
none_after : (max_body : ℕ) (version : Version) (place : ℕ) (due : Bool) (rs more : List Record) (rest end : List ℕ)
    → AreRecords max_body version place due (rs ++ more) → rest ≡ together version more end
    → IsEnd max_body version rest → more ≡ []
none_after max_body version place due [] [] rest end each is ends = refl
none_after max_body version place due [] (r ∷ more) rest end each is ends =
    absurd (ends r.head.side r.raw r.body (together version more end) each.0.is_frame_of
    (is ∙ append_assoc (mark_of version r.head.side) r.raw (together version more end)))
none_after max_body version place due (r ∷ rs) more rest end each is ends =
    none_after max_body version (place + length (record_bytes version r)) false rs more rest end each.1 is ends

pub first_of : FrontLaw → FirstLaw
first_of front log_rules input log all reads also ends = record { more = f.more; all_are = f.all_are; same = same }
  where
    version : log.version ≡ all.version
    version = same_version log_rules.versions log.version all.version input reads.version also.version

    each : AreRecords log_rules.max_body log.version (length (line_of log.version)) (is_line_due log.version [])
        all.records
    each = subst (λ (v : Version). AreRecords log_rules.max_body v (length (line_of v)) (is_line_due v []) all.records)
        (sym version) also.each

    is : input ≡ line_of log.version ++ together log.version all.records all.rest
    is = also.is ∙ ap (λ (v : Version). line_of v ++ together v all.records all.rest) (sym version)

    end : IsEnd log_rules.max_body log.version all.rest
    end = subst (λ (v : Version). IsEnd log_rules.max_body v all.rest) (sym version) ends

    f : AreFirst log.version log.records all.records log.rest all.rest
    f =
        first_records front log_rules.max_body log.version (length (line_of log.version)) (is_line_due log.version [])
        log.records all.records log.rest all.rest reads.each each
        (append_cancel_left (line_of log.version) (together log.version log.records log.rest)
        (together log.version all.records all.rest) (sym reads.is ∙ is)) end

    same : HasNoRecord log_rules.max_body log → log ≡ all
    same none =
        let all_each : AreRecords log_rules.max_body log.version (length (line_of log.version))
        (is_line_due log.version []) (log.records ++ f.more) =
        subst (λ (rs : List Record). AreRecords log_rules.max_body log.version (length (line_of log.version))
        (is_line_due log.version []) rs) f.all_are each in
        let nothing : f.more ≡ [] = none_after log_rules.max_body log.version (length (line_of log.version))
        (is_line_due log.version []) log.records f.more log.rest all.rest all_each f.rest_is none in
        let records : log.records ≡ all.records =
        sym (f.all_are ∙ ap (λ (l : List Record). log.records ++ l) nothing ∙ append-nil log.records) in
        let rest : log.rest ≡ all.rest = f.rest_is ∙ ap (λ (l : List Record). together log.version l all.rest)
        nothing in
        λ i. record { version = version i; records = records i; rest = rest i }

pub unique_law : FrontLaw → UniqueLaw
unique_law front log_rules input log other reads ends also other_ends =
    (first_of front log_rules input log other reads also other_ends).same ends
