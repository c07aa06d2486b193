-- Each input has a list of all records that are whole in it.
use Rattle.lsp_log.proofs.Prelude.{◌≡◌, ◌≢◌, ℕ, zero, suc, ◌+◌, ◌≤◌, Bool, true, false, List, [], ◌∷◌, ◌++◌, length, drop, refl, sym, ◌∙◌, ap, append_assoc, arith, inl, inr, ◌⊎◌, nat_eq, starts_with, cases_Bool, cases_eq, length-append, IsFrameOf, HasNoFrame, DecisionLaw, place_after, Version, One, Two, Sender, Client, Server, LogRules, Record, AreRecords, IsVersion, together, record_bytes, mark_of, line_of, is_line_due, version_line, AllRecords, AllRecordsLaw, common_steps}
use Rattle.lsp_log.proofs.OpeningLemmas.{starts_front, starts_known}
use Rattle.lsp_log.proofs.UniqueLemmas.{IsEnd, same_version}

-- ---- the version

version_decided : (versions : Bool) (input : List ℕ) → (version : Version) × IsVersion versions version input
version_decided false input = (One, λ looks. absurd (let other : false ≡ true = looks in cc))
version_decided true input =
    elim (cases_Bool (starts_with nat_eq input version_line)) [
      | inl begins ↦ (
        Two,
        (refl, (drop 18 input, starts_front input version_line (starts_with nat_eq input version_line) refl begins)),
      )
      | inr other ↦ grind (arith, common_steps, starts_known)
    ]

-- ---- the next record

record NextRecord (max_body : ℕ) (version : Version) (bytes : List ℕ) : Type 0 where
  side : Sender
  frame : List ℕ
  body : List ℕ
  more : List ℕ
  is_frame : IsFrameOf max_body frame body
  is : bytes ≡ mark_of version side ++ (frame ++ more)
  client : version ≡ One → side ≡ Client

-- No record begins where the byte is no mark, or no frame follows it.
none_marked : (max_body b : ℕ) (rest : List ℕ) → ((b ≡ 62) ⊎ (b ≡ 60) → HasNoFrame max_body rest)
    → IsEnd max_body Two (b ∷ rest)
none_marked max_body b rest none Client frame body more s e = let mark : b ≡ 62 = cc in
    let same : rest ≡ frame ++ more = cc in none (inl mark) frame body more s same
none_marked max_body b rest none Server frame body more s e = let mark : b ≡ 60 = cc in
    let same : rest ≡ frame ++ more = cc in none (inr mark) frame body more s same

nothing_marked : (max_body : ℕ) → IsEnd max_body Two []
nothing_marked max_body Client frame body more s e = omega (arith, ap length e)
nothing_marked max_body Server frame body more s e = omega (arith, ap length e)

module _ (decision : DecisionLaw) where
  marked : (max_body b : ℕ) (rest : List ℕ) (side : Sender) → b ∷ [] ≡ mark_of Two side
      → NextRecord max_body Two (b ∷ rest) ⊎ IsEnd max_body Two (b ∷ rest)
  marked max_body b rest side e =
      elim (decision max_body rest) [
        | inl first ↦ inl (record {
          side = side;
          frame = first.frame;
          body = first.body;
          more = first.rest;
          is_frame = first.is_frame;
          is = ap (λ (x : List ℕ). x ++ rest) e ∙ ap (λ (x : List ℕ). mark_of Two side ++ x) first.is;
          client = λ other. cc;
        })
        | inr none ↦ inr (none_marked max_body b rest (λ _. none))
      ]

  next_record : (max_body : ℕ) (version : Version) (bytes : List ℕ) → NextRecord max_body version bytes
      ⊎ IsEnd max_body version bytes
  next_record max_body One bytes =
      elim (decision max_body bytes) [
        | inl first ↦ grind (arith, common_steps, inl)
        | inr none ↦ inr (λ side frame body more s e. none frame body more s e)
      ]
  next_record max_body Two [] = inr (nothing_marked max_body)
  next_record max_body Two (b ∷ rest) =
      elim (cases_eq b 62) [
        | inl client ↦ marked max_body b rest Client (ap (λ (c : ℕ). c ∷ []) client)
        | inr not_client ↦ elim (cases_eq b 60) [
          | inl server ↦ marked max_body b rest Server (ap (λ (c : ℕ). c ∷ []) server)
          | inr not_server ↦ inr (none_marked max_body b rest (unmarked b rest max_body not_client not_server))
        ]
      ]
    where
      unmarked : (c : ℕ) (others : List ℕ) (limit : ℕ) → c ≢ 62 → c ≢ 60 → (c ≡ 62) ⊎ (c ≡ 60) → HasNoFrame limit others
      unmarked c others limit not_client not_server (inl client) = absurd (not_client client)
      unmarked c others limit not_client not_server (inr server) = absurd (not_server server)

  -- ---- all records

  record AllFrom (max_body : ℕ) (version : Version) (place : ℕ) (due : Bool) (bytes : List ℕ) : Type 0 where
    records : List Record
    rest : List ℕ
    is : bytes ≡ together version records rest
    each : AreRecords max_body version place due records
    ends : IsEnd max_body version rest

  abbrev record_of : (max_body place : ℕ) (version : Version) (due : Bool) (bytes : List ℕ)
      → NextRecord max_body version bytes → Record
  record_of max_body place version due bytes next =
      record {
        head = record { side = next.side; version = version; place = place_after 0 place; line_due = due };
        raw = next.frame;
        body = next.body;
      }

  shorter : (max_body : ℕ) (version : Version) (bytes : List ℕ) (next : NextRecord max_body version bytes)
      → suc (length next.more) ≤ length bytes
  shorter max_body version bytes next = grind (arith, common_steps, length-append)

  with_first : (max_body place : ℕ) (version : Version) (due : Bool) (bytes : List ℕ)
      (next : NextRecord max_body version bytes) → AllFrom max_body version
      (place + length (record_bytes version (record_of max_body place version due bytes next))) false next.more
      → AllFrom max_body version place due bytes
  with_first max_body place version due bytes next others =
      record {
        records = record_of max_body place version due bytes next ∷ others.records;
        rest = others.rest;
        is = next.is ∙ sym (append_assoc (mark_of version next.side) next.frame next.more)
            ∙ ap (λ (x : List ℕ). (mark_of version next.side ++ next.frame) ++ x) others.is;
        each = grind (arith, common_steps);
        ends = others.ends;
      }

  all_within : (n max_body place : ℕ) (version : Version) (due : Bool) (bytes : List ℕ) → length bytes ≤ n
      → AllFrom max_body version place due bytes
  all_within zero max_body place version due bytes within = grind (arith, common_steps, next_record, inl, inr)
  all_within (suc n) max_body place version due bytes within =
      elim (next_record max_body version bytes) [
        | inl next ↦ with_first max_body place version due bytes next
            (all_within n max_body
            (place + length (record_bytes version (record_of max_body place version due bytes next))) version false
            next.more (omega (arith, within, shorter max_body version bytes next)))
        | inr ends ↦ record { records = []; rest = bytes; is = refl; each = tt; ends = ends }
      ]

  all_behind : (log_rules : LogRules) (input : List ℕ) (version : Version) → IsVersion log_rules.versions version input
      → (log_rules.refuses_two ≡ true → version ≡ One) → (rest : List ℕ)
      → input ≡ line_of version ++ rest → AllRecords log_rules input
  all_behind log_rules input version known accepted rest is =
      let all : AllFrom log_rules.max_body version (length (line_of version)) (is_line_due version []) rest
      = all_within (length rest) log_rules.max_body (length (line_of version)) version (is_line_due version []) rest
      (omega arith) in
      record {
        log = record { version = version; records = all.records; rest = all.rest };
        reads = grind (arith, common_steps);
        none = all.ends;
      }

  all_of_version : (log_rules : LogRules) (input : List ℕ) (version : Version) → IsVersion log_rules.versions version
      input → (log_rules.refuses_two ≡ true → version ≡ One) → AllRecords log_rules input
  all_of_version log_rules input One known accepted = all_behind log_rules input One known accepted input refl
  all_of_version log_rules input Two known accepted = all_behind log_rules input Two known accepted known.1.0 known.1.1

  pub all_records_law : AllRecordsLaw
  all_records_law log_rules input allowed =
      let found = version_decided log_rules.versions input in
      all_of_version log_rules input found.0 found.1 (λ refuses_two. same_version log_rules.versions found.0 One input
      found.1 (allowed refuses_two))
