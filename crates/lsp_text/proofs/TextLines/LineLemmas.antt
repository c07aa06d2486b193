-- Lines: what an index's line is, where its content begins and ends, and which indexes split no CRLF.
use Rattle.lsp_text.proofs.Prelude.{ℕ, zero, suc, ◌≡◌, ◌≤◌, true, false, not, List, length, ◌==◌, ⊎_elim, refl, arith, eqb-true, eq-eqb, cases_Bool, cases_eq, and_parts, and_from, and_right, or_cases, not-true, not_from_false, get_or_past, starts_line, splits_crlf, line_at, line_ends, is_in_content, line_start, line_stop, common_steps}
use Rattle.lsp_text.proofs.TextLines.RowLemmas.{IsFirst, IsLast, first_passes, last_passes}

-- One index on, the line is the same or the next.
pub line_step : (text : List ℕ) (k : ℕ) → (line_at text k ≤ line_at text (suc k))
    × (line_at text (suc k) ≤ suc (line_at text k))
line_step text k = grind (arith, common_steps, cases_Bool)

pub line_rises : (text : List ℕ) (j k : ℕ) → j ≤ k → line_at text j ≤ line_at text k
line_rises text j zero order = let e : j ≡ 0 = omega arith in rw e (omega arith)
line_rises text j (suc k) order =
    ⊎_elim
    (λ (e : j ≡ suc k). rw e (omega arith))
    (λ (e : j ≡ suc k → ⊥). further (line_rises text j k (omega arith)))
    (cases_eq j (suc k))
  where
    further : line_at text j ≤ line_at text k → line_at text j ≤ line_at text (suc k)
    further ih = let s : line_at text k ≤ line_at text (suc k) = (line_step text k).0 in omega arith

-- No index behind the text splits, nor does the end of the text.
pub splits_none_past : (text : List ℕ) (k : ℕ) → length text ≤ k → splits_crlf text k ≡ false
splits_none_past text zero past = refl
splits_none_past text (suc k) past = grind (arith, common_steps, get_or_past, and_right)

-- An index that ends a line splits no CRLF.
pub line_end_whole : (text : List ℕ) (k : ℕ) → starts_line text k ≡ true → splits_crlf text k ≡ false
line_end_whole text zero ends = refl
line_end_whole text (suc k) ends = grind (arith, common_steps, eqb-true, and_right, not-true, and_parts, or_cases)

-- An index that splits no CRLF is in the content of its line, and whatever is in a content is so.
pub in_content : (text : List ℕ) (line k : ℕ) → line_at text k ≡ line → splits_crlf text k ≡ false
    → is_in_content text line k ≡ true
in_content text line k here whole = grind (arith, common_steps, and_from, eq-eqb, not_from_false)

pub in_content_line : (text : List ℕ) (line k : ℕ) → is_in_content text line k ≡ true → line_at text k ≡ line
in_content_line text line k h =
    eqb-true (line_at text k) line (and_parts (line_at text k == line) (not (splits_crlf text k)) h).0

pub in_content_whole : (text : List ℕ) (line k : ℕ) → is_in_content text line k ≡ true → splits_crlf text k ≡ false
in_content_whole text line k h =
    not-true (splits_crlf text k) (and_parts (line_at text k == line) (not (splits_crlf text k)) h).1

-- A line that an index in the text reaches begins in the text, at the first index of its content.
abbrev pub IsStart : List ℕ → ℕ → ℕ → Type 0
IsStart text line k = IsFirst (is_in_content text line) 0 (suc (length text)) k

abbrev pub IsStop : List ℕ → ℕ → ℕ → Type 0
IsStop text line k = IsLast (is_in_content text line) 0 (suc (length text)) k

pub start_in_content : (text : List ℕ) (line k : ℕ) → k ≤ length text → is_in_content text line k ≡ true
    → IsStart text line (line_start text line)
start_in_content text line k within h = first_passes (is_in_content text line) 0 0 (suc (length text)) k (omega arith)
    (omega arith) h

pub stop_in_content : (text : List ℕ) (line k : ℕ) → k ≤ length text → is_in_content text line k ≡ true
    → IsStop text line (line_stop text line)
stop_in_content text line k within h = last_passes (is_in_content text line) 0 0 (suc (length text)) k (omega arith)
    (omega arith) h

-- Each line up to that of index k has an index in its content, up to k.
pub record IsReached (text : List ℕ) (line k : ℕ) : Type 0 where
  pub index : ℕ
  pub order : index ≤ k
  pub content : is_in_content text line index ≡ true

pub reached : (text : List ℕ) (line k : ℕ) → line ≤ line_at text k → IsReached text line k
reached text line zero up_to = grind (arith, common_steps, in_content)
reached text line (suc k) up_to = at_next (reached text line k)
  where
    further : IsReached text line k → IsReached text line (suc k)
    further r = record { index = r.index; order = omega (arith, r.order); content = r.content }

    at_next : (line ≤ line_at text k → IsReached text line k) → IsReached text line (suc k)
    at_next before =
        ⊎_elim
        (λ (e : starts_line text (suc k) ≡ true).
        ⊎_elim
        (λ (o : line ≡ line_at text (suc k)).
        record {
          index = suc k;
          order = omega arith;
          content = in_content text line (suc k) (cc) (line_end_whole text (suc k) e);
        })
        (λ (o : line ≡ line_at text (suc k) → ⊥).
        let s : line_at text (suc k) ≤ suc (line_at text k) = (line_step text k).1 in further (before (omega arith)))
        (cases_eq line (line_at text (suc k))))
        (λ (e : starts_line text (suc k) ≡ false).
        let s : line ≤ line_at text k = rw e at up_to in further (before s))
        (cases_Bool (starts_line text (suc k)))

pub line_has_start : (text : List ℕ) (line : ℕ) → line ≤ line_ends text → IsStart text line (line_start text line)
line_has_start text line h = let r : IsReached text line (length text) = reached text line (length text) h in
    start_in_content text line r.index r.order r.content

pub line_has_stop : (text : List ℕ) (line : ℕ) → line ≤ line_ends text → IsStop text line (line_stop text line)
line_has_stop text line h = let r : IsReached text line (length text) = reached text line (length text) h in
    stop_in_content text line r.index r.order r.content
