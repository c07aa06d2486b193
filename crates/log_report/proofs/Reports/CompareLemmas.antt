-- What `compare` has learned after a record, by what was read of it.
use Rattle.log_report.proofs.Prelude.{◌≡◌, ◌≤◌, ℕ, List, [], ◌∷◌, ◌++◌, Option, Some, None, length, map, refl, sym, ap, arith, get_or, ◌∙◌, append-nil, if_left, left_by, Change, content_change_from_data, content_change_view, splices_from}
use Rattle.lsp_message.specs.Params.{ContentChangeData}
use Rattle.log_report.specs.Compare.{listed, splice_of}
use Rattle.log_report.proofs.Prelude.{reading, incoming_of, learned, uri_of}
use Rattle.log_report.specs.Compare.{closed_text, if_ends_so, splices_in}
use Rattle.log_report.specs.Prelude.{ComparisonData, IncomingData}
use Rattle.line_diff.specs.declared.owners.Splice.{Splice}
use Rattle.log_session.specs.Session.{Session, Verdict}
use Rattle.log_session.specs.inside.Bodies.{BodyData, body_read, on_client}
use Rattle.lsp_log.specs.declared.record.Sender.{Sender}
use Rattle.lsp_log.specs.declared.record.Sender.TheVariants.{Client, Server}
use Rattle.lsp_log.specs.declared.record.Version.{Version}

-- ---- which parts changes replace

-- How far the parts were found: those of the rest lead to all.
pub record Splicing (units : ℕ → ℕ) (all : List Splice) (rest : List Change) (left : List ℕ)
    (splices : List Splice) : Type 0 where
  pub found : splices ++ splices_from units left (map content_change_view rest) ≡ all
  pub size : length left ≤ 1073741824

none_left : (left : Option (List ℕ)) → if_left {A = Splice} (λ next. []) left ≡ []
none_left None = refl
none_left (Some text) = refl

-- one change replaces one part, whatever it leaves
pub one_splice : (units : ℕ → ℕ) (text : List ℕ) (change : ContentChangeData)
    → splices_from units text (change ∷ []) ≡ listed (splice_of units text change)
one_splice units text change =
    ap (λ (splices : List Splice). listed (splice_of units text change) ++ splices)
    (none_left (left_by units text (content_change_from_data change)))
    ∙ append-nil (listed (splice_of units text change))

pub one_spliced : (units : ℕ → ℕ) (text : List ℕ) (changes : List Change) (change : Change) → length changes ≡ 1
    → change ≡ get_or changes 0 change
    → splices_from units text (map content_change_view changes)
    ≡ listed (splice_of units text (content_change_view change))
one_spliced units text (first ∷ []) change one is =
    one_splice units text (content_change_view first)
    ∙ ap (λ (c : Change). listed (splice_of units text (content_change_view c))) (sym is)
one_spliced units text _ change one is = absurd (omega (arith, one))

-- ---- what is learned, by what was read of a record's body

module _ (s t : Session) (c : ComparisonData) (verdict : Verdict) (version : Version) (body : List ℕ) where
  abbrev pub learned_at : BodyData → ComparisonData
  learned_at read =
      learned (on_client None (closed_text c.document s.server) read)
      (on_client None (splices_in c.ending s.server) read)
      (on_client None (λ m. if_ends_so c.ending (uri_of Client m)) read) verdict t c

  abbrev pub asked : IncomingData
  asked = incoming_of (reading body)

  pub learned_read : (side : Sender) → learned_at (body_read version side body)
      ≡ learned (closed_text c.document s.server asked) (splices_in c.ending s.server asked)
      (if_ends_so c.ending (uri_of side asked)) verdict t c
  learned_read Client = refl
  learned_read Server = refl
