-- The fields of pieces that two series of changes make together.
use Rattle.lsp_edit.proofs.Prelude.{ap, AreKept, ArePieces, IsUtf8-from_is_utf8, List, Part, PlainData, Span, arith, both_counts, chars, common_steps, edited_text, encode_utf8_all, items_of, length, length-map, part_of, parts_of, plain, sym, text_of, then_items, through_parts, ℕ, ◌<◌, ◌∙◌, ◌≡◌, ap₂}
use Rattle.lsp_edit.proofs.Batches.ComposeLemmas.{text_of-then, then-plain}
use Rattle.lsp_edit.proofs.Parts.CutPartsLemmas.{parts_bytes}
use Rattle.lsp_edit.proofs.Composing.AppliedLemmas.{seen}
use Rattle.lsp_edit.proofs.Parts.MergedLemmas.{through_apart}
use Rattle.lsp_edit.proofs.Parts.PassedLemmas.{through_few}
use Rattle.lsp_edit.proofs.Parts.ThroughLemmas.{AreComposed, composed}

pub pieces_kept : {before : List ℕ} {parts : List Part} {len changes : ℕ} → ArePieces before parts len changes
    → AreKept before parts
pieces_kept {before} are = record { utf8 = IsUtf8-from_is_utf8 before are.utf8; are = are.are; keeps = are.keeps }

-- Pieces over the text that other pieces left.
module _ {before mid : List ℕ} {parts more : List Part} {len changes more_len more_changes : ℕ}
    {first second : PlainData} (are : ArePieces before parts len changes)
    (were : ArePieces mid more more_len more_changes) (view : seen before parts changes ≡ first)
    (other : seen mid more more_changes ≡ second) (is_over : second.before ≡ edited_text first) where
  over : chars mid ≡ text_of (chars before) (items_of (chars before) parts)
  over = ap (λ (e : PlainData). e.before) other ∙ (is_over ∙ sym (ap edited_text view))

  pub both : AreComposed before mid parts more
  both = composed (pieces_kept are) (pieces_kept were) over

  module _ (spans : List Span) (is : parts_of spans ≡ through_parts parts more)
      (small : length spans < 18446744073709551616) (count : ℕ) (counted : count ≡ both_counts changes more_changes)
    where
      pub then_holds : ArePieces before (parts_of spans) more_len count
      then_holds =
          let text =
          ap (text_of (chars before)) both.items
          ∙ (text_of-then (chars before) (items_of (chars before) parts) (items_of (chars mid) more)
          ∙ ap (λ (t : List ℕ). text_of t (items_of (chars mid) more)) (sym over)) in
          let fits : length (through_parts parts more) < 18446744073709551616 =
          omega (arith, small, ap length is, length-map spans part_of) in
          rw is (record {
            utf8 = are.utf8;
            are = both.kept.are;
            apart = through_apart parts more are.apart;
            keeps = both.kept.keeps;
            long = were.long
                ∙ ap length (parts_bytes mid (pieces_kept were).utf8 more were.are
                ∙ (ap encode_utf8_all (sym text)
                ∙ sym (parts_bytes before both.kept.utf8 (through_parts parts more) both.kept.are)));
            room = were.room;
            few = grind (arith, common_steps, through_few, both.order, both.through, fits);
            fresh = λ e. both.items ∙ (ap (then_items (items_of (chars before) parts))
                (were.fresh (omega (arith, counted)) ∙ ap plain over)
                ∙ (then-plain (chars before) (items_of (chars before) parts) ∙ are.fresh (omega (arith, counted))));
          })

      pub then_told : seen before (parts_of spans) count ≡ record {
        before = first.before;
        items = then_items first.items second.items;
        changes = both_counts first.changes second.changes;
      }
      then_told = λ i. record {
        before = (view i).before;
        items = (ap (items_of (chars before)) is
            ∙ (both.items ∙ ap₂ (λ (x y : PlainData). then_items x.items y.items) view other)) i;
        changes = (counted ∙ ap₂ (λ (x y : PlainData). both_counts x.changes y.changes) view other) i;
      }
