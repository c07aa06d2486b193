-- Small texts, computed on the definitions.
use Rattle.lsp_text.proofs.Prelude.{zero, suc, refl, arith, IsPlace}
use Rattle.std.proofs.Math.Utf8.{encode}
use Rattle.lsp_text.specs.laws.Examples.{HoldsOnExamples, two_lines, smile}

no_place_in_two : IsPlace two_lines 2 → ⊥
unfolding encode
no_place_in_two (suc (suc (suc (suc (suc k)))), within, whole, at) = absurd (omega arith)
no_place_in_two at = cc

no_place_in_smile : IsPlace smile 2 → ⊥
unfolding encode
no_place_in_smile (suc (suc k), within, whole, at) = absurd (omega arith)
no_place_in_smile at = cc

pub holds_on_examples : HoldsOnExamples
unfolding encode
holds_on_examples = record {
  three_starts = refl;
  two_starts = refl;
  three_middle = refl;
  three_middle_end = refl;
  three_last = refl;
  two_past = refl;
  two_second = refl;
  two_inside = refl;
  two_place = (3, omega arith, refl, refl);
  two_no_place = no_place_in_two;
  return_starts = refl;
  return_second = refl;
  return_last = refl;
  return_place = (2, omega arith, refl, refl);
  smile_place = refl;
  smile_after = (1, omega arith, refl, refl);
  smile_inside = no_place_in_smile;
  smile_utf8_one = refl;
  smile_utf8_two = refl;
  smile_utf8_three = refl;
  smile_utf16_one = refl;
  smile_utf8_after = refl;
  smile_utf16_after = refl;
  smile_utf32_after = refl;
  smile_utf8_past = refl;
  smile_utf16_past = refl;
  smile_utf32_past = refl;
  smile_utf8_exact = refl;
  smile_utf16_exact = refl;
  smile_utf32_exact = refl;
  feed_second = refl;
  feed_past = refl;
}
