-- Bodies, computed on the definitions.
use Rattle.lsp_message.proofs.Prelude.{refl}
use Rattle.std.proofs.Math.Utf8.{encode}
use Rattle.std.specs.Str.{is_utf8, chars}
use Rattle.std.specs.Float.Numeral.{scan_numeral}
use Rattle.json.specs.Json.{value}
use Rattle.json.specs.Lex.{punctuate, lex}
use Rattle.json.specs.Print.{escape_byte}
use Rattle.std.specs.Fmt.{digits}
use Rattle.json.specs.Text.{content}
use Rattle.json.specs.Word.{word, after_number}
use Rattle.serde_json.specs.Read.{number_of}
use Rattle.lsp_message.specs.laws.Examples.{HoldsOnExamples}

pub holds_on_examples : HoldsOnExamples
unfolding is_utf8 chars encode value punctuate lex content word after_number number_of scan_numeral escape_byte digits
holds_on_examples = record {
  an_id_alone = refl;
  a_result_alone = refl;
  a_method_of_no_text = refl;
  a_null_error = refl;
  an_error_and_a_result = refl;
  an_error_without_id = refl;
  the_greatest_id = refl;
  an_id_above = refl;
  a_cut_body = refl;
  the_greatest_version = refl;
  a_version_above = refl;
  the_greatest_character = refl;
  a_character_above = refl;
  a_line_below = refl;
  a_null_range = refl;
  a_range_length = refl;
  a_written_change = refl;
}
