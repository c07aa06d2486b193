use Rattle.lsp_frame.proofs.WordLemmas.{parameter_without, parameter_other, parameter_charset}
use Rattle.lsp_frame.proofs.framer.words.is_good_parameter.Goals as goal

pub returns-in_default : goal.returns-in_default
returns-in_default c = parameter_without c.args.part.now c.trim-part.result.now c.trim-part.ensures c.in_default.ensures

pub returns-then-not-is_text : goal.returns-then-not-is_text
returns-then-not-is_text c =
    parameter_other c.args.part.now c.trim-part.result.now c.trim.result.now c.in-Some.at c.is_text.result
    c.trim-part.ensures c.in-Some.ensures c.trim.ensures c.is_text.ensures c.if-not-is_text.true

pub returns-else-not-is_text : goal.returns-else-not-is_text
returns-else-not-is_text c =
    parameter_charset c.args.part.now c.trim-part.result.now c.trim.result.now c.trim-else-not-is_text.result.now
    c.unquote.result.now c.in-Some.at c.is_text.result c.is_utf8_name.result c.trim-part.ensures c.in-Some.ensures
    c.trim.ensures c.is_text.ensures c.if-not-is_text.false c.trim-else-not-is_text.ensures c.unquote.ensures
    c.is_utf8_name.ensures
