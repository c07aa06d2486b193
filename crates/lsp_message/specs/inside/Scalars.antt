-- What is kept of a value: a text, a whole number or null, and nothing of others.
use Rattle.lsp_message.specs.Prelude.{false, Data, null, boolean, number, array, object, Num, unsigned, negative, float, Scalar}
use Rattle.serde_json.specs.Data.{string}
use Rattle.lsp_message.specs.declared.reader.number.Number.{Number}
use Rattle.lsp_message.specs.declared.reader.number.Number.TheVariants as num
use Rattle.lsp_message.specs.declared.reader.scalar.Scalar.TheVariants as scalar

-- What is kept of a number. A number that isn't whole, or doesn't fit into 64 bits, is kept as a
-- value of no interest.
abbrev pub kept_number : Num → Data
kept_number (unsigned n) = number (unsigned n)
kept_number (negative z) = number (negative z)
kept_number (float x) = boolean false

-- What is kept of a value.
abbrev pub kept : Data → Data
kept null = null
kept (boolean b) = boolean false
kept (number n) = kept_number n
kept (string s) = string s
kept (array ds) = boolean false
kept (object ms) = boolean false

-- A `Number` of the code.
abbrev pub number_data : Number → Data
number_data (num.Natural n) = number (unsigned n)
number_data (num.Negative z) = number (negative z)
number_data num.Float = boolean false

-- A `Scalar` of the code.
abbrev pub scalar_data : Scalar → Data
scalar_data scalar.Null = null
scalar_data (scalar.Text s) = string s.now
scalar_data (scalar.Number n) = number_data n
scalar_data scalar.Other = boolean false
