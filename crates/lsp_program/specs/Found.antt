-- What `clap` found of options that both programs have.
use Rattle.std.specs.Prelude.{ℕ, ◌≡◌, ◌<◌, ◌^◌, Bool, true, false, List, Some, None, codes}
use Rattle.std.specs.Str.Parse.{IsNumeral, digits_value, without_leading_plus}
use Rattle.clap.specs.Matches.{found_of, one_text}
use Rattle.clap.specs.declared.parser.matches.ArgMatches.{ArgMatches}
use Rattle.lsp_frame.specs.Limits.{LimitsData, first_out_of_range}

-- An option has this number: its text is a numeral in decimal digits, below 2 to the 64th.
pub record HasNumber (options : ArgMatches) (id : List ℕ) (n : ℕ) : Type 0 where
  pub text : List ℕ
  pub found : one_text (found_of options) id ≡ Some text
  pub numeral : IsNumeral 10 (without_leading_plus text)
  pub value : n ≡ digits_value 10 (without_leading_plus text)
  pub small : digits_value 10 (without_leading_plus text) < 2 ^ 64

-- A flag is set where `clap` finds the text `true` under its name, and isn't where it finds `false`
-- or nothing. It finds `true` if the option is there, else `false`.
pub record IsFlag (options : ArgMatches) (id : List ℕ) (flag : Bool) : Type 0 where
  pub missing : one_text (found_of options) id ≡ None → flag ≡ false
  pub set : one_text (found_of options) id ≡ Some (codes "true") → flag ≡ true
  pub not_set : one_text (found_of options) id ≡ Some (codes "false") → flag ≡ false

-- The four limits are those of the options, each in its range, and lenient by a flag.
pub record AreLimits (options : ArgMatches) (limits : LimitsData) : Type 0 where
  pub max_body : HasNumber options (codes "max-body") limits.max_body
  pub max_text : HasNumber options (codes "max-text") limits.max_text
  pub max_docs : HasNumber options (codes "max-docs") limits.max_docs
  pub max_changes : HasNumber options (codes "max-changes") limits.max_changes
  pub in_range : first_out_of_range limits ≡ None
  pub lenient : IsFlag options (codes "lenient") limits.lenient
