-- A value by its first token.
use Rattle.lsp_message.proofs.Prelude.{◌≡◌, ℕ, zero, suc, List, ◌∷◌, false, Option, Some, None, option_map, refl, sym, ap, ◌∙◌, arith, Token, parse_map, token_of, Data, boolean, number, object, as_array, as_object, of_json, converted, number_of, is_null, value_at, array_at, object_at, kept, none-some, common_steps}
use Rattle.std.proofs.lemmas.Option.{some_pair_parts}
use Rattle.json.specs.declared.token.Token.{Token as Read}
use Rattle.json.specs.declared.token.Token.TheVariants as read
use Rattle.lsp_message.proofs.Grammar.{mapped}
pub use Rattle.json.proofs.Grammar.{value_is}
pub use Rattle.lsp_message.proofs.Grammar.{on_err, parsed, unparsed, value_at-nil, value_at-shallow_array, value_at-shallow_object, value_at-array, value_at-object}
pub use Rattle.std.proofs.lemmas.Result.{on_err_weaker, on_ok_weaker}

-- what a value is not, by a first token that is another
pub record Begins (t : Read) (d : Data) : Type 0 where
  pub no_object : (t ≡ read.BeginObject → ⊥) → as_object d ≡ None
  pub no_array : (t ≡ read.BeginArray → ⊥) → as_array d ≡ None
  pub no_null : (t ≡ read.Null → ⊥) → is_null d ≡ false
  pub nothing : (t ≡ read.Null → ⊥) → ((s : _) → t ≡ read.String s → ⊥) → ((s : _) → t ≡ read.Number s → ⊥)
      → kept d ≡ boolean false

-- what was read under a constructor
inside : {B : Type 0} (f : B → Data) (r : Option (B × List Token)) (d : Data) (rest : List Token)
    → parse_map f r ≡ Some (d, rest) → (b : B) × (d ≡ f b)
inside f None d rest e = absurd (cc)
inside f (Some p) d rest e = (p.0, sym (some_pair_parts (f p.0) d p.1 rest e).0)

pub begins : (depth : ℕ) (t : Read) (ts rest : List Token) (d : Data) → value_at depth (token_of t ∷ ts)
    ≡ Some (d, rest) → Begins t d
begins zero read.BeginObject ts rest d e = absurd (none-some _ (sym (value_at-shallow_object 0 ts refl) ∙ e))
begins (suc n) read.BeginObject ts rest d e = grind (arith, common_steps, value_at-object, inside)
begins zero read.BeginArray ts rest d e = absurd (none-some _ (sym (value_at-shallow_array 0 ts refl) ∙ e))
begins (suc n) read.BeginArray ts rest d e = grind (arith, common_steps, value_at-array, inside)
begins depth (read.Number s) ts rest d e =
    let is : value_at depth (Token.number s.now ∷ ts)
    ≡ parse_map number (option_map (λ n. (n, ts)) (number_of s.now)) =
    ap (converted of_json) (value_is depth (Token.number s.now ∷ ts)) ∙ mapped number ts (number_of s.now) in
    let found = inside number (option_map (λ n. (n, ts)) (number_of s.now)) d rest (sym is ∙ e) in
    rw found.1 (record {
      no_object = λ _. refl;
      no_array = λ _. refl;
      no_null = λ _. refl;
      nothing = λ _ _ other. absurd (other s refl);
    })
begins depth _ ts rest d e = grind (arith, common_steps, value_is)

-- what a first token says of the value
pub ruleset first_tokens = (
  begins,
  value_at-nil,
  value_is,
  parsed,
  unparsed,
  value_at-shallow_array,
  value_at-shallow_object,
  value_at-array,
  value_at-object,
  on_err,
  on_ok_weaker,
  on_err_weaker,
)
