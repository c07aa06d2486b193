-- An option that stands in for another.
use Rattle.lsp_simulate.proofs.Prelude.{◌≡◌, ◌∙◌, ℕ, List, [], ap, refl, sym, inl, inr, false, true, codes, unwrap_or, Option, Some, None, IfSome, IsSome, digits_value, without_leading_plus, ArgMatches, AreServerLimits, HasEither, HasNumber, IsFlag}
use Rattle.std.specs.Option.{option_or}
use Rattle.lsp_frame.specs.Limits.{LimitsData, first_out_of_range}

module _ (options : ArgMatches) (first second : List ℕ) where
  pub either_given : (a b r : Option ℕ) → r ≡ option_or a b → IfSome a (HasNumber options first)
      → ((n : ℕ) → HasNumber options first n → IsSome a) → IfSome b (HasNumber options second)
      → IfSome r (HasEither options first second)
  either_given (Some n) b r is some none other = rw is (inl some)
  either_given None (Some n) r is some none other =
      rw is (inr ((λ m has. let bad : false ≡ true = none m has in cc), other))
  either_given None None r is some none other = rw is tt

  pub either_read : (a b r : Option ℕ) → r ≡ option_or a b
      → ((n : ℕ) → HasNumber options first n → IsSome a) → ((n : ℕ) → HasNumber options second n → IsSome b)
      → (n : ℕ) → HasEither options first second n → IsSome r
  either_read (Some m) b r is none other n has = rw is refl
  either_read None b r is none other n (inl has) = let bad : false ≡ true = none n has in cc
  either_read None b r is none other n (inr has) = rw is (other n has.1)

  number_same : (id : List ℕ) (n m : ℕ) → HasNumber options id n → HasNumber options id m → n ≡ m
  number_same id n m one two =
      let texts : Some one.text ≡ Some two.text = sym one.found ∙ two.found in
      let text : one.text ≡ two.text = ap (λ t. unwrap_or t []) texts in
      one.value ∙ (ap (λ t. digits_value 10 (without_leading_plus t)) text ∙ sym two.value)

  -- There is one such number at most.
  pub either_same : (n m : ℕ) → HasEither options first second n → HasEither options first second m → n ≡ m
  either_same n m (inl one) (inl two) = number_same first n m one two
  either_same n m (inl one) (inr two) = absurd (two.0 n one)
  either_same n m (inr one) (inl two) = absurd (one.0 m two)
  either_same n m (inr one) (inr two) = number_same second n m one.1 two.1

-- These limits, strict.
abbrev pub strict : ℕ → ℕ → ℕ → ℕ → LimitsData
strict body text docs changes = record {
  max_body = body;
  max_text = text;
  max_docs = docs;
  max_changes = changes;
  lenient = false;
}

module _ (options : ArgMatches) (body text docs changes : ℕ)
    (has_body : HasEither options (codes "server-max-body") (codes "max-body") body)
    (has_text : HasEither options (codes "server-max-text") (codes "max-text") text)
    (has_docs : HasEither options (codes "server-max-docs") (codes "max-docs") docs)
    (has_changes : HasEither options (codes "server-max-changes") (codes "max-changes") changes) where
  pub server_given : (limits given : LimitsData) → limits ≡ strict body text docs changes
      → first_out_of_range (strict body text docs changes) ≡ None → given ≡ record limits { lenient = given.lenient }
      → IsFlag options (codes "lenient") given.lenient → AreServerLimits options given
  server_given limits given is within with_flag flag =
      let same : given ≡ record (strict body text docs changes) { lenient = given.lenient } =
      with_flag ∙ ap (λ (l : LimitsData). record l { lenient = given.lenient }) is in
      record {
        max_body = rw (ap (λ (l : LimitsData). l.max_body) same) has_body;
        max_text = rw (ap (λ (l : LimitsData). l.max_text) same) has_text;
        max_docs = rw (ap (λ (l : LimitsData). l.max_docs) same) has_docs;
        max_changes = rw (ap (λ (l : LimitsData). l.max_changes) same) has_changes;
        in_range = ap first_out_of_range same ∙ within;
        lenient = flag;
      }

  -- Where the options name limits of the server, these are in their ranges.
  pub server_within : (limits : LimitsData) → AreServerLimits options limits
      → first_out_of_range (strict body text docs changes) ≡ None
  server_within limits are =
      let one = either_same options _ _ body limits.max_body has_body are.max_body in
      let two = either_same options _ _ text limits.max_text has_text are.max_text in
      let three = either_same options _ _ docs limits.max_docs has_docs are.max_docs in
      let four = either_same options _ _ changes limits.max_changes has_changes are.max_changes in
      rw (one, two, three, four) are.in_range
