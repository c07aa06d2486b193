-- The part of a log that the options name.
use Rattle.lspsync.proofs.Prelude.{◌≡◌, ◌&&◌, ◌∙◌, not, is_some, ℕ, Bool, refl, sym, ap, subst, option_map, string_bytes, String, Global, false, true, codes, Option, None, ArgMatches, AreSettings, HasNumberOrNone, IsCallNamed, IsLogPart, is_whole, whole, Call}
use Rattle.log_session.specs.declared.settings.Settings.{Settings}
use Rattle.log_rewrite.specs.declared.commands.part.Part.{Part}
use Rattle.lspsync.specs.Call.{is_contrary}
use Rattle.lspsync.specs.declared.command_line.Call.TheVariants as call

none_of : (at : Option ℕ) (uri : Option (String Global)) → (not (is_some at) && not (is_some uri)) ≡ true → (at ≡ None)
    × (uri ≡ None)
none_of None None e = (refl, refl)
none_of _ _ e = absurd (let wrong : false ≡ true = e in cc)

whole_part : (options : ArgMatches) (part : Part) → is_whole part ≡ true → IsLogPart options part
    → IsLogPart options whole
whole_part options part is given =
    let none = none_of part.at part.uri is in
    record {
      at = subst (HasNumberOrNone options (codes "at")) none.0 given.at;
      uri = sym (ap (option_map string_bytes) none.1) ∙ given.uri;
    }

pub named_part : (options : ArgMatches) (settings : Settings) (part : Part) (asked : Call)
    → AreSettings options settings → IsLogPart options part → (is_whole part ≡ true → asked ≡ call.Replay settings)
    → (is_whole part ≡ false → asked ≡ call.ReplayPart settings part) → IsCallNamed (codes "replay") options asked
named_part options settings part asked are given all some = by (is_whole part) refl
  where
    by : (b : Bool) → is_whole part ≡ b → IsCallNamed (codes "replay") options asked
    by true is = subst (IsCallNamed (codes "replay") options) (sym (all is)) (
      refl,
      are,
      whole_part options part is given,
    )
    by false is = subst (IsCallNamed (codes "replay") options) (sym (some is)) (refl, are, given, is)

-- No call of `normalise` has options that exclude each other.
pub not_contrary : (options : ArgMatches) (asked : Call) → is_contrary options ≡ true
    → IsCallNamed (codes "normalise") options asked → false ≡ true
not_contrary options (call.Normalise settings rewriting) contrary named = sym named.4 ∙ contrary
not_contrary options (call.Serve config) contrary named =
    absurd (let wrong : codes "normalise" ≡ codes "serve" = named.0 in cc)
not_contrary options (call.Check settings live) contrary named =
    absurd (let wrong : codes "normalise" ≡ codes "check" = named.0 in cc)
not_contrary options (call.Explain settings listing live) contrary named =
    absurd (let wrong : codes "normalise" ≡ codes "check" = named.0 in cc)
not_contrary options (call.Trace settings details live) contrary named =
    absurd (let wrong : codes "normalise" ≡ codes "trace" = named.0 in cc)
not_contrary options (call.Replay settings) contrary named =
    absurd (let wrong : codes "normalise" ≡ codes "replay" = named.0 in cc)
not_contrary options (call.ReplayPart settings part) contrary named =
    absurd (let wrong : codes "normalise" ≡ codes "replay" = named.0 in cc)
not_contrary options (call.Compare settings against) contrary named =
    absurd (let wrong : codes "normalise" ≡ codes "compare" = named.0 in cc)
not_contrary options (call.Convert settings) contrary named =
    absurd (let wrong : codes "normalise" ≡ codes "convert" = named.0 in cc)
