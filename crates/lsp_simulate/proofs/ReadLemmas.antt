-- What the words are read as.
use Rattle.lsp_simulate.proofs.Prelude.{◌≡◌, ◌∙◌, ap, subst, sym, inl, inr, false, true, List, ℕ, [], Option, Some, None, IfSome, IsSome, IsErrAnd, Result, Ok, Err, App, is_simple, matches_of, rows_of, found_of, fault_of, is_simple_and_free, ArgMatches, AreWordsReadAs, IsFound, IsSetting, IsProgram, Setting}
use Rattle.clap.specs.Words.{HasKind, IsAmong, kind_of}
use Rattle.clap.specs.declared.error.Error.{Error}
use Rattle.clap.proofs.OnLiterals.{clap_on_literals}

pub is_simple_program : (app : App) → IsProgram app → is_simple app ≡ true
unfolding clap_on_literals
is_simple_program app p = ap is_simple p.same

pub is_free_program : (app : App) → IsProgram app → is_simple_and_free app ≡ true
unfolding clap_on_literals
is_free_program app p = ap is_simple_and_free p.same

found_is : (found : ArgMatches) (setting : Option Setting) → IfSome setting (IsSetting found)
    → ((s : Setting) → IsSetting found s → IsSome setting) → IsFound found setting
found_is found (Some setting) some none = some
found_is found None some none = λ s is. let bad : false ≡ true = none s is in cc

pub read_ok : (words : List (List ℕ)) (app : App) (found : ArgMatches) (setting : Option Setting)
    → IsProgram app → fault_of app words ≡ [] → rows_of (found_of found) ≡ matches_of app words
    → IfSome setting (IsSetting found) → ((s : Setting) → IsSetting found s → IsSome setting)
    → AreWordsReadAs words (Ok setting)
read_ok words app found setting p taken rows some none = record {
  app = app;
  program = p;
  taken = taken;
  found = found;
  rows = rows;
  setting_is = found_is found setting some none;
}

pub read_err : (words : List (List ℕ)) (app : App) (error : Error) (read : Result (Option Setting) Error)
    → IsProgram app → HasKind (fault_of app words) error → IsErrAnd read (λ new. new ≡ error)
    → AreWordsReadAs words read
read_err words app error (Ok setting) p kind is = absurd is
read_err words app error (Err new) p (inl memory) is = inl (ap kind_of is ∙ memory)
read_err words app error (Err new) p (inr among) is =
    inr (app, p, subst (λ (e : Error). IsAmong (kind_of e) (fault_of app words)) (sym is) among)
