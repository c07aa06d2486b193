-- What the words are read as.
use Rattle.lspsync.proofs.Prelude.{◌≡◌, ◌∙◌, ap, refl, sym, subst, true, inl, inr, List, ℕ, [], Vec, Global, Option, Ok, Err, App, is_simple, subcommand_of, subcommand_rows_of, fault_of, is_simple_and_free, HasKind, ArgMatches, AreWordsReadAs, IsFound, Choices, IsProgram, program_app, Task}
use Rattle.clap.specs.Words.{IsAmong, kind_of}
use Rattle.clap.specs.declared.error.Error.{Error}
use Rattle.clap.specs.declared.error.kind.ErrorKind.{ErrorKind}
use Rattle.clap.proofs.OnLiterals.{clap_on_literals}

simple : (encodings forms : Choices) → is_simple (program_app encodings forms) ≡ true
unfolding clap_on_literals
simple encodings forms = refl

free : (encodings forms : Choices) → is_simple_and_free (program_app encodings forms) ≡ true
unfolding clap_on_literals
free encodings forms = refl

pub is_simple_program : (app : App) → IsProgram app → is_simple app ≡ true
is_simple_program app p = ap is_simple p.same ∙ simple p.encodings p.forms

pub is_free_program : (app : App) → IsProgram app → is_simple_and_free app ≡ true
is_free_program app p = ap is_simple_and_free p.same ∙ free p.encodings p.forms

pub read_ok : (words : List (List ℕ)) (app : App) (found : ArgMatches) (tasks : Option (Vec Task Global))
    → IsProgram app → fault_of app words ≡ []
    → subcommand_rows_of found ≡ subcommand_of app words → IsFound found tasks → AreWordsReadAs words (Ok tasks)
read_ok words app found tasks p taken rows are = record {
  app = app;
  program = p;
  taken = taken;
  found = found;
  rows = rows;
  tasks_are = are;
}

-- An error of the same kind may take the place of one.
pub read_err : (words : List (List ℕ)) (app : App) (error new : Error) → IsProgram app
    → HasKind (fault_of app words) error → kind_of new ≡ kind_of error → AreWordsReadAs words (Err new)
read_err words app error new p (inl memory) same = inl (same ∙ memory)
read_err words app error new p (inr among) same =
    inr (app, p, subst (λ (kind : ErrorKind). IsAmong kind (fault_of app words)) (sym same) among)
