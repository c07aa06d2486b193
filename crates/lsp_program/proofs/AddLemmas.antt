-- Options and files are added to a command.
use Rattle.std.proofs.Common.{◌≡◌, ◌∙◌, ◌++◌, ◌+◌, ◌<◌, ◌||◌, ℕ, List, [], ◌∷◌, false, ap, append-nil, append_assoc, get_or, length, map, refl, sym, subst, take}
use Rattle.std.proofs.lemmas.List.{map_more}
use Rattle.std.proofs.Math.Bool.{or-false}
use Rattle.clap.specs.Words.{AddsArg, App, Rule, app_of, rule_of, with_rule}
use Rattle.clap.specs.Simple.{on_top}
use Rattle.clap.specs.declared.builder.arg.Arg.{Arg}
use Rattle.clap.specs.declared.builder.command.Command.{Command}
use Rattle.clap.specs.declared.builder.command.Command.TheViews.{out-Command as fields_of}
use Rattle.lsp_program.specs.Arguments.{AddsRules}

abbrev pub longer : List Rule → App → App
longer rules = on_top (λ s. record s { rules = s.rules ++ rules })

longer_none : (a : App) → a ≡ longer [] a
longer_none a = rw (append-nil a.top.rules) refl

longer_more : (xs ys : List Rule) (a : App) → longer ys (longer xs a) ≡ longer (xs ++ ys) a
longer_more xs ys a = rw (append_assoc a.top.rules xs ys) refl

pub adds_none : (c : Command) → AddsRules c [] c
adds_none c = record { app = longer_none (app_of c); globals = refl }

adds_one : (old new : Command) (a : Arg) (rule : Rule) → AddsArg old a new → a.global ≡ false → rule_of a ≡ rule
    → AddsRules old (rule ∷ []) new
adds_one old new a rule added local same = record {
  app = added.shape local ∙ ap (with_rule (app_of old)) same;
  globals = added.globals ∙ (ap (λ g. (fields_of old).has_globals || g) local ∙ or-false (fields_of old).has_globals);
}

pub adds_more : (old mid new : Command) (xs ys : List Rule) → AddsRules old xs mid → AddsRules mid ys new
    → AddsRules old (xs ++ ys) new
adds_more old mid new xs ys one two = record {
  app = two.app ∙ (ap (longer ys) one.app ∙ longer_more xs ys (app_of old));
  globals = two.globals ∙ one.globals;
}

-- One of a table more.
pub adds_next : {A : Type 0} (by : A → Rule) (xs : List A) (i : ℕ) (d : A) (old mid new : Command) (a : Arg)
    → i < length xs → AddsRules old (map by (take i xs)) mid → AddsArg mid a new → a.global ≡ false
    → rule_of a ≡ by (get_or xs i d) → AddsRules old (map by (take (i + 1) xs)) new
adds_next by xs i d old mid new a within before added local same =
    subst (λ rules. AddsRules old rules new) (sym (map_more by xs i d within))
    (adds_more old mid new _ _ before (adds_one mid new a _ added local same))
