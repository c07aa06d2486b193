-- Lines on standard error, piece by piece, and the end of a run over a file.
use Rattle.lspsync.proofs.Prelude.{◌≡◌, ap, false, inr, subst, sym, ℕ, List, [], ◌++◌, Option, Result, Err, append_assoc, append-nil, EngineFault, Ending, fault_cause, IsBlamed, IsFileEnding, IsPrinted}
use Rattle.lsp_stream.specs.Ports.{WriterState}
use Rattle.lspsync.specs.Run.{Ends}
use Rattle.lspsync.specs.declared.wanted.Wanted.{Wanted}
use Rattle.lsp_stream.specs.declared.fault.EngineFault.TheVariants as engine

-- The line of a fault of a file.
pub blame_pieces : (start name sep text place cause page end whole : List ℕ) → whole ≡ text ++ place
    → start ++ (name ++ (sep ++ (text ++ (place ++ (sep ++ (cause ++ (page ++ end)))))))
    ≡ start ++ (name ++ (sep ++ ((whole ++ (sep ++ (cause ++ page))) ++ end)))
blame_pieces start name sep text place cause page end whole is = rw is (simp append_assoc)

-- That line, and one more.
pub hint_pieces : (start name sep text place cause page end whole more : List ℕ) → whole ≡ text ++ place
    → start ++ (name ++ (sep ++ (text ++ (place ++ (sep ++ (cause ++ (page ++ (end ++ more))))))))
    ≡ (start ++ (name ++ (sep ++ ((whole ++ (sep ++ (cause ++ page))) ++ end)))) ++ more
hint_pieces start name sep text place cause page end whole more is = rw is (simp append_assoc)

-- The line of a missing document, and one more.
pub more_pieces : (start name sep what end more : List ℕ)
    → start ++ (name ++ (sep ++ (what ++ (end ++ more)))) ≡ (start ++ (name ++ (sep ++ (what ++ end)))) ++ more
more_pieces start name sep what end more = simp append_assoc

-- The line of a missing document, and a list.
pub list_pieces : (start name sep what end words : List ℕ)
    → start ++ (name ++ (sep ++ (what ++ (end ++ (words ++ [])))))
    ≡ (start ++ (name ++ (sep ++ (what ++ end)))) ++ words
list_pieces start name sep what end words = simp (append_assoc, append-nil)

-- The lines that were printed are those of the end.
pub ends : (status : ℕ) (text lines : List ℕ) (printed : Result (Unit {0}) EngineFault) (before after : WriterState)
    (ending : Ending) → ending ≡ record { status = status; printed = printed; output_failed = false } → text ≡ lines
    → IsPrinted text before after printed → Ends status lines false before after ending
ends status text lines printed before after ending is same wrote = record {
  status_is = ap (λ (it : Ending). it.status) is;
  lines_are =
      subst (λ (p : Result (Unit {0}) EngineFault). IsPrinted lines before after p)
      (sym (ap (λ (it : Ending). it.printed) is))
      (subst (λ (z : List ℕ). IsPrinted z before after printed) same wrote);
  output = ap (λ (it : Ending). it.output_failed) is;
}

-- A fault of a file is reported as its cause says, one of reading as that of standard input.
pub file_ending : (name : List ℕ) (wanted : Option Wanted) (known : Option (List ℕ)) (fault : EngineFault)
    (before after : WriterState) (ending : Ending) → IsBlamed name known fault (fault_cause fault) before after ending
    → IsFileEnding name wanted known (Err fault) before after ending
file_ending name wanted known engine.Read before after ending blamed = inr blamed
file_ending name wanted known fault before after ending blamed = blamed
