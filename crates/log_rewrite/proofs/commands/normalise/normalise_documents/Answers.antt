use Rattle.log_rewrite.proofs.Documents.DocumentsLawLemmas.{wrote_documents}
use Rattle.log_rewrite.proofs.commands.normalise.normalise_documents.Goals as goal

pub returns : goal.returns
returns g c =
    let run = rw c.new.ensures at c.normalise_selected.ensures.run in
    record {
      run = run;
      documents = wrote_documents c.args.settings c.normalise_selected.ensures.in_range c.normalise_selected.result
          run.all_records;
    }
