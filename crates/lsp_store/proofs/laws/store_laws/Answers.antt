use Rattle.lsp_store.proofs.LawLemmas.{whole_text_law, unique_law, table_law, last_law}
use Rattle.lsp_store.proofs.WithinLemmas.{within_law}
use Rattle.lsp_store.proofs.GreaterLemmas.{greater_limits_law, canonical_batch_law}
use Rattle.lsp_store.proofs.laws.store_laws.Goals as goal

pub returns : goal.returns
returns c =
    record {
      greater = greater_limits_law;
      canonical = canonical_batch_law;
      whole = whole_text_law;
      within = within_law;
      unique = unique_law;
      table = table_law;
      last = last_law;
    }
