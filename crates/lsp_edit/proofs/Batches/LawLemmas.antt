-- The laws of batches, put together.
use Rattle.lsp_edit.proofs.Prelude.{ℕ, List, [], ◌∷◌, arith, CanonicalLaw, Part, OldPart, NewPart, AreParts, NoneEmpty}
use Rattle.lsp_edit.proofs.Canonical.KeepsLemmas.{meaning_keeps}
use Rattle.lsp_edit.proofs.Canonical.PairLemmas.{pairs_kept}
use Rattle.lsp_edit.proofs.Canonical.GapLemmas.{ends_exact}
use Rattle.lsp_edit.proofs.Canonical.RebuiltLemmas.{canonical_makes}
pub use Rattle.lsp_buffer.proofs.Queries.FoundLemmas.{units_some}
use Rattle.lsp_edit.proofs.Canonical.CountLemmas.{no_more_changes}
use Rattle.lsp_edit.proofs.Canonical.WeightLemmas.{no_longer}
use Rattle.lsp_edit.proofs.Canonical.SameLemmas.{canonical_means, equal_exactly, canonical_again}

pub canonical_law : CanonicalLaw
canonical_law units some old batch items is = record {
  pairs = pairs_kept old items (meaning_keeps old units batch items is);
  ends = ends_exact old items (meaning_keeps old units batch items is);
  means = canonical_means units some old batch items is;
  ranges = (canonical_makes units some old items (meaning_keeps old units batch items is)).ranges;
  few = no_more_changes units old batch items is;
  short = λ weight. no_longer weight units old items;
  exactly = λ other others are. equal_exactly units some old batch other items others is are;
  again = λ more h. canonical_again units some old batch items more is h;
}

pub none_empty : (old : List ℕ) (parts : List Part) → AreParts old parts → NoneEmpty parts
none_empty old [] are = tt
none_empty old (OldPart from to ∷ parts) are = (omega (arith, are.0.0), none_empty old parts are.1)
none_empty old (NewPart bytes ∷ parts) are = (are.0.0, none_empty old parts are.1)
