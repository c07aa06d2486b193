use Rattle.lsp_frame.proofs.Prelude.{◌≡◌, ◌≤◌, length, list_all, slice_split, is_good_parameter, is_semicolon}
use Rattle.lsp_frame.proofs.framer.words.are_good_parameters.Given as goal

abbrev pub invariant-loop-at : goal.invariant-loop-at
invariant-loop-at l = record {
  short : length l.rest ≤ length l.bytes;
  all : list_all is_good_parameter (slice_split is_semicolon l.rest) ≡ list_all is_good_parameter
      (slice_split is_semicolon l.bytes);
}

abbrev pub decreases-loop-at : goal.decreases-loop-at
decreases-loop-at l = length l.rest
