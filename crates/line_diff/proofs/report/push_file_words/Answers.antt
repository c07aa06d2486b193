use Rattle.line_diff.proofs.Prelude.{◌≡◌, ◌==◌, false, append_assoc, arith, nat_tests}
use Rattle.line_diff.proofs.report.push_file_words.Goals as goal

pub returns : goal.returns
returns c =
    let differs : (c.args.equal == 0) ≡ false = grind (arith, nat_tests) in
    rw (c.in_ok-push_words-2.ensures, c.in_ok-push_number.ensures, c.in_ok-push_words.ensures, differs)
    (simp append_assoc)
