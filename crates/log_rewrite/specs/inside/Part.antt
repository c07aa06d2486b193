-- What only proofs and private contracts use of `Parts`.
use Rattle.log_rewrite.specs.declared.printer.part.ReplayPart.{ReplayPart}
use Rattle.log_rewrite.specs.Part.{Found, refreshed}

-- The part's document, by the text that was kept when it was closed.
abbrev pub found_now : ReplayPart → Found
found_now replay = refreshed replay.session.server.table replay.chosen
