-- What only proofs and private contracts use of `Scripts`.
use Rattle.std.specs.Prelude.{◌≡◌, ◌≢◌}
use Rattle.std.specs.declared.io.Error.{Error}
use Rattle.std.specs.declared.io.ErrorKind.TheVariants.{Interrupted}
use Rattle.std.specs.IoError.{error_kind}
use Rattle.lsp_stream.specs.declared.stop.CallEnd.{CallEnd}
use Rattle.lsp_stream.specs.declared.stop.CallEnd.TheVariants.{Take, Interrupt, Fail}

-- The error of a call that moves no byte: an interruption, or another error.
abbrev pub IsStop : CallEnd → Error → Type 0
IsStop (Take most) e = error_kind e ≢ Interrupted
IsStop Interrupt e = error_kind e ≡ Interrupted
IsStop Fail e = error_kind e ≢ Interrupted
