-- What a call returns that takes a step.
use Rattle.std.specs.Prelude.{◌≡◌}
use Rattle.lsp_server.specs.Prelude.{Result, IfOk, OnOk, OnErr, IsOk, Answer}
use Rattle.lsp_server.specs.Answer.{as_sent, NeverAllocates}
use Rattle.lsp_server.specs.Seen.{answer_view}
use Rattle.lsp_server.specs.Step.{ServerData, Step}

-- A call took this step, or failed and changed nothing.
pub record IsStepOf {E : Type 0} (step : Step) (result : Result Answer E) (old new : ServerData) :
    Type 0 where
  -- The reply is sent as a frame.
  pub answer : IfOk result (λ a. answer_view a ≡ as_sent step.answer)
  pub state : OnOk result (new ≡ step.state)
  pub unchanged : OnErr result (new ≡ old)

-- A call took this step, and was out of memory only where its answer takes memory.
pub record IsQuietStepOf {E : Type 0} (step : Step) (result : Result Answer E) (old new : ServerData) :
    Type 0 where
  pub taken : IsStepOf step result old new
  pub quiet : NeverAllocates step.answer → IsOk result
