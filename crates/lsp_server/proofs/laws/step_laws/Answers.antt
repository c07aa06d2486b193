use Rattle.lsp_server.proofs.Prelude.{refl, incoming_of, request_of, notification_of}
use Rattle.lsp_server.proofs.LawLemmas.{request_of-is, replied, notification_of-is, unreplied, unanswered, kept, offered}
use Rattle.lsp_server.proofs.laws.step_laws.Goals as goal

pub returns : goal.returns
returns c = record {
  request = λ s id method params live. replied s.phase s id (request_of id method params)
      (request_of-is id method params) live;
  notification = λ s method params m. unreplied s.phase s (notification_of method params) m
      (notification_of-is method params);
  response = λ s id outcome m. unanswered s.phase s id m;
  forward = λ s body. (kept s.phase s (incoming_of body) refl).forward;
  config = λ s body. (kept s.phase s (incoming_of body) refl).config;
  documents = λ s body. (kept s.phase s (incoming_of body) refl).documents;
  refusal = λ s body. (kept s.phase s (incoming_of body) refl).refusal;
  offered = offered;
}
