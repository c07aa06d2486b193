use Rattle.lsp_store.proofs.squash.Squash.message.Goals as goal

pub returns-clause-error : goal.returns-clause-error
returns-clause-error c = rw (← c.self.view_is) c.message.ensures.error
