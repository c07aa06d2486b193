-- The table of documents: refusals, plans and what calls make of it.
pub mod FirstLemmas
pub mod LenientLemmas
pub mod RefusalLemmas
pub mod TableLemmas
pub mod StoreLemmas
pub mod PlanLemmas
