-- Changes of one document that are written as one message.
pub mod JoiningLemmas
pub mod KindLemmas
pub mod OpenSeriesLemmas
pub mod PendingLemmas
pub mod PlanLemmas
pub mod PrintLemmas
pub mod SeenLemmas
pub mod SeriesLemmas
pub mod SingleLemmas
pub mod SquashLawLemmas
pub mod SquashLogLemmas
pub mod StepLemmas
pub mod StopLemmas
