-- Texts cut into blocks, what they count, and the parts before and after one.
pub mod BlockLemmas
pub mod CountLemmas
pub mod CutLemmas
pub mod DrainLemmas
pub mod FeedLemmas
pub mod GroupLemmas
pub mod PartLemmas
pub mod SeamLemmas
