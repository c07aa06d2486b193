mod CountLemmas
mod FindLemmas
mod KeyLemmas
mod MapLemmas
mod PositionLemmas
mod Prelude
mod SlotLemmas
