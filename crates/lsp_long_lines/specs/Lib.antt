pub mod LongLines
