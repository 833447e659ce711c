pub mod CodeMoves
pub mod ChainMoves
pub mod TickMoves
pub mod SpanMoves
