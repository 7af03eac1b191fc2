pub mod HexLemmas
pub mod StopLemmas
