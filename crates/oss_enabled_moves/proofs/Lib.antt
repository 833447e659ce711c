pub mod CallLemmas
pub mod HindranceLemmas
