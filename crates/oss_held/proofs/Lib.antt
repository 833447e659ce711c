mod NumberLemmas
mod PointLemmas
mod NeedLemmas
mod HeldLemmas
