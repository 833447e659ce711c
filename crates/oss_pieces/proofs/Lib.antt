mod CellLemmas
mod RunLemmas
mod StepLemmas
mod WholeRowLemmas
mod ItemLemmas
pub mod OneListLemmas
mod LayoutLemmas
mod NumberedLemmas
