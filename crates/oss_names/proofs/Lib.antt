pub mod EndLemmas
pub mod HeadLemmas
pub mod LayoutLemmas
pub mod Parts
pub mod ProgramLemmas
pub mod StatementLemmas
