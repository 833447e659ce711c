mod Rows
mod TaskLemmas
