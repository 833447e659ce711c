-- What is told of how parallel a program can be at best, and its text.
-- Read against: `long x, y; int main() { }` with two tasks in main that declare x and y, one tick each, and a wait: the text has `work` with all ticks and `span` with those of main and of
-- one task, and then the chain from main's first act on. A program without tasks has as many ticks in its longest chain as in all.
use Rattle.std.specs.Prelude.{◌≡◌, ℕ, List, [], ◌∷◌, ◌++◌, codes}
use Rattle.std.specs.Fmt.{decimal}
use Rattle.oss_syntax.specs.declared.tree.program.Item.{Item}
use Rattle.oss_model.specs.declared.answer.Answer.{Answer}
use Rattle.oss_meaning.specs.Meaning.{asks_of}
use Rattle.oss_meaning.specs.Results.{first_cells, main_of}
use Rattle.oss_span.specs.declared.link.Link.{Link}
use Rattle.oss_span.specs.Lines.{chain_text}
use Rattle.oss_span.specs.Spans.{Spans}

-- The sequential run of the program, with so much fuel for each task, gives this answer; where it ends, so many of its acts are ticks, and the links stand for a longest chain, with so many.
abbrev pub IsSpannedOf : List Item → ℕ → Answer → ℕ → ℕ → List Link → Type 0
IsSpannedOf all fuel answer work span chain = Spans (asks_of all) (main_of all fuel) (first_cells all) answer work span chain

-- The lines with both numbers, and those of the chain.
abbrev pub span_text : ℕ → ℕ → List Link → List ℕ
span_text work span chain = codes "work " ++ decimal work ++ 10 ∷ codes "span " ++ decimal span ++ 10 ∷ chain_text chain

-- The program has this answer, and this text tells how parallel it can be.
pub record IsSpanTextOf (all : List Item) (fuel : ℕ) (answer : Answer) (text : List ℕ) : Type 0 where
  pub work : ℕ
  pub span : ℕ
  pub chain : List Link
  pub spanned : IsSpannedOf all fuel answer work span chain
  pub text_is : text ≡ span_text work span chain
