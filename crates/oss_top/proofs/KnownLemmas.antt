-- What the reader and the check of the rules tell, put together.
use Rattle.std.proofs.Common.{ℕ, List, Result, Ok, Err}
use Rattle.oss_syntax.specs.declared.tree.program.Program.{Program}
use Rattle.oss_syntax.specs.declared.refusal.Refusal.{Refusal}
use Rattle.oss_syntax.specs.declared.refusal.Refusal.TheVariants as refusal
use Rattle.oss_grammar.specs.Parsing.{IsParse}
use Rattle.oss_names.specs.Resolved.{IsResolved}
use Rattle.oss_top.specs.ProgramTexts.{IsKnown}
use Rattle.oss_top.specs.ProgramTexts.Refuses.{by_grammar, by_rules}

pub resolved : (text : List ℕ) (p : Program) (r : Result Program Refusal) → IsParse text (Ok p) → IsResolved p r → IsKnown text r
resolved text p (Ok k) w told = record { program = p; accepts = record { is_text = w; obeys = told.0 }; is_of = told.1 }
resolved text p (Err (refusal.Refused r)) w told = by_rules p w told
resolved text p (Err (refusal.Memory e)) w told = tt

pub unparsed : (text : List ℕ) (r : Refusal) → IsParse text (Err r) → IsKnown text (Err r)
unparsed text (refusal.Refused r) w = by_grammar w
unparsed text (refusal.Memory e) w = tt
