-- What calls that read tell. Read against: of `x ) ;` a reader of names reads the name `x` and leaves `) ;`, so a call that reads as it
-- does answers `Ok` of `x` and leaves `) ;`; a reader of numbers stops at `x`, so such a call answers `Err(Syntax)` and leaves `x ) ;`.
use Rattle.std.specs.Prelude.{◌≡◌, List, Option, Some, None, Result, Ok, Err}
use Rattle.oss_syntax.specs.declared.token.Token.{Token}
use Rattle.oss_grammar.specs.Reading.{Stop}
use Rattle.oss_grammar.specs.Reading.Stop.{Syntax, Deep}
use Rattle.oss_expressions.specs.declared.cursor.Unread.{Unread}
use Rattle.oss_expressions.specs.declared.cursor.Unread.TheVariants as unread

-- A call reads as a reader did: it answers the value, or why reading stopped; the tokens that are left are those behind the value, or
-- those at which reading stopped. Want of memory says nothing.
abbrev pub ReadsAs : {A : Type 0} → Result (A × List Token) Stop → Result A Unread → List Token → Type 0
ReadsAs read (Ok value) rest = read ≡ Ok (value, rest)
ReadsAs read (Err unread.Syntax) rest = read ≡ Err (Syntax rest)
ReadsAs read (Err unread.Deep) rest = read ≡ Err (Deep rest)
ReadsAs read (Err (unread.Memory error)) rest = Unit {0}

-- A call makes of one token what a definition makes of it, and answers `Syntax` where that is nothing.
abbrev pub Makes : {A : Type 0} → Option A → Result A Unread → Type 0
Makes made (Ok value) = made ≡ Some value
Makes made (Err unread.Syntax) = made ≡ None
Makes made (Err unread.Deep) = ⊥
Makes made (Err (unread.Memory error)) = Unit {0}
