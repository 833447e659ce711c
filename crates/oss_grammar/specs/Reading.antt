-- Reading: functions from a list of tokens to the value that its front stands for and the tokens behind it, or to the tokens at
-- which reading stops. They go from left to right and look at one token at a time. That they read a grammar exactly, and stop
-- just where no text of it goes on or where it passes a limit, is proved of each way in which they are put together.
-- Read against: `( a + ;` stops at the `;`, since `( a +` goes on as an expression and `( a + ;` does not.
use Rattle.std.specs.Prelude.{ℕ, zero, suc, ◌==◌, Bool, false, ◌||◌, if◌then◌else◌, List, [], ◌∷◌, ◌++◌, length, Option, Some, None, is_some, Result, Ok, Err}
use Rattle.std.specs.List.{count_by}
use Rattle.oss_syntax.specs.declared.token.Token.{Token}

-- Where reading stops, and why: at a token behind which no text goes on so, or at one that passes a limit. `( a + ;` stops for
-- `Syntax` at the `;`.
pub data Stop : Type 0 where
  Syntax : (place : List Token) → Stop
  Deep : (place : List Token) → Stop

-- A function that reads a value from the front of tokens, and tells the tokens behind it.
abbrev pub Reader : Type 0 → Type 0
Reader A = List Token → Result (A × List Token) Stop

-- Whether there is a first token, and it passes the test.
abbrev pub begins : (Token → Bool) → List Token → Bool
begins test [] = false
begins test (t ∷ rest) = test t

-- Whether a token has a value.
abbrev pub has : {A : Type 0} → (Token → Option A) → Token → Bool
has test t = is_some (test t)

-- Whether a token passes one of two tests.
abbrev pub one_of : (Token → Bool) → (Token → Bool) → Token → Bool
one_of test other t = test t || other t

-- No token passes.
abbrev pub never : Token → Bool
never t = false

-- Reading goes on behind what was read, or stays where it stopped.
abbrev pub go_on : {A B : Type 0} → Result (A × List Token) Stop → (A → List Token → Result (B × List Token) Stop) → Result (B × List Token) Stop
go_on (Ok read) go = go read.0 read.1
go_on (Err stop) go = Err stop

-- A part, and then one that its value chooses.
abbrev pub read_then : {A B : Type 0} → Reader A → (A → Reader B) → Reader B
read_then f go ts = go_on (f ts) go

-- The value of a token, if it has one; else reading stops at it.
abbrev pub token_told : {A : Type 0} → Token → List Token → Option A → Result (A × List Token) Stop
token_told t rest None = Err (Syntax (t ∷ rest))
token_told t rest (Some value) = Ok (value, rest)

-- One token, of which the test makes the value.
abbrev pub read_one : {A : Type 0} → (Token → Option A) → Reader A
read_one test [] = Err (Syntax [])
read_one test (t ∷ rest) = token_told t rest (test t)

-- Nothing, which stands for this value.
abbrev pub read_nothing : {A : Type 0} → A → Reader A
read_nothing value ts = Ok (value, ts)

-- A part, of whose value another is made.
abbrev pub read_mapped : {A B : Type 0} → (A → B) → Reader A → Reader B
read_mapped make f ts = go_on (f ts) (λ a rest. Ok (make a, rest))

-- A part, and then another.
abbrev pub read_both : {A B : Type 0} → Reader A → Reader B → Reader (A × B)
read_both f g ts = go_on (f ts) (λ a rest. go_on (g rest) (λ b left. Ok ((a, b), left)))

-- The first token says which of the two is there; where it does not begin the first, reading goes on with the second.
abbrev pub read_either : {A : Type 0} → (Token → Bool) → Reader A → Reader A → Reader A
read_either starts f g ts = if begins starts ts then f ts else g ts

-- So many steps at most, each from the value so far to the next one, as long as the first token begins one.
abbrev pub read_steps_within : {S : Type 0} → (S → Token → Bool) → (S → Reader S) → ℕ → S → Reader S
read_steps_within starts step zero s ts = if begins (starts s) ts then Err (Syntax ts) else Ok (s, ts)
read_steps_within starts step (suc n) s ts =
    if begins (starts s) ts then go_on (step s ts) (λ next rest. read_steps_within starts step n next rest) else Ok (s, ts)

-- Any number of steps: there are at most as many as tokens.
unfoldable pub read_steps : {S : Type 0} → (S → Token → Bool) → (S → Reader S) → S → Reader S
read_steps starts step s ts = read_steps_within starts step (length ts) s ts

-- No level is left: a token that would begin one is too deep, another is no beginning at all.
abbrev pub read_too_deep : {A : Type 0} → (Token → Bool) → Reader A
read_too_deep deepens ts = if begins deepens ts then Err (Deep ts) else Err (Syntax ts)

-- The tokens as far as so many of them count, with the last that does.
abbrev pub shown : (Token → Bool) → ℕ → List Token → List Token
shown counts n [] = []
shown counts zero (t ∷ ts) = []
shown counts (suc n) (t ∷ ts) = t ∷ shown counts (if counts t then n else suc n) ts

-- The tokens behind those.
abbrev pub unshown : (Token → Bool) → ℕ → List Token → List Token
unshown counts n [] = []
unshown counts zero (t ∷ ts) = t ∷ ts
unshown counts (suc n) (t ∷ ts) = unshown counts (if counts t then n else suc n) ts

-- The tokens from the one on behind which so many that count are passed: from the first that counts, with 0.
abbrev pub from_count : (Token → Bool) → ℕ → List Token → List Token
from_count counts n [] = []
from_count counts zero (t ∷ ts) = if counts t then t ∷ ts else from_count counts zero ts
from_count counts (suc n) (t ∷ ts) = if counts t then from_count counts n ts else from_count counts (suc n) ts

-- Whether reading took all of the tokens that are shown, and the last of them was one too many.
abbrev pub passed : (Token → Bool) → ℕ → List Token → List Token → Bool
passed counts most ts [] = count_by counts (shown counts (suc most) ts) == suc most
passed counts most ts (t ∷ left) = false

-- What is told of the tokens that are shown, told of all: a limit is passed at the token that is one too many.
abbrev pub counted_told : {A : Type 0} → (Token → Bool) → ℕ → List Token → Result (A × List Token) Stop → Result (A × List Token) Stop
counted_told counts most ts (Ok read) =
    if passed counts most ts read.1 then Err (Deep (from_count counts most ts)) else Ok (read.0, read.1 ++ unshown counts (suc most) ts)
counted_told counts most ts (Err (Syntax place)) =
    if passed counts most ts place then Err (Deep (from_count counts most ts)) else Err (Syntax (place ++ unshown counts (suc most) ts))
counted_told counts most ts (Err (Deep place)) = Err (Deep (place ++ unshown counts (suc most) ts))

-- A part in which at most so many tokens count: reading sees no token behind the first that is one too many.
abbrev pub read_counted : {A : Type 0} → (Token → Bool) → ℕ → Reader A → Reader A
read_counted counts most f ts = counted_told counts most ts (f (shown counts (suc most) ts))
