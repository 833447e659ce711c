-- Grammars: relations between whole lists of tokens and what they stand for. A grammar is put together from one token, a part
-- and then another, a part of whose value another is made, and a choice; nothing is greedy and nothing is left over.
-- Read against: `-1` is both a `-` and then a number, and no number alone.
use Rattle.std.specs.Prelude.{◌≡◌, List, [], ◌∷◌, ◌++◌, Option, Some}
use Rattle.oss_syntax.specs.declared.token.Token.{Token}

-- one token, of which the test makes the value
pub record One {A : Type 0} (test : Token → Option A) (ts : List Token) (value : A) : Type 0 where
  pub token : Token
  pub only : ts ≡ token ∷ []
  pub passes : test token ≡ Some value

-- a part, and then another
pub record Both {A B : Type 0} (G : List Token → A → Type 0) (H : List Token → B → Type 0) (ts : List Token) (value : A × B) : Type 0 where
  pub front : List Token
  pub back : List Token
  pub split : ts ≡ front ++ back
  pub before : G front value.0
  pub behind : H back value.1

-- a part, of whose value another is made
pub record Mapped {A B : Type 0} (make : A → B) (G : List Token → A → Type 0) (ts : List Token) (value : B) : Type 0 where
  pub part : A
  pub made : make part ≡ value
  pub whole : G ts part

-- one of two
pub data Either {A : Type 0} (G H : List Token → A → Type 0) (ts : List Token) (value : A) : Type 0 where
  one_way : G ts value → Either G H ts value
  other_way : H ts value → Either G H ts value
