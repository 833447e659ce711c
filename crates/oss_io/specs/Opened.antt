-- What was opened, where it was.
-- Read against: of a folder that cannot be opened nothing is so, and of an opened file what is said of it.
use Rattle.std.specs.Prelude.{Result, Ok, Err}

-- it was opened, and this is so of what was
abbrev pub OfOpened : {F E : Type 0} → Result F E → (F → Type 0) → Type 0
OfOpened (Ok file) P = P file
OfOpened (Err e) P = ⊥
