-- What a task has asked and what was told of it only grows on a walk.
use Rattle.std.proofs.Common.{◌≡◌, refl, ap, ◌∙◌, ℕ, ◌+◌, Bool, true, false, List, [], ◌∷◌, Option, Some, None}
use Rattle.std.specs.Prelude.{◌&&◌, ◌||◌, if◌then◌else◌}
use Rattle.oss_syntax.specs.declared.access.Access.{Access}
use Rattle.oss_syntax.specs.declared.access.Range.{Range}
use Rattle.oss_ranges.specs.Cells.{is_within}
use Rattle.oss_model.specs.Bodies.{Ask}
use Rattle.oss_model.specs.Order.{IsSuffix, longer, whole}
use Rattle.oss_model.specs.Rights.{Mark, Right}
use Rattle.oss_model.proofs.OrderLemmas.{suffix_trans}
use Rattle.oss_needs.specs.declared.clause.Clause.{Clause}
use Rattle.oss_needs.specs.declared.demand.Demand.{Demand}
use Rattle.oss_needs.specs.declared.demand.Demand.TheVariants.{Fold, Load, Release, Store, Wait}
use Rattle.oss_needs.specs.Claims.{all_right}
use Rattle.oss_needs.specs.Demands.{gives_value, has_value}
use Rattle.oss_needs.specs.Meeting.{is_met, mark_behind}
use Rattle.oss_needs.proofs.Bools.{first_true, or_false}
use Rattle.oss_task_needs.specs.Asking.{Asked, asks, creates}
use Rattle.oss_open_needs.specs.Opening.{releases, waits}
use Rattle.oss_lacks.specs.Asking.{Asking, asked_by, asking, mended_clauses, range_of, tell_creator}
use Rattle.oss_missing_waits.specs.Holding.{Holding}

-- what is right behind more demands was right before them
pub right_suffix : (r : Right) (m : Mark) {ds es : List Demand} → IsSuffix ds es → all_right r m es ≡ true → all_right r m ds ≡ true
right_suffix r m whole e = e
right_suffix r m (longer {y = d} {ys = es} s) e = right_suffix r m s (first_true (all_right r m es) (is_met r (mark_behind m es) d) e)

one_more : (b : Bool) (d : Demand) (ds : List Demand) → IsSuffix ds (if b then d ∷ ds else ds)
one_more true d ds = longer whole
one_more false d ds = whole

asks_more : (d : Demand) (lo hi : ℕ) (asked : Asked) (c : ℕ) → IsSuffix (asked c) (asks d lo hi asked c)
asks_more d lo hi asked c = one_more (is_within lo hi c) d (asked c)

pub waits_more : (rs : List Range) (asked : Asked) (c : ℕ) → IsSuffix (asked c) (waits rs asked c)
waits_more [] asked c = whole
waits_more (r ∷ rest) asked c = suffix_trans (asks_more Wait r.lo r.hi asked c) (waits_more rest (asks Wait r.lo r.hi asked) c)

pub releases_more : (xs : List Access) (asked : Asked) (c : ℕ) → IsSuffix (asked c) (releases xs asked c)
releases_more [] asked c = whole
releases_more (a ∷ rest) asked c = suffix_trans (asks_more (Release a.mode) a.range.lo a.range.hi asked c) (releases_more rest (asks (Release a.mode) a.range.lo a.range.hi asked) c)

pub asked_more : {S : Type 0} (q : Ask S) (asked : Asked) (c : ℕ) → IsSuffix (asked c) (asked_by q asked c)
asked_more (Ask.Read d) asked c = asks_more Load d (d + 1) asked c
asked_more (Ask.Write d v) asked c = asks_more Store d (d + 1) asked c
asked_more (Ask.Fold d op v) asked c = asks_more (Fold op) d (d + 1) asked c
asked_more (Ask.WaitOn named) asked c = waits_more (Rattle.std.specs.Prelude.map range_of named) asked c
asked_more (Ask.Release clauses) asked c = releases_more clauses asked c
asked_more _ asked c = whole

-- The same task, of which more is known.
pub record IsMoreAsked (t u : Asking) : Type 0 where
  pub clauses : u.clauses ≡ t.clauses
  pub final : u.final ≡ t.final
  pub asked : (c : ℕ) → IsSuffix (t.asked c) (u.asked c)

pub asked_still : (t : Asking) → IsMoreAsked t t
asked_still t = record { clauses = refl; final = refl; asked = λ c. whole }

pub asked_later : (t u v : Asking) → IsMoreAsked t u → IsMoreAsked u v → IsMoreAsked t v
asked_later t u v a b = record { clauses = b.clauses ∙ a.clauses; final = b.final ∙ a.final; asked = λ c. suffix_trans (a.asked c) (b.asked c) }

created_more : (k : Option Clause) (ds : List Demand) → IsSuffix ds (creates k ds)
created_more None ds = whole
created_more (Some c) ds = longer whole

pub asked_told : (t u : Asking) → IsMoreAsked u (tell_creator t u)
asked_told t u = record { clauses = refl; final = refl; asked = λ c. created_more (mended_clauses t c) (u.asked c) }

pub behind_more : {S : Type 0} (q : Ask S) (t : Asking) → IsMoreAsked t (asking (asked_by q) t)
behind_more q t = record { clauses = refl; final = refl; asked = λ c. asked_more q t.asked c }

-- What was told of a task stays told.
pub record IsMoreTold (t u : Holding) : Type 0 where
  pub untold : u.told ≡ [] → t.told ≡ []

pub told_still : (t : Holding) → IsMoreTold t t
told_still t = record { untold = λ e. e }

pub told_later : (t u v : Holding) → IsMoreTold t u → IsMoreTold u v → IsMoreTold t v
told_later t u v a b = record { untold = λ e. a.untold (b.untold e) }

-- demands that give no value
unvalued : (d : Demand) (b : Bool) (ds : List Demand) → gives_value d ≡ false → has_value (if b then d ∷ ds else ds) ≡ has_value ds
unvalued d true ds e = ap (λ (x : Bool). has_value ds || x) e ∙ or_false (has_value ds)
unvalued d false ds e = refl

pub asks_valued : (d : Demand) (lo hi : ℕ) (asked : Asked) (c : ℕ) → gives_value d ≡ false → has_value (asks d lo hi asked c) ≡ has_value (asked c)
asks_valued d lo hi asked c e = unvalued d (is_within lo hi c) (asked c) e

pub waits_valued : (rs : List Range) (asked : Asked) (c : ℕ) → has_value (waits rs asked c) ≡ has_value (asked c)
waits_valued [] asked c = refl
waits_valued (r ∷ rest) asked c = waits_valued rest (asks Wait r.lo r.hi asked) c ∙ asks_valued Wait r.lo r.hi asked c refl

pub releases_valued : (xs : List Access) (asked : Asked) (c : ℕ) → has_value (releases xs asked c) ≡ has_value (asked c)
releases_valued [] asked c = refl
releases_valued (a ∷ rest) asked c = releases_valued rest (asks (Release a.mode) a.range.lo a.range.hi asked) c ∙ asks_valued (Release a.mode) a.range.lo a.range.hi asked c refl
