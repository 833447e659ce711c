-- The acts at the end of the longest chain to the last act of a task.
-- Read against: behind 3 acts with a chain of 2 ticks, the last of them alone behind another chain, a tick that waits for nothing else has a chain of 3 ticks with
-- the last two acts; one that waits for an event with a chain of 5 ticks has 6, and stands alone.
use Rattle.std.specs.Prelude.{◌≡◌, ◌<◌, ℕ, ◌+◌, ◌-◌, ◌^◌, min, nat_lt, Bool, true, false, if◌then◌else◌, List, [], ◌∷◌, ◌++◌, length, ◌⊎◌, Some}
use Rattle.oss_span.specs.declared.best.Best.{Best}
use Rattle.oss_span.specs.declared.node.Node.{Node}
use Rattle.oss_span.specs.declared.node.Node.TheVariants.{Acts}
use Rattle.oss_span.specs.declared.run.Run.{Run}

-- One tick more, or as many.
abbrev pub ticked : Bool → ℕ → ℕ
ticked true n = min (n + 1) (2 ^ 64 - 1)
ticked false n = n

-- The chain to the next act.
abbrev pub after_act : Best → Bool → Run → Run
after_act other tick r =
    if nat_lt r.ticks other.mark.ticks
    then record { acts = r.acts + 1; ticks = ticked tick other.mark.ticks; count = 1; before = other }
    else record { acts = r.acts + 1; ticks = ticked tick r.ticks; count = r.count + 1; before = r.before }

-- The chain is that of this node now, which is a new one, or was one already.
pub record IsSealed (task : ℕ) (old new : Run) (nodes more : List Node) (best : Best) : Type 0 where
  pub ticks : best.mark.ticks ≡ old.ticks
  pub same : (new.acts ≡ old.acts) × (new.ticks ≡ old.ticks) × (new.count ≡ 0)
  pub node : ((old.count ≡ 0) × (new ≡ old) × (more ≡ nodes) × (best.mark.end ≡ old.before.mark.end) × (best.cell ≡ old.before.cell))
      ⊎ ((0 < old.count) × (more ≡ nodes ++ Acts task old.acts old.count old.before ∷ []) × (best.mark.end ≡ Some (length nodes)) × (new.before ≡ best))
