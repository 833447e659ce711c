use Rattle.std.proofs.Common.{◌<◌, ◌-◌}
use Rattle.oss_words.specs.Members.{Has}
use Rattle.oss_field.specs.Folding.{join_to}
use Rattle.oss_field.specs.Standing.{On, Stays}
use Rattle.oss_field.proofs.FoldedLemmas.{Along}
use Rattle.oss_field.proofs.folding.last_below.Given as goal

abbrev pub decreases-loop-state : goal.decreases-loop-state
decreases-loop-state l = l.words.key.entries - l.last

abbrev pub invariant-loop-state : goal.invariant-loop-state
invariant-loop-state l = record {
  on : On l.words.table_id l.words.key l.place;
  stays : Stays l.fn.place l.place;
  held : Has (join_to l.fn.entry) l.place.me.0.known.words.held;
  along : Along l.words.key.entries l.fn.entry l.last l.state l.fn.place.me.0.known l.place.me.0.known;
  inside : l.last < l.words.key.entries;
}
