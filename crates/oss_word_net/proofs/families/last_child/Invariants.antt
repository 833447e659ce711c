use Rattle.std.proofs.Common.{◌≡◌, ◌≢◌, ◌<◌, ◌-◌, ℕ, true, false}
use Rattle.oss_words.specs.Net.{after}
use Rattle.oss_words.specs.Views.{Among}
use Rattle.oss_word_net.specs.Asks.{On, Stays}
use Rattle.oss_word_net.specs.Known.{Kin}
use Rattle.oss_word_net.specs.Standing.{Watches}
use Rattle.oss_word_net.proofs.families.last_child.Given as goal

abbrev pub decreases-loop-state : goal.decreases-loop-state
decreases-loop-state l = l.words.key - l.last

abbrev pub invariant-loop-state : goal.invariant-loop-state
invariant-loop-state l = record {
  on : On l.words.table_id l.words.key l.place;
  live : (l.place.me.0.known.view.parts ≢ 0) × (l.place.me.0.known.entries ≡ l.words.key);
  stays : Stays l.fn.place l.place;
  watches : Watches l.fn.place.me.0.known l.place.me.0.known;
  child : Kin l.fn.place.me.0.known.view.links l.fn._entry l.last × (l.last < l.words.key);
  linked : l.state.linked ≡ true → Among (record { entry = l.state.next; place = after l.last }) l.fn.place.me.0.known.view.links × (l.last < l.state.next) × (l.state.next < l.words.key);
  unlinked : l.state.linked ≡ false → (j : ℕ) → Among (record { entry = j; place = after l.last }) l.fn.place.me.0.known.view.links → ⊥;
}
