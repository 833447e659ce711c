-- What the views say of seats, entries and the draw word, and of what has happened: links, gives, what was read, and how much was delivered.
-- Read against: a net of 8 entries whose first seat drew 7: the draw word is 8 then. It was split once and handed 5 to the new seat, so there
-- are two seats, of 65,536 parts and of one. The second draws 4: it finds 8, and 8 + 4 is above 8, so it answers nothing and its failed is 1;
-- the draw word is 12. When it is joined, the first seat has 65,537 parts, owns 5 again, and knows that no other seat holds a message.
use Rattle.std.specs.Prelude.{◌≡◌, ◌≢◌, ◌<◌, ◌≤◌, ◌+◌, ◌*◌, ℕ, Bool, true, List, [], length}
use Rattle.oss_words.specs.declared.message.Message.{Message}
use Rattle.oss_words.specs.declared.entry.EntryState.{EntryState}
use Rattle.oss_words.specs.Sums.{total, below}
use Rattle.oss_words.specs.Net.{Net, Place, apart}
use Rattle.oss_words.specs.Causes.{got}
use Rattle.oss_words.specs.Grown.{Grown}
use Rattle.oss_words.specs.Views.{View, Hung, Seen, Among, At, Named, Released}

-- How many messages have come to the entries below n.
abbrev pub came : ℕ → (ℕ → Place) → (ℕ → EntryState) → ℕ
came n place states = below (λ e. total (λ (m : Message). 1) (got (place e) e (states e))) n

pub record Seats (n : ℕ) (net : Net) (gave : ℕ → Bool) (states : ℕ → EntryState) (draw : ℕ) (views : List View) : Type 0 where
  pub size : n ≤ 16777216
  -- work: no more was delivered than has come, so at most six times the number of entries
  pub work : total (λ (v : View). v.delivered) views ≤ came n net.place states
  -- draw: a draw adds at most 16,777,216, and a seat draws no more once it was joined or found too few
  pub drawn : draw ≤ 16777216 * (1 + total (λ (v : View). v.failed) views)
  pub failed : (id : ℕ) (v : View) → At views id v → v.failed ≤ 1
  pub seats : (v : View) → At views 0 v → length views ≡ 1 + v.splits
  pub parts : total (λ (v : View). v.parts) views ≡ 65537
  pub spent : (id : ℕ) (v : View) → At views id v → v.parts ≡ 0 → (v.held ≡ []) × (v.half ≡ []) × (v.owned ≡ [])
  pub main_drawn : 0 < draw
  pub hung_drawn : (e : ℕ) → net.place e ≢ apart → e < draw
  pub gave_drawn : (e : ℕ) → gave e ≡ true → e < draw
  pub owned_drawn : (id : ℕ) (v : View) → At views id v → (e : ℕ) → Among e v.owned → (e < draw) × (e < n)
  -- an entry has one owner at most
  pub one_owner : (i j : ℕ) (y z : View) → At views i y → At views j z → (e : ℕ) → Among e y.owned → Among e z.owned → i ≡ j
  -- the owner has itself made the link of its entry, those of the children, and the give
  pub own_link : (id : ℕ) (v : View) → At views id v → (e : ℕ) → Among e v.owned → net.place e ≢ apart → Among (record { entry = e; place = net.place e }) v.links
  pub own_children : (id : ℕ) (v : View) → At views id v → (p : ℕ) → Among p v.owned → (e : ℕ) → net.place e ≢ apart → net.parent e ≡ p → Among (record { entry = e; place = net.place e }) v.links
  pub own_give : (id : ℕ) (v : View) → At views id v → (e : ℕ) → Among e v.owned → gave e ≡ true → Among e v.gives
  -- what was read still stands
  pub seen : (id : ℕ) (v : View) → At views id v → (s : Seen) → Among s v.seen → Grown s.state (states s.entry)
  -- the views name the links and the gives, and no others
  pub link_named : (e : ℕ) → net.place e ≢ apart → Named views e (net.place e)
  pub named_link : (id : ℕ) (v : View) → At views id v → (l : Hung) → Among l v.links → (net.place l.entry ≡ l.place) × (l.place ≢ apart)
  pub give_named : (e : ℕ) → gave e ≡ true → Released views e
  pub named_give : (id : ℕ) (v : View) → At views id v → (e : ℕ) → Among e v.gives → gave e ≡ true
