-- Seats that come and go: the first seat is split, and a seat that has nothing left to do is joined to another.
-- Read against: a field whose one seat has all 65,537 parts. It is split: it has 65,536 parts, and the new seat has one, knows nothing and holds nothing. The new
-- seat draws 7 and 8, delivers 3 messages, and is joined: the first seat has 65,537 parts again, has drawn 7 and 8 too, and 3 deliveries more are counted for it.
-- What is left of the joined one has no part, and draws no more.
use Rattle.std.specs.Prelude.{◌≡◌, ◌+◌, ◌-◌, [], ◌++◌}
use Rattle.oss_words.specs.Views.{View}
use Rattle.oss_field.specs.Known.{Known, first_known}

-- What a seat knows once it was split.
abbrev pub parted : Known → Known
parted k = record k { words = record k.words { parts = k.words.parts - 1; splits = 1 + k.words.splits } }

-- What the new seat knows.
abbrev pub new_view : View
new_view = record { held = []; half = []; owned = []; links = []; gives = []; seen = []; delivered = 0; parts = 1; splits = 0; failed = 0 }

abbrev pub new_known : Known
new_known = record first_known { words = new_view }

-- The seat has nothing left to do: it holds no message and no job, makes no task, and owes nothing; and it was never split.
pub record IsIdle (k : Known) : Type 0 where
  pub held : k.words.held ≡ []
  pub half : k.words.half ≡ []
  pub unsplit : k.words.splits ≡ 0
  pub bears : k.bears ≡ []
  pub makes : k.makes ≡ []
  pub joined : k.joined ≡ []
  pub owes : k.owes ≡ []
  pub plans : k.plans ≡ []
  pub unlinked : k.unlinked ≡ []

-- What a seat knows to which one was joined that knew x.
abbrev pub merged : Known → Known → Known
merged k x = record k { words = record k.words { delivered = k.words.delivered + x.words.delivered; parts = k.words.parts + x.words.parts }; drawn = x.drawn ++ k.drawn }

-- What is left of the joined seat.
abbrev pub spent_view : View
spent_view = record { held = []; half = []; owned = []; links = []; gives = []; seen = []; delivered = 0; parts = 0; splits = 0; failed = 1 }

abbrev pub spent : Known
spent = record first_known { words = spent_view }
